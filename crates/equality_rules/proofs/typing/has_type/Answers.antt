use Rattle.std.proofs.Common.{◌≡◌, ◌&&◌, true, false, map, IfOk, ap, sym, subst, ◌∙◌, refl}
use Rattle.std.proofs.lemmas.Bool.{and_right}
use Rattle.std.proofs.Math.Bool.{and-true}
use Rattle.zm_logic.specs.View.{symbol_tree}
use Rattle.term_store.specs.Trees.{all_trees, type_of, term_of}
use Rattle.equality_rules.specs.Heads.{head_is, is_typed}
use Rattle.equality_rules.proofs.Heads.{heads_tell}
use Rattle.equality_rules.proofs.Matches.{wanted_is}
use Rattle.equality_rules.proofs.typing.has_type.Goals as goal

pub returns-then-not-head_is : goal.returns-then-not-head_is
returns-then-not-head_is c =
    let s = c.args.store.now in
    let ss = map symbol_tree c.args.symbols.now in
    let u = term_of s c.args.term in
    let no = ap (head_is ss u) (sym (wanted_is (all_trees s).types c.args.ty)) ∙ sym c.head_is.ensures ∙ c.if-not-head_is.true in
    record { value = sym (heads_tell ss u (type_of s c.args.ty) ∙ ap (λ b. is_typed ss u && b) no ∙ (and_right (is_typed ss u) false refl)) }

pub returns : goal.returns
returns c =
    let s = c.args.store.now in
    let ss = map symbol_tree c.args.symbols.now in
    let u = term_of s c.args.term in
    let yes = ap (head_is ss u) (sym (wanted_is (all_trees s).types c.args.ty)) ∙ sym c.head_is.ensures ∙ c.if-not-head_is.false in
    let same = heads_tell ss u (type_of s c.args.ty) ∙ ap (λ b. is_typed ss u && b) yes ∙ and-true (is_typed ss u) in
    record { value = subst (λ y. IfOk c.is_typed.result (λ b. b ≡ y)) (sym same) c.is_typed.ensures.value }
