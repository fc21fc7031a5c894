use Rattle.std.proofs.Common.{◌≡◌, ◌<◌, ap, sym, subst, ◌∙◌}
use Rattle.zm_logic.specs.Tree.{Ty, Term}
use Rattle.zm_logic.specs.Measure.{type_depth, term_depth}
use Rattle.term_store.specs.Fault.{IfTooDeep}
use Rattle.term_store.specs.Trees.{HasTerm, type_of, term_of}
use Rattle.term_store.specs.declared.ids.TermId.{TermId}
use Rattle.term_store.proofs.Kept.{still_type, still_term, kept_type, kept_term}
use Rattle.unify.specs.Binding as trees
use Rattle.unify.specs.View.{HasBinding, binding_of, latest}
use Rattle.unify.specs.Answer.{solved_binding, solved_depth, name_of}
use Rattle.unify.specs.declared.binding.Binding.{Binding}
use Rattle.unify.proofs.Listed.{if_deep}
use Rattle.unify.proofs.solving.solved_binding.Goals as goal

pub deep_type-requires-clause-has : goal.deep_type-requires-clause-has
deep_type-requires-clause-has c =
    let s = c.args.store.now in
    let h = subst (HasBinding s) c.in-OfType.is c.requires.has in
    still_type s c.solved_ty.new.store c.solved_ty.ensures.kept c.in-OfType.to h.0

pub deep_type-requires-clause-shallow : goal.deep_type-requires-clause-shallow
deep_type-requires-clause-shallow c =
    let s = c.args.store.now in
    let h = subst (HasBinding s) c.in-OfType.is c.requires.has in
    subst (λ (z : Ty). type_depth z < 2000) (sym (kept_type s c.solved_ty.new.store c.solved_ty.ensures.kept c.in-OfType.to h.0)) h.1

pub returns-in-Ok-clause-has : goal.returns-in-Ok-clause-has
returns-in-Ok-clause-has c =
    let s = c.args.store.now in
    let h = subst (HasBinding s) c.in-OfTerm.is c.requires.has in
    (still_type s c.solved_term.new.store c.solved_term.ensures.kept c.in-OfTerm.ty h.0, c.in-Ok.ensures.made.0)

pub returns-in-Ok-clause-solved : goal.returns-in-Ok-clause-solved
returns-in-Ok-clause-solved c =
    let s = c.args.store.now in let t = c.solved_term.new.store in let m = c.in-OfTerm.meta in let ty = c.in-OfTerm.ty in
    let bs = latest s c.args.made.now in
    let h = subst (HasBinding s) c.in-OfTerm.is c.requires.has in
    ap (λ (k : Ty). trees.Binding.of_term m k (term_of t c.in-Ok.whole)) (kept_type s t c.solved_term.ensures.kept ty h.0)
    ∙ ap (trees.Binding.of_term m (type_of s ty)) c.in-Ok.ensures.made.1 ∙ sym (ap (λ (b : Binding). solved_binding bs (binding_of s b)) c.in-OfTerm.is)

pub returns-in-Err-Deep-clause-deep : goal.returns-in-Err-Deep-clause-deep
returns-in-Err-Deep-clause-deep c =
    let s = c.args.store.now in let t = c.solved_term.new.store in let to = c.in-OfTerm.to in
    let bs = latest s c.args.made.now in
    let h = subst (HasBinding s) c.in-OfTerm.is c.requires.has in
    let d = subst (IfTooDeep (2000 < term_depth (trees.solved_term bs (term_of s to)))) c.in-Err-Deep.field-0-is c.in-Err-Deep.ensures.deep in
    let kept = c.solved_term.ensures.kept in
    subst (λ (b : Binding). (2000 < solved_depth bs (binding_of s b)) × HasTerm t to × (term_of t to ≡ name_of (binding_of s b))) (sym c.in-OfTerm.is)
    (d, still_term s t kept to h.1, kept_term s t kept to h.1)

pub returns-in-Err-Deep-solved_ty-clause-deep : goal.returns-in-Err-Deep-solved_ty-clause-deep
returns-in-Err-Deep-solved_ty-clause-deep c =
    let s = c.args.store.now in let t = c.solved_ty.new.store in let u = c.deep_type.new.store in let m = c.in-OfType.meta in let to = c.in-OfType.to in
    let bs = latest s c.args.made.now in
    let h = subst (HasBinding s) c.in-OfType.is c.requires.has in
    let d = subst (IfTooDeep (2000 < type_depth (trees.solved_type bs (type_of s to)))) c.in-Err-Deep-solved_ty.field-0-is c.in-Err-Deep-solved_ty.ensures.deep in
    let same = kept_type s t c.solved_ty.ensures.kept to h.0 in
    let name = λ (at : TermId) (b : Binding). (2000 < solved_depth bs (binding_of s b)) × HasTerm u at × (term_of u at ≡ name_of (binding_of s b)) in
    if_deep (λ at. HasTerm u at × (term_of u at ≡ Term.meta m (type_of t to))) (λ at. name at c.args.binding)
    (λ at z. subst (λ (b : Binding). name at b) (sym c.in-OfType.is) (d, z.0, z.1 ∙ ap (Term.meta m) same)) c.deep_type.result c.deep_type.ensures.named
