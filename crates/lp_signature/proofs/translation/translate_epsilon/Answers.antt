use Rattle.std.proofs.Common.{◌≡◌, IfOk, subst, sym}
use Rattle.lp_terms.specs.View.{term_of}
use Rattle.zm_logic.specs.View.{type_tree}
use Rattle.lp_signature.specs.Prelude.{any}
use Rattle.lp_signature.specs.Translation.{type_of}
use Rattle.lp_signature.specs.View.{symbols_tree, scope_tree}
use Rattle.lp_signature.proofs.translation.translate_epsilon.Goals as goal

pub returns-in-None : goal.returns-in-None
returns-in-None c =
    subst (λ x. IfOk c.any_of.result (λ t. term_of t ≡ x))
    (sym (c.in-None.ensures (any (type_of (symbols_tree c.args.symbols.now) (scope_tree c.args.scope.now) 0 (type_tree c.args.ty.now)))))
    c.any_of.ensures
