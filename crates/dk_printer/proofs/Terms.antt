-- The plain term of a layer.
use Rattle.std.proofs.Common.{◌≡◌, sym, ◌∙◌, ap}
use Rattle.lp_terms.specs.Term as plain
use Rattle.lp_terms.specs.declared.term.Lp.{Lp}
use Rattle.lp_terms.specs.declared.term.Lp.TheFolds.{fold-roll-Lp}
use Rattle.lp_terms.specs.declared.term.Lp.TheOpen as layer
use Rattle.lp_terms.specs.declared.term.Lp.TheVariants.{App, Abs, Prod, rolls-App, rolls-Abs, rolls-Prod}
use Rattle.lp_terms.specs.View.{step_of, term_of}

pub application_is : (t a b x y : Lp) → t ≡ App a b → x ≡ a → y ≡ b → term_of t ≡ plain.Lp.app (term_of x) (term_of y)
application_is t a b x y e p q =
    ap term_of (e ∙ sym (rolls-App a b)) ∙ fold-roll-Lp plain.Lp step_of (layer.App a b)
    ∙ ap (λ z. plain.Lp.app (term_of z) (term_of b)) (sym p) ∙ ap (λ z. plain.Lp.app (term_of x) (term_of z)) (sym q)

pub abstraction_is : (t a b x y : Lp) → t ≡ Abs a b → x ≡ a → y ≡ b → term_of t ≡ plain.Lp.abs (term_of x) (term_of y)
abstraction_is t a b x y e p q =
    ap term_of (e ∙ sym (rolls-Abs a b)) ∙ fold-roll-Lp plain.Lp step_of (layer.Abs a b)
    ∙ ap (λ z. plain.Lp.abs (term_of z) (term_of b)) (sym p) ∙ ap (λ z. plain.Lp.abs (term_of x) (term_of z)) (sym q)

pub product_is : (t a b x y : Lp) → t ≡ Prod a b → x ≡ a → y ≡ b → term_of t ≡ plain.Lp.prod (term_of x) (term_of y)
product_is t a b x y e p q =
    ap term_of (e ∙ sym (rolls-Prod a b)) ∙ fold-roll-Lp plain.Lp step_of (layer.Prod a b)
    ∙ ap (λ z. plain.Lp.prod (term_of z) (term_of b)) (sym p) ∙ ap (λ z. plain.Lp.prod (term_of x) (term_of z)) (sym q)
