-- The steps of equality.
use Rattle.std.specs.Prelude.{Bool, true, false, ◌&&◌, ◌==◌, cond, List, [], ◌∷◌, ◌++◌, Option, None, Some}
use Rattle.zm_logic.specs.Tree.{Tys, Term, Terms, Form, Symbol, differ}
use Rattle.zm_logic.specs.Typing.{symbol_at, argument_types}
use Rattle.zm_logic.specs.Calculus.{differ_each}
use Rattle.zm_logic.specs.Same.{same_type, same_types}
use Rattle.param_store.specs.RawOffers.{Act, Raw, on, one}

-- each formula in a child of its own
abbrev pub singles : List Form → List (List Form)
singles [] = []
singles (f ∷ fs) = one f ∷ singles fs

-- the children ~(a1 = b1) / .. / ~(an = bn), at the types that the symbol gives its arguments
abbrev pub unequal : Option Symbol → Tys → Terms → Terms → List (List Form)
unequal None ts us vs = []
unequal (Some d) ts us vs = singles (differ_each (argument_types d ts) us vs)

abbrev pub has_arguments : Terms → Bool
has_arguments Terms.none = false
has_arguments (Terms.more u us) = true

abbrev pub step : Act → List (List Form) → List Raw
step a cs = record { act = a; children = cs } ∷ []

-- the unnegated formula and the inside of the negated one
abbrev pub on_pair : Form → Form → Bool → Act
on_pair a b other = record { first = a; second = Some (Form.negation b); part = None; other = other }

module _ (symbols : List Symbol) where
  -- ~(f(a..) = f(b..)) at the same types, with one argument or more
  abbrev pub value_steps : Form → Term → Term → List Raw
  value_steps f (Term.app g ts us) (Term.app h ss vs) =
      cond ((g == h) && (same_types ts ss && has_arguments us)) (step (on f) (unequal (symbol_at symbols g) ts us vs)) []
  value_steps f _ _ = []

  -- P(a..) and ~P(b..) at the same types, with one argument or more; and s = t and ~(u = v) of one type
  abbrev pub pair_steps : Form → Form → List Raw
  pair_steps (Form.atom p ts us) (Form.atom r ss vs) =
      cond ((p == r) && (same_types ts ss && has_arguments us))
      (step (on_pair (Form.atom p ts us) (Form.atom r ss vs) false) (unequal (symbol_at symbols p) ts us vs)) []
  pair_steps (Form.equal t a b) (Form.equal u c d) =
      cond (same_type t u)
      (step (on_pair (Form.equal t a b) (Form.equal u c d) false) (one (differ t c a) ∷ one (differ t b d) ∷ [])
      ++ step (on_pair (Form.equal t a b) (Form.equal u c d) true) (one (differ t c b) ∷ one (differ t a d) ∷ []))
      []
  pair_steps _ _ = []
