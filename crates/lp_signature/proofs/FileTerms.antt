-- Translations are terms of a file: each constant is declared, and each index is below the number of binders.
use Rattle.std.proofs.Common.{ℕ, zero, suc, ◌≡◌, ◌+◌, ◌≤◌, true, List, [], ◌∷◌, map, refl, subst, arith}
use Rattle.std.specs.Prelude.{codes}
use Rattle.lp_terms.specs.Term.{Lp}
use Rattle.lp_terms.specs.Names.{is_among}
use Rattle.lp_terms.specs.File.{IsTermOf, IsContextOf}
use Rattle.lp_terms.specs.File as file
use Rattle.zm_logic.specs.Tree.{Ty, Tys, Term, Terms, Form, Connective, Quantifier, Symbol, Sense, Binder}
use Rattle.zm_logic.specs.Index.{IsClosedType, AreClosedTypes, IsClosedTerm, AreClosedTerms, IsClosed}
use Rattle.zm_logic.specs.Problem.{prenex}
use Rattle.lp_signature.specs.Prelude.{prelude, term, prf}
use Rattle.lp_signature.specs.Names.{constant}
use Rattle.lp_signature.specs.Translation.{Scope, type_of, apply_types, term_of, apply_terms, form_of, result_type, arrows, over_types}
use Rattle.lp_signature.specs.Problem.{binder_type}
use Rattle.lp_signature.specs.Declarable.{declared_by}
use Rattle.lp_signature.proofs.Spines.{lift_is}
use Rattle.lp_signature.proofs.SymbolsIn.{EachInType, EachInTypes, EachInTerm, EachInTerms, EachIn}

-- after these names the prelude is declared
abbrev pub HasPrelude : List (List ℕ) → Type 0
HasPrelude declared = (name : List ℕ) → is_among name (declared_by [] prelude) ≡ true → is_among name declared ≡ true

-- the constant of the symbol's number is declared
abbrev pub IsKnown : List Symbol → List (List ℕ) → ℕ → Type 0
IsKnown symbols declared c = is_among (constant symbols c) declared ≡ true

module _ (symbols : List Symbol) (declared : List (List ℕ)) (has : HasPrelude declared) where
  known : (k : ℕ) (name : List ℕ) → is_among name (declared_by [] prelude) ≡ true → IsTermOf declared k (Lp.const name)
  known k name h = file.IsTermOf.const (has name h)

  -- the constant of the name at an argument
  at_one : (k : ℕ) (name : List ℕ) (a : Lp) → is_among name (declared_by [] prelude) ≡ true → IsTermOf declared k a
      → IsTermOf declared k (Lp.app (Lp.const name) a)
  at_one k name a h x = file.IsTermOf.app (known k name h) x

  mutual
    pub type_is_term : (under k m : ℕ) (t : Ty) → under + k ≤ m → IsClosedType k t → EachInType (IsKnown symbols declared) t
        → IsTermOf declared m (type_of symbols Scope.none under t)
    type_is_term under k m (Ty.bound i) l h e = file.IsTermOf.index (omega (arith, lift_is under i, h, l))
    type_is_term under k m (Ty.param n) l h e = known m (codes "iota") refl
    type_is_term under k m (Ty.meta n) l h e = known m (codes "iota") refl
    type_is_term under k m (Ty.con c ts) l h e =
        at_types_is_term under k m (Lp.const (constant symbols c)) ts l (file.IsTermOf.const e.0) h e.1

    at_types_is_term : (under k m : ℕ) (f : Lp) (ts : Tys) → under + k ≤ m → IsTermOf declared m f → AreClosedTypes k ts
        → EachInTypes (IsKnown symbols declared) ts → IsTermOf declared m (apply_types symbols Scope.none under f ts)
    at_types_is_term under k m f Tys.none l x h e = x
    at_types_is_term under k m f (Tys.more t ts) l x h e =
        at_types_is_term under k m (Lp.app f (type_of symbols Scope.none under t)) ts l
        (file.IsTermOf.app x (type_is_term under k m t l h.0 e.0)) h.1 e.1

  mutual
    pub term_is_term : (k m : ℕ) (a : Term) → k ≤ m → IsClosedTerm k a → EachInTerm (IsKnown symbols declared) a
        → IsTermOf declared m (term_of symbols Scope.none a)
    term_is_term k m (Term.bound i) l h e = file.IsTermOf.index (omega (arith, h, l))
    term_is_term k m (Term.eps n t) l h e = at_one m (codes "any") _ refl (type_is_term 0 k m t (omega (arith, l)) h e)
    term_is_term k m (Term.meta n t) l h e = at_one m (codes "any") _ refl (type_is_term 0 k m t (omega (arith, l)) h e)
    term_is_term k m (Term.app f ts us) l h e =
        at_terms_is_term k m (apply_types symbols Scope.none 0 (Lp.const (constant symbols f)) ts) us l
        (at_types_is_term 0 k m (Lp.const (constant symbols f)) ts (omega (arith, l)) (file.IsTermOf.const e.0) h.0 e.1) h.1 e.2

    at_terms_is_term : (k m : ℕ) (f : Lp) (us : Terms) → k ≤ m → IsTermOf declared m f → AreClosedTerms k us
        → EachInTerms (IsKnown symbols declared) us → IsTermOf declared m (apply_terms symbols Scope.none f us)
    at_terms_is_term k m f Terms.none l x h e = x
    at_terms_is_term k m f (Terms.more u us) l x h e =
        at_terms_is_term k m (Lp.app f (term_of symbols Scope.none u)) us l (file.IsTermOf.app x (term_is_term k m u l h.0 e.0)) h.1 e.1

  terms_of_type : (under k m : ℕ) (t : Ty) → under + k ≤ m → IsClosedType k t → EachInType (IsKnown symbols declared) t
      → IsTermOf declared m (term (type_of symbols Scope.none under t))
  terms_of_type under k m t l h e = at_one m (codes "term") _ refl (type_is_term under k m t l h e)

  pub form_is_term : (k m : ℕ) (f : Form) → k ≤ m → IsClosed k f → EachIn (IsKnown symbols declared) f
      → IsTermOf declared m (form_of symbols Scope.none f)
  form_is_term k m Form.truth l h e = known m (codes "true") refl
  form_is_term k m Form.falsity l h e = known m (codes "false") refl
  form_is_term k m (Form.atom p ts us) l h e =
      at_terms_is_term k m (apply_types symbols Scope.none 0 (Lp.const (constant symbols p)) ts) us l
      (at_types_is_term 0 k m (Lp.const (constant symbols p)) ts (omega (arith, l)) (file.IsTermOf.const e.0) h.0 e.1) h.1 e.2
  form_is_term k m (Form.equal t a b) l h e =
      file.IsTermOf.app
      (file.IsTermOf.app (at_one m (codes "eq") _ refl (type_is_term 0 k m t (omega (arith, l)) h.0 e.0)) (term_is_term k m a l h.1 e.1))
      (term_is_term k m b l h.2 e.2)
  form_is_term k m (Form.negation f) l h e = at_one m (codes "not") _ refl (form_is_term k m f l h e)
  form_is_term k m (Form.binary Connective.conjunction f g) l h e =
      file.IsTermOf.app (at_one m (codes "and") _ refl (form_is_term k m f l h.0 e.0)) (form_is_term k m g l h.1 e.1)
  form_is_term k m (Form.binary Connective.disjunction f g) l h e =
      file.IsTermOf.app (at_one m (codes "or") _ refl (form_is_term k m f l h.0 e.0)) (form_is_term k m g l h.1 e.1)
  form_is_term k m (Form.binary Connective.implication f g) l h e =
      file.IsTermOf.app (at_one m (codes "imp") _ refl (form_is_term k m f l h.0 e.0)) (form_is_term k m g l h.1 e.1)
  form_is_term k m (Form.binary Connective.equivalence f g) l h e =
      file.IsTermOf.app (at_one m (codes "iff") _ refl (form_is_term k m f l h.0 e.0)) (form_is_term k m g l h.1 e.1)
  form_is_term k m (Form.quantified Quantifier.universal t f) l h e =
      file.IsTermOf.app (at_one m (codes "forall") _ refl (type_is_term 0 k m t (omega (arith, l)) h.0 e.0))
      (file.IsTermOf.abs (terms_of_type 0 k m t (omega (arith, l)) h.0 e.0) (form_is_term (k + 1) (suc m) f (omega (arith, l)) h.1 e.1))
  form_is_term k m (Form.quantified Quantifier.existential t f) l h e =
      file.IsTermOf.app (at_one m (codes "exists") _ refl (type_is_term 0 k m t (omega (arith, l)) h.0 e.0))
      (file.IsTermOf.abs (terms_of_type 0 k m t (omega (arith, l)) h.0 e.0) (form_is_term (k + 1) (suc m) f (omega (arith, l)) h.1 e.1))
  form_is_term k m (Form.quantified_types Quantifier.universal f) l h e =
      at_one m (codes "forall_type") _ refl (file.IsTermOf.abs (known m (codes "type") refl) (form_is_term (k + 1) (suc m) f (omega (arith, l)) h e))
  form_is_term k m (Form.quantified_types Quantifier.existential f) l h e =
      at_one m (codes "exists_type") _ refl (file.IsTermOf.abs (known m (codes "type") refl) (form_is_term (k + 1) (suc m) f (omega (arith, l)) h e))

  pub proofs_is_term : (f : Form) → IsClosed 0 f → EachIn (IsKnown symbols declared) f → IsTermOf declared 0 (prf (form_of symbols Scope.none f))
  proofs_is_term f h e = at_one 0 (codes "prf") _ refl (form_is_term 0 0 f (omega arith) h e)

  -- what a declaration's type is made of, k being the number of its type variables
  abbrev pub IsResult : ℕ → Sense → Type 0
  IsResult k Sense.constructor = Unit {0}
  IsResult k Sense.predicate = Unit {0}
  IsResult k (Sense.function r) = IsClosedType k r × EachInType (IsKnown symbols declared) r

  result_is_term : (under k m : ℕ) (r : Sense) → under + k ≤ m → IsResult k r → IsTermOf declared m (result_type symbols under r)
  result_is_term under k m Sense.constructor l h = known m (codes "type") refl
  result_is_term under k m Sense.predicate l h = known m (codes "prop") refl
  result_is_term under k m (Sense.function r) l h = terms_of_type under k m r l h.0 h.1

  arrows_is_term : (under k m : ℕ) (ts : Tys) (r : Sense) → under + k ≤ m → AreClosedTypes k ts → EachInTypes (IsKnown symbols declared) ts
      → IsResult k r → IsTermOf declared m (arrows symbols under ts r)
  arrows_is_term under k m Tys.none r l h e x = result_is_term under k m r l x
  arrows_is_term under k m (Tys.more t ts) r l h e x =
      file.IsTermOf.prod (terms_of_type under k m t l h.0 e.0) (arrows_is_term (suc under) k (suc m) ts r (omega (arith, l)) h.1 e.1 x)

  over_types_is_term : (n m j : ℕ) (t : Lp) → j ≡ n + m → IsTermOf declared j t → IsTermOf declared m (over_types symbols n t)
  over_types_is_term zero m j t e x = let h : j ≡ m = omega (arith, e) in subst (λ i. IsTermOf declared i t) h x
  over_types_is_term (suc n) m j t e x =
      file.IsTermOf.prod (known m (codes "type") refl) (over_types_is_term n (suc m) j t (omega (arith, e)) x)

  pub declaration_is_term : (n : ℕ) (ts : Tys) (r : Sense) → AreClosedTypes n ts → EachInTypes (IsKnown symbols declared) ts → IsResult n r
      → IsTermOf declared 0 (over_types symbols n (arrows symbols 0 ts r))
  declaration_is_term n ts r h e x = over_types_is_term n 0 n (arrows symbols 0 ts r) (omega arith) (arrows_is_term 0 n n ts r (omega arith) h e x)

  -- the context of a rule, and what stands under it
  pub context_is_context : (k : ℕ) (bs : List Binder) (f : Form) → IsClosed k (prenex bs f) → EachIn (IsKnown symbols declared) (prenex bs f)
      → IsContextOf declared k (map (binder_type symbols) bs)
  context_is_context k [] f h e = file.IsContextOf.empty
  context_is_context k (Binder.of_type ∷ bs) f h e =
      let x : k + 1 ≡ suc k = omega arith in
      file.IsContextOf.bind (known k (codes "type") refl)
      (context_is_context (suc k) bs f (subst (λ i. IsClosed i (prenex bs f)) x h) e)
  context_is_context k (Binder.of_term t ∷ bs) f h e =
      let x : k + 1 ≡ suc k = omega arith in
      file.IsContextOf.bind (terms_of_type 0 k k t (omega arith) h.0 e.0)
      (context_is_context (suc k) bs f (subst (λ i. IsClosed i (prenex bs f)) x h.1) e.1)

-- the symbols of a formula under binders
pub under_binders : (P : ℕ → Type 0) (bs : List Binder) (f : Form) → EachIn P (prenex bs f) → EachIn P f
under_binders P [] f e = e
under_binders P (Binder.of_type ∷ bs) f e = under_binders P bs f e
under_binders P (Binder.of_term t ∷ bs) f e = under_binders P bs f e.1
