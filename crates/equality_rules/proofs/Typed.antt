-- The test of types decides typing.
use Rattle.std.proofs.Common.{ℕ, ◌≡◌, true, Option, None, Some, List, refl, ap, sym, subst, true≢false, arith}
use Rattle.std.proofs.lemmas.Bool.{eqb-true, eq-eqb, and_parts, and_from}
use Rattle.zm_logic.specs.Tree.{Ty, Tys, Term, Terms, Symbol, Sense}
use Rattle.zm_logic.specs.Opening.{openings, type_instance}
use Rattle.zm_logic.specs.Typing.{how_many, argument_types, symbol_at, IsType, AreTypes, HasType, HaveTypes}
use Rattle.zm_logic.specs.Same.{same_type}
use Rattle.zm_logic.proofs.Sames.{same_type-self, same_type-true}
use Rattle.equality_rules.specs.Typed.{is_constructor, constructs, result_is, makes, arguments_at, is_type, are_types, has_type, have_types}

-- what the tests on a declaration say
constructor_true : (s : Sense) → is_constructor s ≡ true → s ≡ Sense.constructor
constructor_true Sense.constructor h = refl
constructor_true Sense.predicate h = absurd (true≢false (sym h))
constructor_true (Sense.function r) h = absurd (true≢false (sym h))

constructs_true : (o : Option Symbol) (n : ℕ) → constructs o n ≡ true → (d : Symbol) × (o ≡ Some d) × (d.types ≡ n) × (d.sense ≡ Sense.constructor)
constructs_true None n h = absurd (true≢false (sym h))
constructs_true (Some d) n h = let b = and_parts _ _ h in (d, refl, eqb-true d.types n b.1, constructor_true d.sense b.0)

constructs_is : (o : Option Symbol) (n : ℕ) (d : Symbol) → o ≡ Some d → d.types ≡ n → d.sense ≡ Sense.constructor → constructs o n ≡ true
constructs_is o n d e k s = rw e (and_from _ _ (ap is_constructor s) (eq-eqb d.types n k))

result_true : (s : Sense) (ts : Tys) (t : Ty) → result_is s ts t ≡ true → (r : Ty) × (s ≡ Sense.function r) × (type_instance (openings ts) r ≡ t)
result_true Sense.constructor ts t h = absurd (true≢false (sym h))
result_true Sense.predicate ts t h = absurd (true≢false (sym h))
result_true (Sense.function r) ts t h = (r, refl, same_type-true _ _ h)

result_is_so : (s : Sense) (ts : Tys) (t r : Ty) → s ≡ Sense.function r → type_instance (openings ts) r ≡ t → result_is s ts t ≡ true
result_is_so s ts t r e k = rw e (subst (λ x. same_type (type_instance (openings ts) r) x ≡ true) k (same_type-self (type_instance (openings ts) r)))

makes_true : (o : Option Symbol) (ts : Tys) (t : Ty) → makes o ts t ≡ true
    → (d : Symbol) × (r : Ty) × (o ≡ Some d) × (d.types ≡ how_many ts) × (d.sense ≡ Sense.function r) × (type_instance (openings ts) r ≡ t)
makes_true None ts t h = absurd (true≢false (sym h))
makes_true (Some d) ts t h =
    let b = and_parts _ _ h in
    let r = result_true d.sense ts t b.1 in
    (d, r.0, refl, eqb-true d.types (how_many ts) b.0, r.1, r.2)

makes_is : (o : Option Symbol) (ts : Tys) (t : Ty) (d : Symbol) (r : Ty) → o ≡ Some d → d.types ≡ how_many ts → d.sense ≡ Sense.function r
    → type_instance (openings ts) r ≡ t → makes o ts t ≡ true
makes_is o ts t d r e k s i = rw e (and_from _ _ (eq-eqb d.types (how_many ts) k) (result_is_so d.sense ts t r s i))

module _ (symbols : List Symbol) where
  mutual
    pub type_true : (t : Ty) → is_type symbols t ≡ true → IsType symbols 0 t
    type_true (Ty.bound i) h = absurd (true≢false (sym h))
    type_true (Ty.param n) h = tt
    type_true (Ty.meta n) h = tt
    type_true (Ty.con c ts) h =
        let b = and_parts _ _ h in
        let d = constructs_true (symbol_at symbols c) (how_many ts) b.0 in
        ((d.0, (d.1, d.2), d.3), types_true ts b.1)

    pub types_true : (ts : Tys) → are_types symbols ts ≡ true → AreTypes symbols 0 ts
    types_true Tys.none h = tt
    types_true (Tys.more t ts) h = let b = and_parts _ _ h in (type_true t b.0, types_true ts b.1)

  mutual
    pub type_is : (t : Ty) → IsType symbols 0 t → is_type symbols t ≡ true
    type_is (Ty.bound i) h = absurd (omega (arith, h))
    type_is (Ty.param n) h = refl
    type_is (Ty.meta n) h = refl
    type_is (Ty.con c ts) h =
        and_from _ _ (constructs_is (symbol_at symbols c) (how_many ts) h.0.0 h.0.1.0 h.0.1.1 h.0.2) (types_are ts h.1)

    pub types_are : (ts : Tys) → AreTypes symbols 0 ts → are_types symbols ts ≡ true
    types_are Tys.none h = refl
    types_are (Tys.more t ts) h = and_from _ _ (type_is t h.0) (types_are ts h.1)

  mutual
    pub term_true : (u : Term) (t : Ty) → has_type symbols u t ≡ true → HasType symbols u t
    term_true (Term.bound i) t h = absurd (true≢false (sym h))
    term_true (Term.eps n s) t h = let b = and_parts _ _ h in (type_true s b.0, same_type-true s t b.1)
    term_true (Term.meta n s) t h = let b = and_parts _ _ h in (type_true s b.0, same_type-true s t b.1)
    term_true (Term.app f ts us) t h =
        let b = and_parts _ _ h in
        let m = makes_true (symbol_at symbols f) ts t b.0 in
        let a = and_parts _ _ b.1 in
        let given = subst (λ o. have_types symbols us (arguments_at o ts) ≡ true) m.2 a.1 in
        (m.0, m.1, (m.2, m.3), m.4, types_true ts a.0, terms_true us (argument_types m.0 ts) given, m.5)

    pub terms_true : (us : Terms) (ss : Tys) → have_types symbols us ss ≡ true → HaveTypes symbols us ss
    terms_true Terms.none Tys.none h = tt
    terms_true Terms.none (Tys.more s ss) h = absurd (true≢false (sym h))
    terms_true (Terms.more u us) Tys.none h = absurd (true≢false (sym h))
    terms_true (Terms.more u us) (Tys.more s ss) h = let b = and_parts _ _ h in (term_true u s b.0, terms_true us ss b.1)

  mutual
    pub term_is : (u : Term) (t : Ty) → HasType symbols u t → has_type symbols u t ≡ true
    term_is (Term.bound i) t h = absurd h
    term_is (Term.eps n s) t h = and_from _ _ (type_is s h.0) (subst (λ x. same_type s x ≡ true) h.1 (same_type-self s))
    term_is (Term.meta n s) t h = and_from _ _ (type_is s h.0) (subst (λ x. same_type s x ≡ true) h.1 (same_type-self s))
    term_is (Term.app f ts us) t h =
        let made = makes_is (symbol_at symbols f) ts t h.0 h.1 h.2.0 h.2.1 h.3 h.6 in
        let given = subst (λ o. have_types symbols us (arguments_at o ts) ≡ true) (sym h.2.0) (terms_are us (argument_types h.0 ts) h.5) in
        and_from _ _ made (and_from _ _ (types_are ts h.4) given)

    pub terms_are : (us : Terms) (ss : Tys) → HaveTypes symbols us ss → have_types symbols us ss ≡ true
    terms_are Terms.none Tys.none h = refl
    terms_are Terms.none (Tys.more s ss) h = absurd h
    terms_are (Terms.more u us) Tys.none h = absurd h
    terms_are (Terms.more u us) (Tys.more s ss) h = and_from _ _ (term_is u s h.0) (terms_are us ss h.1)
