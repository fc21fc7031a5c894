-- Truth tables agree with the calculus: formulas with no quantifier that are refuted with no rules are not all true, where
-- an equality is true between equal trees alone.
use Rattle.std.proofs.Common.{◌≡◌, zero, suc, Bool, true, false, not, ◌&&◌, ◌||◌, cond, ◌⊎◌, inl, inr, refl, ap, sym, ◌∙◌, subst, arith, List, [], ◌∷◌, All, map}
use Rattle.std.specs.List.{Contains}
use Rattle.std.proofs.lemmas.List.Elements.{All-contains, All-append, All-map}
use Rattle.std.proofs.lemmas.Bool.{and_parts, or_cases}
use Rattle.zm_logic.specs.Tree.{Tys, Term, Terms, Form, Symbol, both, either, implies, iff, for_all, exists, for_all_types, exists_types, differ}
use Rattle.zm_logic.specs.Typing.{HaveTypes, argument_types}
use Rattle.zm_logic.specs.Calculus.{Derives, DerivesEach, differ_each}
use Rattle.zm_logic.specs.Same.{same_term}
use Rattle.zm_logic.specs.Truth.{IsQuantifierFree, IsTrueUnder, truth_of, value_of, connected, refuted}
use Rattle.zm_logic.specs.Laws as laws
use Rattle.zm_logic.specs.Laws.{HasNoQuantifier, truth_in_terms}
use Rattle.zm_logic.proofs.Sames.{same_term-self, same_term-true, only, Contains-none}
use Rattle.zm_logic.proofs.Weakening.{first_or_later}
use Rattle.zm_logic.proofs.Identity.{without_rules}

-- truth tables, read from below
decide : (a : Bool) → (a ≡ true) ⊎ (not a ≡ true)
decide true = inl refl
decide false = inr refl

clash : (a : Bool) → a ≡ true → not a ≡ true → ⊥
clash true h k = cc
clash false h k = cc

twice : (a : Bool) → not (not a) ≡ true → a ≡ true
twice true h = refl
twice false h = cc

not_both : (a b : Bool) → not (a && b) ≡ true → (not a ≡ true) ⊎ (not b ≡ true)
not_both true b h = inr h
not_both false b h = inl refl

neither : (a b : Bool) → not (a || b) ≡ true → (not a ≡ true) × (not b ≡ true)
neither true b h = cc
neither false b h = (refl, h)

not_implied : (a b : Bool) → not (not a || b) ≡ true → (a ≡ true) × (not b ≡ true)
not_implied true b h = (refl, h)
not_implied false b h = cc

alike : (a b : Bool) → cond a b (not b) ≡ true → ((a ≡ true) × (b ≡ true)) ⊎ ((not a ≡ true) × (not b ≡ true))
alike true b h = inl (refl, h)
alike false b h = inr (refl, h)

unlike : (a b : Bool) → not (cond a b (not b)) ≡ true → ((a ≡ true) × (not b ≡ true)) ⊎ ((not a ≡ true) × (b ≡ true))
unlike true b h = inl (refl, h)
unlike false b h = inr (refl, twice b h)

module _ (symbols : List Symbol) (v : Form → Bool) where
  -- a true formula with no quantifier
  abbrev Good : Form → Type 0
  Good f = HasNoQuantifier f × (truth_in_terms v f ≡ true)

  abbrev AreGood : List Form → Type 0
  AreGood gamma = (f : Form) → Contains gamma f → Good f

  grow : (x : Form) (gamma : List Form) → Good x → AreGood gamma → AreGood (x ∷ gamma)
  grow x gamma h g f c = go (first_or_later x f gamma c)
    where
      go : (x ≡ f) ⊎ Contains gamma f → Good f
      go (inl e) = subst Good e h
      go (inr d) = g f d

  -- where no inequation of two lists of arguments is true, the lists are equal
  no_difference : (ts : Tys) (us vs : Terms) → HaveTypes symbols us ts → HaveTypes symbols vs ts
      → ((f : Form) → Contains (differ_each ts us vs) f → Good f → ⊥) → us ≡ vs
  no_difference Tys.none Terms.none Terms.none h k none = refl
  no_difference Tys.none Terms.none (Terms.more b vs) h k none = absurd k
  no_difference Tys.none (Terms.more a us) vs h k none = absurd h
  no_difference (Tys.more t ts) Terms.none vs h k none = absurd h
  no_difference (Tys.more t ts) (Terms.more a us) Terms.none h k none = absurd k
  no_difference (Tys.more t ts) (Terms.more a us) (Terms.more b vs) h k none =
      let rest = no_difference ts us vs h.1 k.1 (λ f c. none f (suc c.0, omega (arith, c.1), c.2)) in
      elim (decide (same_term a b)) [ inl e ↦ let same = same_term-true a b e in cc | inr e ↦ absurd (none (differ t a b) (0, omega arith, refl) (tt, e)) ]

  mutual
    pub sound : {gamma : List Form} → AreGood gamma → Derives symbols [] gamma → ⊥
    sound g (Derives.falsity c) = let x = (g Form.falsity c).1 in cc
    sound g (Derives.not_truth c) = let x = (g (Form.negation Form.truth) c).1 in cc
    sound g (Derives.closes a c d) = clash (truth_in_terms v a) (g a c).1 (g (Form.negation a) d).1
    sound g (Derives.reflexive t a c) = clash (same_term a a) (same_term-self a) (g (differ t a a) c).1
    sound g (Derives.symmetric t a b c d) =
        let e = same_term-true a b (g (Form.equal t a b) c).1 in
        clash (same_term b a) (subst (λ x. same_term b x ≡ true) (sym e) (same_term-self b)) (g (differ t b a) d).1
    sound g (Derives.not_not {gamma = s} a c d) =
        let x = g (Form.negation (Form.negation a)) c in
        sound (grow a s (x.0, twice (truth_in_terms v a) x.1) g) d
    sound g (Derives.conjunction {gamma = s} a b c d) =
        let x = g (both a b) c in
        let y = and_parts (truth_in_terms v a) (truth_in_terms v b) x.1 in
        sound (grow a (b ∷ s) (x.0.0, y.0) (grow b s (x.0.1, y.1) g)) d
    sound g (Derives.not_or {gamma = s} a b c d) =
        let x = g (Form.negation (either a b)) c in
        let y = neither (truth_in_terms v a) (truth_in_terms v b) x.1 in
        sound (grow (Form.negation a) (Form.negation b ∷ s) (x.0.0, y.0) (grow (Form.negation b) s (x.0.1, y.1) g)) d
    sound g (Derives.not_implies {gamma = s} a b c d) =
        let x = g (Form.negation (implies a b)) c in
        let y = not_implied (truth_in_terms v a) (truth_in_terms v b) x.1 in
        sound (grow a (Form.negation b ∷ s) (x.0.0, y.0) (grow (Form.negation b) s (x.0.1, y.1) g)) d
    sound g (Derives.disjunction {gamma = s} a b c d e) =
        let x = g (either a b) c in
        elim (or_cases (truth_in_terms v a) (truth_in_terms v b) x.1) [
          | inl y ↦ sound (grow a s (x.0.0, y) g) d
          | inr y ↦ sound (grow b s (x.0.1, y) g) e
        ]
    sound g (Derives.not_and {gamma = s} a b c d e) =
        let x = g (Form.negation (both a b)) c in
        elim (not_both (truth_in_terms v a) (truth_in_terms v b) x.1) [
          | inl y ↦ sound (grow (Form.negation a) s (x.0.0, y) g) d
          | inr y ↦ sound (grow (Form.negation b) s (x.0.1, y) g) e
        ]
    sound g (Derives.implication {gamma = s} a b c d e) =
        let x = g (implies a b) c in
        elim (or_cases (not (truth_in_terms v a)) (truth_in_terms v b) x.1) [
          | inl y ↦ sound (grow (Form.negation a) s (x.0.0, y) g) d
          | inr y ↦ sound (grow b s (x.0.1, y) g) e
        ]
    sound g (Derives.equivalence {gamma = s} a b c d e) =
        let x = g (iff a b) c in
        elim (alike (truth_in_terms v a) (truth_in_terms v b) x.1) [
          | inl y ↦ sound (grow a (b ∷ s) (x.0.0, y.0) (grow b s (x.0.1, y.1) g)) d
          | inr y ↦ sound (grow (Form.negation a) (Form.negation b ∷ s) (x.0.0, y.0) (grow (Form.negation b) s (x.0.1, y.1) g)) e
        ]
    sound g (Derives.not_iff {gamma = s} a b c d e) =
        let x = g (Form.negation (iff a b)) c in
        elim (unlike (truth_in_terms v a) (truth_in_terms v b) x.1) [
          | inl y ↦ sound (grow a (Form.negation b ∷ s) (x.0.0, y.0) (grow (Form.negation b) s (x.0.1, y.1) g)) d
          | inr y ↦ sound (grow (Form.negation a) (b ∷ s) (x.0.0, y.0) (grow b s (x.0.1, y.1) g)) e
        ]
    sound g (Derives.existential t f n c h d) = absurd (g (exists t f) c).0
    sound g (Derives.not_for_all t f n c h d) = absurd (g (Form.negation (for_all t f)) c).0
    sound g (Derives.existential_types f n c h d) = absurd (g (exists_types f) c).0
    sound g (Derives.not_for_all_types f n c h d) = absurd (g (Form.negation (for_all_types f)) c).0
    sound g (Derives.universal t f u c h d) = absurd (g (for_all t f) c).0
    sound g (Derives.not_exists t f u c h d) = absurd (g (Form.negation (exists t f)) c).0
    sound g (Derives.universal_types f t c h d) = absurd (g (for_all_types f) c).0
    sound g (Derives.not_exists_types f t c h d) = absurd (g (Form.negation (exists_types f)) c).0
    sound g (Derives.equal_arguments p x ts us vs e h k c d each) =
        let same = no_difference (argument_types x ts) us vs h k (none_good g each) in
        clash (v (Form.atom p ts vs)) (subst (λ ws. v (Form.atom p ts ws) ≡ true) same (g (Form.atom p ts us) c).1)
        (g (Form.negation (Form.atom p ts vs)) d).1
    sound g (Derives.equal_values t f x ts us vs e h k c each) =
        let same = no_difference (argument_types x ts) us vs h k (none_good g each) in
        clash (same_term (Term.app f ts us) (Term.app f ts vs))
        (subst (λ ws. same_term (Term.app f ts us) (Term.app f ts ws) ≡ true) same (same_term-self (Term.app f ts us)))
        (g (differ t (Term.app f ts us) (Term.app f ts vs)) c).1
    sound g (Derives.transitive_first {gamma = s} t a b c d x y h k) =
        elim (decide (same_term c a)) [
          | inr e ↦ sound (grow (differ t c a) s (tt, e) g) h
          | inl e ↦ elim (decide (same_term b d)) [
            | inr l ↦ sound (grow (differ t b d) s (tt, l) g) k
            | inl l ↦
                let same = same_term-true c a e ∙ same_term-true a b (g (Form.equal t a b) x).1 ∙ same_term-true b d l in
                clash (same_term c d) (subst (λ z. same_term c z ≡ true) same (same_term-self c)) (g (differ t c d) y).1
          ]
        ]
    sound g (Derives.transitive_second {gamma = s} t a b c d x y h k) =
        elim (decide (same_term c b)) [
          | inr e ↦ sound (grow (differ t c b) s (tt, e) g) h
          | inl e ↦ elim (decide (same_term a d)) [
            | inr l ↦ sound (grow (differ t a d) s (tt, l) g) k
            | inl l ↦
                let same = same_term-true c b e ∙ sym (same_term-true a b (g (Form.equal t a b) x).1) ∙ same_term-true a d l in
                clash (same_term c d) (subst (λ z. same_term c z ≡ true) same (same_term-self c)) (g (differ t c d) y).1
          ]
        ]
    sound g (Derives.conversion {gamma = s} f h c e d) =
        sound (grow h s (subst Good (without_rules symbols f h e) (g f c)) g) d

    none_good : {gamma fs : List Form} → AreGood gamma → DerivesEach symbols [] gamma fs → (f : Form) → Contains fs f → Good f → ⊥
    none_good g DerivesEach.none f c h = Contains-none f c
    none_good g (DerivesEach.more {f = x} {fs = fs} {gamma = s} d each) f c h =
        elim (first_or_later x f fs c) [
          | inl e ↦ sound (grow x s (subst Good (sym e) h) g) d
          | inr k ↦ none_good g each f k h
        ]

-- a formula with no quantifier and no equality has the truth value that its truth table gives
has_no_quantifier : (f : Form) → IsQuantifierFree f → HasNoQuantifier f
has_no_quantifier Form.truth h = tt
has_no_quantifier Form.falsity h = tt
has_no_quantifier (Form.atom p ts us) h = tt
has_no_quantifier (Form.equal t a b) h = absurd h
has_no_quantifier (Form.negation f) h = has_no_quantifier f h
has_no_quantifier (Form.binary c f g) h = (has_no_quantifier f h.0, has_no_quantifier g h.1)
has_no_quantifier (Form.quantified q t f) h = absurd h
has_no_quantifier (Form.quantified_types q f) h = absurd h

same_truth : (v : Form → Bool) (f : Form) → IsQuantifierFree f → truth_in_terms v f ≡ truth_of v f
same_truth v Form.truth h = refl
same_truth v Form.falsity h = refl
same_truth v (Form.atom p ts us) h = refl
same_truth v (Form.equal t a b) h = absurd h
same_truth v (Form.negation f) h = ap not (same_truth v f h)
same_truth v (Form.binary c f g) h =
    ap (λ x. connected c x (truth_in_terms v g)) (same_truth v f h.0) ∙ ap (connected c (truth_of v f)) (same_truth v g h.1)
same_truth v (Form.quantified q t f) h = absurd h
same_truth v (Form.quantified_types q f) h = absurd h

pub not_all_true_in_terms : laws.RefutedFormsAreNotAllTrueInTerms
not_all_true_in_terms symbols gamma v free d true_ =
    sound symbols v
    (λ f c. (All-contains HasNoQuantifier gamma f free c, All-contains (λ g. truth_in_terms v g ≡ true) gamma f true_ c)) d

pub not_all_true : laws.RefutedFormsAreNotAllTrue
not_all_true symbols gamma v free d true_ =
    sound symbols (value_of v)
    (λ f c.
    let h = All-contains IsQuantifierFree gamma f free c in (
      has_no_quantifier f h,
      same_truth (value_of v) f h ∙ All-contains (λ g. truth_of (value_of v) g ≡ true) gamma f true_ c,
    )) d

single : (P : Form → Type 0) (x : Form) → P x → All P (x ∷ [])
single P x h zero d l = h
single P x h (suc k) d l = absurd (omega arith)

pub not_falsified : laws.FalsifiedProblemsAreNotRefuted
not_falsified problem v free f d =
    not_all_true problem.symbols (refuted problem) v free d
    (All-append (IsTrueUnder v) (map (λ premise. premise.form) problem.premises) (Form.negation problem.conjecture ∷ [])
    (All-map (IsTrueUnder v) (λ premise. premise.form) problem.premises f.premises)
    (single (IsTrueUnder v) (Form.negation problem.conjecture) (ap not f.conjecture)))

pub nothing : laws.NothingIsNotRefuted
nothing symbols d = sound symbols (λ f. true) (λ f c. absurd (Contains-none f c)) d

pub atoms : laws.AtomsAreNotRefuted
atoms symbols p ts us d =
    sound symbols (λ f. true)
    (λ f c. subst (λ g. HasNoQuantifier g × (truth_in_terms (λ f. true) g ≡ true)) (only (Form.atom p ts us) f c) (tt, refl)) d
