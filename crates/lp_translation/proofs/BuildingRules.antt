-- The term of each rule by the parts of what it acts on.
use Rattle.std.proofs.Common.{◌≡◌, List, ◌∷◌, refl, ap, sym}
use Rattle.std.specs.Prelude.{Option}
use Rattle.lp_terms.specs.Term.{Lp}
use Rattle.zm_logic.specs.Tree.{Ty, Term, Form, Rule, Symbol, Opening, exists, exists_types, for_all, for_all_types}
use Rattle.zm_logic.specs.Opening.{at_term, at_type}
use Rattle.lp_signature.specs.Prelude.{types, term}
use Rattle.lp_signature.specs.Translation.{Scope, form_of}
use Rattle.lp_signature.specs.ProofTerms as by
use Rattle.lp_signature.specs.View.{scope_tree}
use Rattle.sequent_proof.specs.Rules.{RuleName, Applies}
use Rattle.lp_translation.specs.ProofOf.{entered}
use Rattle.lp_translation.specs.declared.place.Place.{Place}
use Rattle.lp_translation.specs.ViewPlace.{symbols_at, scope_at, written, written_type, rule_at}
use Rattle.lp_translation.specs.ViewRules.{negated, left_of, right_of, second_negated, proved, second_proved, reflexive_by, symmetric_by, exists_by, not_forall_by, forall_by, not_exists_by, trans_first_by, trans_second_by}

module _ (p : Place) (ss : List Symbol) (rules : List Rule) (gamma : List Form) where
  pub falsity_is : (a : Form) (b : Option Form) (w : Option Opening) (upper : List (List Form)) (rs : List Lp) → Applies ss rules gamma RuleName.falsity a b w upper
      → rule_at p RuleName.falsity a b w rs ≡ proved p a
  falsity_is _ _ _ _ rs (Applies.falsity m) = refl

  pub not_true_is : (a : Form) (b : Option Form) (w : Option Opening) (upper : List (List Form)) (rs : List Lp) → Applies ss rules gamma RuleName.not_truth a b w upper
      → rule_at p RuleName.not_truth a b w rs ≡ by.not_true_term (proved p a)
  not_true_is _ _ _ _ rs (Applies.not_truth m) = refl

  pub axiom_is : (a : Form) (b : Option Form) (w : Option Opening) (upper : List (List Form)) (rs : List Lp) → Applies ss rules gamma RuleName.closes a b w upper
      → rule_at p RuleName.closes a b w rs ≡ by.axiom_term (proved p a) (second_proved p b)
  axiom_is _ _ _ _ rs (Applies.closes f m n) = refl

  pub refl_is : (a : Form) (b : Option Form) (w : Option Opening) (upper : List (List Form)) (rs : List Lp) → Applies ss rules gamma RuleName.reflexive a b w upper
      → rule_at p RuleName.reflexive a b w rs ≡ reflexive_by p (proved p a) (negated a)
  refl_is _ _ _ _ rs (Applies.reflexive t u m) = refl

  pub sym_is : (a : Form) (b : Option Form) (w : Option Opening) (upper : List (List Form)) (rs : List Lp) → Applies ss rules gamma RuleName.symmetric a b w upper
      → rule_at p RuleName.symmetric a b w rs ≡ symmetric_by p (proved p a) (second_proved p b) a
  sym_is _ _ _ _ rs (Applies.symmetric t u v m n) = refl

  pub not_not_is : (a : Form) (b : Option Form) (w : Option Opening) (upper : List (List Form)) (r : Lp) (rs : List Lp) → Applies ss rules gamma RuleName.not_not a b w upper
      → rule_at p RuleName.not_not a b w (r ∷ rs) ≡ by.not_not_term p.next (proved p a) (written p (negated (negated a))) r
  not_not_is _ _ _ _ r rs (Applies.not_not f m) = refl

  pub and_is : (a : Form) (b : Option Form) (w : Option Opening) (upper : List (List Form)) (r : Lp) (rs : List Lp) → Applies ss rules gamma RuleName.conjunction a b w upper
      → rule_at p RuleName.conjunction a b w (r ∷ rs) ≡ by.and_term p.next (proved p a) (written p (left_of a)) (written p (right_of a)) r
  and_is _ _ _ _ r rs (Applies.conjunction f g m) = refl

  pub not_or_is : (a : Form) (b : Option Form) (w : Option Opening) (upper : List (List Form)) (r : Lp) (rs : List Lp) → Applies ss rules gamma RuleName.not_or a b w upper
      → rule_at p RuleName.not_or a b w (r ∷ rs) ≡ by.not_or_term p.next (proved p a) (written p (left_of (negated a))) (written p (right_of (negated a))) r
  not_or_is _ _ _ _ r rs (Applies.not_or f g m) = refl

  pub not_imp_is : (a : Form) (b : Option Form) (w : Option Opening) (upper : List (List Form)) (r : Lp) (rs : List Lp) → Applies ss rules gamma RuleName.not_implies a b w upper
      → rule_at p RuleName.not_implies a b w (r ∷ rs) ≡ by.not_imp_term p.next (proved p a) (written p (left_of (negated a))) (written p (right_of (negated a))) r
  not_imp_is _ _ _ _ r rs (Applies.not_implies f g m) = refl

  pub or_is : (a : Form) (b : Option Form) (w : Option Opening) (upper : List (List Form)) (r q : Lp) (rs : List Lp) → Applies ss rules gamma RuleName.disjunction a b w upper
      → rule_at p RuleName.disjunction a b w (r ∷ q ∷ rs) ≡ by.or_term p.next (proved p a) (written p (left_of a)) (written p (right_of a)) r q
  or_is _ _ _ _ r q rs (Applies.disjunction f g m) = refl

  pub not_and_is : (a : Form) (b : Option Form) (w : Option Opening) (upper : List (List Form)) (r q : Lp) (rs : List Lp) → Applies ss rules gamma RuleName.not_and a b w upper
      → rule_at p RuleName.not_and a b w (r ∷ q ∷ rs) ≡ by.not_and_term p.next (proved p a) (written p (left_of (negated a))) (written p (right_of (negated a))) r q
  not_and_is _ _ _ _ r q rs (Applies.not_and f g m) = refl

  pub imp_is : (a : Form) (b : Option Form) (w : Option Opening) (upper : List (List Form)) (r q : Lp) (rs : List Lp) → Applies ss rules gamma RuleName.implication a b w upper
      → rule_at p RuleName.implication a b w (r ∷ q ∷ rs) ≡ by.imp_term p.next (proved p a) (written p (left_of a)) (written p (right_of a)) r q
  imp_is _ _ _ _ r q rs (Applies.implication f g m) = refl

  pub iff_is : (a : Form) (b : Option Form) (w : Option Opening) (upper : List (List Form)) (r q : Lp) (rs : List Lp) → Applies ss rules gamma RuleName.equivalence a b w upper
      → rule_at p RuleName.equivalence a b w (r ∷ q ∷ rs) ≡ by.iff_term p.next (proved p a) (written p (left_of a)) (written p (right_of a)) r q
  iff_is _ _ _ _ r q rs (Applies.equivalence f g m) = refl

  pub not_iff_is : (a : Form) (b : Option Form) (w : Option Opening) (upper : List (List Form)) (r q : Lp) (rs : List Lp) → Applies ss rules gamma RuleName.not_iff a b w upper
      → rule_at p RuleName.not_iff a b w (r ∷ q ∷ rs) ≡ by.not_iff_term p.next (proved p a) (written p (left_of (negated a))) (written p (right_of (negated a))) r q
  not_iff_is _ _ _ _ r q rs (Applies.not_iff f g m) = refl

  pub exists_is : (a : Form) (b : Option Form) (w : Option Opening) (upper : List (List Form)) (r : Lp) (rs : List Lp) → scope_tree p.entered.now ≡ entered RuleName.existential w p.next (scope_at p)
      → Applies ss rules gamma RuleName.existential a b w upper → rule_at p RuleName.existential a b w (r ∷ rs) ≡ exists_by p (proved p a) a w r
  exists_is _ _ _ _ r rs e (Applies.existential t f n m h) =
      ap (λ (s : Scope). by.exists_term p.next (proved p (exists t f)) (term (written_type p t)) (form_of (symbols_at p) s (at_term f (Term.eps n t))) r) (sym e)
  exists_is _ _ _ _ r rs e (Applies.existential_types f n m h) =
      ap (λ (s : Scope). by.exists_term p.next (proved p (exists_types f)) types (form_of (symbols_at p) s (at_type f (Ty.param n))) r) (sym e)

  pub not_forall_is : (a : Form) (b : Option Form) (w : Option Opening) (upper : List (List Form)) (r : Lp) (rs : List Lp) → scope_tree p.entered.now ≡ entered RuleName.not_for_all w p.next (scope_at p)
      → Applies ss rules gamma RuleName.not_for_all a b w upper → rule_at p RuleName.not_for_all a b w (r ∷ rs) ≡ not_forall_by p (proved p a) (negated a) w r
  not_forall_is _ _ _ _ r rs e (Applies.not_for_all t f n m h) =
      ap (λ (s : Scope). by.not_forall_term p.next (proved p (Form.negation (for_all t f))) (term (written_type p t)) (form_of (symbols_at p) s (at_term f (Term.eps n t))) r) (sym e)
  not_forall_is _ _ _ _ r rs e (Applies.not_for_all_types f n m h) =
      ap (λ (s : Scope). by.not_forall_term p.next (proved p (Form.negation (for_all_types f))) types (form_of (symbols_at p) s (at_type f (Ty.param n))) r) (sym e)

  pub forall_is : (a : Form) (b : Option Form) (w : Option Opening) (upper : List (List Form)) (r : Lp) (rs : List Lp) → Applies ss rules gamma RuleName.universal a b w upper
      → rule_at p RuleName.universal a b w (r ∷ rs) ≡ forall_by p (proved p a) a w r
  forall_is _ _ _ _ r rs (Applies.universal t f u m h) = refl
  forall_is _ _ _ _ r rs (Applies.universal_types f t m h) = refl

  pub not_exists_is : (a : Form) (b : Option Form) (w : Option Opening) (upper : List (List Form)) (r : Lp) (rs : List Lp) → Applies ss rules gamma RuleName.not_exists a b w upper
      → rule_at p RuleName.not_exists a b w (r ∷ rs) ≡ not_exists_by p (proved p a) (negated a) w r
  not_exists_is _ _ _ _ r rs (Applies.not_exists t f u m h) = refl
  not_exists_is _ _ _ _ r rs (Applies.not_exists_types f t m h) = refl

  pub trans_first_is : (a : Form) (b : Option Form) (w : Option Opening) (upper : List (List Form)) (r q : Lp) (rs : List Lp) → Applies ss rules gamma RuleName.transitive_first a b w upper
      → rule_at p RuleName.transitive_first a b w (r ∷ q ∷ rs) ≡ trans_first_by p (proved p a) (second_proved p b) a (second_negated a b) r q
  trans_first_is _ _ _ _ r q rs (Applies.transitive_first t f g c e m n) = refl

  pub trans_second_is : (a : Form) (b : Option Form) (w : Option Opening) (upper : List (List Form)) (r q : Lp) (rs : List Lp) → Applies ss rules gamma RuleName.transitive_second a b w upper
      → rule_at p RuleName.transitive_second a b w (r ∷ q ∷ rs) ≡ trans_second_by p (proved p a) (second_proved p b) a (second_negated a b) r q
  trans_second_is _ _ _ _ r q rs (Applies.transitive_second t f g c e m n) = refl
