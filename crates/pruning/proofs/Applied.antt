-- An offer is a rule of the calculus, whose upper sequents add the raw formulas of the offer's children.
use Rattle.std.proofs.Common.{◌≡◌, ℕ, false, refl, ap, sym, subst, ◌∙◌, List, [], ◌∷◌, Contains, Option, None, Some, slice_get}
use Rattle.zm_logic.specs.Tree.{Ty, Tys, Term, Terms, Form, Connective, Symbol, Opening, differ}
use Rattle.zm_logic.specs.Parameter.{IsFreshForAll}
use Rattle.zm_logic.specs.Typing.{HaveTypes, WellTyped, symbol_at, argument_types}
use Rattle.zm_logic.specs.Calculus.{differ_each}
use Rattle.zm_logic.proofs.Inverted.{well_typed_negation, well_typed_atom, well_typed_left, well_typed_right, binder_type}
use Rattle.zm_logic.proofs.Sames.{Contains-here, Contains-there}
use Rattle.param_store.specs.RawOffers.{Act, QuantifierKind, Quantified, quantified, one, split, number_of, own_part, at_part}
use Rattle.equality_rules.specs.Equality.{singles, unequal}
use Rattle.branch.specs.Setting.{Setting}
use Rattle.branch.specs.Sound.{IsSound}
use Rattle.branch.specs.BranchOffers.{Kind}
use Rattle.branch.specs.Tableau.{acted}
use Rattle.branch.specs.Offered.{Offered}
use Rattle.branch.specs.Introduced.{Above, IsIntroduced, part_of}
use Rattle.unify.specs.Binding.{Binding}
use Rattle.zm_logic.specs.Parameter.{Parameter, number}
use Rattle.branch.proofs.Opened.{IsShape, shape, Fits, of_meta, of_type_meta}
use Rattle.branch.proofs.Sequent.{IsBranch}
use Rattle.branch.proofs.Children.{declared_once, on_branch, solved_each, term_instance, type_instance}
use Rattle.branch.proofs.Grows.{own_typed, fresh_number}
use Rattle.branch.proofs.Closings.{IsWithin}
use Rattle.branch.proofs.Rules.{IsNew, fresh_for_all}
use Rattle.sequent_proof.specs.Rules.{RuleName, Applies, each_alone}
use Rattle.pruning.specs.Steps.{rule_on, step_rule}

-- the upper sequents of the rules on equal arguments, in the words of offers
alone_singles : (fs : List Form) → each_alone fs ≡ singles fs
alone_singles [] = refl
alone_singles (f ∷ fs) = ap (λ cs. (f ∷ []) ∷ cs) (alone_singles fs)

unequal_is : (s : Setting) (p : ℕ) (d : Symbol) (ts : Tys) (us vs : Terms) → symbol_at s.symbols p ≡ Some d
    → each_alone (differ_each (argument_types d ts) us vs) ≡ unequal (symbol_at s.symbols p) ts us vs
unequal_is s p d ts us vs e =
    subst (λ z. each_alone (differ_each (argument_types d ts) us vs) ≡ unequal z ts us vs) (sym e) (alone_singles (differ_each (argument_types d ts) us vs))

module _ (s : Setting) (gamma : List Form) where
  abbrev pub Rule : RuleName → Form → Option Form → Option Opening → List (List Form) → Type 0
  Rule name a b part upper = Applies s.symbols s.rules gamma name a b part upper

  -- alpha and beta
  split_applies : (f : Form) → Contains gamma f → (split f ≡ [] → ⊥) → Rule (rule_on false f) f None None (split f)
  split_applies (Form.negation (Form.negation a)) h n = Applies.not_not a h
  split_applies (Form.binary Connective.conjunction a b) h n = Applies.conjunction a b h
  split_applies (Form.negation (Form.binary Connective.disjunction a b)) h n = Applies.not_or a b h
  split_applies (Form.negation (Form.binary Connective.implication a b)) h n = Applies.not_implies a b h
  split_applies (Form.binary Connective.disjunction a b) h n = Applies.disjunction a b h
  split_applies (Form.negation (Form.binary Connective.conjunction a b)) h n = Applies.not_and a b h
  split_applies (Form.binary Connective.implication a b) h n = Applies.implication a b h
  split_applies (Form.binary Connective.equivalence a b) h n = Applies.equivalence a b h
  split_applies (Form.negation (Form.binary Connective.equivalence a b)) h n = Applies.not_iff a b h
  split_applies f h n = absurd (n refl)

  -- delta and gamma: a formula is opened with its own parameter
  own_applies : (n : ℕ) {f : Form} {q : Quantified} → IsShape f q → WellTyped s.symbols f → Contains gamma f
      → (q.kind ≡ QuantifierKind.delta → IsFreshForAll n gamma)
      → Rule (rule_on false f) f None (Some (own_part n q)) (one (at_part q (own_part n q)) ∷ [])
  own_applies n (IsShape.exists t a) h m fresh = Applies.existential t a n m (fresh refl)
  own_applies n (IsShape.not_for_all t a) h m fresh = Applies.not_for_all t a n m (fresh refl)
  own_applies n (IsShape.exists_types a) h m fresh = Applies.existential_types a n m (fresh refl)
  own_applies n (IsShape.not_for_all_types a) h m fresh = Applies.not_for_all_types a n m (fresh refl)
  own_applies n (IsShape.for_all t a) h m fresh = Applies.universal t a (Term.meta n t) m (binder_type s.symbols h, refl)
  own_applies n (IsShape.for_all_types a) h m fresh = Applies.universal_types a (Ty.meta n) m tt
  own_applies n (IsShape.not_exists_types a) h m fresh = Applies.not_exists_types a (Ty.meta n) m tt
  own_applies n (IsShape.not_exists t a) h m fresh =
      Applies.not_exists t a (Term.meta n t) m (binder_type s.symbols (well_typed_negation s.symbols h), refl)

  -- instances: a gamma formula may be opened with whatever fits
  instance_applies : {f : Form} {q : Quantified} → IsShape f q → q.kind ≡ QuantifierKind.gamma → (w : Opening) → Fits s.symbols q.binder w → Contains gamma f
      → Rule (rule_on false f) f None (Some w) (one (at_part q w) ∷ [])
  instance_applies (IsShape.exists t a) e w k m = cc
  instance_applies (IsShape.not_for_all t a) e w k m = cc
  instance_applies (IsShape.exists_types a) e w k m = cc
  instance_applies (IsShape.not_for_all_types a) e w k m = cc
  instance_applies (IsShape.for_all t a) e (Opening.of_term u) k m = Applies.universal t a u m k
  instance_applies (IsShape.for_all t a) e (Opening.of_type u) k m = absurd k
  instance_applies (IsShape.for_all_types a) e (Opening.of_type u) k m = Applies.universal_types a u m k
  instance_applies (IsShape.for_all_types a) e (Opening.of_term u) k m = absurd k
  instance_applies (IsShape.not_exists_types a) e (Opening.of_type u) k m = Applies.not_exists_types a u m k
  instance_applies (IsShape.not_exists_types a) e (Opening.of_term u) k m = absurd k
  instance_applies (IsShape.not_exists t a) e (Opening.of_term u) k m = Applies.not_exists t a u m k
  instance_applies (IsShape.not_exists t a) e (Opening.of_type u) k m = absurd k

module _ (s : Setting) (sound : IsSound s) (table : List Form) (above : List Above) (b sequent : List Form) (is : IsBranch s table above b sequent) where
  gamma_by : (p : Parameter) (f : Form) (q : Quantified) → IsIntroduced s table above b p → slice_get table (number p) ≡ Some f → quantified f ≡ Some q
      → own_part (number p) q ≡ part_of p
  gamma_by p f q i e h =
      let j : i.from ≡ f = (let k = sym i.numbered ∙ e in cc) in
      let Q : Form → Type 0 = λ x. quantified x ≡ Some i.shape in
      let l : i.shape ≡ q = (let k = sym (subst Q j i.quantified) ∙ h in cc) in
      subst (λ x. own_part (number p) x ≡ part_of p) l i.own

  pub offered_applies : (gamma : List Form) → IsWithin gamma sequent → {k : Kind} {a : Act} {cs : List (List Form)} → Offered s table b k a cs
      → IsWithin (acted a) gamma → IsNew s b cs → Rule s gamma (step_rule a) a.first a.second a.part cs
  offered_applies gamma v (Offered.splits f h e n) w new =
      subst (λ cs. Rule s gamma (rule_on false f) f None None cs) e (split_applies s gamma f (w f (Contains-here f [])) (λ i. n (sym e ∙ i)))
  offered_applies gamma v (Offered.opens f q h e) w new =
      let n = number_of table f in
      own_applies s gamma n (shape f q e) (on_branch s sound table above b sequent is f h) (w f (Contains-here f []))
      (λ i. fresh_for_all n gamma (λ x m. fresh_number s sound table above b sequent is f q h e
      (λ g r c. new (at_part q (own_part n q)) g refl (own_typed s sound table above b sequent is f q h e) r c) x (v x m)))
  offered_applies gamma v (Offered.at_term n t u f q made h m i e j) w new =
      let x = term_instance s sound table above b sequent is n t u f q made h m i e j in
      instance_applies s gamma (shape f q j) (of_meta q.kind q.binder n t (gamma_by (Parameter.meta n t) f q
      (solved_each s b (on_branch s sound table above b sequent is) (IsIntroduced s table above b) (λ g m. is.introduced g (is.within g m)) made h (Binding.of_term n t u) m).0 e j)).0 (Opening.of_term u) x.fits (w f (Contains-here f []))
  offered_applies gamma v (Offered.at_type n u f q made h m e j) w new =
      let x = type_instance s sound table above b sequent is n u f q made h m e j in
      instance_applies s gamma (shape f q j) (of_type_meta q.kind q.binder n (gamma_by (Parameter.type_meta n) f q
      (solved_each s b (on_branch s sound table above b sequent is) (IsIntroduced s table above b) (λ g m. is.introduced g (is.within g m)) made h (Binding.of_type n u) m).0 e j)).0 (Opening.of_type u) x.fits (w f (Contains-here f []))
  offered_applies gamma v (Offered.values t f ts us vs h) w new =
      let d = differ t (Term.app f ts us) (Term.app f ts vs) in
      let z = well_typed_negation s.symbols (on_branch s sound table above b sequent is d h) in
      let x = well_typed_left s.symbols z in
      let y = well_typed_right s.symbols z in
      subst (λ cs. Rule s gamma RuleName.equal_values d None None cs) (unequal_is s f x.0 ts us vs x.2.0)
      (Applies.equal_values t f x.0 ts us vs x.2.0 x.5 (subst (λ c. HaveTypes s.symbols vs (argument_types c ts)) (declared_once s f x.0 y.0 x.2.0 y.2.0) y.5)
      (w d (Contains-here d [])))
  offered_applies gamma v (Offered.arguments p ts us vs h k) w new =
      let c = Form.atom p ts us in
      let d = Form.negation (Form.atom p ts vs) in
      let x = well_typed_atom s.symbols (on_branch s sound table above b sequent is c h) in
      let y = well_typed_atom s.symbols (well_typed_negation s.symbols (on_branch s sound table above b sequent is d k)) in
      subst (λ cs. Rule s gamma RuleName.equal_arguments c (Some d) None cs) (unequal_is s p x.0 ts us vs x.1.0)
      (Applies.equal_arguments p x.0 ts us vs x.1.0 x.4 (subst (λ e. HaveTypes s.symbols vs (argument_types e ts)) (declared_once s p x.0 y.0 x.1.0 y.1.0) y.4)
      (w c (Contains-here c (d ∷ []))) (w d (Contains-there c (d ∷ []) d (Contains-here d []))))
  offered_applies gamma v (Offered.first_sides t p q c e h k) w new =
      let f = Form.equal t p q in
      let d = differ t c e in
      Applies.transitive_first t p q c e (w f (Contains-here f (d ∷ []))) (w d (Contains-there f (d ∷ []) d (Contains-here d [])))
  offered_applies gamma v (Offered.second_sides t p q c e h k) w new =
      let f = Form.equal t p q in
      let d = differ t c e in
      Applies.transitive_second t p q c e (w f (Contains-here f (d ∷ []))) (w d (Contains-there f (d ∷ []) d (Contains-here d [])))
