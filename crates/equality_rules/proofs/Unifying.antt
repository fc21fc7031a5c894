-- What a unifier and its instances give two formulas, and two terms.
use Rattle.std.proofs.Common.{◌≡◌, ◌≤◌, true, Option, None, Some, List, [], ◌∷◌, map, ap, sym, subst, ◌∙◌, true≢false, arith, Result, Ok, Err, IfOk, IfErr, OnOk, IfSome, IfNone}
use Rattle.zm_logic.specs.Tree.{Term, Form, Symbol}
use Rattle.term_store.specs.Trees.{Tables, Extends, term_of}
use Rattle.term_store.specs.declared.ids.FormId.{FormId}
use Rattle.term_store.specs.declared.ids.TermId.{TermId}
use Rattle.param_store.specs.RawOffers.{Raw}
use Rattle.param_store.specs.Depth.{deepest}
use Rattle.param_store.specs.Fault.{IfDeepAt}
use Rattle.param_store.specs.View.{AreRaws, forms_of, HasForms}
use Rattle.param_store.specs.declared.offer.RawOffer.{RawOffer}
use Rattle.param_store.specs.declared.fault.OfferFault.{OfferFault}
use Rattle.param_store.specs.declared.fault.OfferFault.TheVariants as offer_faults
use Rattle.param_store.proofs.Stay.{forms_stay}
use Rattle.unify.specs.Binding.{Binding, unifier}
use Rattle.unify.specs.Equation.{Equation}
use Rattle.unify.specs.Unification.{UnifiesForms, UnifiesTerms, AreAtomsOrEqualities}
use Rattle.unify.specs.View.{binding_of}
use Rattle.unify.specs.Answer as answer
use Rattle.unify.specs.Answer.{IsAnswer, IsTooDeep}
use Rattle.unify.specs.declared.binding.Binding.{Binding as Code}
use Rattle.unify.specs.declared.binding.MguFault.{MguFault}
use Rattle.unify.specs.declared.binding.MguFault.TheVariants as faults
use Rattle.unify.proofs.Determined.{one_outcome}
use Rattle.unify.proofs.Unifier.{solves_all_solved}
use Rattle.unify.proofs.Promises.{forms_are_unified, bindings_solve, unifiers_of_forms_are_determined}
use Rattle.equality_rules.specs.Instances.{InstancesOf, instances, in_order}
use Rattle.equality_rules.specs.Pairs.{FormsDiffer, TermsDiffer, alike}
use Rattle.equality_rules.specs.Refused.{AreBounded, AreRefused, IsFirstDeepBinding}
use Rattle.equality_rules.specs.Offered.{IsRefused, NamesInstance, fault_of}
use Rattle.equality_rules.proofs.Offers.{raws_none}

-- what unifies two atoms or two equalities
pub alike_forms : (f g : Form) → alike f g ≡ true → AreAtomsOrEqualities f g
alike_forms Form.truth g' h = absurd (true≢false (sym h))
alike_forms Form.falsity g' h = absurd (true≢false (sym h))
alike_forms (Form.atom p ts us) Form.truth h = absurd (true≢false (sym h))
alike_forms (Form.atom p ts us) Form.falsity h = absurd (true≢false (sym h))
alike_forms (Form.atom p ts us) (Form.atom p' ts' us') h = tt
alike_forms (Form.atom p ts us) (Form.equal t' a' b') h = absurd (true≢false (sym h))
alike_forms (Form.atom p ts us) (Form.negation f') h = absurd (true≢false (sym h))
alike_forms (Form.atom p ts us) (Form.binary c' f' g') h = absurd (true≢false (sym h))
alike_forms (Form.atom p ts us) (Form.quantified q' t' f') h = absurd (true≢false (sym h))
alike_forms (Form.atom p ts us) (Form.quantified_types q' f') h = absurd (true≢false (sym h))
alike_forms (Form.equal t a b) Form.truth h = absurd (true≢false (sym h))
alike_forms (Form.equal t a b) Form.falsity h = absurd (true≢false (sym h))
alike_forms (Form.equal t a b) (Form.atom p' ts' us') h = absurd (true≢false (sym h))
alike_forms (Form.equal t a b) (Form.equal t' a' b') h = tt
alike_forms (Form.equal t a b) (Form.negation f') h = absurd (true≢false (sym h))
alike_forms (Form.equal t a b) (Form.binary c' f' g') h = absurd (true≢false (sym h))
alike_forms (Form.equal t a b) (Form.quantified q' t' f') h = absurd (true≢false (sym h))
alike_forms (Form.equal t a b) (Form.quantified_types q' f') h = absurd (true≢false (sym h))
alike_forms (Form.negation f) g' h = absurd (true≢false (sym h))
alike_forms (Form.binary c f g) g' h = absurd (true≢false (sym h))
alike_forms (Form.quantified q t f) g' h = absurd (true≢false (sym h))
alike_forms (Form.quantified_types q f) g' h = absurd (true≢false (sym h))

-- two forms that nothing makes one have no bindings
pub no_unifier : (f g : Form) → FormsDiffer f g → (made : List Binding) → UnifiesForms f g made → ⊥
no_unifier f g h made u = h (unifier made) (forms_are_unified f g made u)

pub no_term_unifier : (u v : Term) → TermsDiffer u v → (made : List Binding) → UnifiesTerms u v made → ⊥
no_term_unifier u v h made w =
    let es = Equation.of_terms u v ∷ [] in h (unifier made) (solves_all_solved made es (bindings_solve es made w)).0

-- two forms, and two terms, determine their bindings
pub one_of_forms : (f g : Form) (made also : List Binding) → UnifiesForms f g made → UnifiesForms f g also → made ≡ also
one_of_forms f g made also u v = unifiers_of_forms_are_determined f g made also u v

pub one_of_terms : (u v : Term) (made also : List Binding) → UnifiesTerms u v made → UnifiesTerms u v also → made ≡ also
one_of_terms u v made also w x = one_outcome w x

module _ (symbols : List Symbol) (s t : Tables) (e : Extends s t) (ids : List FormId) (has : HasForms s ids) where
  -- the instances of an answer are those of the bindings that were made
  pub answered : (made : List Binding) (all : List Code) → IsAnswer t made all
      → instances symbols (forms_of t ids) (map (binding_of t) all) ≡ instances symbols (forms_of s ids) (in_order made)
  answered made all a =
      ap (λ table. instances symbols table (map (binding_of t) all)) (forms_stay s t e ids has)
      ∙ ap (instances symbols (forms_of s ids)) a.solved

-- the first binding that is too deep
pub first_deep : (t : Tables) (made : List Binding) (at : TermId) → IsTooDeep t made at → IsFirstDeepBinding made (term_of t at)
first_deep t made at h = record {
  before = h.before;
  binding = h.binding;
  after = h.after;
  order = h.order;
  bounded = h.bounded;
  deep = h.deep;
  named = sym h.named;
}

-- a unifier that is too deep
pub deep_unifier : (symbols : List Symbol) (table : List Form) (U : List Binding → Type 0) (D : Type 0) (t : Tables) (fault : MguFault)
    → answer.IfDeepAt (λ at. (made : List Binding) × U made × IsTooDeep t made at) fault
    → IfDeepAt (IsRefused t (AreRefused symbols table U D)) (fault_of fault)
deep_unifier symbols table U D t faults.Memory h = tt
deep_unifier symbols table U D t (faults.Deep at) h = (h.2.has, AreRefused.binding h.0 (term_of t at) h.1 (first_deep t h.0 at h.2))

-- and an instance that is too deep
pub deep_instance : (symbols : List Symbol) (table : List Form) (U : List Binding → Type 0) (D : Type 0) (t : Tables) (rs : List Raw)
    → ((made : List Binding) → U made → AreBounded made) → InstancesOf symbols table U D rs → (fault : OfferFault)
    → IfDeepAt (NamesInstance t rs) fault → IfDeepAt (IsRefused t (AreRefused symbols table U D)) fault
deep_instance symbols table U D t rs b i offer_faults.Memory h = tt
deep_instance symbols table U D t rs b i (offer_faults.Deep at) h =
    (h.has, subst (AreRefused symbols table U D) (sym h.named) (AreRefused.child rs h.form b i h.first))

module _ (symbols : List Symbol) (table : List Form) (U : List Binding → Type 0) (D : Type 0) where
  -- nothing is offered where nothing makes the two one
  pub none_answer : (t : Tables) (rs : List RawOffer) → D → rs ≡ []
      → (os : List Raw) × InstancesOf symbols table U D os × (deepest os ≤ 2000) × AreRaws t os rs
  none_answer t rs d e = ([], InstancesOf.apart d, omega arith, subst (AreRaws t []) (sym e) (raws_none t))

-- the bindings of an answer, and what their instances give
module _ (symbols : List Symbol) (U : List Binding → Type 0) (D : Type 0) (one : (made also : List Binding) → U made → U also → made ≡ also) where
  module _ (s t u : Tables) (e : Extends s t) (ids : List FormId) (has : HasForms s ids) (all given : List Code) (g : given ≡ all)
      (made : List Binding) (unifies : U made) (a : IsAnswer t made all) where
    abbrev given_instances : List Raw
    given_instances = instances symbols (forms_of t ids) (map (binding_of t) given)

    answered_here : given_instances ≡ instances symbols (forms_of s ids) (in_order made)
    answered_here = ap (λ bs. instances symbols (forms_of t ids) (map (binding_of t) bs)) g ∙ answered symbols s t e ids has made all a

    bounded_here : (also : List Binding) → U also → AreBounded also
    bounded_here also v = subst AreBounded (one made also unifies v) a.bounded

    instances_here : InstancesOf symbols (forms_of s ids) U D given_instances
    instances_here = subst (InstancesOf symbols (forms_of s ids) U D) (sym answered_here) (InstancesOf.unified made unifies)

    pub offers_answer : (r : Result (List RawOffer) OfferFault) → IfOk r (AreRaws u given_instances) → OnOk r (deepest given_instances ≤ 2000)
        → IfOk r (λ rs. (os : List Raw) × InstancesOf symbols (forms_of s ids) U D os × (deepest os ≤ 2000) × AreRaws u os rs)
    offers_answer (Ok rs) h k = (given_instances, instances_here, k, h)
    offers_answer (Err f) h k = tt

    pub bounded_answer : (r : Result (List RawOffer) OfferFault) → OnOk r ((also : List Binding) → U also → AreBounded also)
    bounded_answer (Ok rs) = bounded_here
    bounded_answer (Err f) = tt

    pub deep_answer : (r : Result (List RawOffer) OfferFault) → IfErr r (IfDeepAt (NamesInstance u given_instances))
        → IfErr r (IfDeepAt (IsRefused u (AreRefused symbols (forms_of s ids) U D)))
    deep_answer (Ok rs) h = tt
    deep_answer (Err f) h = deep_instance symbols (forms_of s ids) U D u given_instances bounded_here instances_here f h

-- what holds of an answer that is there, and of one that isn't
pub some_of : {X : Type 0} (P : X → Type 0) (o : Option X) (x : X) → o ≡ Some x → IfSome o P → P x
some_of P o x e h = subst (λ y. IfSome y P) e h

pub none_of : {X : Type 0} (P : Type 0) (o : Option X) → o ≡ None → IfNone o P → P
none_of P o e h = subst (λ y. IfNone y P) e h
