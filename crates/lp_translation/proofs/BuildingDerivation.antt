-- The term of a derivation, node by node.
use Rattle.std.proofs.Common.{ℕ, ◌≡◌, ◌+◌, true, false, List, [], ◌∷◌, ◌++◌, refl, ap, ◌∙◌, add-one}
use Rattle.std.specs.Prelude.{Option, Some, None}
use Rattle.zm_logic.specs.Tree.{Ty, Term, Form, Opening}
use Rattle.lp_signature.specs.declared.scope.Bound.{Bound}
use Rattle.lp_signature.specs.Translation.{Scope}
use Rattle.lp_signature.specs.View.{bound_in, all_bound_in, scope_tree}
use Rattle.sequent_proof.specs.Rules.{RuleName}
use Rattle.lp_translation.specs.ProofOf.{entered, as_bound}
use Rattle.lp_translation.specs.ViewDerivation.{is_not_iff, turned, brings_parameter, with_parameter}

all_push : (s : Scope) (bs : List Bound) (b : Bound) → all_bound_in s (bs ++ b ∷ []) ≡ bound_in (all_bound_in s bs) b
all_push s [] b = refl
all_push s (x ∷ xs) b = all_push (bound_in s x) xs b

-- one parameter more
pub scope_push : (bs : List Bound) (b : Bound) → scope_tree (bs ++ b ∷ []) ≡ bound_in (scope_tree bs) b
scope_push bs b = all_push Scope.none bs b

pub scope_pushed : (bs cs : List Bound) (b : Bound) → cs ≡ bs ++ b ∷ [] → scope_tree cs ≡ bound_in (scope_tree bs) b
scope_pushed bs cs b e = ap scope_tree e ∙ scope_push bs b

-- a rule that brings a parameter enters it, and any other one nothing
pub enters : (name : RuleName) (w : Option Opening) (d : ℕ) (s : Scope) → brings_parameter name ≡ true → with_parameter w d s ≡ entered name w d s
enters RuleName.falsity w d s e = absurd (cc)
enters RuleName.not_truth w d s e = absurd (cc)
enters RuleName.closes w d s e = absurd (cc)
enters RuleName.reflexive w d s e = absurd (cc)
enters RuleName.symmetric w d s e = absurd (cc)
enters RuleName.not_not w d s e = absurd (cc)
enters RuleName.conjunction w d s e = absurd (cc)
enters RuleName.not_or w d s e = absurd (cc)
enters RuleName.not_implies w d s e = absurd (cc)
enters RuleName.disjunction w d s e = absurd (cc)
enters RuleName.not_and w d s e = absurd (cc)
enters RuleName.implication w d s e = absurd (cc)
enters RuleName.equivalence w d s e = absurd (cc)
enters RuleName.not_iff w d s e = absurd (cc)
enters RuleName.existential None d s e = refl
enters RuleName.existential (Some (Opening.of_term (Term.bound i))) d s e = refl
enters RuleName.existential (Some (Opening.of_term (Term.eps n t))) d s e = refl
enters RuleName.existential (Some (Opening.of_term (Term.meta n t))) d s e = refl
enters RuleName.existential (Some (Opening.of_term (Term.app f ts us))) d s e = refl
enters RuleName.existential (Some (Opening.of_type (Ty.bound i))) d s e = refl
enters RuleName.existential (Some (Opening.of_type (Ty.param n))) d s e = refl
enters RuleName.existential (Some (Opening.of_type (Ty.meta n))) d s e = refl
enters RuleName.existential (Some (Opening.of_type (Ty.con c ts))) d s e = refl
enters RuleName.not_for_all None d s e = refl
enters RuleName.not_for_all (Some (Opening.of_term (Term.bound i))) d s e = refl
enters RuleName.not_for_all (Some (Opening.of_term (Term.eps n t))) d s e = refl
enters RuleName.not_for_all (Some (Opening.of_term (Term.meta n t))) d s e = refl
enters RuleName.not_for_all (Some (Opening.of_term (Term.app f ts us))) d s e = refl
enters RuleName.not_for_all (Some (Opening.of_type (Ty.bound i))) d s e = refl
enters RuleName.not_for_all (Some (Opening.of_type (Ty.param n))) d s e = refl
enters RuleName.not_for_all (Some (Opening.of_type (Ty.meta n))) d s e = refl
enters RuleName.not_for_all (Some (Opening.of_type (Ty.con c ts))) d s e = refl
enters RuleName.universal w d s e = absurd (cc)
enters RuleName.not_exists w d s e = absurd (cc)
enters RuleName.equal_arguments w d s e = absurd (cc)
enters RuleName.equal_values w d s e = absurd (cc)
enters RuleName.transitive_first w d s e = absurd (cc)
enters RuleName.transitive_second w d s e = absurd (cc)
enters RuleName.conversion w d s e = absurd (cc)

pub enters_nothing : (name : RuleName) (w : Option Opening) (d : ℕ) (s : Scope) → brings_parameter name ≡ false → s ≡ entered name w d s
enters_nothing RuleName.falsity w d s e = refl
enters_nothing RuleName.not_truth w d s e = refl
enters_nothing RuleName.closes w d s e = refl
enters_nothing RuleName.reflexive w d s e = refl
enters_nothing RuleName.symmetric w d s e = refl
enters_nothing RuleName.not_not w d s e = refl
enters_nothing RuleName.conjunction w d s e = refl
enters_nothing RuleName.not_or w d s e = refl
enters_nothing RuleName.not_implies w d s e = refl
enters_nothing RuleName.disjunction w d s e = refl
enters_nothing RuleName.not_and w d s e = refl
enters_nothing RuleName.implication w d s e = refl
enters_nothing RuleName.equivalence w d s e = refl
enters_nothing RuleName.not_iff w d s e = refl
enters_nothing RuleName.existential w d s e = absurd (cc)
enters_nothing RuleName.not_for_all w d s e = absurd (cc)
enters_nothing RuleName.universal w d s e = refl
enters_nothing RuleName.not_exists w d s e = refl
enters_nothing RuleName.equal_arguments w d s e = refl
enters_nothing RuleName.equal_values w d s e = refl
enters_nothing RuleName.transitive_first w d s e = refl
enters_nothing RuleName.transitive_second w d s e = refl
enters_nothing RuleName.conversion w d s e = refl

-- only a negated equivalence turns what its second child adds
pub turns : (name : RuleName) (k : ℕ) (fs : List Form) → is_not_iff name ≡ true → turned (k + 1) fs ≡ as_bound name (k + 1) fs
turns RuleName.falsity k fs e = absurd (cc)
turns RuleName.not_truth k fs e = absurd (cc)
turns RuleName.closes k fs e = absurd (cc)
turns RuleName.reflexive k fs e = absurd (cc)
turns RuleName.symmetric k fs e = absurd (cc)
turns RuleName.not_not k fs e = absurd (cc)
turns RuleName.conjunction k fs e = absurd (cc)
turns RuleName.not_or k fs e = absurd (cc)
turns RuleName.not_implies k fs e = absurd (cc)
turns RuleName.disjunction k fs e = absurd (cc)
turns RuleName.not_and k fs e = absurd (cc)
turns RuleName.implication k fs e = absurd (cc)
turns RuleName.equivalence k fs e = absurd (cc)
turns RuleName.not_iff k [] e = rw add-one
turns RuleName.not_iff k (f ∷ []) e = rw add-one
turns RuleName.not_iff k (f ∷ g ∷ []) e = rw add-one
turns RuleName.not_iff k (f ∷ g ∷ h ∷ fs) e = rw add-one
turns RuleName.existential k fs e = absurd (cc)
turns RuleName.not_for_all k fs e = absurd (cc)
turns RuleName.universal k fs e = absurd (cc)
turns RuleName.not_exists k fs e = absurd (cc)
turns RuleName.equal_arguments k fs e = absurd (cc)
turns RuleName.equal_values k fs e = absurd (cc)
turns RuleName.transitive_first k fs e = absurd (cc)
turns RuleName.transitive_second k fs e = absurd (cc)
turns RuleName.conversion k fs e = absurd (cc)

pub turns_not : (name : RuleName) (k : ℕ) (fs : List Form) → is_not_iff name ≡ false → fs ≡ as_bound name k fs
turns_not RuleName.falsity k fs e = refl
turns_not RuleName.not_truth k fs e = refl
turns_not RuleName.closes k fs e = refl
turns_not RuleName.reflexive k fs e = refl
turns_not RuleName.symmetric k fs e = refl
turns_not RuleName.not_not k fs e = refl
turns_not RuleName.conjunction k fs e = refl
turns_not RuleName.not_or k fs e = refl
turns_not RuleName.not_implies k fs e = refl
turns_not RuleName.disjunction k fs e = refl
turns_not RuleName.not_and k fs e = refl
turns_not RuleName.implication k fs e = refl
turns_not RuleName.equivalence k fs e = refl
turns_not RuleName.not_iff k fs e = absurd (cc)
turns_not RuleName.existential k fs e = refl
turns_not RuleName.not_for_all k fs e = refl
turns_not RuleName.universal k fs e = refl
turns_not RuleName.not_exists k fs e = refl
turns_not RuleName.equal_arguments k fs e = refl
turns_not RuleName.equal_values k fs e = refl
turns_not RuleName.transitive_first k fs e = refl
turns_not RuleName.transitive_second k fs e = refl
turns_not RuleName.conversion k fs e = refl

-- the first child's formulas stand in order
pub turns_first : (name : RuleName) (fs : List Form) → fs ≡ as_bound name 0 fs
turns_first RuleName.falsity fs = refl
turns_first RuleName.not_truth fs = refl
turns_first RuleName.closes fs = refl
turns_first RuleName.reflexive fs = refl
turns_first RuleName.symmetric fs = refl
turns_first RuleName.not_not fs = refl
turns_first RuleName.conjunction fs = refl
turns_first RuleName.not_or fs = refl
turns_first RuleName.not_implies fs = refl
turns_first RuleName.disjunction fs = refl
turns_first RuleName.not_and fs = refl
turns_first RuleName.implication fs = refl
turns_first RuleName.equivalence fs = refl
turns_first RuleName.not_iff fs = refl
turns_first RuleName.existential fs = refl
turns_first RuleName.not_for_all fs = refl
turns_first RuleName.universal fs = refl
turns_first RuleName.not_exists fs = refl
turns_first RuleName.equal_arguments fs = refl
turns_first RuleName.equal_values fs = refl
turns_first RuleName.transitive_first fs = refl
turns_first RuleName.transitive_second fs = refl
turns_first RuleName.conversion fs = refl
