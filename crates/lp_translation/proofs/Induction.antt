-- The proof term of every derivation is a contradiction.
use Rattle.std.proofs.Common.{ℕ, suc, List, [], ◌∷◌, ◌++◌, All, Contains, Option, None, Some, subst}
use Rattle.lp_terms.specs.Signature.{Entry}
use Rattle.lp_terms.specs.Reduction.{Converts}
use Rattle.zm_logic.specs.Tree.{Form, Rule, Symbol, Opening}
use Rattle.zm_logic.specs.Typing.{WellTyped}
use Rattle.zm_logic.specs.Innermost.{Innermost}
use Rattle.zm_logic.specs.Rewriting.{Congruent}
use Rattle.zm_logic.proofs.Sames.{Contains-here}
use Rattle.lp_signature.specs.Translation.{Scope, form_of}
use Rattle.lp_signature.specs.Scoped.{CarriesTypes}
use Rattle.sequent_proof.specs.Rules.{RuleName, Applies}
use Rattle.sequent_proof.specs.Tree.{DTree, DTrees, added, IsDerivation, AreAbove}
use Rattle.lp_translation.specs.ProofOf.{also}
use Rattle.lp_translation.proofs.Writings.{HasClosedTypes, Setting}
use Rattle.lp_translation.proofs.Branches.{each_of, know_too}
use Rattle.lp_translation.proofs.Children.{Refutes, RefuteEach}
use Rattle.lp_translation.proofs.PropositionalRules as logical
use Rattle.lp_translation.proofs.QuantifierRules as quantified
use Rattle.lp_translation.proofs.EqualityRules as equal

-- rules: congruent formulas convert, and a formula's normal form carries closed types where the formula does
pub record Normals (sigma : List Entry) (ss : List Symbol) (rules : List Rule) : Type 0 where
  pub converts : (s : Scope) (f g : Form) → CarriesTypes ss s → Congruent ss rules f g
      → Converts sigma (form_of ss s f) (form_of ss s g)
  pub carried : (f g : Form) (n : ℕ) → WellTyped ss f → Innermost rules f n g → HasClosedTypes f → HasClosedTypes g

module _ (x : Setting) (rules : List Rule) (normals : Normals x.sigma x.ss rules) where
  -- a formula's normal form has the formula's proof
  conversion_refutes : {gamma : List Form} (g : List Form) {ts : DTrees} (f h : Form) (n : ℕ) → Contains gamma f
      → Innermost rules f (suc n) h
      → Congruent x.ss rules f h → RefuteEach x gamma ((h ∷ []) ∷ []) ts
      → Refutes x gamma (DTree.node g RuleName.conversion f (Some h) None ts)
  conversion_refutes {gamma} g f h n i steps congruent (RefuteEach.more {t = t} e w r RefuteEach.none) d c s hs b =
      let p : WellTyped x.ss h = each_of (WellTyped x.ss) (h ∷ gamma) w h (Contains-here h gamma) in
      r d c s (also f h hs)
      (know_too x f h i p (normals.carried f h (suc n) (b.forms f i) steps (b.carries f i))
      (normals.converts s f h b.fits.carried congruent) b)

  -- each rule's term is a contradiction where its children's are
  rule_refutes : {gamma : List Form}
      (g : List Form) {name : RuleName} {a : Form} {e : Option Form} {w : Option Opening} {upper : List
      (List Form)} {ts : DTrees}
      → Applies x.ss rules gamma name a e w upper → RefuteEach x gamma upper ts → Refutes x gamma
      (DTree.node g name a e w ts)
  rule_refutes g (Applies.falsity i) r = logical.falsity_refutes x g i r
  rule_refutes g (Applies.not_truth i) r = logical.not_truth_refutes x g i r
  rule_refutes g (Applies.closes f i j) r = logical.closes_refutes x g f i j r
  rule_refutes g (Applies.reflexive t u i) r = equal.reflexive_refutes x g t u i r
  rule_refutes g (Applies.symmetric t u v i j) r = equal.symmetric_refutes x g t u v i j r
  rule_refutes g (Applies.not_not f i) r = logical.not_not_refutes x g f i r
  rule_refutes g (Applies.conjunction f h i) r = logical.conjunction_refutes x g f h i r
  rule_refutes g (Applies.not_or f h i) r = logical.not_or_refutes x g f h i r
  rule_refutes g (Applies.not_implies f h i) r = logical.not_implies_refutes x g f h i r
  rule_refutes g (Applies.disjunction f h i) r = logical.disjunction_refutes x g f h i r
  rule_refutes g (Applies.not_and f h i) r = logical.not_and_refutes x g f h i r
  rule_refutes g (Applies.implication f h i) r = logical.implication_refutes x g f h i r
  rule_refutes g (Applies.equivalence f h i) r = logical.equivalence_refutes x g f h i r
  rule_refutes g (Applies.not_iff f h i) r = logical.not_iff_refutes x g f h i r
  rule_refutes g (Applies.existential t f n i fresh) r = quantified.existential_refutes x g t f n i fresh r
  rule_refutes g (Applies.not_for_all t f n i fresh) r = quantified.not_for_all_refutes x g t f n i fresh r
  rule_refutes g (Applies.existential_types f n i fresh) r = quantified.existential_types_refutes x g f n i fresh r
  rule_refutes g (Applies.not_for_all_types f n i fresh) r = quantified.not_for_all_types_refutes x g f n i fresh r
  rule_refutes g (Applies.universal t f u i h) r = quantified.universal_refutes x g t f u i h r
  rule_refutes g (Applies.not_exists t f u i h) r = quantified.not_exists_refutes x g t f u i h r
  rule_refutes g (Applies.universal_types f t i h) r = quantified.universal_types_refutes x g f t i h r
  rule_refutes g (Applies.not_exists_types f t i h) r = quantified.not_exists_types_refutes x g f t i h r
  rule_refutes g (Applies.equal_arguments p d zs us vs e hu hv i j) r =
      equal.equal_arguments_refutes x g p d zs us vs e hu hv i j r
  rule_refutes g (Applies.equal_values t p d zs us vs e hu hv i) r =
      equal.equal_values_refutes x g t p d zs us vs e hu hv i r
  rule_refutes g (Applies.transitive_first t a b u v i j) r = equal.transitive_first_refutes x g t a b u v i j r
  rule_refutes g (Applies.transitive_second t a b u v i j) r = equal.transitive_second_refutes x g t a b u v i j r
  rule_refutes g (Applies.conversion f h n i steps congruent) r = conversion_refutes g f h n i steps congruent r

  -- the sequent of a derivation's tree
  mutual
    pub derivation_refutes : (t : DTree) (below : List Form) → IsDerivation x.ss rules below t → Refutes x
        (added t ++ below) t
    derivation_refutes (DTree.node g name a b w ts) below h =
        rule_refutes g h.1.1 (children_refute ts (g ++ below) h.1.0 h.1.2)

    children_refute : (ts : DTrees) (gamma : List Form) (upper : List (List Form)) → AreAbove x.ss rules gamma upper ts
        → RefuteEach x gamma upper ts
    children_refute DTrees.none gamma [] h = RefuteEach.none
    children_refute DTrees.none gamma (fs ∷ upper) h = absurd h
    children_refute (DTrees.more t ts) gamma [] h = absurd h
    children_refute (DTrees.more t ts) gamma (fs ∷ upper) h =
        RefuteEach.more h.0 (subst (λ gs. All (WellTyped x.ss) (gs ++ gamma)) h.0 (sequent_typed t gamma h.1))
        (subst (λ gs. Refutes x (gs ++ gamma) t) h.0 (derivation_refutes t gamma h.1))
        (children_refute ts gamma upper h.2)

    sequent_typed : (t : DTree) (below : List Form) → IsDerivation x.ss rules below t → All (WellTyped x.ss)
        (added t ++ below)
    sequent_typed (DTree.node g name a b w ts) below h = h.0
