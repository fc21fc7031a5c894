-- A derivation derives: by recursion on the tree, one clause a rule.
use Rattle.std.proofs.Common.{List, [], ◌∷◌, ◌++◌, subst, append-nil}
use Rattle.std.specs.Prelude.{Option}
use Rattle.zm_logic.specs.Tree.{Form, Rule, Symbol, Opening}
use Rattle.zm_logic.specs.Calculus.{Derives, DerivesEach}
use Rattle.sequent_proof.specs.Rules.{RuleName, Applies, each_alone}
use Rattle.sequent_proof.specs.Tree.{DTree, DTrees, added, IsDerivation, AreAbove}
use Rattle.sequent_proof.specs.Laws as laws

module _ (symbols : List Symbol) (rules : List Rule) where
  -- each upper sequent has a derivation
  abbrev AllDerive : List Form → List (List Form) → Type 0
  AllDerive gamma [] = Unit {0}
  AllDerive gamma (fs ∷ upper) = Derives symbols rules (fs ++ gamma) × AllDerive gamma upper

  each_alone_derives : (gamma fs : List Form) → AllDerive gamma (each_alone fs) → DerivesEach symbols rules gamma fs
  each_alone_derives gamma [] d = DerivesEach.none
  each_alone_derives gamma (f ∷ fs) d = DerivesEach.more d.0 (each_alone_derives gamma fs d.1)

  by_rule : (gamma : List Form) (name : RuleName) (first : Form) (second : Option Form) (part : Option Opening) (upper : List (List Form))
      → Applies symbols rules gamma name first second part upper → AllDerive gamma upper → Derives symbols rules gamma
  by_rule gamma _ _ _ _ _ (Applies.falsity c) d = Derives.falsity c
  by_rule gamma _ _ _ _ _ (Applies.not_truth c) d = Derives.not_truth c
  by_rule gamma _ _ _ _ _ (Applies.closes a c e) d = Derives.closes a c e
  by_rule gamma _ _ _ _ _ (Applies.reflexive t a c) d = Derives.reflexive t a c
  by_rule gamma _ _ _ _ _ (Applies.symmetric t a b c e) d = Derives.symmetric t a b c e
  by_rule gamma _ _ _ _ _ (Applies.not_not a c) d = Derives.not_not a c d.0
  by_rule gamma _ _ _ _ _ (Applies.conjunction a b c) d = Derives.conjunction a b c d.0
  by_rule gamma _ _ _ _ _ (Applies.not_or a b c) d = Derives.not_or a b c d.0
  by_rule gamma _ _ _ _ _ (Applies.not_implies a b c) d = Derives.not_implies a b c d.0
  by_rule gamma _ _ _ _ _ (Applies.disjunction a b c) d = Derives.disjunction a b c d.0 d.1.0
  by_rule gamma _ _ _ _ _ (Applies.not_and a b c) d = Derives.not_and a b c d.0 d.1.0
  by_rule gamma _ _ _ _ _ (Applies.implication a b c) d = Derives.implication a b c d.0 d.1.0
  by_rule gamma _ _ _ _ _ (Applies.equivalence a b c) d = Derives.equivalence a b c d.0 d.1.0
  by_rule gamma _ _ _ _ _ (Applies.not_iff a b c) d = Derives.not_iff a b c d.0 d.1.0
  by_rule gamma _ _ _ _ _ (Applies.existential t f n c fresh) d = Derives.existential t f n c fresh d.0
  by_rule gamma _ _ _ _ _ (Applies.not_for_all t f n c fresh) d = Derives.not_for_all t f n c fresh d.0
  by_rule gamma _ _ _ _ _ (Applies.existential_types f n c fresh) d = Derives.existential_types f n c fresh d.0
  by_rule gamma _ _ _ _ _ (Applies.not_for_all_types f n c fresh) d = Derives.not_for_all_types f n c fresh d.0
  by_rule gamma _ _ _ _ _ (Applies.universal t f u c typed) d = Derives.universal t f u c typed d.0
  by_rule gamma _ _ _ _ _ (Applies.not_exists t f u c typed) d = Derives.not_exists t f u c typed d.0
  by_rule gamma _ _ _ _ _ (Applies.universal_types f t c typed) d = Derives.universal_types f t c typed d.0
  by_rule gamma _ _ _ _ _ (Applies.not_exists_types f t c typed) d = Derives.not_exists_types f t c typed d.0
  by_rule gamma _ _ _ _ _ (Applies.equal_arguments p s ts us vs is typed_us typed_vs c e) d =
      Derives.equal_arguments p s ts us vs is typed_us typed_vs c e (each_alone_derives gamma _ d)
  by_rule gamma _ _ _ _ _ (Applies.equal_values t f s ts us vs is typed_us typed_vs c) d =
      Derives.equal_values t f s ts us vs is typed_us typed_vs c (each_alone_derives gamma _ d)
  by_rule gamma _ _ _ _ _ (Applies.transitive_first t a b c e h k) d = Derives.transitive_first t a b c e h k d.0 d.1.0
  by_rule gamma _ _ _ _ _ (Applies.transitive_second t a b c e h k) d = Derives.transitive_second t a b c e h k d.0 d.1.0
  by_rule gamma _ _ _ _ _ (Applies.conversion f g n c steps congruent) d = Derives.conversion f g c congruent d.0

  mutual
    derives : (below : List Form) (t : DTree) → IsDerivation symbols rules below t → Derives symbols rules (added t ++ below)
    derives below (DTree.node g name a b part ts) (typed, (upper, applies, above)) =
        by_rule (g ++ below) name a b part upper applies (all_derive (g ++ below) upper ts above)

    all_derive : (gamma : List Form) (upper : List (List Form)) (ts : DTrees) → AreAbove symbols rules gamma upper ts → AllDerive gamma upper
    all_derive gamma [] DTrees.none above = tt
    all_derive gamma [] (DTrees.more t ts) above = absurd above
    all_derive gamma (fs ∷ upper) DTrees.none above = absurd above
    all_derive gamma (fs ∷ upper) (DTrees.more t ts) (is, d, above) =
        (subst (λ (hs : List Form). Derives symbols rules (hs ++ gamma)) is (derives gamma t d), all_derive gamma upper ts above)

pub derivations_derive : laws.DerivationsDerive
derivations_derive symbols rules t d =
    subst (λ (gamma : List Form). Derives symbols rules gamma) (append-nil (added t)) (derives symbols rules [] t d)
