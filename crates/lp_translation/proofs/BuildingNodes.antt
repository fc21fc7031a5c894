-- What a node of a derivation has, and its term.
use Rattle.std.proofs.Common.{ℕ, suc, ◌≡◌, ◌<◌, ◌≤◌, List, [], ◌∷◌, ◌++◌, length, refl, ap, sym, subst, arith}
use Rattle.std.specs.Prelude.{Option, Some, None}
use Rattle.zm_logic.specs.Tree.{Form, Rule, Symbol, Opening}
use Rattle.lp_signature.specs.Translation.{Scope}
use Rattle.sequent_proof.specs.Rules.{RuleName, Applies}
use Rattle.sequent_proof.specs.Tree.{DTree, DTrees, depth, AreAbove}
use Rattle.lp_translation.specs.ProofOf.{Hypotheses, also}
use Rattle.lp_translation.specs.View.{plain_proof}
use Rattle.lp_translation.specs.ViewDerivation.{IsPart, ArePart, IsNode, IsPlain, Converts, least_children, tree_count, node_term}

-- the term of a node that is no conversion
pub plain_is : (ss : List Symbol) (d : ℕ) (s : Scope) (hs : Hypotheses) (t : DTree) → IsPlain t → node_term ss d s hs t ≡ plain_proof ss d s hs t
plain_is ss d s hs (DTree.node g RuleName.falsity a b w ts) i = refl
plain_is ss d s hs (DTree.node g RuleName.not_truth a b w ts) i = refl
plain_is ss d s hs (DTree.node g RuleName.closes a b w ts) i = refl
plain_is ss d s hs (DTree.node g RuleName.reflexive a b w ts) i = refl
plain_is ss d s hs (DTree.node g RuleName.symmetric a b w ts) i = refl
plain_is ss d s hs (DTree.node g RuleName.not_not a b w ts) i = refl
plain_is ss d s hs (DTree.node g RuleName.conjunction a b w ts) i = refl
plain_is ss d s hs (DTree.node g RuleName.not_or a b w ts) i = refl
plain_is ss d s hs (DTree.node g RuleName.not_implies a b w ts) i = refl
plain_is ss d s hs (DTree.node g RuleName.disjunction a b w ts) i = refl
plain_is ss d s hs (DTree.node g RuleName.not_and a b w ts) i = refl
plain_is ss d s hs (DTree.node g RuleName.implication a b w ts) i = refl
plain_is ss d s hs (DTree.node g RuleName.equivalence a b w ts) i = refl
plain_is ss d s hs (DTree.node g RuleName.not_iff a b w ts) i = refl
plain_is ss d s hs (DTree.node g RuleName.existential a b w ts) i = refl
plain_is ss d s hs (DTree.node g RuleName.not_for_all a b w ts) i = refl
plain_is ss d s hs (DTree.node g RuleName.universal a b w ts) i = refl
plain_is ss d s hs (DTree.node g RuleName.not_exists a b w ts) i = refl
plain_is ss d s hs (DTree.node g RuleName.equal_arguments a b w ts) i = refl
plain_is ss d s hs (DTree.node g RuleName.equal_values a b w ts) i = refl
plain_is ss d s hs (DTree.node g RuleName.transitive_first a b w ts) i = refl
plain_is ss d s hs (DTree.node g RuleName.transitive_second a b w ts) i = refl
plain_is ss d s hs (DTree.node g RuleName.conversion a None w ts) i = refl
plain_is ss d s hs (DTree.node g RuleName.conversion a (Some b) w DTrees.none) i = refl
plain_is ss d s hs (DTree.node g RuleName.conversion a (Some b) w (DTrees.more t ts)) i = absurd i

-- a conversion
pub converted_is : (ss : List Symbol) (d : ℕ) (s : Scope) (hs : Hypotheses) (t : DTree) (f g : Form) (c : DTree) → Converts t f g c
    → plain_proof ss d s (also f g hs) c ≡ plain_proof ss d s hs t
converted_is ss d s hs t f g c (fs, (w, (ts, e))) = sym (ap (plain_proof ss d s hs) e)

pub converted_below : (t : DTree) (f g : Form) (c : DTree) → Converts t f g c → depth c < depth t
converted_below t f g c (fs, (w, (ts, e))) = let k = ap depth e in omega (arith, k)

pub converted_part : (ss : List Symbol) (t : DTree) (f g : Form) (c : DTree) → Converts t f g c → IsPart ss t → IsPart ss c
converted_part ss t f g c (fs, (w, (ts, e))) p = first_part (subst (IsPart ss) e p)
  where
    go : (rules : List Rule) (gamma : List Form) (upper : List (List Form)) → AreAbove ss rules gamma upper (DTrees.more c ts) → IsPart ss c
    go rules gamma [] a = absurd a
    go rules gamma (us ∷ upper) a = (rules, (gamma, a.1))

    first_part : IsPart ss (DTree.node fs RuleName.conversion f (Some g) w (DTrees.more c ts)) → IsPart ss c
    first_part (rules, (below, (typed, (upper, applies, above)))) = go rules (fs ++ below) upper above

-- the rule of a node, and its children
pub part_node : (ss : List Symbol) (g : List Form) (name : RuleName) (a : Form) (b : Option Form) (w : Option Opening) (ts : DTrees)
    → IsPart ss (DTree.node g name a b w ts) → IsNode ss name a b w ts
part_node ss g name a b w ts (rules, (below, (typed, (upper, applies, above)))) = (rules, (g ++ below, (upper, (applies, above))))

pub node_children : (ss : List Symbol) (name : RuleName) (a : Form) (b : Option Form) (w : Option Opening) (ts : DTrees)
    → IsNode ss name a b w ts → ArePart ss ts
node_children ss name a b w ts (rules, (gamma, (upper, (applies, above)))) = (rules, (gamma, (upper, above)))

pub first_child : (ss : List Symbol) (t : DTree) (ts : DTrees) → ArePart ss (DTrees.more t ts) → IsPart ss t × ArePart ss ts
first_child ss t ts (rules, (gamma, ([], above))) = absurd above
first_child ss t ts (rules, (gamma, (fs ∷ upper, above))) = ((rules, (gamma, above.1)), (rules, (gamma, (upper, above.2))))

-- as many children as upper sequents
pub above_count : (ss : List Symbol) (rules : List Rule) (gamma : List Form) (upper : List (List Form)) (ts : DTrees)
    → AreAbove ss rules gamma upper ts → tree_count ts ≡ length upper
above_count ss rules gamma [] DTrees.none h = refl
above_count ss rules gamma [] (DTrees.more t ts) h = absurd h
above_count ss rules gamma (fs ∷ upper) DTrees.none h = absurd h
above_count ss rules gamma (fs ∷ upper) (DTrees.more t ts) h = ap suc (above_count ss rules gamma upper ts h.2)

applies_least : (ss : List Symbol) (rules : List Rule) (gamma : List Form) (name : RuleName) (a : Form) (b : Option Form) (w : Option Opening)
    (upper : List (List Form)) → Applies ss rules gamma name a b w upper → least_children name ≤ length upper
applies_least ss rules gamma _ _ _ _ _ (Applies.falsity c) = omega arith
applies_least ss rules gamma _ _ _ _ _ (Applies.not_truth c) = omega arith
applies_least ss rules gamma _ _ _ _ _ (Applies.closes a c e) = omega arith
applies_least ss rules gamma _ _ _ _ _ (Applies.reflexive t a c) = omega arith
applies_least ss rules gamma _ _ _ _ _ (Applies.symmetric t a b c e) = omega arith
applies_least ss rules gamma _ _ _ _ _ (Applies.not_not a c) = omega arith
applies_least ss rules gamma _ _ _ _ _ (Applies.conjunction a b c) = omega arith
applies_least ss rules gamma _ _ _ _ _ (Applies.not_or a b c) = omega arith
applies_least ss rules gamma _ _ _ _ _ (Applies.not_implies a b c) = omega arith
applies_least ss rules gamma _ _ _ _ _ (Applies.disjunction a b c) = omega arith
applies_least ss rules gamma _ _ _ _ _ (Applies.not_and a b c) = omega arith
applies_least ss rules gamma _ _ _ _ _ (Applies.implication a b c) = omega arith
applies_least ss rules gamma _ _ _ _ _ (Applies.equivalence a b c) = omega arith
applies_least ss rules gamma _ _ _ _ _ (Applies.not_iff a b c) = omega arith
applies_least ss rules gamma _ _ _ _ _ (Applies.existential t f n c fresh) = omega arith
applies_least ss rules gamma _ _ _ _ _ (Applies.not_for_all t f n c fresh) = omega arith
applies_least ss rules gamma _ _ _ _ _ (Applies.existential_types f n c fresh) = omega arith
applies_least ss rules gamma _ _ _ _ _ (Applies.not_for_all_types f n c fresh) = omega arith
applies_least ss rules gamma _ _ _ _ _ (Applies.universal t f u c typed) = omega arith
applies_least ss rules gamma _ _ _ _ _ (Applies.not_exists t f u c typed) = omega arith
applies_least ss rules gamma _ _ _ _ _ (Applies.universal_types f t c typed) = omega arith
applies_least ss rules gamma _ _ _ _ _ (Applies.not_exists_types f t c typed) = omega arith
applies_least ss rules gamma _ _ _ _ _ (Applies.equal_arguments p s ts us vs is typed_us typed_vs c e) = omega arith
applies_least ss rules gamma _ _ _ _ _ (Applies.equal_values t f s ts us vs is typed_us typed_vs c) = omega arith
applies_least ss rules gamma _ _ _ _ _ (Applies.transitive_first t a b c e h k) = omega arith
applies_least ss rules gamma _ _ _ _ _ (Applies.transitive_second t a b c e h k) = omega arith
applies_least ss rules gamma _ _ _ _ _ (Applies.conversion f g n c steps congruent) = omega arith

pub node_least : (ss : List Symbol) (name : RuleName) (a : Form) (b : Option Form) (w : Option Opening) (ts : DTrees)
    → IsNode ss name a b w ts → least_children name ≤ tree_count ts
node_least ss name a b w ts (rules, (gamma, (upper, (applies, above)))) =
    let count = above_count ss rules gamma upper ts above in
    let least = applies_least ss rules gamma name a b w upper applies in
    omega (arith, count, least)
