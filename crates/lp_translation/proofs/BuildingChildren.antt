-- The terms of a node's children, one child after the other.
use Rattle.std.proofs.Common.{ℕ, zero, suc, ◌≡◌, ◌+◌, ◌<◌, ◌≤◌, List, [], ◌∷◌, ◌++◌, length, map, drop, get_or, refl, ap, sym, ◌∙◌, subst, arith, append_assoc}
use Rattle.std.specs.Option.{option_map}
use Rattle.std.proofs.Math.Numerals.{add-one}
use Rattle.std.proofs.lemmas.List.{drop_more, length-map, map-append}
use Rattle.lp_terms.specs.Term.{Lp}
use Rattle.lp_terms.specs.declared.term.Lp as term
use Rattle.lp_terms.specs.View.{term_of, terms_of}
use Rattle.zm_logic.specs.Tree.{Symbol}
use Rattle.zm_logic.specs.View.{form_tree}
use Rattle.lp_signature.specs.Translation.{Scope}
use Rattle.sequent_proof.specs.Rules.{RuleName}
use Rattle.sequent_proof.specs.Tree.{DTree, DTrees, added, depth, depth_all}
use Rattle.sequent_proof.specs.View.{name_of, part_of, tree_of, trees_of}
use Rattle.sequent_proof.specs.declared.tree.DTree as code
use Rattle.lp_translation.specs.ProofOf.{Hypotheses, as_bound, bound_by}
use Rattle.lp_translation.specs.View.{plain_proof}
use Rattle.lp_translation.specs.ViewNode.{node_tree}
use Rattle.lp_translation.specs.declared.node.Node.{Node}
use Rattle.lp_translation.specs.ViewDerivation.{IsPart, ArePart, IsNode, least_children, tree_count, plain_proofs}
use Rattle.lp_translation.proofs.BuildingNodes.{part_node, first_child, node_least}

-- a term for each child
proofs_count : (ss : List Symbol) (name : RuleName) (k d : ℕ) (s : Scope) (hs : Hypotheses) (ts : DTrees)
    → length (plain_proofs ss name k d s hs ts) ≡ tree_count ts
proofs_count ss name k d s hs DTrees.none = refl
proofs_count ss name k d s hs (DTrees.more t ts) = ap suc (proofs_count ss name (suc k) d s hs ts)

pub trees_count : (xs : List code.DTree) → tree_count (trees_of xs) ≡ length xs
trees_count [] = refl
trees_count (x ∷ xs) = ap suc (trees_count xs)

pub children_count : (ss : List Symbol) (name : RuleName) (k d : ℕ) (s : Scope) (hs : Hypotheses) (rs : List term.Lp) (xs : List code.DTree)
    → terms_of rs ≡ plain_proofs ss name k d s hs (trees_of xs) → length rs ≡ length xs
children_count ss name k d s hs rs xs e =
    sym (length-map rs term_of) ∙ ap length e ∙ proofs_count ss name k d s hs (trees_of xs) ∙ trees_count xs

-- the child at one place, and those after it
trees_more : (xs : List code.DTree) (i : ℕ) (x : code.DTree) → i < length xs → x ≡ get_or xs i x
    → trees_of (drop i xs) ≡ DTrees.more (tree_of x) (trees_of (drop (i + 1) xs))
trees_more xs i x l e =
    ap trees_of (drop_more xs i x l) ∙ ap (λ (y : code.DTree). DTrees.more (tree_of y) (trees_of (drop (i + 1) xs))) (sym e)

pub child_part : (ss : List Symbol) (xs : List code.DTree) (i : ℕ) (x : code.DTree) → i < length xs → x ≡ get_or xs i x
    → ArePart ss (trees_of (drop i xs)) → IsPart ss (tree_of x) × ArePart ss (trees_of (drop (i + 1) xs))
child_part ss xs i x l e p = first_child ss (tree_of x) (trees_of (drop (i + 1) xs)) (subst (ArePart ss) (trees_more xs i x l e) p)

-- no child is deeper than all
pub child_depth : (xs : List code.DTree) (i : ℕ) (x : code.DTree) → i < length xs → x ≡ get_or xs i x → depth (tree_of x) ≤ depth_all (trees_of xs)
child_depth [] i x l e = absurd (omega (arith, l))
child_depth (y ∷ xs) zero x l e = let k = ap (λ (z : code.DTree). depth (tree_of z)) e in omega (arith, k)
child_depth (y ∷ xs) (suc i) x l e = let k = child_depth xs i x (omega (arith, l)) e in omega (arith, k)

-- one child more
pub child_more : (ss : List Symbol) (name : RuleName) (d : ℕ) (s : Scope) (hs : Hypotheses) (xs : List code.DTree) (i : ℕ) (x : code.DTree)
    (rs us : List term.Lp) (r : term.Lp) (all : List Lp) → i < length xs → x ≡ get_or xs i x → us ≡ rs ++ r ∷ []
    → term_of r ≡ plain_proof ss (length (added (tree_of x)) + d) s (bound_by d (as_bound name i (added (tree_of x))) hs) (tree_of x)
    → terms_of rs ++ plain_proofs ss name i d s hs (trees_of (drop i xs)) ≡ all
    → terms_of us ++ plain_proofs ss name (i + 1) d s hs (trees_of (drop (i + 1) xs)) ≡ all
child_more ss name d s hs xs i x rs us r all l e pushed value so_far =
    let rest = plain_proofs ss name (suc i) d s hs (trees_of (drop (i + 1) xs)) in
    ap (λ (n : ℕ). terms_of us ++ plain_proofs ss name n d s hs (trees_of (drop (i + 1) xs))) (add-one i)
    ∙ ap (λ (ys : List term.Lp). terms_of ys ++ rest) pushed
    ∙ ap (λ (ys : List Lp). ys ++ rest) (map-append term_of rs (r ∷ []))
    ∙ append_assoc (terms_of rs) (term_of r ∷ []) rest
    ∙ ap (λ (t : Lp). terms_of rs ++ t ∷ rest) value
    ∙ sym (ap (λ (ts : DTrees). terms_of rs ++ plain_proofs ss name i d s hs ts) (trees_more xs i x l e))
    ∙ so_far

-- the rule of the node at the root of a derivation, and as many terms as it needs
pub node_at : (ss : List Symbol) (n : Node) (t : DTree) → node_tree n ≡ t → IsPart ss t
    → IsNode ss (name_of n.name) (form_tree n.first.now) (option_map form_tree n.second.now) (option_map part_of n.with.now) (trees_of n.children.now)
node_at ss n t e p =
    part_node ss (map form_tree n.added.now) (name_of n.name) (form_tree n.first.now) (option_map form_tree n.second.now)
    (option_map part_of n.with.now) (trees_of n.children.now) (subst (IsPart ss) (sym e) p)

pub enough_at : (ss : List Symbol) (n : Node) (t : DTree) (rs : List term.Lp) → node_tree n ≡ t → IsPart ss t → length rs ≡ length n.children.now
    → least_children (name_of n.name) ≤ length rs
enough_at ss n t rs e p k =
    let least = node_least ss (name_of n.name) (form_tree n.first.now) (option_map form_tree n.second.now) (option_map part_of n.with.now)
    (trees_of n.children.now) (node_at ss n t e p) in
    let count = trees_count n.children.now in
    omega (arith, least, count, k)
