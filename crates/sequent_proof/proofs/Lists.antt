-- The text and the depth of the trees of a list, one after the other.
use Rattle.std.proofs.Common.{◌≡◌, ℕ, zero, suc, ◌+◌, ◌-◌, ◌<◌, ◌≤◌, List, [], ◌∷◌, ◌++◌, length, get_or, take, drop, map, refl, sym, ◌∙◌, ap, append-nil, append_assoc, arith}
use Rattle.std.specs.Prelude.{codes}
use Rattle.std.proofs.lemmas.List.{map_more, map-append, take-append-drop, take_all}
use Rattle.sequent_proof.specs.Tree as plain
use Rattle.sequent_proof.specs.Tree.{depth, depth_all}
use Rattle.sequent_proof.specs.Text.{indentation, line, lines, lines_of_all}
use Rattle.sequent_proof.specs.View.{children_of, tree_of, trees_of}
use Rattle.sequent_proof.specs.declared.tree.DTree.{DTree}

pub indentation_split : (n m : ℕ) → indentation (n + m) ≡ indentation n ++ indentation m
indentation_split zero m = let e : 0 + m ≡ m = omega arith in ap indentation e
indentation_split (suc n) m =
    let e : suc n + m ≡ suc (n + m) = omega arith in
    ap indentation e ∙ ap (λ w. codes "  " ++ w) (indentation_split n m)

-- the levels so far and the next one
pub indentation_more : (level : ℕ) → indentation (level + 1) ≡ indentation level ++ codes "  "
indentation_more level = indentation_split level 1

-- and all of the rest
pub indentation_and_rest : (n level : ℕ) → n < level → indentation level ≡ (indentation n ++ codes "  ") ++ indentation (level - (n + 1))
indentation_and_rest n level lt =
    let e : level ≡ (n + 1) + (level - (n + 1)) = omega (arith, lt) in
    ap indentation e ∙ indentation_split (n + 1) (level - (n + 1)) ∙ ap (λ w. w ++ indentation (level - (n + 1))) (indentation_more n)

-- a line in its pieces
pub line_pieces : (level : ℕ) (name bytes : List ℕ) → bytes ≡ name → line level name ≡ (indentation level ++ bytes) ++ codes "\n"
line_pieces level name bytes e =
    sym (append_assoc (indentation level) name (codes "\n")) ∙ ap (λ w. (indentation level ++ w) ++ codes "\n") (sym e)

lines_append : (level : ℕ) (xs ys : List plain.DTree)
    → lines_of_all level (children_of (xs ++ ys)) ≡ lines_of_all level (children_of xs) ++ lines_of_all level (children_of ys)
lines_append level [] ys = refl
lines_append level (x ∷ xs) ys =
    ap (λ w. lines level x ++ w) (lines_append level xs ys)
    ∙ sym (append_assoc (lines level x) (lines_of_all level (children_of xs)) (lines_of_all level (children_of ys)))

-- the trees so far and the next one
pub next_tree : (level : ℕ) (items : List DTree) (i : ℕ) (x : DTree) → i < length items → x ≡ get_or items i x
    → lines_of_all level (trees_of (take (i + 1) items)) ≡ lines_of_all level (trees_of (take i items)) ++ lines level (tree_of x)
next_tree level items i x lt is =
    ap (λ ts. lines_of_all level (children_of ts)) (map_more tree_of items i x lt)
    ∙ lines_append level (map tree_of (take i items)) (tree_of (get_or items i x) ∷ [])
    ∙ ap (λ w. lines_of_all level (trees_of (take i items)) ++ w) (append-nil (lines level (tree_of (get_or items i x))))
    ∙ ap (λ y. lines_of_all level (trees_of (take i items)) ++ lines level (tree_of y)) (sym is)

-- and all of the rest
pub tree_and_rest : (level : ℕ) (items : List DTree) (i : ℕ) (x : DTree) → i < length items → x ≡ get_or items i x
    → lines_of_all level (trees_of items)
    ≡ (lines_of_all level (trees_of (take i items)) ++ lines level (tree_of x)) ++ lines_of_all level (trees_of (drop (i + 1) items))
tree_and_rest level items i x lt is =
    ap (λ ts. lines_of_all level (trees_of ts)) (sym (take-append-drop (i + 1) items))
    ∙ ap (λ ts. lines_of_all level (children_of ts)) (map-append tree_of (take (i + 1) items) (drop (i + 1) items))
    ∙ lines_append level (map tree_of (take (i + 1) items)) (map tree_of (drop (i + 1) items))
    ∙ ap (λ w. w ++ lines_of_all level (trees_of (drop (i + 1) items))) (next_tree level items i x lt is)

pub all_trees : (level : ℕ) (items : List DTree) (i : ℕ) → length items ≤ i
    → lines_of_all level (trees_of items) ≡ lines_of_all level (trees_of (take i items))
all_trees level items i le = ap (λ ts. lines_of_all level (trees_of ts)) (sym (take_all i items le))

-- no tree of a list is deeper than the list
pub depth_within : (items : List DTree) (i : ℕ) (x : DTree) → i < length items → x ≡ get_or items i x
    → depth (tree_of x) ≤ depth_all (trees_of items)
depth_within [] i x lt is = absurd (omega (arith, lt))
depth_within (y ∷ ys) zero x lt is = omega (arith, ap (λ z. depth (tree_of z)) is)
depth_within (y ∷ ys) (suc i) x lt is = let le = depth_within ys i x (omega (arith, lt)) is in omega (arith, le)
