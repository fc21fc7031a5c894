-- The parts that are found for a list of binders, one binder after the other.
use Rattle.std.proofs.Common.{ℕ, suc, ◌≡◌, ◌+◌, ◌-◌, ◌<◌, ◌≤◌, true, false, ◌&&◌, if◌then◌else◌, List, [], ◌∷◌, ◌++◌, length, map, get_or, drop, refl, ap, sym, ◌∙◌, arith, append_assoc, Some, None}
use Rattle.std.proofs.lemmas.List.{drop_more, drop_all, length-drop, map-append, append-nil}
use Rattle.zm_logic.specs.Tree as tree
use Rattle.zm_logic.specs.View.{binder_tree}
use Rattle.zm_logic.specs.declared.rule.Binder.{Binder}
use Rattle.rule_index.specs.Matching.{find, find_all, is_of, are_of}
use Rattle.rule_index.specs.declared.part.Part.{Part}
use Rattle.rule_index.specs.View.{part_tree, parts_tree, kinded_parts}

abbrev pub binders_tree : List Binder → List tree.Binder
binders_tree bs = map binder_tree bs

binders_length : (bs : List Binder) → length (binders_tree bs) ≡ length bs
binders_length [] = refl
binders_length (b ∷ bs) = ap suc (binders_length bs)

-- the binders before a place have the parts so far, and these are of their kinds
pub record AreFound (bs : List Binder) (left x : tree.Side) (i : ℕ) (ps : List Part) : Type 0 where
  pub parts : parts_tree ps ++ find_all (binders_tree (drop i bs)) left x ≡ find_all (binders_tree bs) left x
  pub kinds : are_of (find_all (binders_tree (drop i bs)) left x) (binders_tree (drop i bs)) ≡ are_of (find_all (binders_tree bs) left x) (binders_tree bs)

pub found_start : (bs : List Binder) (left x : tree.Side) → AreFound bs left x 0 []
found_start bs left x = record { parts = refl; kinds = refl }

module _ (bs : List Binder) (left x : tree.Side) (i : ℕ) (e : Binder) (p : Part) (l : i < length bs)
    (is : part_tree p ≡ find (length bs - 1 - i) left x) where
  rest : List tree.Opening
  rest = find_all (binders_tree (drop (i + 1) bs)) left x

  place : length (binders_tree (drop (i + 1) bs)) ≡ length bs - 1 - i
  place = let n = binders_length (drop (i + 1) bs) in let m = length-drop (i + 1) bs in omega (arith, n, m)

  next : find_all (binders_tree (drop i bs)) left x ≡ part_tree p ∷ find_all (binders_tree (drop (i + 1) bs)) left x
  next =
      ap (λ z. find_all (binders_tree z) left x) (drop_more bs i e l)
      ∙ ap (λ z. z ∷ find_all (binders_tree (drop (i + 1) bs)) left x) (ap (λ n. find n left x) place ∙ sym is)

  kind : are_of (find_all (binders_tree (drop i bs)) left x) (binders_tree (drop i bs))
      ≡ (is_of (part_tree p) (binder_tree (get_or bs i e)) && are_of (find_all (binders_tree (drop (i + 1) bs)) left x) (binders_tree (drop (i + 1) bs)))
  kind =
      ap (λ z. are_of z (binders_tree (drop i bs))) next
      ∙ ap (λ z. are_of (part_tree p ∷ find_all (binders_tree (drop (i + 1) bs)) left x) (binders_tree z)) (drop_more bs i e l)

  pub found_more : (ps : List Part) → AreFound bs left x i ps → is_of (part_tree p) (binder_tree (get_or bs i e)) ≡ true
      → AreFound bs left x (i + 1) (ps ++ p ∷ [])
  found_more ps v k = record {
    parts =
        ap (λ z. z ++ find_all (binders_tree (drop (i + 1) bs)) left x) (map-append part_tree ps (p ∷ []))
        ∙ append_assoc (parts_tree ps) (part_tree p ∷ []) (find_all (binders_tree (drop (i + 1) bs)) left x)
        ∙ sym (ap (λ z. parts_tree ps ++ z) next) ∙ v.parts;
    kinds = sym (kind ∙ ap (λ b. b && are_of (find_all (binders_tree (drop (i + 1) bs)) left x) (binders_tree (drop (i + 1) bs))) k) ∙ v.kinds;
  }

  pub found_wrong : (ps : List Part) → AreFound bs left x i ps → is_of (part_tree p) (binder_tree (get_or bs i e)) ≡ false
      → None ≡ kinded_parts (binders_tree bs) left x
  found_wrong ps v k =
      let no : are_of (find_all (binders_tree bs) left x) (binders_tree bs) ≡ false =
      sym v.kinds ∙ kind ∙ ap (λ b. b && are_of (find_all (binders_tree (drop (i + 1) bs)) left x) (binders_tree (drop (i + 1) bs))) k in
      sym (ap (λ b. if b then Some (find_all (binders_tree bs) left x) else None) no)

pub found_end : (bs : List Binder) (left x : tree.Side) (i : ℕ) (ps : List Part) → length bs ≤ i → AreFound bs left x i ps
    → Some (parts_tree ps) ≡ kinded_parts (binders_tree bs) left x
found_end bs left x i ps l v =
    let yes : are_of (find_all (binders_tree bs) left x) (binders_tree bs) ≡ true =
    sym v.kinds ∙ ap (λ z. are_of (find_all (binders_tree z) left x) (binders_tree z)) (drop_all i bs l) in
    let all : parts_tree ps ≡ find_all (binders_tree bs) left x =
    sym (append-nil (parts_tree ps)) ∙ sym (ap (λ z. parts_tree ps ++ find_all (binders_tree z) left x) (drop_all i bs l)) ∙ v.parts in
    ap Some all ∙ sym (ap (λ b. if b then Some (find_all (binders_tree bs) left x) else None) yes)
