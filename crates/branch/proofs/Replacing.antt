-- A lawful node below the current leaf's branch, put in that leaf's place, leaves the tree lawful.
use Rattle.std.proofs.Common.{◌≡◌, ℕ, ◌+◌, ◌≤◌, Bool, true, false, ◌&&◌, ◌||◌, cond, refl, ap, sym, subst, ◌∙◌, List, [], ◌∷◌, ◌++◌, arith, None, Some, append_assoc}
use Rattle.std.specs.Option.{option_or}
use Rattle.std.proofs.lemmas.Option.{same_Some}
use Rattle.std.proofs.lemmas.Bool.{and_parts}
use Rattle.zm_logic.specs.Tree.{Form}
use Rattle.branch.specs.Branch.{closing, extend}
use Rattle.branch.specs.Setting.{Setting}
use Rattle.param_store.specs.RawOffers.{Act}
use Rattle.branch.specs.BranchOffers.{Kind}
use Rattle.branch.specs.Offers.{Child, IsOfferAt}
use Rattle.branch.specs.Tableau.{Node, Children, given, is_finished, are_finished, is_skipped, are_open, is_idle, uses, skips, enter, enter_child, after, IsLawful, AreLawful, Leaf, current, current_of, picks, picks_all, count, count_all, height, height_all}
use Rattle.branch.specs.Replaced.{skipping, opening, replaced, replaced_in}
use Rattle.branch.proofs.OpenLeaves.{finished_current, open_picks, unfinished_current}

-- what a Step's children were given stays
skipping_given : (ns : Children) → given (skipping ns) ≡ given ns
skipping_given Children.none = refl
skipping_given (Children.more r f n ns) = ap (λ cs. record { raw = r; normal = f } ∷ cs) (skipping_given ns)

pub opening_given : (cs : List Child) → given (opening cs) ≡ cs
opening_given [] = refl
opening_given (c ∷ cs) = ap (λ ds. c ∷ ds) (opening_given cs)

pub replaced_given : (p : Bool) (ns : Children) (b : List Form) (x : Node) → given (replaced_in p b x ns) ≡ given ns
replaced_given p Children.none b x = refl
replaced_given p (Children.more r f n ns) b x = go (is_finished n) (skips p b f (replaced p (extend b f) x n)) (replaced_given p ns b x)
  where
    go : (v w : Bool) → given (replaced_in p b x ns) ≡ given ns → given (cond v (Children.more r f n (replaced_in p b x ns)) (Children.more r f (replaced p (extend b f) x n) (cond w (skipping ns) ns)))
        ≡ given (Children.more r f n ns)
    go true w e = ap (λ cs. record { raw = r; normal = f } ∷ cs) e
    go false true e = ap (λ cs. record { raw = r; normal = f } ∷ cs) (skipping_given ns)
    go false false e = refl

module _ (s : Setting) where
  -- Open leaves after a child that isn't idle, and Skipped ones after an idle one
  pub open_lawful : (ns : Children) (t b : List Form) → are_open ns ≡ true → AreLawful s t b false ns
  open_lawful Children.none t b e = tt
  open_lawful (Children.more r f (Node.step k c a ms) ns) t b e = absurd (let q = e in cc)
  open_lawful (Children.more r f (Node.closed c) ns) t b e = absurd (let q = e in cc)
  open_lawful (Children.more r f Node.opened ns) t b e = (refl, tt, open_lawful ns (enter t f) b e, λ z. e)
  open_lawful (Children.more r f Node.skipped ns) t b e = absurd (let q = e in cc)

  pub skipping_lawful : (ns : Children) (t b : List Form) → AreLawful s t b true (skipping ns)
  skipping_lawful Children.none t b = tt
  skipping_lawful (Children.more r f n ns) t b = (refl, tt, skipping_lawful ns t b, λ z. absurd (let q = z in cc))

  opening_open : (cs : List Child) → are_open (opening cs) ≡ true
  opening_open [] = refl
  opening_open (c ∷ cs) = opening_open cs

  -- a Step with Open children
  pub step_lawful : (t b : List Form) (k : ℕ) (kind : Kind) (act : Act) (children : List Child) → closing b ≡ None → IsOfferAt s t b k kind act children
      → IsLawful s t b (Node.step k kind act (opening children))
  step_lawful t b k kind act children e h =
      (e, subst (IsOfferAt s t b k kind act) (sym (opening_given children)) h, open_lawful (opening children) t b (opening_open children))

  pub unskipped : (n : Node) (b : List Form) (x : Node) → is_skipped x ≡ false → is_skipped n ≡ false → is_skipped (replaced s.prunes b x n) ≡ false
  unskipped (Node.step k c a ns) b x e h = refl
  unskipped (Node.closed c) b x e h = refl
  unskipped Node.opened b x e h = e
  unskipped Node.skipped b x e h = h

  finished_skipped : (n : Node) → is_finished n ≡ false → is_skipped n ≡ false
  finished_skipped (Node.step k c a ns) e = refl
  finished_skipped (Node.closed c) e = refl
  finished_skipped Node.opened e = refl
  finished_skipped Node.skipped e = absurd (let q = e in cc)

  idle_finished : (v w : Bool) → v ≡ false → (v && w) ≡ true → ⊥
  idle_finished true w e h = cc
  idle_finished false w e h = cc

  mutual
    pub replaced_lawful : (n : Node) (t b : List Form) (d : ℕ) (x : Node) (leaf : Leaf) → IsLawful s t b n → current t b d n ≡ Some leaf
        → is_skipped x ≡ false → IsLawful s leaf.table leaf.branch x → IsLawful s t b (replaced s.prunes b x n)
    replaced_lawful (Node.step k c a ns) t b d x leaf l e z h = (
      l.0,
      subst (IsOfferAt s t b k c a) (sym (replaced_given s.prunes ns b x)) l.1,
      replaced_in_lawful ns t b (d + 1) x leaf false l.2 e z h,
    )
    replaced_lawful (Node.closed c) t b d x leaf l e z h = absurd (let q = e in cc)
    replaced_lawful Node.opened t b d x leaf l e z h =
        subst (λ y. IsLawful s y.table y.branch x) (sym (same_Some (record { branch = b; above = d; table = t }) leaf e)) h
    replaced_lawful Node.skipped t b d x leaf l e z h = absurd (let q = e in cc)

    pub replaced_in_lawful : (ns : Children) (t b : List Form) (d : ℕ) (x : Node) (leaf : Leaf) (i : Bool) → AreLawful s t b i ns → current_of t b d ns ≡ Some leaf
        → is_skipped x ≡ false → IsLawful s leaf.table leaf.branch x → AreLawful s t b i (replaced_in s.prunes b x ns)
    replaced_in_lawful Children.none t b d x leaf i l e z h = tt
    replaced_in_lawful (Children.more r f n ns) t b d x leaf i l e z h =
        go (is_finished n) refl
        (λ q. replaced_in_lawful ns (after (enter_child t f n) n) b d x leaf (i || skips s.prunes b f n) l.2
        (sym (ap (λ o. option_or o (current_of (after (enter_child t f n) n) b d ns)) (finished_current n (enter_child t f n) (extend b f) d q)) ∙ e) z h)
        (λ q. let y = unfinished_current n (enter_child t f n) (extend b f) d q in
        let j : y.0 ≡ leaf = same_Some y.0 leaf (sym (ap (λ o. option_or o (current_of (after (enter_child t f n) n) b d ns)) y.1) ∙ e) in
        replaced_lawful n (enter_child t f n) (extend b f) d x leaf l.1 (y.1 ∙ ap Some j) z h)
      where
        m : Node
        m = replaced s.prunes (extend b f) x n

        go : (v : Bool) → is_finished n ≡ v
            → (is_finished n ≡ true → AreLawful s (after (enter_child t f n) n) b (i || skips s.prunes b f n) (replaced_in s.prunes b x ns))
            → (is_finished n ≡ false → IsLawful s (enter_child t f n) (extend b f) (replaced s.prunes (extend b f) x n))
            → AreLawful s t b i (cond v (Children.more r f n (replaced_in s.prunes b x ns))
            (Children.more r f (replaced s.prunes (extend b f) x n) (cond (skips s.prunes b f (replaced s.prunes (extend b f) x n)) (skipping ns) ns)))
        go true q later here = (l.0, l.1, later q, λ y. absurd (let j : true ≡ false = sym q ∙ y in cc))
        go false q later here =
            let old = finished_skipped n q in
            let new = unskipped n (extend b f) x z old in
            let flag : i ≡ false = sym l.0 ∙ old in
            let same : enter_child t f n ≡ enter_child t f m = ap (λ v. cond v t (enter t f)) (old ∙ sym new) in (
              new ∙ sym flag,
              subst (λ y. IsLawful s y (extend b f) m) same (here q),
              rest (skips s.prunes b f m) flag (after (enter_child t f m) m),
              λ y. open_rest (skips s.prunes b f m) refl y,
            )
          where
            rest : (w : Bool) → i ≡ false → (u : List Form) → AreLawful s u b (i || w) (cond w (skipping ns) ns)
            rest true flag u = subst (λ v. AreLawful s u b v (skipping ns)) (ap (λ v. v || true) (sym flag)) (skipping_lawful ns u b)
            rest false flag u = subst (λ v. AreLawful s u b v ns) (ap (λ v. v || false) (sym flag)) (open_lawful ns u b (l.3 q))

            open_rest : (w : Bool) → skips s.prunes b f m ≡ w → is_finished m ≡ false → are_open (cond w (skipping ns) ns) ≡ true
            open_rest true e y = absurd (idle_finished (is_finished m) _ y (and_parts (is_idle b f m (uses (extend b f) m)) s.prunes e).0)
            open_rest false e y = l.3 q

  skipping_picks : (ns : Children) → picks_all (skipping ns) ≡ []
  skipping_picks Children.none = refl
  skipping_picks (Children.more r f n ns) = skipping_picks ns

  mutual
    -- the picks of the node come last
    pub replaced_picks : (n : Node) (t b : List Form) (x : Node) → IsLawful s t b n → is_finished n ≡ false → picks (replaced s.prunes b x n) ≡ picks n ++ picks x
    replaced_picks (Node.step k c a ns) t b x l e = ap (λ ks. k ∷ ks) (replaced_in_picks ns t b x false l.2 e)
    replaced_picks (Node.closed c) t b x l e = absurd (let q = e in cc)
    replaced_picks Node.opened t b x l e = refl
    replaced_picks Node.skipped t b x l e = absurd (let q = e in cc)

    pub replaced_in_picks : (ns : Children) (t b : List Form) (x : Node) (i : Bool) → AreLawful s t b i ns → are_finished ns ≡ false
        → picks_all (replaced_in s.prunes b x ns) ≡ picks_all ns ++ picks x
    replaced_in_picks Children.none t b x i l e = absurd (let q = e in cc)
    replaced_in_picks (Children.more r f n ns) t b x i l e =
        go (is_finished n) refl e
        (replaced_in_picks ns (after (enter_child t f n) n) b x (i || skips s.prunes b f n) l.2)
        (replaced_picks n (enter_child t f n) (extend b f) x l.1)
      where
        m : Node
        m = replaced s.prunes (extend b f) x n

        go : (v : Bool) → is_finished n ≡ v → (v && are_finished ns) ≡ false → (are_finished ns ≡ false → picks_all (replaced_in s.prunes b x ns) ≡ picks_all ns ++ picks x)
            → (is_finished n ≡ false → picks (replaced s.prunes (extend b f) x n) ≡ picks n ++ picks x)
            → picks_all (cond v (Children.more r f n (replaced_in s.prunes b x ns))
            (Children.more r f (replaced s.prunes (extend b f) x n) (cond (skips s.prunes b f (replaced s.prunes (extend b f) x n)) (skipping ns) ns)))
            ≡ (picks n ++ picks_all ns) ++ picks x
        go true q e later here = ap (λ ks. picks n ++ ks) (later e) ∙ sym (append_assoc (picks n) (picks_all ns) (picks x))
        go false q e later here =
            rest (skips s.prunes b f m) ∙ here q
            ∙ ap (λ ks. ks ++ picks x) (sym (append_nil (picks n)) ∙ ap (λ ks. picks n ++ ks) (sym (open_picks ns (l.3 q))))
          where
            append_nil : (ks : List ℕ) → ks ++ [] ≡ ks
            append_nil [] = refl
            append_nil (k ∷ ks) = ap (λ js. k ∷ js) (append_nil ks)

            rest : (w : Bool) → picks m ++ picks_all (cond w (skipping ns) ns) ≡ picks m
            rest true = ap (λ ks. picks m ++ ks) (skipping_picks ns) ∙ append_nil (picks m)
            rest false = ap (λ ks. picks m ++ ks) (open_picks ns (l.3 q)) ∙ append_nil (picks m)

  skipping_count : (ns : Children) → count_all (skipping ns) ≡ 0
  skipping_count Children.none = refl
  skipping_count (Children.more r f n ns) = let e = skipping_count ns in omega arith

  open_count : (ns : Children) → are_open ns ≡ true → count_all ns ≡ 0
  open_count Children.none e = refl
  open_count (Children.more r f (Node.step k c a ms) ns) e = absurd (let q = e in cc)
  open_count (Children.more r f (Node.closed c) ns) e = absurd (let q = e in cc)
  open_count (Children.more r f Node.opened ns) e = let h = open_count ns e in omega arith
  open_count (Children.more r f Node.skipped ns) e = absurd (let q = e in cc)

  skipping_height : (ns : Children) → height_all (skipping ns) ≡ 0
  skipping_height Children.none = refl
  skipping_height (Children.more r f n ns) = let e = skipping_height ns in omega arith

  mutual
    -- the Steps of the node are added
    pub replaced_count : (n : Node) (t b : List Form) (x : Node) → IsLawful s t b n → is_finished n ≡ false → count (replaced s.prunes b x n) ≡ count n + count x
    replaced_count (Node.step k c a ns) t b x l e = let h = replaced_in_count ns t b x false l.2 e in omega arith
    replaced_count (Node.closed c) t b x l e = absurd (let q = e in cc)
    replaced_count Node.opened t b x l e = omega arith
    replaced_count Node.skipped t b x l e = absurd (let q = e in cc)

    pub replaced_in_count : (ns : Children) (t b : List Form) (x : Node) (i : Bool) → AreLawful s t b i ns → are_finished ns ≡ false
        → count_all (replaced_in s.prunes b x ns) ≡ count_all ns + count x
    replaced_in_count Children.none t b x i l e = absurd (let q = e in cc)
    replaced_in_count (Children.more r f n ns) t b x i l e =
        go (is_finished n) refl e
        (replaced_in_count ns (after (enter_child t f n) n) b x (i || skips s.prunes b f n) l.2)
        (replaced_count n (enter_child t f n) (extend b f) x l.1)
      where
        m : Node
        m = replaced s.prunes (extend b f) x n

        go : (v : Bool) → is_finished n ≡ v → (v && are_finished ns) ≡ false → (are_finished ns ≡ false → count_all (replaced_in s.prunes b x ns) ≡ count_all ns + count x)
            → (is_finished n ≡ false → count (replaced s.prunes (extend b f) x n) ≡ count n + count x)
            → count_all (cond v (Children.more r f n (replaced_in s.prunes b x ns))
            (Children.more r f (replaced s.prunes (extend b f) x n) (cond (skips s.prunes b f (replaced s.prunes (extend b f) x n)) (skipping ns) ns)))
            ≡ count n + count_all ns + count x
        go true q e later here = let h = later e in omega arith
        go false q e later here = let h = here q in let g = open_count ns (l.3 q) in let k = rest (skips s.prunes b f m) in omega arith
          where
            rest : (w : Bool) → count_all (cond w (skipping ns) ns) ≡ 0
            rest true = skipping_count ns
            rest false = open_count ns (l.3 q)

  mutual
    -- the branches stay short where the node's own are, counted from the leaf
    pub replaced_height : (n : Node) (t b : List Form) (d : ℕ) (x : Node) (leaf : Leaf) (most : ℕ) → current t b d n ≡ Some leaf → d + height n ≤ most
        → leaf.above + height x ≤ most → d + height (replaced s.prunes b x n) ≤ most
    replaced_height (Node.step k c a ns) t b d x leaf most e h g =
        let z = replaced_in_height ns t b (d + 1) x leaf most e (omega arith) g in omega arith
    replaced_height (Node.closed c) t b d x leaf most e h g = h
    replaced_height Node.opened t b d x leaf most e h g =
        let i : d ≡ leaf.above = ap (λ y. y.above) (same_Some (record { branch = b; above = d; table = t }) leaf e) in omega arith
    replaced_height Node.skipped t b d x leaf most e h g = h

    pub replaced_in_height : (ns : Children) (t b : List Form) (d : ℕ) (x : Node) (leaf : Leaf) (most : ℕ) → current_of t b d ns ≡ Some leaf → d + height_all ns ≤ most
        → leaf.above + height x ≤ most → d + height_all (replaced_in s.prunes b x ns) ≤ most
    replaced_in_height Children.none t b d x leaf most e h g = h
    replaced_in_height (Children.more r f n ns) t b d x leaf most e h g =
        go (is_finished n) refl
        (λ q. replaced_in_height ns (after (enter_child t f n) n) b d x leaf most
        (sym (ap (λ o. option_or o (current_of (after (enter_child t f n) n) b d ns)) (finished_current n (enter_child t f n) (extend b f) d q)) ∙ e) (omega arith) g)
        (λ q. let y = unfinished_current n (enter_child t f n) (extend b f) d q in
        let j : y.0 ≡ leaf = same_Some y.0 leaf (sym (ap (λ o. option_or o (current_of (after (enter_child t f n) n) b d ns)) y.1) ∙ e) in
        replaced_height n (enter_child t f n) (extend b f) d x leaf most (y.1 ∙ ap Some j) (omega arith) g)
      where
        m : Node
        m = replaced s.prunes (extend b f) x n

        go : (v : Bool) → is_finished n ≡ v → (is_finished n ≡ true → d + height_all (replaced_in s.prunes b x ns) ≤ most) → (is_finished n ≡ false → d + height (replaced s.prunes (extend b f) x n) ≤ most)
            → d + height_all (cond v (Children.more r f n (replaced_in s.prunes b x ns))
            (Children.more r f (replaced s.prunes (extend b f) x n) (cond (skips s.prunes b f (replaced s.prunes (extend b f) x n)) (skipping ns) ns))) ≤ most
        go true q later here = let z = later q in omega arith
        go false q later here = let z = here q in let k = rest (skips s.prunes b f m) in omega arith
          where
            rest : (w : Bool) → height_all (cond w (skipping ns) ns) ≤ height_all ns
            rest true = let k = skipping_height ns in omega arith
            rest false = omega arith

  mutual
    -- the node's current leaf is the tree's, with the same branch, table and Steps above
    pub replaced_current : (n : Node) (t b : List Form) (d : ℕ) (x : Node) (leaf : Leaf) → current t b d n ≡ Some leaf → is_finished x ≡ false
        → current t b d (replaced s.prunes b x n) ≡ current leaf.table leaf.branch leaf.above x
    replaced_current (Node.step k c a ns) t b d x leaf e z = replaced_in_current ns t b (d + 1) x leaf e z
    replaced_current (Node.closed c) t b d x leaf e z = absurd (let q = e in cc)
    replaced_current Node.opened t b d x leaf e z = ap (λ y. current y.table y.branch y.above x) (same_Some (record { branch = b; above = d; table = t }) leaf e)
    replaced_current Node.skipped t b d x leaf e z = absurd (let q = e in cc)

    pub replaced_in_current : (ns : Children) (t b : List Form) (d : ℕ) (x : Node) (leaf : Leaf) → current_of t b d ns ≡ Some leaf → is_finished x ≡ false
        → current_of t b d (replaced_in s.prunes b x ns) ≡ current leaf.table leaf.branch leaf.above x
    replaced_in_current Children.none t b d x leaf e z = absurd (let q = e in cc)
    replaced_in_current (Children.more r f n ns) t b d x leaf e z =
        go (is_finished n) refl
        (λ q. replaced_in_current ns (after (enter_child t f n) n) b d x leaf
        (sym (ap (λ o. option_or o (current_of (after (enter_child t f n) n) b d ns)) (finished_current n (enter_child t f n) (extend b f) d q)) ∙ e) z)
        (λ q. let y = unfinished_current n (enter_child t f n) (extend b f) d q in
        let j : y.0 ≡ leaf = same_Some y.0 leaf (sym (ap (λ o. option_or o (current_of (after (enter_child t f n) n) b d ns)) y.1) ∙ e) in
        replaced_current n (enter_child t f n) (extend b f) d x leaf (y.1 ∙ ap Some j) z)
      where
        m : Node
        m = replaced s.prunes (extend b f) x n

        go : (v : Bool) → is_finished n ≡ v → (is_finished n ≡ true → current_of (after (enter_child t f n) n) b d (replaced_in s.prunes b x ns) ≡ current leaf.table leaf.branch leaf.above x)
            → (is_finished n ≡ false → current (enter_child t f n) (extend b f) d (replaced s.prunes (extend b f) x n) ≡ current leaf.table leaf.branch leaf.above x)
            → current_of t b d (cond v (Children.more r f n (replaced_in s.prunes b x ns))
            (Children.more r f (replaced s.prunes (extend b f) x n) (cond (skips s.prunes b f (replaced s.prunes (extend b f) x n)) (skipping ns) ns)))
            ≡ current leaf.table leaf.branch leaf.above x
        go true q later here =
            ap (λ o. option_or o (current_of (after (enter_child t f n) n) b d (replaced_in s.prunes b x ns))) (finished_current n (enter_child t f n) (extend b f) d q) ∙ later q
        go false q later here =
            let new = unskipped n (extend b f) x (finished_skipped x z) (finished_skipped n q) in
            let same : enter_child t f n ≡ enter_child t f m = ap (λ v. cond v t (enter t f)) (finished_skipped n q ∙ sym new) in
            let y = unfinished_current x leaf.table leaf.branch leaf.above z in
            let h : current (enter_child t f m) (extend b f) d m ≡ current leaf.table leaf.branch leaf.above x = subst (λ u. current u (extend b f) d m ≡ current leaf.table leaf.branch leaf.above x) same (here q) in
            ap (λ o. option_or o (current_of (after (enter_child t f m) m) b d (cond (skips s.prunes b f m) (skipping ns) ns))) (h ∙ y.1) ∙ sym y.1
