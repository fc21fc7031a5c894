-- From the first Open leaf to the next one: a finished node stands in its place.
use Rattle.std.proofs.Common.{◌≡◌, ℕ, zero, suc, ◌+◌, false, refl, ap, sym, subst, ◌∙◌, List, [], ◌∷◌, length, Option, None, Some}
use Rattle.std.specs.Option.{option_map, option_or}
use Rattle.std.proofs.lemmas.Option.{same_Some}
use Rattle.zm_logic.specs.Tree.{Form}
use Rattle.term_store.specs.Trees.{Tables}
use Rattle.param_store.specs.View.{forms_of, lists_of}
use Rattle.branch.specs.Setting.{Setting}
use Rattle.branch.specs.Tableau.{is_skipped, enter, enter_child, after, after_all, Leaf, current, IsLawful}
use Rattle.branch.specs.Ids.{Node, Children, Child, tree_of, trees_of}
use Rattle.branch.specs.Path.{child_in, IsFinished, AreFinished, IsFirst, IsFirstOf, put, put_in, along, along_in, brought, brought_in, extend_all, next, next_in}
use Rattle.branch.proofs.Paths.{IsOpenBehind, AreOpenBehind, lawful_behind, table_at, table_in, entered, first_current, first_leaf}

-- what the next path is: one inside the child, or the place behind it
none_of : (i : ℕ) (o : Option (List ℕ)) (c : Option Child) → option_or (option_map (λ js. i ∷ js) o) (option_map (λ d. suc i ∷ []) c) ≡ None
    → (o ≡ None) × (c ≡ None)
none_of i None None e = (refl, refl)
none_of i None (Some d) e = absurd (let q = e in cc)
none_of i (Some js) c e = absurd (let q = e in cc)

pub some_of : (P : List ℕ → Type 0) (i : ℕ) (o : Option (List ℕ)) (c : Option Child) (q : List ℕ)
    → option_or (option_map (λ js. i ∷ js) o) (option_map (λ d. suc i ∷ []) c) ≡ Some q
    → ((js : List ℕ) → o ≡ Some js → P (i ∷ js)) → ((d : Child) → o ≡ None → c ≡ Some d → P (suc i ∷ [])) → P q
some_of P i None None q e f g = absurd (let z = e in cc)
some_of P i None (Some d) q e f g = subst P (same_Some (suc i ∷ []) q e) (g d refl refl)
some_of P i (Some js) c q e f g = subst P (same_Some (i ∷ js) q e) (f js refl)

pub nonempty : (p : List ℕ) (n : Node) → next p n ≡ Some [] → ⊥
nonempty [] n e = let q = e in cc
nonempty (i ∷ is) (Node.step k t a ns) e =
    some_of (λ q. q ≡ [] → ⊥) i (next_in i is ns) (child_in (suc i) ns) [] e (λ js o z. let w = z in cc) (λ d o c z. let w = z in cc) refl
nonempty (i ∷ is) (Node.closed c) e = let q = e in cc
nonempty (i ∷ is) Node.opened e = let q = e in cc
nonempty (i ∷ is) Node.skipped e = let q = e in cc

-- without a next path no leaf is Open then
mutual
  pub next_none : (p : List ℕ) (n x : Node) → IsFirst p n → IsFinished x → next p n ≡ None → IsFinished (put p x n)
  next_none [] n x h f e = f
  next_none (i ∷ is) (Node.step k t a ns) x h f e =
      let c = none_of i (next_in i is ns) (child_in (suc i) ns) e in next_none_in i is ns x h f c.0 c.1
  next_none (i ∷ is) (Node.closed c) x h f e = absurd h
  next_none (i ∷ is) Node.opened x h f e = absurd h
  next_none (i ∷ is) Node.skipped x h f e = absurd h

  next_none_in : (i : ℕ) (is : List ℕ) (ns : Children) (x : Node) → IsFirstOf i is ns → IsFinished x → next_in i is ns ≡ None → child_in (suc i) ns ≡ None
      → AreFinished (put_in i is x ns)
  next_none_in i is Children.none x h f e c = absurd h
  next_none_in zero is (Children.more r g n Children.none) x h f e c = (next_none is n x h f e, tt)
  next_none_in zero is (Children.more r g n (Children.more q j m ns)) x h f e c = absurd (let z = c in cc)
  next_none_in (suc i) is (Children.more r g n ns) x h f e c = (h.0, next_none_in i is ns x h.1 f e c)

behind_first : (i : ℕ) (is : List ℕ) (ns : Children) (x : Node) (d : Child) → IsFirstOf i is ns → AreOpenBehind i is ns → IsFinished x
    → next_in i is ns ≡ None → child_in (suc i) ns ≡ Some d → IsFirstOf (suc i) [] (put_in i is x ns)
behind_first i is Children.none x d h o f e c = absurd h
behind_first zero is (Children.more r g n Children.none) x d h o f e c = absurd (let z = c in cc)
behind_first zero is (Children.more r g n (Children.more q j m ns)) x d h o f e c = (next_none is n x h f e, o.1.0)
behind_first (suc i) is (Children.more r g n ns) x d h o f e c = (h.0, behind_first i is ns x d h.1 o f e c)

-- else the path leads to the first Open leaf then
mutual
  pub next_first : (p : List ℕ) (n x : Node) (q : List ℕ) → IsFirst p n → IsOpenBehind p n → IsFinished x → next p n ≡ Some q → IsFirst q (put p x n)
  next_first [] n x q h o f e = absurd (let z = e in cc)
  next_first (i ∷ is) (Node.step k t a ns) x q h o f e =
      some_of (λ p. IsFirst p (Node.step k t a (put_in i is x ns))) i (next_in i is ns) (child_in (suc i) ns) q e
      (λ js z. inside_first i is ns x js h o f z) (λ d z c. behind_first i is ns x d h o f z c)
  next_first (i ∷ is) (Node.closed c) x q h o f e = absurd h
  next_first (i ∷ is) Node.opened x q h o f e = absurd h
  next_first (i ∷ is) Node.skipped x q h o f e = absurd h

  inside_first : (i : ℕ) (is : List ℕ) (ns : Children) (x : Node) (js : List ℕ) → IsFirstOf i is ns → AreOpenBehind i is ns → IsFinished x
      → next_in i is ns ≡ Some js → IsFirstOf i js (put_in i is x ns)
  inside_first i is Children.none x js h o f e = absurd h
  inside_first zero is (Children.more r g n ns) x js h o f e = next_first is n x js h o.0 f e
  inside_first (suc i) is (Children.more r g n ns) x js h o f e = (h.0, inside_first i is ns x js h.1 o f e)

-- the formulas along it stay
behind_along : (i : ℕ) (is : List ℕ) (ns : Children) (x : Node) → along_in (suc i) [] (put_in i is x ns) ≡ along_in (suc i) [] ns
behind_along i is Children.none x = refl
behind_along zero is (Children.more r g n ns) x = refl
behind_along (suc i) is (Children.more r g n ns) x = behind_along i is ns x

mutual
  pub next_along : (p : List ℕ) (n x : Node) (q : List ℕ) → next p n ≡ Some q → along q (put p x n) ≡ along q n
  next_along [] n x q e = absurd (let z = e in cc)
  next_along (i ∷ is) (Node.step k t a ns) x q e =
      some_of (λ p. along p (Node.step k t a (put_in i is x ns)) ≡ along p (Node.step k t a ns)) i (next_in i is ns) (child_in (suc i) ns) q e
      (λ js z. inside_along i is ns x js z) (λ d z c. behind_along i is ns x)
  next_along (i ∷ is) (Node.closed c) x q e = refl
  next_along (i ∷ is) Node.opened x q e = refl
  next_along (i ∷ is) Node.skipped x q e = refl

  inside_along : (i : ℕ) (is : List ℕ) (ns : Children) (x : Node) (js : List ℕ) → next_in i is ns ≡ Some js → along_in i js (put_in i is x ns) ≡ along_in i js ns
  inside_along i is Children.none x js e = refl
  inside_along zero is (Children.more r g n ns) x js e = ap (λ fs. g ∷ fs) (next_along is n x js e)
  inside_along (suc i) is (Children.more r g n ns) x js e = inside_along i is ns x js e

module _ (s : Tables) where
  put_skipped : (p : List ℕ) (n x : Node) → IsFirst p n → is_skipped (tree_of s x) ≡ false → is_skipped (tree_of s (put p x n)) ≡ false
  put_skipped [] n x h k = k
  put_skipped (i ∷ is) (Node.step m t a ns) x h k = refl
  put_skipped (i ∷ is) (Node.closed c) x h k = absurd h
  put_skipped (i ∷ is) Node.opened x h k = absurd h
  put_skipped (i ∷ is) Node.skipped x h k = absurd h

  child_after : (is : List ℕ) (n x : Node) (t fs : List Form) → IsFirst is n → is_skipped (tree_of s x) ≡ false
      → after (enter_child t fs (tree_of s (put is x n))) (tree_of s (put is x n)) ≡ after (enter t fs) (tree_of s (put is x n))
  child_after is n x t fs h k = ap (λ u. after u (tree_of s (put is x n))) (entered s t fs (tree_of s (put is x n)) (put_skipped is n x h k))

  -- without a next path the table is that after the node
  mutual
    pub none_table : (p : List ℕ) (n x : Node) (t : List Form) → IsFirst p n → is_skipped (tree_of s x) ≡ false → next p n ≡ None
        → after t (tree_of s (put p x n)) ≡ after (table_at s t p n) (tree_of s x)
    none_table [] n x t h k e = refl
    none_table (i ∷ is) (Node.step m kind a ns) x t h k e =
        let c = none_of i (next_in i is ns) (child_in (suc i) ns) e in none_table_in i is ns x t h k c.0 c.1
    none_table (i ∷ is) (Node.closed c) x t h k e = absurd h
    none_table (i ∷ is) Node.opened x t h k e = absurd h
    none_table (i ∷ is) Node.skipped x t h k e = absurd h

    none_table_in : (i : ℕ) (is : List ℕ) (ns : Children) (x : Node) (t : List Form) → IsFirstOf i is ns → is_skipped (tree_of s x) ≡ false
        → next_in i is ns ≡ None → child_in (suc i) ns ≡ None → after_all t (trees_of s (put_in i is x ns)) ≡ after (table_in s t i is ns) (tree_of s x)
    none_table_in i is Children.none x t h k e c = absurd h
    none_table_in zero is (Children.more r g n Children.none) x t h k e c = child_after is n x t (forms_of s g) h k ∙ none_table is n x (enter t (forms_of s g)) h k e
    none_table_in zero is (Children.more r g n (Children.more q j m ns)) x t h k e c = absurd (let z = c in cc)
    none_table_in (suc i) is (Children.more r g n ns) x t h k e c =
        none_table_in i is ns x (after (enter_child t (forms_of s g) (tree_of s n)) (tree_of s n)) h.1 k e c

  behind_table : (i : ℕ) (is : List ℕ) (ns : Children) (x : Node) (d : Child) (t : List Form) → IsFirstOf i is ns → is_skipped (tree_of s x) ≡ false
      → next_in i is ns ≡ None → child_in (suc i) ns ≡ Some d
      → table_in s t (suc i) [] (put_in i is x ns) ≡ enter (after (table_in s t i is ns) (tree_of s x)) (forms_of s (brought_in (suc i) [] ns))
  behind_table i is Children.none x d t h k e c = absurd h
  behind_table zero is (Children.more r g n Children.none) x d t h k e c = absurd (let z = c in cc)
  behind_table zero is (Children.more r g n (Children.more q j m ns)) x d t h k e c =
      ap (λ u. enter u (forms_of s j)) (child_after is n x t (forms_of s g) h k ∙ none_table is n x (enter t (forms_of s g)) h k e)
  behind_table (suc i) is (Children.more r g n ns) x d t h k e c =
      behind_table i is ns x d (after (enter_child t (forms_of s g) (tree_of s n)) (tree_of s n)) h.1 k e c

  -- else it is that after the node, and then the formulas of the next child are entered
  mutual
    pub next_table : (p : List ℕ) (n x : Node) (q : List ℕ) (t : List Form) → IsFirst p n → is_skipped (tree_of s x) ≡ false → next p n ≡ Some q
        → table_at s t q (put p x n) ≡ enter (after (table_at s t p n) (tree_of s x)) (forms_of s (brought q n))
    next_table [] n x q t h k e = absurd (let z = e in cc)
    next_table (i ∷ is) (Node.step m kind a ns) x q t h k e =
        some_of (λ p. table_at s t p (Node.step m kind a (put_in i is x ns)) ≡ enter (after (table_in s t i is ns) (tree_of s x)) (forms_of s (brought p (Node.step m kind a ns))))
        i (next_in i is ns) (child_in (suc i) ns) q e (λ js z. inside_table i is ns x js t h k z) (λ d z c. behind_table i is ns x d t h k z c)
    next_table (i ∷ is) (Node.closed c) x q t h k e = absurd h
    next_table (i ∷ is) Node.opened x q t h k e = absurd h
    next_table (i ∷ is) Node.skipped x q t h k e = absurd h

    inside_table : (i : ℕ) (is : List ℕ) (ns : Children) (x : Node) (js : List ℕ) (t : List Form) → IsFirstOf i is ns → is_skipped (tree_of s x) ≡ false
        → next_in i is ns ≡ Some js
        → table_in s t i js (put_in i is x ns) ≡ enter (after (table_in s t i is ns) (tree_of s x)) (forms_of s (brought_in i js ns))
    inside_table i is Children.none x js t h k e = absurd h
    inside_table zero is (Children.more r g n ns) x [] t h k e = absurd (nonempty is n e)
    inside_table zero is (Children.more r g n ns) x (j ∷ js) t h k e = next_table is n x (j ∷ js) (enter t (forms_of s g)) h k e
    inside_table (suc i) is (Children.more r g n ns) x js t h k e =
        inside_table i is ns x js (after (enter_child t (forms_of s g) (tree_of s n)) (tree_of s n)) h.1 k e

  -- The current leaf, once a finished node that leaves the table as it is stands in the place of the one before it.
  pub next_current : (setting : Setting) (p : List ℕ) (n x : Node) (q : List ℕ) (t b : List Form) (d : ℕ) (leaf : Leaf)
      → IsLawful setting t b (tree_of s n) → IsFirst p n → IsFinished x → is_skipped (tree_of s x) ≡ false → next p n ≡ Some q
      → current t b d (tree_of s n) ≡ Some leaf → after leaf.table (tree_of s x) ≡ leaf.table
      → current t b d (tree_of s (put p x n))
      ≡ Some (record { branch = extend_all b (lists_of s (along q n)); above = d + length q; table = enter leaf.table (forms_of s (brought q n)) })
  next_current setting p n x q t b d leaf l h f k e c same =
      let table : table_at s t p n ≡ leaf.table = sym (ap (λ (y : Leaf). y.table) (first_leaf s p n t b d leaf h c)) in
      let y : after (table_at s t p n) (tree_of s x) ≡ leaf.table = ap (λ u. after u (tree_of s x)) table ∙ same in
      let z : table_at s t q (put p x n) ≡ enter leaf.table (forms_of s (brought q n)) = next_table p n x q t h k e ∙ ap (λ u. enter u (forms_of s (brought q n))) y in
      first_current s q (put p x n) t b d (next_first p n x q h (lawful_behind s setting p n t b l h) f e)
      ∙ ap (λ fs. Some (record { branch = extend_all b (lists_of s fs); above = d + length q; table = table_at s t q (put p x n) })) (next_along p n x q e)
      ∙ ap (λ u. Some (record { branch = extend_all b (lists_of s (along q n)); above = d + length q; table = u })) z
