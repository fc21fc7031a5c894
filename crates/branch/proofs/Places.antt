-- The children of the code's nodes, by their places.
use Rattle.std.proofs.Common.{◌≡◌, ℕ, zero, suc, ◌+◌, ◌-◌, ◌<◌, ◌≤◌, true, false, ◌==◌, refl, ap, sym, subst, ◌∙◌, List, [], ◌∷◌, ◌++◌, length, map, get_or, take, drop, Option, None, Some, arith, append_assoc}
use Rattle.std.specs.Prelude.{slice_get, slice_set, slice_index_or, MatchOption}
use Rattle.std.specs.Option.{option_map, option_or}
use Rattle.std.proofs.Math.Seq.{take-length}
use Rattle.std.proofs.lemmas.Bool.{eqb-true}
use Rattle.std.proofs.lemmas.Option.{same_Some}
use Rattle.std.proofs.lemmas.List.{same_from_push}
use Rattle.term_store.specs.declared.ids.FormId.{FormId}
use Rattle.term_store.specs.Trees.{Tables}
use Rattle.param_store.specs.declared.offer.Act.{Act}
use Rattle.param_store.specs.View.{forms_of, lists_of, HasForms}
use Rattle.choosers.specs.declared.offer.Kind.{Kind}
use Rattle.branch.specs.Branch.{extend}
use Rattle.branch.specs.declared.node.Child.{Child as Code}
use Rattle.branch.specs.declared.node.Node.TheFolds.{fold-roll-Child}
use Rattle.branch.specs.Ids.{Node, Children, Child, children_of, node_layer, child_layer, node_ids, child_ids, HasNode, HasNodes}
use Rattle.branch.specs.Path.{child_at, child_in, IsFirst, IsFirstOf, put, put_in, along, along_in, brought, brought_in, extend_all, next, next_in, IsAdded}

pub child_opens : (c : Code) → child_ids c ≡ record { raw = c.raw; normal = c.normal; node = node_ids c.node }
child_opens c = fold-roll-Child Node Child node_layer child_layer (record { raw = c.raw; normal = c.normal; node = c.node })

-- a path of one place at least
pub first_place : (p : List ℕ) → 1 ≤ length p → p ≡ slice_index_or p 0 0 ∷ take (length p - 1) (drop 1 p)
first_place [] h = absurd (omega arith)
first_place (i ∷ is) h =
    let e : length (i ∷ is) - 1 ≡ length is = omega arith in
    ap (λ js. i ∷ js) (sym (ap (λ k. take k is) e ∙ take-length is))

-- the child that stands at a place
pub child_found : (i : ℕ) (cs : List Code) → option_map child_ids (slice_get cs i) ≡ child_in i (children_of (map child_ids cs))
child_found i [] = refl
child_found zero (c ∷ cs) = refl
child_found (suc i) (c ∷ cs) = child_found i cs

-- a path leads into a child
pub first_within : (i : ℕ) (is : List ℕ) (cs : List Code) → IsFirstOf i is (children_of (map child_ids cs)) → i < length cs
first_within i is [] h = absurd h
first_within zero is (c ∷ cs) h = omega arith
first_within (suc i) is (c ∷ cs) h = let z = first_within i is cs h.1 in omega arith

pub first_child : (i : ℕ) (is : List ℕ) (cs : List Code) (c : Code) → c ≡ get_or cs i c → IsFirstOf i is (children_of (map child_ids cs)) → IsFirst is (node_ids c.node)
first_child i is cs c e h = subst (λ (n : Node). IsFirst is n) (ap (λ (x : Child). x.node) (sym (ap child_ids e) ∙ child_opens c)) (go i cs h)
  where
    go : (j : ℕ) (ds : List Code) → IsFirstOf j is (children_of (map child_ids ds)) → IsFirst is (child_ids (get_or ds j c)).node
    go j [] k = absurd k
    go zero (d ∷ ds) k = k
    go (suc j) (d ∷ ds) k = go j ds k.1

pub first_step : (p : List ℕ) (i : ℕ) (is : List ℕ) (n : Node) (k : ℕ) (t : Kind) (a : Act) (ns : Children) → p ≡ i ∷ is → n ≡ Node.step k t a ns
    → IsFirst p n → IsFirstOf i is ns
first_step p i is n k t a ns e f h = subst (λ m. IsFirst (i ∷ is) m) f (subst (λ q. IsFirst q n) e h)

-- a child with another node
pub child_put : (i : ℕ) (is : List ℕ) (cs : List Code) (c d : Code) (x : Node) → c ≡ get_or cs i c
    → d.raw ≡ c.raw → d.normal ≡ c.normal → node_ids d.node ≡ put is x (node_ids c.node)
    → children_of (map child_ids (slice_set cs i d)) ≡ put_in i is x (children_of (map child_ids cs))
child_put i is cs c d x e r f n = go i cs (sym (ap child_ids e) ∙ child_opens c)
  where
    new : child_ids d ≡ record { raw = c.raw; normal = c.normal; node = put is x (node_ids c.node) }
    new = let o = child_opens d in cc

    go : (j : ℕ) (ds : List Code) → child_ids (get_or ds j c) ≡ record { raw = c.raw; normal = c.normal; node = node_ids c.node }
        → children_of (map child_ids (slice_set ds j d)) ≡ put_in j is x (children_of (map child_ids ds))
    go j [] k = refl
    go zero (b ∷ ds) k =
        let y : child_ids d ≡ record { raw = (child_ids b).raw; normal = (child_ids b).normal; node = put is x (child_ids b).node } =
        new ∙ ap (λ (z : Child). record { raw = z.raw; normal = z.normal; node = put is x z.node }) (sym k) in
        ap (λ (z : Child). Children.more z.raw z.normal z.node (children_of (map child_ids ds))) y
    go (suc j) (b ∷ ds) k = ap (Children.more (child_ids b).raw (child_ids b).normal (child_ids b).node) (go j ds k)

-- what stands along a path that leads through a child
mutual
  pub child_has : (s : Tables) (i : ℕ) (n : Node) (c : Child) → child_at i n ≡ Some c → HasNode s n → HasForms s c.normal × HasNode s c.node
  child_has s i (Node.step k t a ns) c e h = child_in_has s i ns c e h.1
  child_has s i (Node.closed p) c e h = absurd (let q = e in cc)
  child_has s i Node.opened c e h = absurd (let q = e in cc)
  child_has s i Node.skipped c e h = absurd (let q = e in cc)

  child_in_has : (s : Tables) (i : ℕ) (ns : Children) (c : Child) → child_in i ns ≡ Some c → HasNodes s ns → HasForms s c.normal × HasNode s c.node
  child_in_has s i Children.none c e h = absurd (let q = e in cc)
  child_in_has s zero (Children.more r f n ns) c e h = subst (λ (x : Child). HasForms s x.normal × HasNode s x.node) (same_Some (record { raw = r; normal = f; node = n }) c e) (h.1, h.2)
  child_in_has s (suc i) (Children.more r f n ns) c e h = child_in_has s i ns c e h.3

along_child_in : (i : ℕ) (is : List ℕ) (ns : Children) (c : Child) → child_in i ns ≡ Some c → along_in i is ns ≡ c.normal ∷ along is c.node
along_child_in i is Children.none c e = absurd (let q = e in cc)
along_child_in zero is (Children.more r f n ns) c e = ap (λ (x : Child). x.normal ∷ along is x.node) (same_Some (record { raw = r; normal = f; node = n }) c e)
along_child_in (suc i) is (Children.more r f n ns) c e = along_child_in i is ns c e

pub along_child : (i : ℕ) (is : List ℕ) (n : Node) (c : Child) → child_at i n ≡ Some c → along (i ∷ is) n ≡ c.normal ∷ along is c.node
along_child i is (Node.step k t a ns) c e = along_child_in i is ns c e
along_child i is (Node.closed p) c e = absurd (let q = e in cc)
along_child i is Node.opened c e = absurd (let q = e in cc)
along_child i is Node.skipped c e = absurd (let q = e in cc)

along_none_in : (i : ℕ) (is : List ℕ) (ns : Children) → child_in i ns ≡ None → along_in i is ns ≡ []
along_none_in i is Children.none e = refl
along_none_in zero is (Children.more r f n ns) e = absurd (let q = e in cc)
along_none_in (suc i) is (Children.more r f n ns) e = along_none_in i is ns e

pub along_none : (i : ℕ) (is : List ℕ) (n : Node) → child_at i n ≡ None → along (i ∷ is) n ≡ []
along_none i is (Node.step k t a ns) e = along_none_in i is ns e
along_none i is (Node.closed p) e = refl
along_none i is Node.opened e = refl
along_none i is Node.skipped e = refl

pub added_along : (s : Tables) (p : List ℕ) (i : ℕ) (is : List ℕ) (n : Node) (c : Child) (old new : List FormId) → p ≡ i ∷ is → child_at i n ≡ Some c
    → forms_of s new ≡ extend (forms_of s old) (forms_of s c.normal)
    → extend_all (forms_of s new) (lists_of s (along is c.node)) ≡ extend_all (forms_of s old) (lists_of s (along p n))
added_along s p i is n c old new e f g =
    ap (λ b. extend_all b (lists_of s (along is c.node))) g
    ∙ sym (ap (λ q. extend_all (forms_of s old) (lists_of s (along q n))) e ∙ ap (λ fs. extend_all (forms_of s old) (lists_of s fs)) (along_child i is n c f))

-- the child to which a path leads is the first one, or one below it
brought_last_in : (i : ℕ) (ns : Children) (c : Child) → child_in i ns ≡ Some c → brought_in i [] ns ≡ c.normal
brought_last_in i Children.none c e = absurd (let q = e in cc)
brought_last_in zero (Children.more r f n ns) c e = ap (λ (x : Child). x.normal) (same_Some (record { raw = r; normal = f; node = n }) c e)
brought_last_in (suc i) (Children.more r f n ns) c e = brought_last_in i ns c e

brought_below_in : (i j : ℕ) (js : List ℕ) (ns : Children) (c : Child) → child_in i ns ≡ Some c → brought_in i (j ∷ js) ns ≡ brought (j ∷ js) c.node
brought_below_in i j js Children.none c e = absurd (let q = e in cc)
brought_below_in zero j js (Children.more r f n ns) c e = ap (λ (x : Child). brought (j ∷ js) x.node) (same_Some (record { raw = r; normal = f; node = n }) c e)
brought_below_in (suc i) j js (Children.more r f n ns) c e = brought_below_in i j js ns c e

pub brought_last : (p : List ℕ) (i : ℕ) (is : List ℕ) (n : Node) (c : Child) → p ≡ i ∷ is → child_at i n ≡ Some c → true ≡ (length is == 0) → brought p n ≡ c.normal
brought_last p i [] (Node.step k t a ns) c e f h = ap (λ q. brought q (Node.step k t a ns)) e ∙ brought_last_in i ns c f
brought_last p i (j ∷ js) (Node.step k t a ns) c e f h = absurd (let z : suc (length js) ≡ 0 = eqb-true (length (j ∷ js)) 0 (sym h) in omega arith)
brought_last p i is (Node.closed q) c e f h = absurd (let z = f in cc)
brought_last p i is Node.opened c e f h = absurd (let z = f in cc)
brought_last p i is Node.skipped c e f h = absurd (let z = f in cc)

pub brought_below : (p : List ℕ) (i : ℕ) (is : List ℕ) (n : Node) (c : Child) → p ≡ i ∷ is → child_at i n ≡ Some c → false ≡ (length is == 0) → brought p n ≡ brought is c.node
brought_below p i [] (Node.step k t a ns) c e f h = absurd (let z = h in cc)
brought_below p i (j ∷ js) (Node.step k t a ns) c e f h = ap (λ q. brought q (Node.step k t a ns)) e ∙ brought_below_in i j js ns c f
brought_below p i is (Node.closed q) c e f h = absurd (let z = f in cc)
brought_below p i is Node.opened c e f h = absurd (let z = f in cc)
brought_below p i is Node.skipped c e f h = absurd (let z = f in cc)

brought_none_in : (i : ℕ) (is : List ℕ) (ns : Children) → child_in i ns ≡ None → brought_in i is ns ≡ []
brought_none_in i is Children.none e = refl
brought_none_in zero is (Children.more r f n ns) e = absurd (let q = e in cc)
brought_none_in (suc i) is (Children.more r f n ns) e = brought_none_in i is ns e

pub brought_none : (p : List ℕ) (i : ℕ) (is : List ℕ) (n : Node) → p ≡ i ∷ is → child_at i n ≡ None → brought p n ≡ []
brought_none p i is (Node.step k t a ns) e f = ap (λ q. brought q (Node.step k t a ns)) e ∙ brought_none_in i is ns f
brought_none p i is (Node.closed q) e f = ap (λ z. brought z (Node.closed q)) e
brought_none p i is Node.opened e f = ap (λ z. brought z Node.opened) e
brought_none p i is Node.skipped e f = ap (λ z. brought z Node.skipped) e

-- The next path, where the first place leads to a child of a Step.
next_inside : (i : ℕ) (is : List ℕ) (cs : List Code) (d : Code) → i < length cs → next_in i is (children_of (map child_ids cs)) ≡ next is (child_ids (get_or cs i d)).node
next_inside i is [] d h = absurd (omega arith)
next_inside zero is (c ∷ cs) d h = refl
next_inside (suc i) is (c ∷ cs) d h = next_inside i is cs d (omega arith)

pub next_step : (p : List ℕ) (i : ℕ) (is : List ℕ) (n : Node) (k : ℕ) (t : Kind) (a : Act) (cs : List Code) (c : Code) → p ≡ i ∷ is
    → n ≡ Node.step k t a (children_of (map child_ids cs)) → c ≡ get_or cs i c → i < length cs
    → next p n ≡ option_or (option_map (λ js. i ∷ js) (next is (node_ids c.node))) (option_map (λ d. suc i ∷ []) (child_in (suc i) (children_of (map child_ids cs))))
next_step p i is n k t a cs c e f g h =
    ap (λ q. next q n) e ∙ ap (λ m. next (i ∷ is) m) f
    ∙ ap (λ o. option_or (option_map (λ js. i ∷ js) o) (option_map (λ d. suc i ∷ []) (child_in (suc i) (children_of (map child_ids cs)))))
    (next_inside i is cs c h ∙ ap (λ (x : Child). next is x.node) (sym (ap child_ids g) ∙ child_opens c))

-- it was found inside the child
pub added_inside : (i : ℕ) (old pushed new : List ℕ) (m o : Option (List ℕ)) (c : Option Child) → m ≡ option_or (option_map (λ js. i ∷ js) o) (option_map (λ d. suc i ∷ []) c)
    → pushed ≡ old ++ i ∷ [] → IsAdded pushed new o true → IsAdded old new m true
added_inside i old pushed new m None c k e h = absurd (let q = h.0 in cc)
added_inside i old pushed new m (Some js) c k e h =
    subst (λ w. IsAdded old new w true) (sym k) (refl, h.1 ∙ ap (λ xs. xs ++ js) e ∙ append_assoc old (i ∷ []) js)

-- what was pushed is popped again, where nothing was found inside the child
pub popped : (i : ℕ) (old pushed found new : List ℕ) (o : Option (List ℕ)) (r : Option ℕ) → pushed ≡ old ++ i ∷ [] → IsAdded pushed found o false
    → MatchOption r ((found ≡ []) × (new ≡ [])) (λ last. found ≡ new ++ last ∷ []) → (o ≡ None) × (new ≡ old)
popped i old pushed found new (Some js) r e h m = absurd (let q = h.0 in cc)
popped i [] pushed found new None None e h m = absurd (let q : i ∷ [] ≡ [] = sym (h.1 ∙ e) ∙ m.0 in cc)
popped i (a ∷ old) pushed found new None None e h m = absurd (let q : a ∷ (old ++ i ∷ []) ≡ [] = sym (h.1 ∙ e) ∙ m.0 in cc)
popped i old pushed found new None (Some last) e h m = (refl, (same_from_push new old last i (sym m ∙ h.1 ∙ e)).0)

behind_within : (i : ℕ) (cs : List Code) → i < length cs → (c : Child) × (child_in i (children_of (map child_ids cs)) ≡ Some c)
behind_within i [] h = absurd (omega arith)
behind_within zero (c ∷ cs) h = (child_ids c, refl)
behind_within (suc i) (c ∷ cs) h = behind_within i cs (omega arith)

behind_past : (i : ℕ) (cs : List Code) → length cs ≤ i → child_in i (children_of (map child_ids cs)) ≡ None
behind_past i [] h = refl
behind_past zero (c ∷ cs) h = absurd (omega arith)
behind_past (suc i) (c ∷ cs) h = behind_past i cs (omega arith)

-- the child behind it, or none
pub added_behind : (i : ℕ) (cs : List Code) (old new : List ℕ) (m o : Option (List ℕ))
    → m ≡ option_or (option_map (λ js. i ∷ js) o) (option_map (λ d. suc i ∷ []) (child_in (suc i) (children_of (map child_ids cs))))
    → o ≡ None → i + 1 < length cs → new ≡ old ++ (i + 1) ∷ [] → IsAdded old new m true
added_behind i cs old new m o w e h g =
    let b = behind_within (suc i) cs (omega arith) in
    let k : i + 1 ≡ suc i = omega arith in
    let z : Some (suc i ∷ []) ≡ m =
    sym (w ∙ ap (λ u. option_or (option_map (λ js. i ∷ js) u) (option_map (λ d. suc i ∷ []) (child_in (suc i) (children_of (map child_ids cs))))) e
    ∙ ap (λ (u : Option Child). option_map (λ d. suc i ∷ []) u) b.1) in
    subst (λ u. IsAdded old new u true) z (refl, g ∙ ap (λ u. old ++ u ∷ []) k)

pub added_none : (i : ℕ) (cs : List Code) (old new : List ℕ) (m o : Option (List ℕ))
    → m ≡ option_or (option_map (λ js. i ∷ js) o) (option_map (λ d. suc i ∷ []) (child_in (suc i) (children_of (map child_ids cs))))
    → o ≡ None → length cs ≤ i + 1 → new ≡ old → IsAdded old new m false
added_none i cs old new m o w e h g =
    let b = behind_past (suc i) cs (omega arith) in
    let z : None ≡ m =
    sym (w ∙ ap (λ u. option_or (option_map (λ js. i ∷ js) u) (option_map (λ d. suc i ∷ []) (child_in (suc i) (children_of (map child_ids cs))))) e
    ∙ ap (λ (u : Option Child). option_map (λ d. suc i ∷ []) u) b) in
    subst (λ u. IsAdded old new u false) z (refl, g)

-- the path of a node that is a Step leads into one of its children
pub step_within : (p : List ℕ) (n : Node) (k : ℕ) (t : Kind) (a : Act) (cs : List Code) → 1 ≤ length p → n ≡ Node.step k t a (children_of (map child_ids cs))
    → IsFirst p n → IsFirstOf (slice_index_or p 0 0) (take (length p - 1) (drop 1 p)) (children_of (map child_ids cs))
step_within p n k t a cs l e h = first_step p _ _ n k t a (children_of (map child_ids cs)) (first_place p l) e h

-- what was added to no places
pub added_found : (old new : List ℕ) (m : Option (List ℕ)) → old ≡ [] → IsAdded old new m true → Some new ≡ m
added_found old new None e h = absurd (let q = h.0 in cc)
added_found old new (Some is) e h = ap Some (h.1 ∙ ap (λ xs. xs ++ is) e)

pub added_nothing : (old new : List ℕ) (m : Option (List ℕ)) → IsAdded old new m false → None ≡ m
added_nothing old new None h = refl
added_nothing old new (Some is) h = absurd (let q = h.0 in cc)
