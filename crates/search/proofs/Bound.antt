-- No tableau of a problem without quantifiers and equality has more Steps than the problem needs, whatever offers are
-- taken.
use Rattle.std.proofs.Common.{◌≡◌, ◌≢◌, ℕ, ◌+◌, ◌*◌, ◌-◌, ◌≤◌, ◌<◌, Bool, true, false, ◌||◌, refl, ap, sym, subst, ◌∙◌, List, [], ◌∷◌, inl, inr, Contains, arith, Some}
use Rattle.std.proofs.lemmas.Nat.{mul-le}
use Rattle.std.proofs.lemmas.Option.{same_Some}
use Rattle.std.proofs.lemmas.Bool.{and_from, or_left, or_right}
use Rattle.zm_logic.specs.Tree.{Form, Connective}
use Rattle.zm_logic.specs.Same.{has}
use Rattle.zm_logic.proofs.Sames.{Contains-here, Contains-there, Contains-cases, Contains-none, contains-has}
use Rattle.param_store.specs.RawOffers.{Act, split}
use Rattle.branch.specs.Branch.{extend}
use Rattle.branch.specs.Setting.{Setting}
use Rattle.branch.specs.BranchOffers.{Kind}
use Rattle.branch.specs.Offers.{Child, Offer, normals, has_all, has_some, IsOfferAt}
use Rattle.branch.specs.Tableau.{Node, Children, Leaf, given, skips, enter_child, after, IsLawful, AreLawful, count, count_all, current, current_of}
use Rattle.branch.specs.QuantifierFree.{AreQuantifierFree, useful_splits}
use Rattle.branch.proofs.Lists.{or-cases}
use Rattle.branch.proofs.Branches.{extend-keeps, extend-has}
use Rattle.branch.proofs.Closings.{IsWithin}
use Rattle.branch.proofs.Splits.{IsSplitOffer, split_offered, offer_at}
use Rattle.branch.proofs.FreeBranches.{extend_free, children_free}
use Rattle.search.specs.Need.{weight, leaves, weights, all_leaves}
use Rattle.search.proofs.Load.{settled, load, spread, spread_but, times, load_falls, load_extend, spread_pos, spread_falls, spread_but_falls, spread_extend}

-- each child weighs less than the formula acted on, and the children come to no more branches
abbrev pub AllLess : List (List Form) → ℕ → Type 0
AllLess [] w = Unit {0}
AllLess (c ∷ cs) w = (weights c < w) × AllLess cs w

abbrev pub sum_leaves : List (List Form) → ℕ
sum_leaves [] = 0
sum_leaves (c ∷ cs) = all_leaves c + sum_leaves cs

pub record Falls (f : Form) (cs : List (List Form)) : Type 0 where
  pub heavy : 0 < weight f
  pub less : AllLess cs (weight f)
  pub no_more : sum_leaves cs ≤ leaves f

pub split_falls : (f : Form) → (split f ≡ [] → ⊥) → Falls f (split f)
split_falls (Form.negation (Form.negation a)) n = record { heavy = omega arith; less = (omega arith, tt); no_more = omega arith }
split_falls (Form.binary Connective.conjunction a b) n = record { heavy = omega arith; less = (omega arith, tt); no_more = omega arith }
split_falls (Form.negation (Form.binary Connective.disjunction a b)) n = record { heavy = omega arith; less = (omega arith, tt); no_more = omega arith }
split_falls (Form.negation (Form.binary Connective.implication a b)) n = record { heavy = omega arith; less = (omega arith, tt); no_more = omega arith }
split_falls (Form.binary Connective.disjunction a b) n = record { heavy = omega arith; less = (omega arith, (omega arith, tt)); no_more = omega arith }
split_falls (Form.negation (Form.binary Connective.conjunction a b)) n = record { heavy = omega arith; less = (omega arith, (omega arith, tt)); no_more = omega arith }
split_falls (Form.binary Connective.implication a b) n = record { heavy = omega arith; less = (omega arith, (omega arith, tt)); no_more = omega arith }
split_falls (Form.binary Connective.equivalence a b) n = record { heavy = omega arith; less = (omega arith, (omega arith, tt)); no_more = omega arith }
split_falls (Form.negation (Form.binary Connective.equivalence a b)) n = record { heavy = omega arith; less = (omega arith, (omega arith, tt)); no_more = omega arith }
split_falls f n = absurd (n refl)

-- the formula that an offer of a branch acts on
pub record Acts (b : List Form) (cs : List (List Form)) : Type 0 where
  pub form : Form
  pub stands : Contains b form
  pub unsettled : settled b form ≡ false
  pub heavy : 0 < weight form
  pub less : AllLess cs (weight form)
  pub no_more : sum_leaves cs ≤ leaves form
  pub settles_in : (s : List Form) → settled s form ≡ has_some s cs

split_acts : (b : List Form) (children : List Child) → IsSplitOffer b children → Acts b (normals children)
split_acts b children x =
    let w = split_falls x.form x.some in
    let P : List (List Form) → Type 0 = λ cs. Acts b cs in
    subst P (sym x.brings) (record {
      form = x.form;
      stands = x.stands;
      unsettled = x.fresh;
      heavy = w.heavy;
      less = w.less;
      no_more = w.no_more;
      settles_in = λ s. refl;
    })

offer_acts : (b : List Form) (o : Offer) → Contains (useful_splits b) o → Acts b (normals o.children)
offer_acts b o m = split_acts b o.children (split_offered b o m)

-- the formulas of each child
abbrev pub brought : Children → List (List Form)
brought ns = normals (given ns)

pub all_on : (s c : List Form) → IsWithin c s → has_all s c ≡ true
all_on s [] w = refl
all_on s (f ∷ fs) w = and_from (has s f) (has_all s fs) (contains-has s f (w f (Contains-here f fs))) (all_on s fs (λ x h. w x (Contains-there f fs x h)))

pub some_on : (s c : List Form) (cs : List (List Form)) → Contains cs c → has_all s c ≡ true → has_some s cs ≡ true
some_on s c [] h e = absurd (Contains-none c h)
some_on s c (d ∷ cs) h e =
    let P : List Form → Type 0 = λ x. has_all s x ≡ true in
    elim (Contains-cases d cs c h) [
      | inl i ↦ or_left (has_all s d) (has_some s cs) (subst P (sym i) e)
      | inr i ↦ or_right (has_all s d) (has_some s cs) (some_on s c cs i e)
    ]

-- below a child the formula is settled, so less is left to do
pub record Below (b : List Form) (f : Form) (c : List Form) : Type 0 where
  pub lighter : load (extend b c) (extend b c) < load b b
  pub narrower : spread (extend b c) (extend b c) ≤ spread_but b f b * all_leaves c

pub below : (b : List Form) (f : Form) (c : List Form) → Contains b f → settled b f ≡ false → settled (extend b c) f ≡ true → weights c < weight f → Below b f c
below b f c h u v w =
    let s = extend b c in
    let k : IsWithin b s = λ x i. extend-keeps b c x i in
    let p = load_extend s b c in
    let q = load_falls b s b f k h u v in
    let x = spread_extend s b c in
    let y = mul-le (spread s b) (all_leaves c) (spread_but b f b) (all_leaves c) (spread_falls b s b f k v) (omega arith) in
    record { lighter = omega arith; narrower = omega arith }

pub child_bound : (k l m sp su al : ℕ) → k ≤ l * sp → l ≤ m → sp ≤ su * al → k ≤ m * (su * al)
child_bound k l m sp su al h i j = let p = mul-le l sp m (su * al) i j in omega arith

pub step_bound : (k m su sum le sp : ℕ) → k ≤ m * (su * sum) → sum ≤ le → su * le ≤ sp → k ≤ m * sp
step_bound k m su sum le sp h i j =
    let p = mul-le su sum su le (omega arith) i in
    let q : m * (su * sum) ≤ m * sp = mul-le m (su * sum) m sp (omega arith) (omega arith) in omega arith

pub joined : (m su al sum : ℕ) → m * (su * al) + m * (su * sum) ≡ m * (su * (al + sum))
joined m su al sum = omega arith

pub whole : (k m sp : ℕ) → k ≤ m * sp → 0 < sp → k + 1 ≤ (m + 1) * sp
whole k m sp h i = omega arith

pub load_has : (s b : List Form) (f : Form) → Contains b f → settled s f ≡ false → weight f ≤ load s b
load_has s [] f h u = absurd (Contains-none f h)
load_has s (g ∷ gs) f h u =
    elim (Contains-cases g gs f h) [
      | inl e ↦ let v : settled s g ≡ false = rw e u in let x : weight g ≡ weight f = ap weight e in rw v (omega arith)
      | inr i ↦ let k = load_has s gs f i u in omega arith
    ]

pub of_child : (b : List Form) (cs : List (List Form)) (w : Acts b cs) (c : List Form) → Contains cs c → weights c < weight w.form → Below b w.form c
of_child b cs w c h x =
    below b w.form c w.stands w.unsettled (w.settles_in (extend b c) ∙ some_on (extend b c) c cs h (all_on (extend b c) c (λ y i. extend-has b c y i))) x

-- a branch with a useful alpha or beta formula has something left to do
first_bound : (b : List Form) (os : List Offer) → useful_splits b ≡ os → useful_splits b ≢ [] → 0 + 1 ≤ load b b * spread b b
first_bound b [] e n = absurd (n e)
first_bound b (o ∷ os) e n =
    let P : List Offer → Type 0 = λ x. Contains x o in
    let w = offer_acts b o (subst P (sym e) (Contains-here o os)) in
    let g = load_has b b w.form w.stands w.unsettled in
    let p = times (load b b) (spread b b) (let z = w.heavy in omega arith) (spread_pos b b) in omega arith

pub above_none : (b : List Form) → useful_splits b ≢ [] → 0 < load b b
above_none b n = go (useful_splits b) refl
  where
    go : (os : List Offer) → useful_splits b ≡ os → 0 < load b b
    go [] e = absurd (n e)
    go (o ∷ os) e =
        let P : List Offer → Type 0 = λ x. Contains x o in
        let w = offer_acts b o (subst P (sym e) (Contains-here o os)) in
        let g = load_has b b w.form w.stands w.unsettled in let z = w.heavy in omega arith

abbrev leaf_at : List Form → List Form → ℕ → Leaf
leaf_at b t d = record { branch = b; above = d; table = t }

leaf_is : (b t : List Form) (d : ℕ) (leaf : Leaf) → Some (leaf_at b t d) ≡ Some leaf → leaf_at b t d ≡ leaf
leaf_is b t d leaf e = same_Some (leaf_at b t d) leaf e

module _ (s : Setting) (unruled : s.rules ≡ []) where
  -- what a lawful Step acts on
  step_acts : (t b : List Form) (k : ℕ) (c : Kind) (a : Act) (ns : Children) → AreQuantifierFree b → IsOfferAt s t b k c a (given ns) → Acts b (brought ns)
  step_acts t b k c a ns q l = split_acts b (given ns) (offer_at s unruled t b k c a (given ns) q l)

  -- the branches of its children
  abbrev AreFree : List Form → List (List Form) → Type 0
  AreFree b cs = (c : List Form) → Contains cs c → AreQuantifierFree (extend b c)

  next_free : (t b : List Form) (k : ℕ) (c : Kind) (a : Act) (ns : Children) → AreQuantifierFree b → IsOfferAt s t b k c a (given ns) → AreFree b (brought ns)
  next_free t b k c a ns q l f m = extend_free b f q (children_free s unruled t b k c a ns q l f m)

  mutual
    -- the Steps below a branch
    pub bound : (n : Node) (t b : List Form) → AreQuantifierFree b → IsLawful s t b n → count n ≤ load b b * spread b b
    bound (Node.step k c a ns) t b q l =
        let w = step_acts t b k c a ns q l.1 in
        let m = load b b - 1 in
        let g = load_has b b w.form w.stands w.unsettled in
        let e : load b b ≡ m + 1 = let z = w.heavy in omega arith in
        let p = bound_all ns t b (brought ns) w m e false l.2 (λ f h. h) (next_free t b k c a ns q l.1) w.less in
        let r = step_bound (count_all ns) m (spread_but b w.form b) (sum_leaves (brought ns)) (leaves w.form) (spread b b) p w.no_more (spread_but_falls b b w.form w.stands w.unsettled) in
        let x = whole (count_all ns) m (spread b b) r (spread_pos b b) in
        rw e (omega arith)
    bound (Node.closed c) t b q l = omega arith
    bound Node.opened t b q l = omega arith
    bound Node.skipped t b q l = omega arith

    pub bound_all : (ns : Children) (t b : List Form) (cs : List (List Form)) (w : Acts b cs) (m : ℕ) → load b b ≡ m + 1 → (i : Bool) → AreLawful s t b i ns
        → ((c : List Form) → Contains (brought ns) c → Contains cs c) → AreFree b (brought ns) → AllLess (brought ns) (weight w.form)
        → count_all ns ≤ m * (spread_but b w.form b * sum_leaves (brought ns))
    bound_all Children.none t b cs w m e i l k q x = omega arith
    bound_all (Children.more r f n ns) t b cs w m e i l k q x =
        let u = of_child b cs w f (k f (Contains-here f (brought ns))) x.0 in
        let p = child_bound (count n) (load (extend b f) (extend b f)) m (spread (extend b f) (extend b f)) (spread_but b w.form b) (all_leaves f)
        (bound n (enter_child t f n) (extend b f) (q f (Contains-here f (brought ns))) l.1) (let z = u.lighter in omega arith) u.narrower in
        let y = bound_all ns (after (enter_child t f n) n) b cs w m e (i || skips s.prunes b f n) l.2
        (λ c h. k c (Contains-there f (brought ns) c h)) (λ c h. q c (Contains-there f (brought ns) c h)) x.1 in
        let j = joined m (spread_but b w.form b) (all_leaves f) (sum_leaves (brought ns)) in
        omega arith

  mutual
    -- one fewer, where the current branch has a useful alpha or beta formula
    pub strict : (n : Node) (t b : List Form) (d : ℕ) (leaf : Leaf) → AreQuantifierFree b → IsLawful s t b n → current t b d n ≡ Some leaf → useful_splits leaf.branch ≢ []
        → count n + 1 ≤ load b b * spread b b
    strict (Node.step k c a ns) t b d leaf q l y o =
        let w = step_acts t b k c a ns q l.1 in
        let m = load b b - 1 in
        let g = load_has b b w.form w.stands w.unsettled in
        let e : load b b ≡ m + 1 = let z = w.heavy in omega arith in
        let p = strict_all ns t b (d + 1) leaf (brought ns) w m e false l.2 (λ f h. h) (next_free t b k c a ns q l.1) w.less y o in
        let r = step_bound (count_all ns + 1) m (spread_but b w.form b) (sum_leaves (brought ns)) (leaves w.form) (spread b b) p w.no_more (spread_but_falls b b w.form w.stands w.unsettled) in
        let x = whole (count_all ns + 1) m (spread b b) r (spread_pos b b) in
        rw e (omega arith)
    strict (Node.closed x) t b d leaf q l y o = absurd (let z = y in cc)
    strict Node.opened t b d leaf q l y o =
        let P : Leaf → Type 0 = λ x. useful_splits x.branch ≢ [] in
        first_bound b (useful_splits b) refl (subst P (sym (leaf_is b t d leaf y)) o)
    strict Node.skipped t b d leaf q l y o = absurd (let z = y in cc)

    pub strict_all : (ns : Children) (t b : List Form) (d : ℕ) (leaf : Leaf) (cs : List (List Form)) (w : Acts b cs) (m : ℕ) → load b b ≡ m + 1 → (i : Bool) → AreLawful s t b i ns
        → ((c : List Form) → Contains (brought ns) c → Contains cs c) → AreFree b (brought ns) → AllLess (brought ns) (weight w.form)
        → current_of t b d ns ≡ Some leaf → useful_splits leaf.branch ≢ []
        → count_all ns + 1 ≤ m * (spread_but b w.form b * sum_leaves (brought ns))
    strict_all Children.none t b d leaf cs w m e i l k q x y o = absurd (let z = y in cc)
    strict_all (Children.more r f n ns) t b d leaf cs w m e i l k q x y o =
        let u = of_child b cs w f (k f (Contains-here f (brought ns))) x.0 in
        let j = joined m (spread_but b w.form b) (all_leaves f) (sum_leaves (brought ns)) in
        let free = q f (Contains-here f (brought ns)) in
        elim (or-cases (current (enter_child t f n) (extend b f) d n) (current_of (after (enter_child t f n) n) b d ns) leaf y) [
          | inl h ↦
              let p = child_bound (count n + 1) (load (extend b f) (extend b f)) m (spread (extend b f) (extend b f)) (spread_but b w.form b) (all_leaves f)
              (strict n (enter_child t f n) (extend b f) d leaf free l.1 h o) (let z = u.lighter in omega arith) u.narrower in
              let v = bound_all ns (after (enter_child t f n) n) b cs w m e (i || skips s.prunes b f n) l.2
              (λ c h. k c (Contains-there f (brought ns) c h)) (λ c h. q c (Contains-there f (brought ns) c h)) x.1 in
              omega arith
          | inr h ↦
              let p = child_bound (count n) (load (extend b f) (extend b f)) m (spread (extend b f) (extend b f)) (spread_but b w.form b) (all_leaves f)
              (bound n (enter_child t f n) (extend b f) free l.1) (let z = u.lighter in omega arith) u.narrower in
              let v = strict_all ns (after (enter_child t f n) n) b d leaf cs w m e (i || skips s.prunes b f n) l.2
              (λ c h. k c (Contains-there f (brought ns) c h)) (λ c h. q c (Contains-there f (brought ns) c h)) x.1 h o in
              omega arith
        ]

  mutual
    -- the Steps above the current branch, with what is left to do there
    pub above : (n : Node) (t b : List Form) (d : ℕ) (leaf : Leaf) → AreQuantifierFree b → IsLawful s t b n → current t b d n ≡ Some leaf
        → leaf.above + load leaf.branch leaf.branch ≤ d + load b b
    above (Node.step k c a ns) t b d leaf q l y =
        let w = step_acts t b k c a ns q l.1 in
        let m = load b b - 1 in
        let g = load_has b b w.form w.stands w.unsettled in
        let e : load b b ≡ m + 1 = let z = w.heavy in omega arith in
        let p = above_all ns t b (d + 1) leaf (brought ns) w m e false l.2 (λ f h. h) (next_free t b k c a ns q l.1) w.less y in omega arith
    above (Node.closed x) t b d leaf q l y = absurd (let z = y in cc)
    above Node.opened t b d leaf q l y =
        let P : Leaf → Type 0 = λ x. x.above + load x.branch x.branch ≤ d + load b b in
        subst P (leaf_is b t d leaf y) (omega arith)
    above Node.skipped t b d leaf q l y = absurd (let z = y in cc)

    pub above_all : (ns : Children) (t b : List Form) (d : ℕ) (leaf : Leaf) (cs : List (List Form)) (w : Acts b cs) (m : ℕ) → load b b ≡ m + 1 → (i : Bool) → AreLawful s t b i ns
        → ((c : List Form) → Contains (brought ns) c → Contains cs c) → AreFree b (brought ns) → AllLess (brought ns) (weight w.form)
        → current_of t b d ns ≡ Some leaf → leaf.above + load leaf.branch leaf.branch ≤ d + m
    above_all Children.none t b d leaf cs w m e i l k q x y = absurd (let z = y in cc)
    above_all (Children.more r f n ns) t b d leaf cs w m e i l k q x y =
        let u = of_child b cs w f (k f (Contains-here f (brought ns))) x.0 in
        elim (or-cases (current (enter_child t f n) (extend b f) d n) (current_of (after (enter_child t f n) n) b d ns) leaf y) [
          | inl h ↦ let p = above n (enter_child t f n) (extend b f) d leaf (q f (Contains-here f (brought ns))) l.1 h in let z = u.lighter in omega arith
          | inr h ↦ above_all ns (after (enter_child t f n) n) b d leaf cs w m e (i || skips s.prunes b f n) l.2
              (λ c h. k c (Contains-there f (brought ns) c h)) (λ c h. q c (Contains-there f (brought ns) c h)) x.1 h
        ]
