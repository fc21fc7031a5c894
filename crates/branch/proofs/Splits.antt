-- Without rules, a branch without quantifiers, equality and parameters has its useful alpha and beta formulas as its
-- offers, and each of them can be made where no formula is too deep.
use Rattle.std.proofs.Common.{◌≡◌, ℕ, ◌≤◌, true, false, refl, ap, sym, subst, ◌∙◌, arith, List, [], ◌∷◌, inl, inr, Contains, map, filter}
use Rattle.std.proofs.lemmas.List.Elements.{All-contains, filter_passes}
use Rattle.std.proofs.lemmas.Bool.{not-true, not-false}
use Rattle.zm_logic.specs.Tree.{Form, Connective}
use Rattle.zm_logic.specs.Measure.{depth}
use Rattle.zm_logic.proofs.Sames.{Contains-here, Contains-there, Contains-cases, Contains-none}
use Rattle.param_store.specs.RawOffers.{Act, split}
use Rattle.branch.specs.Branch.{extend}
use Rattle.branch.specs.Setting.{Setting}
use Rattle.branch.specs.Normal.{Fault, Made, Normalizes, NormalizesFrom, MakesAll}
use Rattle.branch.specs.BranchOffers.{Kind, Placed, Entry}
use Rattle.branch.specs.Offers.{Child, Offer, MakesForm, MakesChild, MakesOffer, offer_of, normals, has_some, is_useful, AreOffers, HasFault, IsOfferAt}
use Rattle.branch.specs.Stopping.{IsRoot, StopsAtRoot}
use Rattle.branch.specs.QuantifierFree.{AreQuantifierFree, AreShallow, splits, unchanged, split_offer, useful_splits}
use Rattle.branch.proofs.Lists.{get-contains, filter-kept, filter-none, map-source}
use Rattle.branch.proofs.Kept.{made_is}
use Rattle.branch.proofs.NoRules.{its_own}
use Rattle.branch.proofs.Children.{AllOf, AllIn}
use Rattle.branch.proofs.Grows.{all_of, all_in}
use Rattle.branch.proofs.QuantifierFree.{raw_splits, split_source, split_there}

module _ {A B : Type 0} (Makes : A → Made B → Type 0) where
  -- where each member can be made in one way, so can all
  all_made : (g : A → B) {xs : List A} {x : Made (List B)} → ((a : A) → Contains xs a → (b : B) → Makes a (Made.made b) → b ≡ g a)
      → MakesAll Makes xs x → (ys : List B) → x ≡ Made.made ys → ys ≡ map g xs
  all_made g h (MakesAll.none) ys e = sym (made_is [] ys e)
  all_made g h (MakesAll.more {x = a} {y = b} {xs = xs} {ys = bs} m ms) ys e =
      sym (made_is (b ∷ bs) ys e) ∙ (ap (λ z. z ∷ bs) (h a (Contains-here a xs) b m) ∙ ap (λ z. g a ∷ z) (all_made g (λ c i. h c (Contains-there a xs c i)) ms bs refl))
  all_made g h (MakesAll.first m) ys e = cc
  all_made g h (MakesAll.later m ms) ys e = cc

  -- where no member has a fault, there is none
  never_faulty : {xs : List A} {x : Made (List B)} → ((a : A) → Contains xs a → (e : Fault) → Makes a (Made.fault e) → ⊥)
      → MakesAll Makes xs x → (e : Fault) → x ≡ Made.fault e → ⊥
  never_faulty h (MakesAll.none) e q = cc
  never_faulty h (MakesAll.more m ms) e q = cc
  never_faulty h (MakesAll.first {x = a} {xs = xs} {e = d} m) e q = h a (Contains-here a xs) d m
  never_faulty h (MakesAll.later {x = a} {xs = xs} {e = d} m ms) e q = never_faulty (λ c i. h c (Contains-there a xs c i)) ms d refl

module _ {A B C : Type 0} (Makes : B → Made C → Type 0) (f : A → B) where
  heads : (x y : B) (xs ys : List B) → x ∷ xs ≡ y ∷ ys → x ≡ y
  heads x y xs ys e = cc

  tails : (x y : B) (xs ys : List B) → x ∷ xs ≡ y ∷ ys → xs ≡ ys
  tails x y xs ys e = cc

  unmapped : (ps : List A) {bs : List B} {x : Made (List C)} → MakesAll Makes bs x → bs ≡ map f ps → MakesAll (λ p y. Makes (f p) y) ps x
  unmapped [] (MakesAll.none) q = MakesAll.none
  unmapped [] (MakesAll.more m ms) q = cc
  unmapped [] (MakesAll.first m) q = cc
  unmapped [] (MakesAll.later m ms) q = cc
  unmapped (p ∷ ps) (MakesAll.none) q = cc
  unmapped (p ∷ ps) (MakesAll.more {x = b} {y = c} {xs = bs} m ms) q =
      MakesAll.more (subst (λ z. Makes z (Made.made c)) (heads b (f p) bs (map f ps) q) m) (unmapped ps ms (tails b (f p) bs (map f ps) q))
  unmapped (p ∷ ps) (MakesAll.first {x = b} {xs = bs} {e = e} m) q = MakesAll.first (subst (λ z. Makes z (Made.fault e)) (heads b (f p) bs (map f ps) q) m)
  unmapped (p ∷ ps) (MakesAll.later {x = b} {y = c} {xs = bs} m ms) q =
      MakesAll.later (subst (λ z. Makes z (Made.made c)) (heads b (f p) bs (map f ps) q) m) (unmapped ps ms (tails b (f p) bs (map f ps) q))

map_itself : (fs : List Form) → map (λ f. f) fs ≡ fs
map_itself [] = refl
map_itself (f ∷ fs) = ap (λ z. f ∷ z) (map_itself fs)

pub normals_unchanged : (cs : List (List Form)) → normals (map unchanged cs) ≡ cs
normals_unchanged [] = refl
normals_unchanged (c ∷ cs) = ap (λ z. c ∷ z) (normals_unchanged cs)

pub map-there : {A B : Type 0} (f : A → B) (xs : List A) (x : A) → Contains xs x → Contains (map f xs) (f x)
map-there f [] x h = absurd (Contains-none x h)
map-there {A} {B} f (y ∷ xs) x h =
    let P : A → Type 0 = λ z. Contains (f y ∷ map f xs) (f z) in
    elim (Contains-cases y xs x h) [
      | inl e ↦ subst P e (Contains-here (f y) (map f xs))
      | inr a ↦ Contains-there (f y) (map f xs) (f x) (map-there f xs x a)
    ]

-- the formulas of a child are no deeper than the alpha or beta formula
pub split_depth : (n : ℕ) (f : Form) → depth f ≤ n → AllIn (λ x. depth x ≤ n) (split f)
split_depth n (Form.negation (Form.negation a)) h = ((omega arith, tt), tt)
split_depth n (Form.binary Connective.conjunction a b) h = ((omega arith, (omega arith, tt)), tt)
split_depth n (Form.negation (Form.binary Connective.disjunction a b)) h = ((omega arith, (omega arith, tt)), tt)
split_depth n (Form.negation (Form.binary Connective.implication a b)) h = ((omega arith, (omega arith, tt)), tt)
split_depth n (Form.binary Connective.disjunction a b) h = ((omega arith, tt), ((omega arith, tt), tt))
split_depth n (Form.negation (Form.binary Connective.conjunction a b)) h = ((omega arith, tt), ((omega arith, tt), tt))
split_depth n (Form.binary Connective.implication a b) h = ((omega arith, tt), ((omega arith, tt), tt))
split_depth n (Form.binary Connective.equivalence a b) h = ((omega arith, (omega arith, tt)), ((omega arith, (omega arith, tt)), tt))
split_depth n (Form.negation (Form.binary Connective.equivalence a b)) h = ((omega arith, (omega arith, tt)), ((omega arith, (omega arith, tt)), tt))
split_depth n f h = rest f
  where
    rest : (f : Form) → AllIn (λ x. depth x ≤ n) []
    rest f = tt

-- an offer of such a branch: the children of an alpha or beta formula there, none of which stands there whole
pub record IsSplitOffer (b : List Form) (children : List Child) : Type 0 where
  pub form : Form
  pub stands : Contains b form
  pub brings : normals children ≡ split form
  pub some : split form ≡ [] → ⊥
  pub fresh : has_some b (split form) ≡ false

pub split_offered : (b : List Form) (o : Offer) → Contains (useful_splits b) o → IsSplitOffer b o.children
split_offered b o m =
    let all = map split_offer (splits b) in
    let s = map-source split_offer (splits b) o (filter-kept (is_useful b) all o m) in
    let x = split_source b 0 s.0 s.1 in
    let e : normals o.children ≡ split x.form = ap (λ z. normals z.children) (sym s.2) ∙ (normals_unchanged s.0.raw.children ∙ sym x.children) in
    let u = not-true (has_some b (normals o.children)) (All-contains (λ z. is_useful b z ≡ true) (filter (is_useful b) all) o (filter_passes (is_useful b) all) m) in
    record { form = x.form; stands = x.stands; brings = e; some = λ z. x.some (sym x.children ∙ z); fresh = ap (has_some b) (sym e) ∙ u }

-- where no alpha or beta formula of a branch is useful, a child of each stands there
pub settled_whole : (b : List Form) (f : Form) (c : List Form) (cs : List (List Form)) → useful_splits b ≡ [] → Contains b f → split f ≡ c ∷ cs → has_some b (c ∷ cs) ≡ true
settled_whole b f c cs e m p =
    let x = split_there b 0 f c cs m p in
    let u = filter-none (is_useful b) (map split_offer (splits b)) (split_offer x.0) e (map-there split_offer (splits b) x.0 x.1) in
    ap (has_some b) (sym (normals_unchanged x.0.raw.children ∙ x.2)) ∙ not-false (has_some b (normals (map unchanged x.0.raw.children))) u

module _ (s : Setting) (unruled : s.rules ≡ []) where
  normal_itself : (f : Form) (x : Made Form) → Normalizes s f x → x ≡ Made.made f
  normal_itself f x n = its_own (subst (λ r. NormalizesFrom r f s.rewrites f x) unruled n)

  form_itself : (blamed f g : Form) → MakesForm s blamed f (Made.made g) → g ≡ f
  form_itself blamed f g (MakesForm.normal d n) = made_is g f (normal_itself f (Made.made g) n)

  forms_itself : (blamed : Form) (r fs : List Form) → MakesAll (MakesForm s blamed) r (Made.made fs) → fs ≡ r
  forms_itself blamed r fs m = all_made (MakesForm s blamed) (λ f. f) (λ f i g n. form_itself blamed f g n) m fs refl ∙ map_itself r

  child_itself : (blamed : Form) (r : List Form) (c : Child) → MakesChild s blamed r (Made.made c) → c ≡ unchanged r
  child_itself blamed r c (MakesChild.made {fs = fs} m) =
      let with_normal : List Form → Child = λ z. record { raw = r; normal = z } in ap with_normal (forms_itself blamed r fs m)

  offer_itself : (p : Placed) (o : Offer) → MakesOffer s (Entry.offer p) (Made.made o) → o ≡ split_offer p
  offer_itself p o (MakesOffer.made {cs = cs} m) =
      ap (offer_of p) (all_made (MakesChild s p.blamed) unchanged (λ r i c n. child_itself p.blamed r c n) m cs refl)

  -- the offers of a branch
  pub offers_are : (table b : List Form) (os : List Offer) → AreQuantifierFree b → AreOffers s table b os → os ≡ useful_splits b
  offers_are table b os q h =
      let m = unmapped (MakesOffer s) Entry.offer (splits b) h.made (raw_splits s table b h.entries q h.raw) in
      sym h.useful ∙ ap (filter (is_useful b)) (all_made (λ p x. MakesOffer s (Entry.offer p) x) split_offer (λ p i o n. offer_itself p o n) m h.all refl)

  pub offer_at : (table b : List Form) (k : ℕ) (kind : Kind) (act : Act) (children : List Child) → AreQuantifierFree b
      → IsOfferAt s table b k kind act children → IsSplitOffer b children
  offer_at table b k kind act children q at =
      subst (IsSplitOffer b) at.same_children
      (split_offered b at.offer (subst (λ z. Contains z at.offer) (offers_are table b at.listed q at.offers) (get-contains at.listed k at.offer at.at)))

  form_fine : (blamed f : Form) (e : Fault) → depth f ≤ 2000 → MakesForm s blamed f (Made.fault e) → ⊥
  form_fine blamed f e h (MakesForm.too_deep d) = omega arith
  form_fine blamed f e h (MakesForm.normal d n) = let q = normal_itself f (Made.fault e) n in cc

  child_fine : (blamed : Form) (r : List Form) (e : Fault) → AllOf (λ x. depth x ≤ 2000) r → MakesChild s blamed r (Made.fault e) → ⊥
  child_fine blamed r e h (MakesChild.fault m) =
      never_faulty (MakesForm s blamed) (λ f i d n. form_fine blamed f d (all_of (λ x. depth x ≤ 2000) r h f i) n) m e refl

  offer_fine : (p : Placed) (e : Fault) → AllIn (λ x. depth x ≤ 2000) p.raw.children → MakesOffer s (Entry.offer p) (Made.fault e) → ⊥
  offer_fine p e h (MakesOffer.fault m) =
      never_faulty (MakesChild s p.blamed) (λ c i d n. child_fine p.blamed c d (all_in (λ x. depth x ≤ 2000) p.raw.children h c i) n) m e refl

  -- each offer of a branch can be made
  pub no_fault : (table b : List Form) (e : Fault) → AreQuantifierFree b → AreShallow b → HasFault s table b e → ⊥
  no_fault table b e q d h =
      let m = unmapped (MakesOffer s) Entry.offer (splits b) h.first (raw_splits s table b h.entries q h.raw) in
      never_faulty (λ p x. MakesOffer s (Entry.offer p) x)
      (λ p i a n. let x = split_source b 0 p i in offer_fine p a (subst (AllIn (λ y. depth y ≤ 2000)) x.children (split_depth 2000 x.form (d x.form x.stands))) n)
      m e refl

  -- the root's branch has the given formulas
  pub root_itself : (given root : List Form) → IsRoot s given root → extend [] given ≡ root
  root_itself given root is =
      let e : is.normal ≡ given = all_made (Normalizes s) (λ f. f) (λ f i g n. made_is g f (normal_itself f (Made.made g) n)) is.reached is.normal refl ∙ map_itself given in
      ap (λ z. extend [] z) (sym e) ∙ is.distinct

  pub no_root_fault : (given root : List Form) (e : Fault) → StopsAtRoot s given root e → ⊥
  no_root_fault given root e x = let q = normal_itself x.formula (Made.fault e) x.faulty in cc
