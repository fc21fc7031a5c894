-- Without rules, the offers of a branch without an equality have none in their children.
use Rattle.std.proofs.Common.{ℕ, ◌≡◌, refl, sym, subst, ap, ◌∙◌, List, [], ◌∷◌, All}
use Rattle.std.proofs.lemmas.List.Elements.{All-nil, All-cons, All-head, All-tail, All-filter, All-contains}
use Rattle.zm_logic.specs.Tree.{Form}
use Rattle.branch.specs.Branch.{extend}
use Rattle.branch.specs.Setting.{Setting}
use Rattle.branch.specs.Normal.{Made, Normalizes, NormalizesFrom, Reaches, MakesAll}
use Rattle.param_store.specs.RawOffers.{Act}
use Rattle.branch.specs.BranchOffers.{Kind, Entry}
use Rattle.branch.specs.Offers.{Child, Offer, MakesOffer, is_useful, AreOffers, IsOfferAt}
use Rattle.branch.specs.Stopping.{IsRoot}
use Rattle.branch.specs.EqualityFree.{AreEqualityFree}
use Rattle.branch.proofs.Lists.{get-contains}
use Rattle.branch.proofs.Kept.{made_is}
use Rattle.branch.proofs.NoRules.{its_own}
use Rattle.branch.proofs.Made.{AreReached, AreMade, raws, children_made}
use Rattle.branch.proofs.EqualityFree.{HaveEqualityFree, IsFreeEntry, AreFreeEntries, none_free, extend_free, raw_free}

-- each child's formulas are without an equality
abbrev pub HasFreeChildren : List Child → Type 0
HasFreeChildren cs = All (λ c. AreEqualityFree c.normal) cs

module _ (s : Setting) (unruled : s.rules ≡ []) where
  itself_reached : (f g : Form) → Reaches s f g → g ≡ f
  itself_reached f g h = made_is g f (its_own (subst (λ r. NormalizesFrom r f s.rewrites f (Made.made g)) unruled h))

  -- formulas are their own normal forms
  pub reached_same : (fs gs : List Form) → AreReached s fs gs → gs ≡ fs
  reached_same [] [] h = refl
  reached_same [] (g ∷ gs) h = absurd h
  reached_same (f ∷ fs) [] h = absurd h
  reached_same (f ∷ fs) (g ∷ gs) h = ap (λ x. x ∷ gs) (itself_reached f g h.0) ∙ ap (λ xs. f ∷ xs) (reached_same fs gs h.1)

  children_free : (cs : List Child) → AreMade s cs → HaveEqualityFree (raws cs) → HasFreeChildren cs
  children_free [] h k = All-nil (λ c. AreEqualityFree c.normal)
  children_free (c ∷ cs) h k =
      All-cons (λ x. AreEqualityFree x.normal) c cs
      (subst AreEqualityFree (sym (reached_same c.raw c.normal h.0)) (All-head AreEqualityFree c.raw (raws cs) k))
      (children_free cs h.1 (All-tail AreEqualityFree c.raw (raws cs) k))

  offer_free : {x : Entry} (o : Offer) → IsFreeEntry x → MakesOffer s x (Made.made o) → HasFreeChildren o.children
  offer_free o h (MakesOffer.made {p = p} {cs = cs} m) =
      let made = children_made s p.blamed p.raw.children cs m refl in
      children_free cs made.1 (subst HaveEqualityFree (sym made.0) h)

  all_free : (es : List Entry) (os : List Offer) {y : Made (List Offer)} → AreFreeEntries es → MakesAll (MakesOffer s) es y → y ≡ Made.made os
      → All (λ o. HasFreeChildren o.children) os
  all_free [] os h MakesAll.none e = subst (All (λ o. HasFreeChildren o.children)) (made_is [] os e) (All-nil (λ o. HasFreeChildren o.children))
  all_free (x ∷ es) os h (MakesAll.more {y = o} {ys = ys} first rest) e =
      subst (All (λ o. HasFreeChildren o.children)) (made_is (o ∷ ys) os e)
      (All-cons (λ o. HasFreeChildren o.children) o ys (offer_free o (All-head IsFreeEntry x es h) first)
      (all_free es ys (All-tail IsFreeEntry x es h) rest refl))
  all_free (x ∷ es) os h (MakesAll.first n) e = cc
  all_free (x ∷ es) os h (MakesAll.later n ms) e = cc

  -- the offers of a branch
  pub offers_free : (table b : List Form) (os : List Offer) → AreOffers s table b os → AreEqualityFree b → AreEqualityFree table
      → All (λ o. HasFreeChildren o.children) os
  offers_free table b os offers h k =
      subst (All (λ o. HasFreeChildren o.children)) offers.useful
      (All-filter (is_useful b) (λ o. HasFreeChildren o.children) offers.all
      (all_free offers.entries offers.all (raw_free s table k b offers.entries offers.raw h) offers.made refl))

  -- the children of an offer that is taken
  pub taken_free : (table b : List Form) (place : ℕ) (kind : Kind) (act : Act) (children : List Child) → IsOfferAt s table b place kind act children
      → AreEqualityFree b → AreEqualityFree table → HasFreeChildren children
  taken_free table b place kind act children at h k =
      subst HasFreeChildren at.same_children
      (All-contains (λ o. HasFreeChildren o.children) at.listed at.offer (offers_free table b at.listed at.offers h k)
      (get-contains at.listed place at.offer at.at))

  normals_same : (fs gs : List Form) {x : Made (List Form)} → MakesAll (Normalizes s) fs x → x ≡ Made.made gs → gs ≡ fs
  normals_same [] gs MakesAll.none e = sym (made_is [] gs e)
  normals_same (f ∷ fs) gs (MakesAll.more {y = g} {ys = ys} first rest) e =
      sym (made_is (g ∷ ys) gs e) ∙ ap (λ x. x ∷ ys) (itself_reached f g first) ∙ ap (λ xs. f ∷ xs) (normals_same fs ys rest refl)
  normals_same (f ∷ fs) gs (MakesAll.first n) e = cc
  normals_same (f ∷ fs) gs (MakesAll.later n ms) e = cc

  -- the root's branch is that of the given formulas
  pub root_same : (given root : List Form) → IsRoot s given root → root ≡ extend [] given
  root_same given root is = sym is.distinct ∙ ap (extend []) (normals_same given is.normal is.reached refl)

  pub root_free : (given root : List Form) → IsRoot s given root → AreEqualityFree given → AreEqualityFree root
  root_free given root is h = subst AreEqualityFree (sym (root_same given root is)) (extend_free [] given none_free h)
