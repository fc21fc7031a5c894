-- An offer that is listed comes from a raw offer, and its children are reached from the raw ones.
use Rattle.std.proofs.Common.{◌≡◌, ℕ, true, refl, ap, sym, subst, ◌∙◌, List, [], ◌∷◌, inl, inr, Contains, filter}
use Rattle.std.proofs.lemmas.List.Elements.{All-contains, filter_passes}
use Rattle.zm_logic.specs.Tree.{Form}
use Rattle.zm_logic.proofs.Sames.{Contains-here, Contains-there, Contains-cases, Contains-none}
use Rattle.branch.specs.Setting.{Setting}
use Rattle.branch.specs.Normal.{Made, Reaches, MakesAll}
use Rattle.param_store.specs.RawOffers.{Act}
use Rattle.branch.specs.BranchOffers.{Kind, Entry}
use Rattle.branch.specs.Offers.{Child, Offer, MakesForm, MakesChild, MakesOffer, is_useful, IsOfferAt}
use Rattle.branch.specs.Offered.{Offered}
use Rattle.branch.proofs.Lists.{get-contains, filter-kept}
use Rattle.branch.proofs.Offered.{IsOffered, raw_offered}
use Rattle.branch.proofs.Kept.{made_is}

-- each formula is the normal form of the one in its place
abbrev pub AreReached : Setting → List Form → List Form → Type 0
AreReached s [] [] = Unit {0}
AreReached s [] (g ∷ gs) = ⊥
AreReached s (f ∷ fs) [] = ⊥
AreReached s (f ∷ fs) (g ∷ gs) = Reaches s f g × AreReached s fs gs

abbrev pub AreMade : Setting → List Child → Type 0
AreMade s [] = Unit {0}
AreMade s (c ∷ cs) = AreReached s c.raw c.normal × AreMade s cs

abbrev pub raws : List Child → List (List Form)
raws [] = []
raws (c ∷ cs) = c.raw ∷ raws cs

module _ (s : Setting) (blamed : Form) where
  form_made : (f g : Form) → MakesForm s blamed f (Made.made g) → Reaches s f g
  form_made f g (MakesForm.normal d n) = n

  pub forms_made : (fs gs : List Form) {x : Made (List Form)} → MakesAll (MakesForm s blamed) fs x → x ≡ Made.made gs → AreReached s fs gs
  forms_made [] gs MakesAll.none e = subst (AreReached s []) (made_is [] gs e) tt
  forms_made (f ∷ fs) gs (MakesAll.more {y = g} {ys = ys} m ms) e =
      subst (AreReached s (f ∷ fs)) (made_is (g ∷ ys) gs e) (form_made f g m, forms_made fs ys ms refl)
  forms_made (f ∷ fs) gs (MakesAll.first m) e = cc
  forms_made (f ∷ fs) gs (MakesAll.later m ms) e = cc

  child_made : (r : List Form) (c : Child) → MakesChild s blamed r (Made.made c) → (c.raw ≡ r) × AreReached s c.raw c.normal
  child_made r c (MakesChild.made {fs = fs} m) = (refl, forms_made r fs m refl)

  pub children_made : (cs : List (List Form)) (ds : List Child) {x : Made (List Child)} → MakesAll (MakesChild s blamed) cs x → x ≡ Made.made ds → (raws ds ≡ cs) × AreMade s ds
  children_made [] ds MakesAll.none e = subst (λ x. (raws x ≡ []) × AreMade s x) (made_is [] ds e) (refl, tt)
  children_made (c ∷ cs) ds (MakesAll.more {y = d} {ys = ys} m ms) e =
      let x = child_made c d m in
      let z = children_made cs ys ms refl in
      subst (λ y. (raws y ≡ c ∷ cs) × AreMade s y) (made_is (d ∷ ys) ds e) (ap (λ y. y ∷ raws ys) x.0 ∙ ap (λ y. c ∷ y) z.0, (x.1, z.1))
  children_made (c ∷ cs) ds (MakesAll.first m) e = cc
  children_made (c ∷ cs) ds (MakesAll.later m ms) e = cc

-- where an offer comes from
pub record IsMade (s : Setting) (table b : List Form) (kind : Kind) (act : Act) (children : List Child) : Type 0 where
  pub offered : Offered s table b kind act (raws children)
  pub made : AreMade s children
  pub offer : Offer
  pub same_children : offer.children ≡ children
  pub useful : is_useful b offer ≡ true

module _ (s : Setting) (table b : List Form) where
  abbrev IsRight : Offer → Type 0
  IsRight o = Offered s table b o.kind o.act (raws o.children) × AreMade s o.children

  entry_made : {x : Entry} (o : Offer) → IsOffered s table b x → MakesOffer s x (Made.made o) → IsRight o
  entry_made o h (MakesOffer.made {p = p} {cs = cs} m) =
      let y = children_made s p.blamed p.raw.children cs m refl in
      (subst (Offered s table b p.kind p.raw.act) (sym y.0) h, y.1)

  all_made : (es : List Entry) (os : List Offer) {y : Made (List Offer)} → ((x : Entry) → Contains es x → IsOffered s table b x) → MakesAll (MakesOffer s) es y → y ≡ Made.made os
      → (o : Offer) → Contains os o → IsRight o
  all_made [] os h MakesAll.none e o m = absurd (Contains-none o (subst (λ z. Contains z o) (sym (made_is [] os e)) m))
  all_made (x ∷ es) os h (MakesAll.more {y = p} {ys = ys} first rest) e o m =
      elim (Contains-cases p ys o (subst (λ z. Contains z o) (sym (made_is (p ∷ ys) os e)) m)) [
        | inl i ↦ subst IsRight i (entry_made p (h x (Contains-here x es)) first)
        | inr i ↦ all_made es ys (λ z n. h z (Contains-there x es z n)) rest refl o i
      ]
  all_made (x ∷ es) os h (MakesAll.first n) e o m = cc
  all_made (x ∷ es) os h (MakesAll.later n ms) e o m = cc

  pub offer_made : (k : ℕ) (kind : Kind) (act : Act) (children : List Child) → IsOfferAt s table b k kind act children → IsMade s table b kind act children
  offer_made k kind act children at =
      let os = at.offers in
      let kept : Contains (filter (is_useful b) os.all) at.offer = subst (λ z. Contains z at.offer) (sym os.useful) (get-contains at.listed k at.offer at.at) in
      let right = all_made os.entries os.all (raw_offered s table b os.entries os.raw) os.made refl at.offer (filter-kept (is_useful b) os.all at.offer kept) in
      let P : Kind → Type 0 = λ x. Offered s table b x at.offer.act (raws at.offer.children) in
      let Q : Act → Type 0 = λ x. Offered s table b kind x (raws at.offer.children) in
      let R : List Child → Type 0 = λ x. Offered s table b kind act (raws x) in
      record {
        offered = subst R at.same_children (subst Q at.same_act (subst P at.same_kind right.0));
        made = subst (AreMade s) at.same_children right.1;
        offer = at.offer;
        same_children = at.same_children;
        useful = All-contains (λ p. is_useful b p ≡ true) (filter (is_useful b) os.all) at.offer (filter_passes (is_useful b) os.all) kept;
      }
