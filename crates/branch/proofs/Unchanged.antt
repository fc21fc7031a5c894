-- Without rules a raw offer is made as it is, unless it is too deep.
use Rattle.std.proofs.Common.{ℕ, ◌≡◌, ◌<◌, ◌≤◌, ◌⊎◌, Option, List, [], ◌∷◌, ◌++◌, map, filter, inl, inr, refl, ap, sym, subst, ◌∙◌, arith}
use Rattle.std.proofs.lemmas.Bool.Decides.{leb_tells}
use Rattle.std.proofs.lemmas.List.Elements.{filter-append}
use Rattle.branch.proofs.Determined.{fault_is}
use Rattle.branch.proofs.Kept.{made_is}
use Rattle.zm_logic.specs.Tree.{Form, Side}
use Rattle.zm_logic.specs.Measure.{depth}
use Rattle.param_store.specs.RawOffers.{Raw}
use Rattle.param_store.specs.Depth.{deepest, deepest_child, deepest_form}
use Rattle.branch.specs.Setting.{Setting}
use Rattle.branch.specs.Normal.{Fault, Made, NormalizesFrom, MakesAll}
use Rattle.branch.specs.BranchOffers.{Kind, Entry, entries, instance_entries}
use Rattle.branch.specs.Offers.{Offer, MakesForm, MakesChild, MakesOffer, is_useful}
use Rattle.branch.specs.Left.{unchanged, offer_at, offers_at, AreLeft}
use Rattle.branch.proofs.NoRules.{itself}

-- a depth is within the bound, or beyond it
pub within_or_deep : (n : ℕ) → (n ≤ 2000) ⊎ (2000 < n)
within_or_deep n = elim (leb_tells n 2000) [ inl x ↦ inl x.1 | inr x ↦ inr x.1 ]

module _ (s : Setting) (plain : s.rules ≡ []) (blamed : Form) where
  form_made : (f : Form) → depth f ≤ 2000 → MakesForm s blamed f (Made.made f)
  form_made f h = MakesForm.normal h (subst (λ r. NormalizesFrom r f s.rewrites f (Made.made f)) (sym plain) (itself f s.rewrites f))

  forms_made : (fs : List Form) → deepest_form fs ≤ 2000 → MakesAll (MakesForm s blamed) fs (Made.made fs)
  forms_made [] h = MakesAll.none
  forms_made (f ∷ fs) h = MakesAll.more (form_made f (omega arith)) (forms_made fs (omega arith))

  forms_deep : (fs : List Form) → 2000 < deepest_form fs → MakesAll (MakesForm s blamed) fs (Made.fault (Fault.deep (Side.of_form blamed)))
  forms_deep [] h = absurd (omega arith)
  forms_deep (f ∷ fs) h = elim (within_or_deep (depth f)) [
    | inl x ↦ MakesAll.later (form_made f x) (forms_deep fs (omega arith))
    | inr x ↦ MakesAll.first (MakesForm.too_deep x)
  ]

  child_made : (r : List Form) → deepest_form r ≤ 2000 → MakesChild s blamed r (Made.made (record { raw = r; normal = r }))
  child_made r h = MakesChild.made (forms_made r h)

  children_made : (cs : List (List Form)) → deepest_child cs ≤ 2000 → MakesAll (MakesChild s blamed) cs (Made.made (unchanged cs))
  children_made [] h = MakesAll.none
  children_made (c ∷ cs) h = MakesAll.more (child_made c (omega arith)) (children_made cs (omega arith))

  children_deep : (cs : List (List Form)) → 2000 < deepest_child cs → MakesAll (MakesChild s blamed) cs (Made.fault (Fault.deep (Side.of_form blamed)))
  children_deep [] h = absurd (omega arith)
  children_deep (c ∷ cs) h = elim (within_or_deep (deepest_form c)) [
    | inl x ↦ MakesAll.later (child_made c x) (children_deep cs (omega arith))
    | inr x ↦ MakesAll.first (MakesChild.fault (forms_deep c x))
  ]

  -- the entry of a raw offer
  abbrev pub placed : Kind → ℕ → Option ℕ → Raw → Entry
  placed k j i r = Entry.offer (record { kind = k; raw = r; blamed = blamed; later = j; earlier = i })

  pub offer_made : (k : Kind) (j : ℕ) (i : Option ℕ) (r : Raw) → deepest_child r.children ≤ 2000 → MakesOffer s (placed k j i r) (Made.made (offer_at k j i r))
  offer_made k j i r h = MakesOffer.made (children_made r.children h)

  pub offer_deep : (k : Kind) (j : ℕ) (i : Option ℕ) (r : Raw) → 2000 < deepest_child r.children
      → MakesOffer s (placed k j i r) (Made.fault (Fault.deep (Side.of_form blamed)))
  offer_deep k j i r h = MakesOffer.fault (children_deep r.children h)

  entries_made : (k : Kind) (j : ℕ) (i : Option ℕ) (rs : List Raw) → deepest rs ≤ 2000
      → MakesAll (MakesOffer s) (entries k blamed j i rs) (Made.made (map (offer_at k j i) rs))
  entries_made k j i [] h = MakesAll.none
  entries_made k j i (r ∷ rs) h = MakesAll.more (offer_made k j i r (omega arith)) (entries_made k j i rs (omega arith))

  pub entries_deep : (k : Kind) (j : ℕ) (i : Option ℕ) (rs : List Raw) → 2000 < deepest rs
      → MakesAll (MakesOffer s) (entries k blamed j i rs) (Made.fault (Fault.deep (Side.of_form blamed)))
  entries_deep k j i [] h = absurd (omega arith)
  entries_deep k j i (r ∷ rs) h = elim (within_or_deep (deepest_child r.children)) [
    | inl x ↦ MakesAll.later (offer_made k j i r x) (entries_deep k j i rs (omega arith))
    | inr x ↦ MakesAll.first (offer_deep k j i r x)
  ]

  pub entries_left : (b : List Form) (k : Kind) (j : ℕ) (i : Option ℕ) (rs : List Raw) → deepest rs ≤ 2000
      → AreLeft s b (entries k blamed j i rs) (offers_at b k j i rs)
  entries_left b k j i rs h = record { all = map (offer_at k j i) rs; made = entries_made k j i rs h; useful = refl }

-- instances, each with the quantified formula that it is blamed on
module _ (s : Setting) (plain : s.rules ≡ []) (j : ℕ) (i : Option ℕ) where
  instances_made : (rs : List Raw) → deepest rs ≤ 2000 → MakesAll (MakesOffer s) (instance_entries j i rs) (Made.made (map (offer_at Kind.instance j i) rs))
  instances_made [] h = MakesAll.none
  instances_made (r ∷ rs) h = MakesAll.more (offer_made s plain r.act.first Kind.instance j i r (omega arith)) (instances_made rs (omega arith))

  pub instances_left : (b : List Form) (rs : List Raw) → deepest rs ≤ 2000 → AreLeft s b (instance_entries j i rs) (offers_at b Kind.instance j i rs)
  instances_left b rs h = record { all = map (offer_at Kind.instance j i) rs; made = instances_made rs h; useful = refl }

  pub instances_deep : (before : List Raw) (r : Raw) (after : List Raw) → deepest before ≤ 2000 → 2000 < deepest_child r.children
      → MakesAll (MakesOffer s) (instance_entries j i (before ++ r ∷ after)) (Made.fault (Fault.deep (Side.of_form r.act.first)))
  instances_deep [] r after h d = MakesAll.first (offer_deep s plain r.act.first Kind.instance j i r d)
  instances_deep (x ∷ xs) r after h d =
      MakesAll.later (offer_made s plain x.act.first Kind.instance j i x (omega arith)) (instances_deep xs r after (omega arith) d)

-- one list of entries after another
module _ {A B : Type 0} (Makes : A → Made B → Type 0) where
  all_both : (xs zs : List A) (ys ws : List B) {m : Made (List B)} → MakesAll Makes xs m → m ≡ Made.made ys → MakesAll Makes zs (Made.made ws)
      → MakesAll Makes (xs ++ zs) (Made.made (ys ++ ws))
  all_both [] zs ys ws MakesAll.none e k = subst (λ q. MakesAll Makes zs (Made.made (q ++ ws))) (made_is [] ys e) k
  all_both (x ∷ xs) zs ys ws (MakesAll.more {y = y} {ys = us} m ms) e k =
      subst (λ q. MakesAll Makes (x ∷ (xs ++ zs)) (Made.made (q ++ ws))) (made_is (y ∷ us) ys e) (MakesAll.more m (all_both xs zs us ws ms refl k))
  all_both (x ∷ xs) zs ys ws (MakesAll.first m) e k = cc
  all_both (x ∷ xs) zs ys ws (MakesAll.later m ms) e k = cc

  pub fault_first : (xs zs : List A) (e : Fault) {m : Made (List B)} → MakesAll Makes xs m → m ≡ Made.fault e → MakesAll Makes (xs ++ zs) (Made.fault e)
  fault_first [] zs e MakesAll.none q = cc
  fault_first (x ∷ xs) zs e (MakesAll.more m ms) q = cc
  fault_first (x ∷ xs) zs e (MakesAll.first {e = d} m) q =
      subst (λ c. MakesAll Makes (x ∷ (xs ++ zs)) (Made.fault c)) (fault_is d e q) (MakesAll.first m)
  fault_first (x ∷ xs) zs e (MakesAll.later m ms) q = MakesAll.later m (fault_first xs zs e ms q)

  pub fault_later : (xs zs : List A) (ys : List B) (e : Fault) {m : Made (List B)} → MakesAll Makes xs m → m ≡ Made.made ys
      → MakesAll Makes zs (Made.fault e) → MakesAll Makes (xs ++ zs) (Made.fault e)
  fault_later [] zs ys e MakesAll.none q k = k
  fault_later (x ∷ xs) zs ys e (MakesAll.more {ys = us} m ms) q k = MakesAll.later m (fault_later xs zs us e ms refl k)
  fault_later (x ∷ xs) zs ys e (MakesAll.first m) q k = cc
  fault_later (x ∷ xs) zs ys e (MakesAll.later m ms) q k = cc

module _ (s : Setting) (b : List Form) where
  pub none_left : AreLeft s b [] []
  none_left = record { all = []; made = MakesAll.none; useful = refl }

  pub both_left : (es fs : List Entry) (os ps : List Offer) → AreLeft s b es os → AreLeft s b fs ps → AreLeft s b (es ++ fs) (os ++ ps)
  both_left es fs os ps h k = record {
    all = h.all ++ k.all;
    made = all_both (MakesOffer s) es fs h.all k.all h.made refl k.made;
    useful = filter-append (is_useful b) h.all k.all ∙ ap (λ xs. xs ++ filter (is_useful b) k.all) h.useful ∙ ap (λ xs. os ++ xs) k.useful;
  }
