-- The entries of parts of a branch, one part after another.
use Rattle.std.proofs.Common.{ℕ, zero, suc, ◌≡◌, ◌+◌, ◌<◌, ◌≤◌, Bool, false, List, [], ◌∷◌, ◌++◌, length, take, drop, append_assoc, append-nil, refl, ap, sym, subst, ◌∙◌, arith}
use Rattle.std.proofs.lemmas.List.{take_more, take-append-drop, length-take-le}
use Rattle.std.proofs.Math.Seq.{take-length}
use Rattle.zm_logic.specs.Tree.{Form}
use Rattle.branch.specs.Setting.{Setting}
use Rattle.branch.specs.Normal.{Fault}
use Rattle.branch.specs.BranchOffers.{Entry, own_entries, SingleEntries, PairEntries, PairsWith, EntriesFrom, has_equality}
use Rattle.branch.specs.Offers.{Offer, MakesOffer, AreOffers, HasFault}
use Rattle.branch.specs.Left.{AreLeft, Fails, form_at, OwnAt, SingleAt, PairAt, PairsTo, OthersAt, PlaceAt, PlacesTo}
use Rattle.branch.proofs.Unchanged.{fault_first, fault_later}

-- a list up to a place, within its beginning
take_split : {X : Type 0} (n j : ℕ) (xs : List X) → n ≤ j → take j xs ≡ take n xs ++ drop n (take j xs)
take_split zero j xs h = refl
take_split (suc n) zero xs h = absurd (omega arith)
take_split (suc n) (suc j) [] h = refl
take_split (suc n) (suc j) (x ∷ xs) h = ap (λ ys. x ∷ ys) (take_split n j xs (omega arith))

module _ (s : Setting) (table : List Form) (v : Bool) where
  pub with_both : (j : ℕ) (f : Form) (hs : List Form) (zs : List Entry) {i : ℕ} {gs : List Form} {xs : List Entry} → PairsWith s table v j f i gs xs
      → PairsWith s table v j f (i + length gs) hs zs → PairsWith s table v j f i (gs ++ hs) (xs ++ zs)
  with_both j f hs zs (PairsWith.none {i = i}) k = let e : i + 0 ≡ i = omega arith in subst (λ n. PairsWith s table v j f n hs zs) e k
  with_both j f hs zs (PairsWith.more {i = i} {g = g} {gs = gs} {xs = xs} {ys = ys} here rest) k =
      let e : i + length (g ∷ gs) ≡ (i + 1) + length gs = omega arith in
      subst (PairsWith s table v j f i (g ∷ (gs ++ hs))) (sym (append_assoc xs ys zs))
      (PairsWith.more here (with_both j f hs zs rest (subst (λ n. PairsWith s table v j f n hs zs) e k)))

  pub from_both : (hs : List Form) (ws : List Entry) {gs fs : List Form} {zs : List Entry} → EntriesFrom s table v gs fs zs
      → EntriesFrom s table v (gs ++ fs) hs ws → EntriesFrom s table v gs (fs ++ hs) (zs ++ ws)
  from_both hs ws (EntriesFrom.none {gs = gs}) k = subst (λ ps. EntriesFrom s table v ps hs ws) (append-nil gs) k
  from_both hs ws (EntriesFrom.more {gs = gs} {fs = fs} {f = f} {xs = xs} {ys = ys} {zs = zs} a b c) k =
      subst (EntriesFrom s table v gs (f ∷ (fs ++ hs))) (sym (append_assoc (own_entries table (length gs) f ++ (xs ++ ys)) zs ws))
      (EntriesFrom.more a b (from_both hs ws c (subst (λ ps. EntriesFrom s table v ps hs ws) (sym (append_assoc gs (f ∷ []) fs)) k)))

  -- one pair, and one place
  one_pair : (j i : ℕ) (g f : Form) (es : List Entry) → PairEntries s table v j i g f es → PairsWith s table v j f i (g ∷ []) es
  one_pair j i g f es h = subst (PairsWith s table v j f i (g ∷ [])) (append-nil es) (PairsWith.more h PairsWith.none)

  one_place : (gs : List Form) (f : Form) (xs ys : List Entry) → SingleEntries s table v (length gs) f xs → PairsWith s table v (length gs) f 0 gs ys
      → EntriesFrom s table v gs (f ∷ []) (own_entries table (length gs) f ++ (xs ++ ys))
  one_place gs f xs ys h k =
      subst (EntriesFrom s table v gs (f ∷ [])) (append-nil (own_entries table (length gs) f ++ (xs ++ ys))) (EntriesFrom.more h k EntriesFrom.none)

  place_at : (gs : List Form) (f : Form) (xs ys : List Entry) (j : ℕ) → length gs ≡ j → SingleEntries s table v j f xs → PairsWith s table v j f 0 gs ys
      → EntriesFrom s table v gs (f ∷ []) (own_entries table j f ++ (xs ++ ys))
  place_at gs f xs ys j e h k =
      subst (λ n. SingleEntries s table v n f xs → PairsWith s table v n f 0 gs ys → EntriesFrom s table v gs (f ∷ []) (own_entries table n f ++ (xs ++ ys))) e
      (one_place gs f xs ys) h k

module _ (s : Setting) (table branch : List Form) where
  pub no_pairs : (j : ℕ) → PairsTo j 0 s table branch []
  no_pairs j = PairsWith.none

  pub pair_more : (j n : ℕ) (zs es : List Entry) → n < length branch → PairsTo j n s table branch zs → PairAt j n s table branch es
      → PairsTo j (n + 1) s table branch (zs ++ es)
  pair_more j n zs es l h k =
      let f = form_at branch j in
      let g = form_at branch n in
      let e : 0 + length (take n branch) ≡ n = (let r = length-take-le n branch (omega arith) in omega (arith, r)) in
      let p = subst (λ m. PairsWith s table false j f m (g ∷ []) es) (sym e) (one_pair s table false j n g f es k) in
      subst (λ gs. PairsWith s table false j f 0 gs (zs ++ es)) (sym (take_more branch n Form.truth l)) (with_both s table false j f (g ∷ []) es h p)

  pub single_and_pairs : (j : ℕ) (xs ys : List Entry) → SingleAt j s table branch xs → PairsTo j j s table branch ys → OthersAt j s table branch (xs ++ ys)
  single_and_pairs j xs ys h k = record { single = xs; pairs = ys; are_single = h; are_pairs = k; all = refl }

  pub own_and_others : (j : ℕ) (xs ys : List Entry) → OwnAt j s table branch xs → OthersAt j s table branch ys → PlaceAt j s table branch (xs ++ ys)
  own_and_others j xs ys e h = record { others = ys; are_others = h; all = ap (λ zs. zs ++ ys) e }

  pub no_places : PlacesTo 0 s table branch []
  no_places = EntriesFrom.none

  pub place_more : (j : ℕ) (zs es : List Entry) → j < length branch → PlacesTo j s table branch zs → PlaceAt j s table branch es
      → PlacesTo (j + 1) s table branch (zs ++ es)
  place_more j zs es l h k =
      let f = form_at branch j in
      let gs = take j branch in
      let o = k.are_others in
      let e : length gs ≡ j = length-take-le j branch (omega arith) in
      let p = place_at s table false gs f o.single o.pairs j e o.are_single o.are_pairs in
      let q : own_entries table j f ++ (o.single ++ o.pairs) ≡ es = ap (λ xs. own_entries table j f ++ xs) (sym o.all) ∙ sym k.all in
      subst (λ hs. EntriesFrom s table false [] hs (zs ++ es)) (sym (take_more branch j Form.truth l))
      (from_both s table false (f ∷ []) es h (subst (EntriesFrom s table false gs (f ∷ [])) q p))

  -- all places
  pub all_offers : (zs : List Entry) (os : List Offer) → has_equality branch ≡ false → PlacesTo (length branch) s table branch zs → AreLeft s branch zs os
      → AreOffers s table branch os
  all_offers zs os e h k = record {
    entries = zs;
    raw = subst (λ v. EntriesFrom s table v [] branch zs) (sym e) (subst (λ fs. EntriesFrom s table false [] fs zs) (take-length branch) h);
    all = k.all;
    made = k.made;
    useful = k.useful;
  }

  -- A fault in a part is one in a larger part.
  module _ (fault : Fault) where
    pub fails_then : (A B : List Entry → Type 0) → ((xs : List Entry) → A xs → (ys : List Entry) × B (xs ++ ys)) → Fails A s fault → Fails B s fault
    fails_then A B go h =
        let r = go h.entries h.are in
        record { entries = h.entries ++ r.0; are = r.1; first = fault_first (MakesOffer s) h.entries r.0 fault h.first refl }

    pub fails_after : (A B C : List Entry → Type 0) → ((xs ys : List Entry) → A xs → B ys → C (xs ++ ys)) → (xs : List Entry) (os : List Offer) → A xs
        → AreLeft s branch xs os → Fails B s fault → Fails C s fault
    fails_after A B C go xs os h l k = record {
      entries = xs ++ k.entries;
      are = go xs k.entries h k.are;
      first = fault_later (MakesOffer s) xs k.entries l.all fault l.made refl k.first;
    }

    module _ (rest : (gs fs : List Form) → (ws : List Entry) × EntriesFrom s table false gs fs ws)
        (pairs : (j : ℕ) (f : Form) (i : ℕ) (gs : List Form) → (ws : List Entry) × PairsWith s table false j f i gs ws)
        (single : (j : ℕ) (f : Form) → (ws : List Entry) × SingleEntries s table false j f ws) where
      -- the pairs of a place up to some one, and then the others
      pub pairs_then : (j n : ℕ) → n ≤ j → (zs : List Entry) → PairsTo j n s table branch zs → (ws : List Entry) × PairsTo j j s table branch (zs ++ ws)
      pairs_then j n l zs h =
          let f = form_at branch j in
          let hs = drop n (take j branch) in
          let r = pairs j f (0 + length (take n branch)) hs in
          (r.0, subst (λ gs. PairsWith s table false j f 0 gs (zs ++ r.0)) (sym (take_split n j branch l)) (with_both s table false j f hs r.0 h r.1))

      others_there : (j : ℕ) → (ws : List Entry) × OthersAt j s table branch ws
      others_there j =
          let x = single j (form_at branch j) in
          let y = pairs j (form_at branch j) 0 (take j branch) in
          (x.0 ++ y.0, single_and_pairs j x.0 y.0 x.1 y.1)

      pub single_then : (j : ℕ) (xs : List Entry) → SingleAt j s table branch xs → (ws : List Entry) × OthersAt j s table branch (xs ++ ws)
      single_then j xs h = let y = pairs j (form_at branch j) 0 (take j branch) in (y.0, single_and_pairs j xs y.0 h y.1)

      pub own_then : (j : ℕ) (xs : List Entry) → OwnAt j s table branch xs → (ws : List Entry) × PlaceAt j s table branch (xs ++ ws)
      own_then j xs e = let y = others_there j in (y.0, own_and_others j xs y.0 e y.1)

      pub has_fault : (n : ℕ) → has_equality branch ≡ false → Fails (PlacesTo n s table branch) s fault → HasFault s table branch fault
      has_fault n e h =
          let r = rest ([] ++ take n branch) (drop n branch) in
          let whole = from_both s table false (drop n branch) r.0 h.are r.1 in
          let all = subst (λ fs. EntriesFrom s table false [] fs (h.entries ++ r.0)) (take-append-drop n branch) whole in
          record {
            entries = h.entries ++ r.0;
            raw = subst (λ v. EntriesFrom s table v [] branch (h.entries ++ r.0)) (sym e) all;
            first = fault_first (MakesOffer s) h.entries r.0 fault h.first refl;
          }
