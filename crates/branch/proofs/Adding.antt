-- The offers of a branch over ids, one part after another.
use Rattle.std.proofs.Common.{ℕ, zero, suc, ◌≡◌, ◌<◌, ◌≤◌, false, Option, None, Some, List, [], ◌∷◌, ◌++◌, length, get_or, map, append_assoc, append-nil, refl, ap, sym, subst, ◌∙◌, arith}
use Rattle.zm_logic.specs.Tree.{Form, Side, Symbol}
use Rattle.term_store.specs.Trees.{Tables, HasForm, form_of, Extends}
use Rattle.term_store.specs.Open.{redex_of}
use Rattle.term_store.specs.declared.ids.FormId.{FormId}
use Rattle.term_store.specs.declared.opening.Redex.{Redex}
use Rattle.term_store.specs.declared.opening.Redex.TheVariants as redexes
use Rattle.term_store.proofs.Kept.{still_form, kept_form}
use Rattle.param_store.specs.RawOffers.{Raw, own_offers}
use Rattle.param_store.specs.Depth.{deepest}
use Rattle.param_store.specs.Fault.{IfDeepAt}
use Rattle.param_store.specs.View.{forms_of, raw_of, HasForms, AreRaws}
use Rattle.param_store.specs.declared.offer.RawOffer.{RawOffer}
use Rattle.param_store.specs.declared.fault.OfferFault.{OfferFault}
use Rattle.param_store.specs.declared.fault.OfferFault.TheVariants as faults
use Rattle.param_store.proofs.Stay.{forms_stay}
use Rattle.equality_rules.specs.Offered.{IsRefused}
use Rattle.equality_rules.specs.Pairs.{PairOffers, SingleOffers}
use Rattle.equality_rules.specs.Refused.{PairIsBounded, PairIsRefused, SingleIsBounded, SingleIsRefused}
use Rattle.branch.specs.declared.listed.Listed.{Listed}
use Rattle.branch.specs.declared.stop.BranchStop.{BranchStop}
use Rattle.branch.specs.declared.stop.BranchStop.TheVariants as stops
use Rattle.branch.specs.Setting.{Setting}
use Rattle.branch.specs.Normal.{Fault}
use Rattle.branch.specs.BranchOffers.{Kind, Entry, own_entries, instance_entries, SingleEntries, PairEntries}
use Rattle.branch.specs.Offers.{Offer}
use Rattle.branch.specs.Left.{AreLeft, Fails, own_kind, form_at, offers_at, OwnAt, SingleAt, PairAt}
use Rattle.branch.specs.Listed.{AreListed, IfStop, stop_of}
use Rattle.branch.specs.Listing.{IsCase, AddsPart, IsTooDeep}
use Rattle.branch.specs.declared.lookup.Lookup.{Lookup}
use Rattle.branch.specs.Lookup.{IsLookup}
use Rattle.branch.proofs.Found.{offers_alike, lookup_stays}
use Rattle.branch.proofs.Unchanged.{entries_left, instances_left, none_left, both_left}
use Rattle.branch.proofs.Together.{fails_then, fails_after}
use Rattle.branch.proofs.Refusing.{own_entries_are, single_entries, pair_entries, single_fails, pair_fails, own_fails}
use Rattle.branch.proofs.Lasting.{are_listed_stay, case_stays}

-- the entries of a part, by the setting, the table and the branch
abbrev Part : Type 1
Part = Setting → List Form → List Form → List Entry → Type 0

-- what holds of the place that is named
pub if_stop : (P Q : Redex → Type 0) → ((at : Redex) → P at → Q at) → (stop : BranchStop) → IfStop P stop → IfStop Q stop
if_stop P Q to stops.Memory h = tt
if_stop P Q to (stops.Spent from) h = h
if_stop P Q to (stops.Deep at) h = to at h

module _ (symbols : List Symbol) (params forms : List FormId) where
  -- a part that has no entries
  pub adds_none : (A : Part) (u : Tables) (ls : List Listed)
      → ((s : Setting) (table branch : List Form) → IsCase u symbols params forms s table branch → A s table branch [])
      → AddsPart A u u symbols params forms ls ls
  adds_none A u ls go s table b c = record {
    entries = [];
    are = go s table b c;
    offers = [];
    left = none_left s b;
    listed = λ os h. subst (λ xs. AreListed u xs ls) (sym (append-nil os)) h;
  }

  module _ (A B C : Part) (u v w : Tables) (e : Extends u v)
      (go : (s : Setting) (table branch : List Form) → IsCase u symbols params forms s table branch
      → (xs ys : List Entry) → A s table branch xs → B s table branch ys → C s table branch (xs ++ ys)) where
    -- one part after another, and a fault of the second
    pub adds_both : (l m n : List Listed) → AddsPart A u v symbols params forms l m → AddsPart B v w symbols params forms m n
        → AddsPart C u w symbols params forms l n
    adds_both l m n h k s table b c =
        let x = h s table b c in
        let y = k s table b (case_stays u v e symbols params forms s table b c) in
        record {
          entries = x.entries ++ y.entries;
          are = go s table b c x.entries y.entries x.are y.are;
          offers = x.offers ++ y.offers;
          left = both_left s b x.entries y.entries x.offers y.offers x.left y.left;
          listed = λ os q. subst (λ zs. AreListed w zs n) (append_assoc os x.offers y.offers) (y.listed (os ++ x.offers) (x.listed os q));
        }

    pub deep_after : (l m : List Listed) → AddsPart A u v symbols params forms l m → (at : Redex) → IsTooDeep B v w symbols params forms at
        → IsTooDeep C u w symbols params forms at
    deep_after l m h at d = (
      d.0,
      λ s table b c. (
          let x = h s table b c in
          fails_after s table b (Fault.deep (redex_of w at)) (A s table b) (B s table b) (C s table b) (go s table b c) x.entries x.offers x.are x.left
          (d.1 s table b (case_stays u v e symbols params forms s table b c))),
    )

  -- a fault of a part is one of a larger part
  pub deep_then : (A B : Part) (u v : Tables)
      → ((s : Setting) (table branch : List Form) → IsCase u symbols params forms s table branch
      → (xs : List Entry) → A s table branch xs → (ys : List Entry) × B s table branch (xs ++ ys))
      → (at : Redex) → IsTooDeep A u v symbols params forms at → IsTooDeep B u v symbols params forms at
  deep_then A B u v go at d = (
    d.0,
    λ s table b c.
        fails_then s table b (Fault.deep (redex_of v at)) (A s table b) (B s table b) (go s table b c) (d.1 s table b c),
  )

-- the tree at a place
pub map_at : (u : Tables) (forms : List FormId) (j : ℕ) (d : FormId) → j < length forms → form_at (forms_of u forms) j ≡ form_of u (get_or forms j d)
map_at u [] j d l = absurd (omega arith)
map_at u (i ∷ is) zero d l = refl
map_at u (i ∷ is) (suc j) d l = map_at u is j d (omega arith)

pub has_at : (u : Tables) (forms : List FormId) (j : ℕ) (d : FormId) → j < length forms → HasForms u forms → HasForm u (get_or forms j d)
has_at u [] j d l h = absurd (omega arith)
has_at u (i ∷ is) zero d l h = h.0
has_at u (i ∷ is) (suc j) d l h = has_at u is j d (omega arith) h.1

length_map : (u : Tables) (forms : List FormId) → length (forms_of u forms) ≡ length forms
length_map u [] = refl
length_map u (i ∷ is) = ap suc (length_map u is)

pub branch_length : (u : Tables) (symbols : List Symbol) (params forms : List FormId) (s : Setting) (table branch : List Form)
    → IsCase u symbols params forms s table branch → length branch ≡ length forms
branch_length u symbols params forms s table branch c = ap length (sym c.branch.forms) ∙ length_map u forms

-- The offers of one part, from the raw offers that a call gave, and its faults.
module _ (u v : Tables) (e : Extends u v) (symbols : List Symbol) (params forms : List FormId) (has : HasForms u forms) (numbered : HasForms u params) where
  abbrev Case : Setting → List Form → List Form → Type 0
  Case s table b = IsCase u symbols params forms s table b

  table_is : (s : Setting) (table b : List Form) → Case s table b → forms_of v params ≡ table
  table_is s table b c = forms_stay u v e params numbered ∙ c.table.forms

  branch_is : (s : Setting) (table b : List Form) → Case s table b → forms_of v forms ≡ b
  branch_is s table b c = forms_stay u v e forms has ∙ c.branch.forms

  form_is : (s : Setting) (table b : List Form) → Case s table b → (j : ℕ) (d : FormId) → j < length forms → form_of u (get_or forms j d) ≡ form_at b j
  form_is s table b c j d l = sym (map_at u forms j d l) ∙ ap (λ fs. form_at fs j) c.branch.forms

  form_is_still : (s : Setting) (table b : List Form) → Case s table b → (j : ℕ) (d : FormId) → j < length forms → form_of v (get_or forms j d) ≡ form_at b j
  form_is_still s table b c j d l = kept_form u v e (get_or forms j d) (has_at u forms j d l has) ∙ form_is s table b c j d l

  -- what was listed of raw offers
  abbrev pub Puts : Kind → ℕ → Option ℕ → List RawOffer → List Listed → List Listed → Type 0
  Puts k j i raws old new = (os : List Offer) → AreListed v os old → AreListed v (os ++ offers_at (forms_of v forms) k j i (map (raw_of v) raws)) new

  -- the formulas found are those of the branch
  pub found_puts : (l : Lookup) → IsLookup u forms l → (k : Kind) (j : ℕ) (i : Option ℕ) (raws : List RawOffer) (old new : List Listed)
      → ((os : List Offer) → AreListed v os old → AreListed v (os ++ offers_at (forms_of v l.found) k j i (map (raw_of v) raws)) new)
      → Puts k j i raws old new
  found_puts l h k j i raws old new put os x =
      let same = (lookup_stays u v e forms l has h).found in
      subst (λ ps. AreListed v (os ++ ps) new) (offers_alike (forms_of v l.found) (forms_of v forms) same k j i (map (raw_of v) raws)) (put os x)

  put_is : (k : Kind) (j : ℕ) (i : Option ℕ) (raws : List RawOffer) (old new : List Listed) (b : List Form) (rs : List Raw)
      → forms_of v forms ≡ b → map (raw_of v) raws ≡ rs → Puts k j i raws old new
      → (os : List Offer) → AreListed u os old → AreListed v (os ++ offers_at b k j i rs) new
  put_is k j i raws old new b rs p q put os h =
      subst (λ z. AreListed v (os ++ z) new) (ap (λ x. offers_at x k j i (map (raw_of v) raws)) p ∙ ap (offers_at b k j i) q)
      (put os (are_listed_stay u v e os old h))

  module _ (j : ℕ) (d : FormId) (within : j < length forms) (raws : List RawOffer) (old new : List Listed) where
    abbrev Given : FormId
    Given = get_or forms j d

    pub own_adds : AreRaws v (own_offers (forms_of v params) (form_of v Given)) raws → deepest (own_offers (forms_of u params) (form_of u Given)) ≤ 2000
        → (k : Kind) → k ≡ own_kind (form_of v Given) → Puts k j None raws old new → AddsPart (OwnAt j) u v symbols params forms old new
    own_adds are bounded k kind put s table b c =
        let f = form_at b j in
        let rs = own_offers table f in
        let t = form_is_still s table b c j d within in
        let q = are.offers ∙ ap (λ x. own_offers x (form_of v Given)) (table_is s table b c) ∙ ap (own_offers table) t in
        let m : deepest rs ≤ 2000 =
        subst (λ x. deepest x ≤ 2000) (ap (λ x. own_offers x (form_of u Given)) c.table.forms ∙ ap (own_offers table) (form_is s table b c j d within)) bounded in
        let n = kind ∙ ap own_kind t in
        record {
          entries = own_entries table j f;
          are = refl;
          offers = offers_at b (own_kind f) j None rs;
          left = subst (λ es. AreLeft s b es (offers_at b (own_kind f) j None rs)) (own_entries_are table j f)
              (entries_left s c.rules f b (own_kind f) j None rs m);
          listed = λ os h. subst (λ x. AreListed v (os ++ offers_at b x j None rs) new) n
              (put_is k j None raws old new b rs (branch_is s table b c) q put os h);
        }

    pub single_adds : ((rs : List Raw) × SingleOffers symbols (forms_of u params) false (form_of u Given) rs × (deepest rs ≤ 2000) × AreRaws v rs raws)
        → SingleIsBounded (form_of u Given) → Puts Kind.instance j None raws old new → AddsPart (SingleAt j) u v symbols params forms old new
    single_adds offered bounded put s table b c =
        let rs = offered.0 in
        let t = form_is s table b c j d within in
        let x = subst (λ z. SingleOffers z (forms_of u params) false (form_of u Given) rs) (sym c.symbols) offered.1 in
        let y = subst (λ z. SingleOffers s.symbols z false (form_of u Given) rs) c.table.forms x in
        record {
          entries = instance_entries j None rs;
          are = subst (λ f. SingleEntries s table false j f (instance_entries j None rs)) t (single_entries s table j y bounded);
          offers = offers_at b Kind.instance j None rs;
          left = instances_left s c.rules j None b rs offered.2;
          listed = put_is Kind.instance j None raws old new b rs (branch_is s table b c) offered.3.offers put;
        }

    pub pair_adds : (i : ℕ) → i < length forms
        → ((rs : List Raw) × PairOffers symbols (forms_of u params) false (form_of u (get_or forms i d)) (form_of u Given) rs × (deepest rs ≤ 2000)
        × AreRaws v rs raws) → PairIsBounded (form_of u (get_or forms i d)) (form_of u Given) → Puts Kind.instance j (Some i) raws old new
        → AddsPart (PairAt j i) u v symbols params forms old new
    pair_adds i l offered bounded put s table b c =
        let rs = offered.0 in
        let g = get_or forms i d in
        let t = form_is s table b c j d within in
        let r = form_is s table b c i d l in
        let x = subst (λ z. PairOffers z (forms_of u params) false (form_of u g) (form_of u Given) rs) (sym c.symbols) offered.1 in
        let y = subst (λ z. PairOffers s.symbols z false (form_of u g) (form_of u Given) rs) c.table.forms x in
        let z = subst (λ f. PairEntries s table false j i (form_of u g) f (instance_entries j (Some i) rs)) t (pair_entries s table j i y bounded) in
        record {
          entries = instance_entries j (Some i) rs;
          are = subst (λ f. PairEntries s table false j i f (form_at b j) (instance_entries j (Some i) rs)) r z;
          offers = offers_at b Kind.instance j (Some i) rs;
          left = instances_left s c.rules j (Some i) b rs offered.2;
          listed = put_is Kind.instance j (Some i) raws old new b rs (branch_is s table b c) offered.3.offers put;
        }

  module _ (j : ℕ) (d : FormId) (within : j < length forms) where
    own_deep_at : (at : Redex) → (at ≡ redexes.OfForm (get_or forms j d)) × (2000 < deepest (own_offers (forms_of u params) (form_of u (get_or forms j d))))
        → IsTooDeep (OwnAt j) u v symbols params forms at
    own_deep_at at h =
        let i = get_or forms j d in
        subst (IsTooDeep (OwnAt j) u v symbols params forms) (sym h.0) (
          still_form u v e i (has_at u forms j d within has),
          λ s table b c. (
              let m : 2000 < deepest (own_offers table (form_at b j)) =
              subst (λ x. 2000 < deepest x) (ap (λ x. own_offers x (form_of u i)) c.table.forms ∙ ap (own_offers table) (form_is s table b c j d within)) h.1 in
              subst (λ f. Fails (OwnAt j s table b) s (Fault.deep (Side.of_form f))) (sym (form_is_still s table b c j d within))
              (own_fails s table j c.rules (form_at b j) m)),
        )

    single_deep_at : (at : Redex) → IsRefused v (SingleIsRefused symbols (forms_of u params) false (form_of u (get_or forms j d))) at
        → IsTooDeep (SingleAt j) u v symbols params forms at
    single_deep_at at h = (
      h.0,
      λ s table b c. (
          let f = form_of u (get_or forms j d) in
          let x = subst (λ z. SingleIsRefused z (forms_of u params) false f (redex_of v at)) (sym c.symbols) h.1 in
          let y = subst (λ z. SingleIsRefused s.symbols z false f (redex_of v at)) c.table.forms x in
          let z = subst (λ g. SingleIsRefused s.symbols table false g (redex_of v at)) (form_is s table b c j d within) y in
          single_fails s table j c.rules z),
    )

    pair_deep_at : (i : ℕ) → i < length forms → (at : Redex)
        → IsRefused v (PairIsRefused symbols (forms_of u params) false (form_of u (get_or forms i d)) (form_of u (get_or forms j d))) at
        → IsTooDeep (PairAt j i) u v symbols params forms at
    pair_deep_at i l at h = (
      h.0,
      λ s table b c. (
          let f = form_of u (get_or forms j d) in
          let g = form_of u (get_or forms i d) in
          let x = subst (λ z. PairIsRefused z (forms_of u params) false g f (redex_of v at)) (sym c.symbols) h.1 in
          let y = subst (λ z. PairIsRefused s.symbols z false g f (redex_of v at)) c.table.forms x in
          let z = subst (λ k. PairIsRefused s.symbols table false g k (redex_of v at)) (form_is s table b c j d within) y in
          let w = subst (λ k. PairIsRefused s.symbols table false k (form_at b j) (redex_of v at)) (form_is s table b c i d l) z in
          pair_fails s table j c.rules i w),
    )

    -- the same of the fault that a call gave
    pub own_deep : (fault : OfferFault)
        → IfDeepAt (λ at. (at ≡ redexes.OfForm (get_or forms j d)) × (2000 < deepest (own_offers (forms_of u params) (form_of u (get_or forms j d))))) fault
        → IfStop (IsTooDeep (OwnAt j) u v symbols params forms) (stop_of fault)
    own_deep faults.Memory h = tt
    own_deep (faults.Deep at) h = own_deep_at at h

    pub single_deep : (fault : OfferFault) → IfDeepAt (IsRefused v (SingleIsRefused symbols (forms_of u params) false (form_of u (get_or forms j d)))) fault
        → IfStop (IsTooDeep (SingleAt j) u v symbols params forms) (stop_of fault)
    single_deep faults.Memory h = tt
    single_deep (faults.Deep at) h = single_deep_at at h

    pub pair_deep : (i : ℕ) → i < length forms → (fault : OfferFault)
        → IfDeepAt (IsRefused v (PairIsRefused symbols (forms_of u params) false (form_of u (get_or forms i d)) (form_of u (get_or forms j d)))) fault
        → IfStop (IsTooDeep (PairAt j i) u v symbols params forms) (stop_of fault)
    pair_deep i l faults.Memory h = tt
    pair_deep i l (faults.Deep at) h = pair_deep_at i l at h
