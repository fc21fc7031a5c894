-- The offers of a branch without an equality have children.
use Rattle.std.proofs.Common.{ℕ, ◌≡◌, ◌<◌, Bool, true, false, cond, refl, sym, subst, ap, ◌∙◌, arith, List, [], ◌∷◌, ◌++◌, Option, None, Some, All, length, slice_get}
use Rattle.std.proofs.lemmas.List.Elements.{All-nil, All-cons, All-head, All-tail, All-append, All-filter}
use Rattle.zm_logic.specs.Tree.{Form, Opening, Side}
use Rattle.param_store.specs.RawOffers.{Raw, Quantified, on, one, split, split_offers, quantified, own_part, number_of, at_part, opened, opened_offers}
use Rattle.unify.specs.Binding.{Binding}
use Rattle.unify.specs.Unification.{UnifiesForms, UnifiesTerms}
use Rattle.equality_rules.specs.Typed.{has_type}
use Rattle.equality_rules.specs.Instances.{InstancesOf, instances, instance, in_order, instance_of, opened_where}
use Rattle.equality_rules.specs.Pairs.{FormsDiffer, TermsDiffer}
use Rattle.branch.specs.Setting.{Setting}
use Rattle.branch.specs.Normal.{Made, MakesAll}
use Rattle.branch.specs.BranchOffers.{Kind, Entry, entries, split_kind, opened_kind, opened_entries, own_entries, instance_entries, BindingEntries, SingleEntries, PairEntries, PairsWith, EntriesFrom}
use Rattle.branch.specs.Offers.{Child, Offer, MakesOffer, is_useful, AreOffers}
use Rattle.branch.specs.EqualityFree.{AreEqualityFree}
use Rattle.branch.proofs.Kept.{made_is}
use Rattle.branch.proofs.Made.{raws, children_made}
use Rattle.branch.proofs.EqualityFree.{has_none}

-- a raw offer has a child; bindings that are too deep give none
abbrev IsFilled : Raw → Type 0
IsFilled r = 0 < length r.children

abbrev IsFilledEntry : Entry → Type 0
IsFilledEntry (Entry.offer p) = IsFilled p.raw
IsFilledEntry (Entry.unbound at) = Unit {0}

abbrev AreFilledRaws : List Raw → Type 0
AreFilledRaws rs = All IsFilled rs

abbrev AreFilled : List Entry → Type 0
AreFilled es = All IsFilledEntry es

no_raws : AreFilledRaws []
no_raws = All-nil IsFilled

one_raw : (r : Raw) → IsFilled r → AreFilledRaws (r ∷ [])
one_raw r h = All-cons IsFilled r [] h no_raws

no_entries : AreFilled []
no_entries = All-nil IsFilledEntry

both_entries : (xs ys : List Entry) → AreFilled xs → AreFilled ys → AreFilled (xs ++ ys)
both_entries xs ys h k = All-append IsFilledEntry xs ys h k

entries_filled : (k : Kind) (f : Form) (j : ℕ) (i : Option ℕ) (rs : List Raw) → AreFilledRaws rs → AreFilled (entries k f j i rs)
entries_filled k f j i [] h = no_entries
entries_filled k f j i (r ∷ rs) h =
    All-cons IsFilledEntry (Entry.offer (record { kind = k; raw = r; blamed = f; later = j; earlier = i })) (entries k f j i rs)
    (All-head IsFilled r rs h) (entries_filled k f j i rs (All-tail IsFilled r rs h))

instance_entries_filled : (j : ℕ) (i : Option ℕ) (rs : List Raw) → AreFilledRaws rs → AreFilled (instance_entries j i rs)
instance_entries_filled j i [] h = no_entries
instance_entries_filled j i (r ∷ rs) h =
    both_entries (entries Kind.instance r.act.first j i (r ∷ [])) (instance_entries j i rs)
    (entries_filled Kind.instance r.act.first j i (r ∷ []) (one_raw r (All-head IsFilled r rs h)))
    (instance_entries_filled j i rs (All-tail IsFilled r rs h))

filled : (c : List Form) (cs : List (List Form)) → 0 < length (c ∷ cs)
filled c cs = omega arith

opened_filled : (f : Form) (q : Quantified) (w : Opening) → IsFilled (opened f q w)
opened_filled f q w = filled (one (at_part q w)) []

split_offers_filled : (f : Form) (cs : List (List Form)) → AreFilledRaws (split_offers f cs)
split_offers_filled f [] = no_raws
split_offers_filled f (c ∷ cs) = one_raw (record { act = on f; children = c ∷ cs }) (filled c cs)

opened_entries_filled : (table : List Form) (j : ℕ) (f : Form) (o : Option Quantified) → AreFilled (opened_entries table j f o)
opened_entries_filled table j f None = no_entries
opened_entries_filled table j f (Some q) =
    entries_filled (opened_kind q.kind) f j None (opened_offers (number_of table f) f (Some q))
    (one_raw (opened f q (own_part (number_of table f) q)) (opened_filled f q (own_part (number_of table f) q)))

own_filled : (table : List Form) (j : ℕ) (f : Form) → AreFilled (own_entries table j f)
own_filled table j f =
    both_entries (entries (split_kind (split f)) f j None (split_offers f (split f))) (opened_entries table j f (quantified f))
    (entries_filled (split_kind (split f)) f j None (split_offers f (split f)) (split_offers_filled f (split f)))
    (opened_entries_filled table j f (quantified f))

where_filled : (f : Form) (o : Option Quantified) (w : Opening) → AreFilledRaws (opened_where f o w)
where_filled f None w = no_raws
where_filled f (Some q) w = one_raw (opened f q w) (opened_filled f q w)

number_filled : (o : Option Form) (w : Opening) → AreFilledRaws (instance_of o w)
number_filled None w = no_raws
number_filled (Some f) w = where_filled f (quantified f) w

if_filled : (v : Bool) (rs : List Raw) → AreFilledRaws rs → AreFilledRaws (cond v rs [])
if_filled true rs h = h
if_filled false rs h = no_raws

module _ (s : Setting) (table : List Form) where
  instance_filled : (b : Binding) → AreFilledRaws (instance s.symbols table b)
  instance_filled (Binding.of_type m u) = number_filled (slice_get table m) (Opening.of_type u)
  instance_filled (Binding.of_term m t u) =
      if_filled (has_type s.symbols u t) (instance_of (slice_get table m) (Opening.of_term u)) (number_filled (slice_get table m) (Opening.of_term u))

  instances_filled : (bs : List Binding) → AreFilledRaws (instances s.symbols table bs)
  instances_filled [] = no_raws
  instances_filled (b ∷ bs) =
      All-append IsFilled (instance s.symbols table b) (instances s.symbols table bs) (instance_filled b) (instances_filled bs)

  module _ (Unifies : List Binding → Type 0) (Differ : Type 0) where
    of_instances : {rs : List Raw} → InstancesOf s.symbols table Unifies Differ rs → AreFilledRaws rs
    of_instances (InstancesOf.unified made u) = instances_filled (in_order made)
    of_instances (InstancesOf.apart d) = no_raws

    bindings_filled : {j : ℕ} {i : Option ℕ} {xs : List Entry} → BindingEntries s table Unifies Differ j i xs → AreFilled xs
    bindings_filled {j} {i} (BindingEntries.listed {rs = rs} bounded x) = instance_entries_filled j i rs (of_instances x)
    bindings_filled (BindingEntries.too_deep made u unified d) = All-cons IsFilledEntry (Entry.unbound (Side.of_term u)) [] tt no_entries

  single_filled : (j : ℕ) {f : Form} {xs : List Entry} → SingleEntries s table false j f xs → AreFilled xs
  single_filled j (SingleEntries.inequation {xs = xs} t u v h) =
      both_entries xs [] (bindings_filled (UnifiesTerms u v) (TermsDiffer u v) h) no_entries
  single_filled j (SingleEntries.other n) = no_entries

  pair_filled : (j i : ℕ) (g f : Form) {xs : List Entry} → PairEntries s table false j i g f xs → AreFilled xs
  pair_filled j i g f (PairEntries.none e) = no_entries
  pair_filled j i g f (PairEntries.opposed {xs = xs} o e h) =
      both_entries xs [] (bindings_filled (UnifiesForms o.left o.right) (FormsDiffer o.left o.right) h) no_entries

  with_filled : (j : ℕ) (f : Form) {i : ℕ} {gs : List Form} {xs : List Entry} → PairsWith s table false j f i gs xs → AreFilled xs
  with_filled j f PairsWith.none = no_entries
  with_filled j f (PairsWith.more {i = i} {g = g} {gs = gs} {xs = xs} {ys = ys} here rest) =
      both_entries xs ys (pair_filled j i g f here) (with_filled j f rest)

  from_filled : {gs fs : List Form} {xs : List Entry} → EntriesFrom s table false gs fs xs → AreFilled xs
  from_filled EntriesFrom.none = no_entries
  from_filled (EntriesFrom.more {gs = gs} {fs = fs} {f = f} {xs = xs} {ys = ys} {zs = zs} single pairs rest) =
      both_entries (own_entries table (length gs) f ++ (xs ++ ys)) zs
      (both_entries (own_entries table (length gs) f) (xs ++ ys) (own_filled table (length gs) f)
      (both_entries xs ys (single_filled (length gs) single) (with_filled (length gs) f pairs)))
      (from_filled rest)

abbrev pub HasChildren : Offer → Type 0
HasChildren o = 0 < length o.children

raws_length : (cs : List Child) → length (raws cs) ≡ length cs
raws_length [] = refl
raws_length (c ∷ cs) = let e = raws_length cs in omega (arith, e)

module _ (s : Setting) where
  offer_filled : {x : Entry} (o : Offer) → IsFilledEntry x → MakesOffer s x (Made.made o) → HasChildren o
  offer_filled o h (MakesOffer.made {p = p} {cs = cs} m) =
      let made = children_made s p.blamed p.raw.children cs m refl in
      let e : length p.raw.children ≡ length cs = ap length (sym made.0) ∙ raws_length cs in
      omega (arith, e, h)

  all_filled : (es : List Entry) (os : List Offer) {y : Made (List Offer)} → AreFilled es → MakesAll (MakesOffer s) es y → y ≡ Made.made os → All HasChildren os
  all_filled [] os h MakesAll.none e = subst (All HasChildren) (made_is [] os e) (All-nil HasChildren)
  all_filled (x ∷ es) os h (MakesAll.more {y = o} {ys = ys} first rest) e =
      subst (All HasChildren) (made_is (o ∷ ys) os e)
      (All-cons HasChildren o ys (offer_filled o (All-head IsFilledEntry x es h) first) (all_filled es ys (All-tail IsFilledEntry x es h) rest refl))
  all_filled (x ∷ es) os h (MakesAll.first n) e = cc
  all_filled (x ∷ es) os h (MakesAll.later n ms) e = cc

  pub offers_filled : (table b : List Form) (os : List Offer) → AreOffers s table b os → AreEqualityFree b → All HasChildren os
  offers_filled table b os offers h =
      let raw = from_filled s table (subst (λ v. EntriesFrom s table v [] b offers.entries) (has_none b h) offers.raw) in
      subst (All HasChildren) offers.useful
      (All-filter (is_useful b) HasChildren offers.all (all_filled offers.entries offers.all raw offers.made refl))
