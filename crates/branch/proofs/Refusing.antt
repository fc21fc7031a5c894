-- What single and opposite formulas give, from the instances that are made of them, and from what is too deep.
use Rattle.std.proofs.Common.{ℕ, ◌≡◌, ◌<◌, Bool, true, false, cond, Option, None, Some, is_some, List, [], ◌∷◌, ◌++◌, slice_get, append-nil, refl, ap, sym, subst, ◌∙◌}
use Rattle.zm_logic.specs.Tree.{Form, Side, Quantifier, Opening, Symbol, differ}
use Rattle.param_store.specs.RawOffers.{Raw, Quantified, split, split_offers, quantified, number_of, opened_offers, own_offers}
use Rattle.param_store.specs.Depth.{deepest}
use Rattle.unify.specs.Binding.{Binding}
use Rattle.equality_rules.specs.Typed.{has_type}
use Rattle.equality_rules.specs.Instances.{InstancesOf, instances, in_order, instance_of, opened_where}
use Rattle.equality_rules.specs.Pairs.{PairOffers, SingleOffers}
use Rattle.equality_rules.specs.Refused.{acted_on, IsFirstDeepOffer, PairIsBounded, PairIsRefused, SingleIsBounded, SingleIsRefused}
use Rattle.branch.specs.Setting.{Setting}
use Rattle.branch.specs.Normal.{Fault, Made, MakesAll}
use Rattle.branch.specs.BranchOffers.{Entry, entries, opened_kind, split_kind, opened_entries, own_entries, instance_entries, BindingEntries, SingleEntries, PairEntries}
use Rattle.branch.specs.Offers.{MakesOffer}
use Rattle.branch.specs.Left.{Fails, kind_for, own_kind, first_kind}
use Rattle.branch.proofs.Unchanged.{entries_deep, instances_deep}

-- A formula's own offers are of one kind.

unsplit : (f : Form) (q : Quantified) → quantified f ≡ Some q → split f ≡ []
unsplit (Form.quantified Quantifier.existential t a) q e = refl
unsplit (Form.negation (Form.quantified Quantifier.universal t a)) q e = refl
unsplit (Form.quantified_types Quantifier.existential a) q e = refl
unsplit (Form.negation (Form.quantified_types Quantifier.universal a)) q e = refl
unsplit (Form.quantified Quantifier.universal t a) q e = refl
unsplit (Form.quantified_types Quantifier.universal a) q e = refl
unsplit (Form.negation (Form.quantified_types Quantifier.existential a)) q e = refl
unsplit (Form.negation (Form.quantified Quantifier.existential t a)) q e = refl
unsplit f q e = cc

module _ (table : List Form) (j : ℕ) (f : Form) where
  own_by : (cs : List (List Form)) (o : Option Quantified) → ((q : Quantified) → o ≡ Some q → cs ≡ [])
      → entries (kind_for cs o) f j None (split_offers f cs ++ opened_offers (number_of table f) f o)
      ≡ entries (split_kind cs) f j None (split_offers f cs) ++ opened_entries table j f o
  own_by [] None h = refl
  own_by (c ∷ cs) None h = refl
  own_by [] (Some q) h = refl
  own_by (c ∷ cs) (Some q) h = absurd (let e = h q refl in cc)

  pub own_entries_are : entries (own_kind f) f j None (own_offers table f) ≡ own_entries table j f
  own_entries_are = own_by (split f) (quantified f) (unsplit f)

first_split : (f : Form) (cs : List (List Form)) → first_kind (split_offers f cs) ≡ split_kind cs
first_split f [] = refl
first_split f (c ∷ cs) = refl

-- the kind of what is no quantified formula's offer, from its children
pub split_kind_is : (table : List Form) (f : Form) (rs : List Raw) → rs ≡ own_offers table f → quantified f ≡ None → first_kind rs ≡ own_kind f
split_kind_is table f rs e h =
    ap first_kind (e ∙ ap (λ o. split_offers f (split f) ++ opened_offers (number_of table f) f o) h ∙ append-nil (split_offers f (split f)))
    ∙ first_split f (split f)
    ∙ ap (kind_for (split f)) (sym h)

pub opened_kind_is : (f : Form) (q : Quantified) → quantified f ≡ Some q → opened_kind q.kind ≡ own_kind f
opened_kind_is f q h = ap (kind_for (split f)) (sym h)

-- Instances are opened with a part.

abbrev HaveParts : List Raw → Type 0
HaveParts [] = Unit {0}
HaveParts (r ∷ rs) = (is_some r.act.part ≡ true) × HaveParts rs

both_parts : (rs qs : List Raw) → HaveParts rs → HaveParts qs → HaveParts (rs ++ qs)
both_parts [] qs h k = k
both_parts (r ∷ rs) qs h k = (h.0, both_parts rs qs h.1 k)

part_at : (before : List Raw) (r : Raw) (after : List Raw) → HaveParts (before ++ r ∷ after) → is_some r.act.part ≡ true
part_at [] r after h = h.0
part_at (x ∷ xs) r after h = part_at xs r after h.1

opened_parts : (f : Form) (o : Option Quantified) (w : Opening) → HaveParts (opened_where f o w)
opened_parts f None w = tt
opened_parts f (Some q) w = (refl, tt)

instance_parts : (o : Option Form) (w : Opening) → HaveParts (instance_of o w)
instance_parts None w = tt
instance_parts (Some f) w = opened_parts f (quantified f) w

if_parts : (b : Bool) (rs : List Raw) → HaveParts rs → HaveParts (cond b rs [])
if_parts true rs h = h
if_parts false rs h = tt

module _ (symbols : List Symbol) (table : List Form) where
  have_parts : (bs : List Binding) → HaveParts (instances symbols table bs)
  have_parts [] = tt
  have_parts (Binding.of_type m u ∷ bs) = both_parts (instance_of (slice_get table m) (Opening.of_type u)) (instances symbols table bs)
      (instance_parts (slice_get table m) (Opening.of_type u)) (have_parts bs)
  have_parts (Binding.of_term m t u ∷ bs) = both_parts (cond (has_type symbols u t) (instance_of (slice_get table m) (Opening.of_term u)) []) (instances symbols table bs)
      (if_parts (has_type symbols u t) (instance_of (slice_get table m) (Opening.of_term u)) (instance_parts (slice_get table m) (Opening.of_term u))) (have_parts bs)

  of_instances : (Unifies : List Binding → Type 0) (Differ : Type 0) {rs : List Raw} → InstancesOf symbols table Unifies Differ rs → HaveParts rs
  of_instances Unifies Differ (InstancesOf.unified made u) = have_parts (in_order made)
  of_instances Unifies Differ (InstancesOf.apart d) = tt

  single_parts : {f : Form} {rs : List Raw} → SingleOffers symbols table false f rs → HaveParts rs
  single_parts (SingleOffers.inequation t u v rs h) = both_parts rs [] (of_instances _ _ h) tt
  single_parts (SingleOffers.other n) = tt

  pair_parts : {g f : Form} {rs : List Raw} → PairOffers symbols table false g f rs → HaveParts rs
  pair_parts (PairOffers.none e) = tt
  pair_parts (PairOffers.opposed o rs e h) = both_parts rs [] (of_instances _ _ h) tt

-- the first that is too deep is blamed on its quantified formula
named_part : (given f : Form) (r : Raw) → is_some r.act.part ≡ true → acted_on given r ≡ f → r.act.first ≡ f
named_part given f r h e = ap (λ b. cond b r.act.first given) (sym h) ∙ e

module _ (s : Setting) (plain : s.rules ≡ []) (j : ℕ) (i : Option ℕ) where
  first_deep : (rs : List Raw) (given f : Form) → HaveParts rs → IsFirstDeepOffer rs given f
      → MakesAll (MakesOffer s) (instance_entries j i rs) (Made.fault (Fault.deep (Side.of_form f)))
  first_deep rs given f h d =
      let p = part_at d.before d.offer d.after (subst HaveParts d.order h) in
      let e = named_part given f d.offer p d.named in
      subst (λ qs. MakesAll (MakesOffer s) (instance_entries j i qs) (Made.fault (Fault.deep (Side.of_form f)))) (sym d.order)
      (subst (λ g. MakesAll (MakesOffer s) (instance_entries j i (d.before ++ d.offer ∷ d.after)) (Made.fault (Fault.deep (Side.of_form g)))) e
      (instances_deep s plain j i d.before d.offer d.after d.bounded d.deep))

-- The entries of a formula beyond its rule, and of two formulas.

none_more : (j : ℕ) (i : Option ℕ) (rs : List Raw) → instance_entries j i rs ++ [] ≡ instance_entries j i (rs ++ [])
none_more j i rs = append-nil (instance_entries j i rs) ∙ ap (instance_entries j i) (sym (append-nil rs))

module _ (s : Setting) (table : List Form) (j : ℕ) where
  pub single_entries : {f : Form} {rs : List Raw} → SingleOffers s.symbols table false f rs → SingleIsBounded f
      → SingleEntries s table false j f (instance_entries j None rs)
  single_entries (SingleOffers.inequation t u v rs h) b =
      subst (SingleEntries s table false j (differ t u v)) (none_more j None rs)
      (SingleEntries.inequation t u v (BindingEntries.listed (λ made m. b t u v made refl m) h))
  single_entries (SingleOffers.other n) b = SingleEntries.other n

  pub pair_entries : (i : ℕ) {g f : Form} {rs : List Raw} → PairOffers s.symbols table false g f rs → PairIsBounded g f
      → PairEntries s table false j i g f (instance_entries j (Some i) rs)
  pair_entries i (PairOffers.none e) b = PairEntries.none e
  pair_entries i {g} {f} (PairOffers.opposed o rs e h) b =
      subst (PairEntries s table false j i g f) (none_more j (Some i) rs)
      (PairEntries.opposed o e (BindingEntries.listed (λ made m. b o made e m) h))

  module _ (plain : s.rules ≡ []) where
    pub single_fails : {f : Form} {side : Side} → SingleIsRefused s.symbols table false f side → Fails (SingleEntries s table false j f) s (Fault.deep side)
    single_fails {f} (SingleIsRefused.binding t u v made w e m d) = record {
      entries = Entry.unbound (Side.of_term w) ∷ [] ++ [];
      are = subst (λ g. SingleEntries s table false j g (Entry.unbound (Side.of_term w) ∷ [] ++ [])) (sym e)
          (SingleEntries.inequation t u v (BindingEntries.too_deep made w m d));
      first = MakesAll.first MakesOffer.unbound;
    }
    single_fails {f} (SingleIsRefused.child rs g b h d) = record {
      entries = instance_entries j None rs;
      are = single_entries h b;
      first = first_deep s plain j None rs f g (single_parts s.symbols table h) d;
    }

    pub pair_fails : (i : ℕ) {g f : Form} {side : Side} → PairIsRefused s.symbols table false g f side
        → Fails (PairEntries s table false j i g f) s (Fault.deep side)
    pair_fails i {g} {f} (PairIsRefused.binding o made u e m d) = record {
      entries = Entry.unbound (Side.of_term u) ∷ [] ++ [];
      are = PairEntries.opposed o e (BindingEntries.too_deep made u m d);
      first = MakesAll.first MakesOffer.unbound;
    }
    pair_fails i {g} {f} (PairIsRefused.child rs q b h d) = record {
      entries = instance_entries j (Some i) rs;
      are = pair_entries i h b;
      first = first_deep s plain j (Some i) rs f q (pair_parts s.symbols table h) d;
    }

    pub own_fails : (f : Form) → 2000 < deepest (own_offers table f) → Fails (λ es. es ≡ own_entries table j f) s (Fault.deep (Side.of_form f))
    own_fails f d = record {
      entries = own_entries table j f;
      are = refl;
      first = subst (λ es. MakesAll (MakesOffer s) es (Made.fault (Fault.deep (Side.of_form f)))) (own_entries_are table j f)
          (entries_deep s plain f (own_kind f) j None (own_offers table f) d);
    }
