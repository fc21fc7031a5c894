-- Formulas without an equality, and what a branch of them offers.
use Rattle.std.proofs.Common.{ℕ, ◌≡◌, ◌+◌, Bool, true, false, cond, refl, subst, ◌∙◌, List, [], ◌∷◌, ◌++◌, All, Contains, Option, None, Some, filter, slice_get, length}
use Rattle.std.proofs.lemmas.List.Elements.{All-nil, All-cons, All-head, All-tail, All-append, All-push, All-filter, All-contains}
use Rattle.std.proofs.lemmas.Bool.{or_parts, or_from}
use Rattle.zm_logic.specs.Tree.{Form, Side, Connective, Quantifier, Opening}
use Rattle.zm_logic.specs.Opening.{open_at}
use Rattle.zm_logic.specs.Same.{has}
use Rattle.unify.specs.Binding.{Binding}
use Rattle.unify.specs.Unification.{UnifiesForms, UnifiesTerms}
use Rattle.param_store.specs.RawOffers.{Raw, Quantified, one, two, signed, split, split_offers, quantified, is_quantified, own_part, number_of, at_part, opened, opened_offers}
use Rattle.branch.specs.Branch.{add, extend}
use Rattle.branch.specs.Setting.{Setting}
use Rattle.equality_rules.specs.Typed.{has_type}
use Rattle.equality_rules.specs.Instances.{InstancesOf, instance, instances, in_order, instance_of, opened_where}
use Rattle.equality_rules.specs.Pairs.{is_equality, FormsDiffer, TermsDiffer}
use Rattle.branch.specs.BranchOffers.{Kind, Entry, entries, split_kind, opened_kind, opened_entries, own_entries, instance_entries, BindingEntries, SingleEntries, PairEntries, PairsWith, EntriesFrom, has_equality, AreRawOffers}
use Rattle.branch.specs.Tableau.{enter}
use Rattle.branch.specs.EqualityFree.{holds_equality, AreEqualityFree}
use Rattle.branch.proofs.Lists.{get-contains}

abbrev pub IsEqualityFree : Form → Type 0
IsEqualityFree f = holds_equality f ≡ false

-- each child's formulas are without an equality
abbrev pub HaveEqualityFree : List (List Form) → Type 0
HaveEqualityFree cs = All AreEqualityFree cs

-- Lists.

pub none_free : AreEqualityFree []
none_free = All-nil IsEqualityFree

pub more_free : (f : Form) (fs : List Form) → IsEqualityFree f → AreEqualityFree fs → AreEqualityFree (f ∷ fs)
more_free f fs h k = All-cons IsEqualityFree f fs h k

pub append_free : (fs gs : List Form) → AreEqualityFree fs → AreEqualityFree gs → AreEqualityFree (fs ++ gs)
append_free fs gs h k = All-append IsEqualityFree fs gs h k

pub member_free : (fs : List Form) (f : Form) → AreEqualityFree fs → Contains fs f → IsEqualityFree f
member_free fs f h m = All-contains IsEqualityFree fs f h m

pub filter_free : (p : Form → Bool) (fs : List Form) → AreEqualityFree fs → AreEqualityFree (filter p fs)
filter_free p fs h = All-filter p IsEqualityFree fs h

-- Branches and tables of numbers.

pub add_free : (b : List Form) (f : Form) → AreEqualityFree b → IsEqualityFree f → AreEqualityFree (add b f)
add_free b f h k = go (has b f)
  where
    go : (v : Bool) → AreEqualityFree (cond v b (b ++ f ∷ []))
    go true = h
    go false = All-push IsEqualityFree b f h k

pub extend_free : (b fs : List Form) → AreEqualityFree b → AreEqualityFree fs → AreEqualityFree (extend b fs)
extend_free b [] h k = h
extend_free b (f ∷ fs) h k =
    extend_free (add b f) fs (add_free b f h (All-head IsEqualityFree f fs k)) (All-tail IsEqualityFree f fs k)

pub enter_free : (table fs : List Form) → AreEqualityFree table → AreEqualityFree fs → AreEqualityFree (enter table fs)
enter_free table fs h k = extend_free table (filter is_quantified fs) h (filter_free is_quantified fs k)

-- no equality is on the branch
is_none : (f : Form) → IsEqualityFree f → is_equality f ≡ false
is_none (Form.equal t a b) h = cc
is_none f h = refl

pub has_none : (b : List Form) → AreEqualityFree b → has_equality b ≡ false
has_none [] h = refl
has_none (f ∷ fs) h =
    or_from (is_equality f) (has_equality fs) (is_none f (All-head IsEqualityFree f fs h)) (has_none fs (All-tail IsEqualityFree f fs h))

-- Parts of formulas.

open_free : (k : ℕ) (w : Opening) (f : Form) → holds_equality (open_at k w f) ≡ holds_equality f
open_free k w Form.truth = refl
open_free k w Form.falsity = refl
open_free k w (Form.atom p ts us) = refl
open_free k w (Form.equal t a b) = refl
open_free k w (Form.negation f) = open_free k w f
open_free k w (Form.binary c f g) = rw (open_free k w f, open_free k w g) refl
open_free k w (Form.quantified q t f) = open_free (k + 1) w f
open_free k w (Form.quantified_types q f) = open_free (k + 1) w f

signed_free : (v : Bool) (f : Form) → IsEqualityFree f → IsEqualityFree (signed v f)
signed_free true f h = h
signed_free false f h = h

pub part_free : (q : Quantified) (w : Opening) → IsEqualityFree q.body → IsEqualityFree (at_part q w)
part_free q w h = signed_free q.holds (open_at 0 w q.body) (open_free 0 w q.body ∙ h)

abbrev IfFree : Option Quantified → Type 0
IfFree None = Unit {0}
IfFree (Some q) = IsEqualityFree q.body

quantified_free : (f : Form) → IsEqualityFree f → IfFree (quantified f)
quantified_free (Form.quantified Quantifier.existential t a) h = h
quantified_free (Form.negation (Form.quantified Quantifier.universal t a)) h = h
quantified_free (Form.quantified_types Quantifier.existential a) h = h
quantified_free (Form.negation (Form.quantified_types Quantifier.universal a)) h = h
quantified_free (Form.quantified Quantifier.universal t a) h = h
quantified_free (Form.quantified_types Quantifier.universal a) h = h
quantified_free (Form.negation (Form.quantified_types Quantifier.existential a)) h = h
quantified_free (Form.negation (Form.quantified Quantifier.existential t a)) h = h
quantified_free f h = tt

one_free : (f : Form) → IsEqualityFree f → AreEqualityFree (one f)
one_free f h = more_free f [] h none_free

two_free : (f g : Form) → IsEqualityFree f → IsEqualityFree g → AreEqualityFree (two f g)
two_free f g h k = more_free f (g ∷ []) h (one_free g k)

one_child : (c : List Form) → AreEqualityFree c → HaveEqualityFree (c ∷ [])
one_child c h = All-cons AreEqualityFree c [] h (All-nil AreEqualityFree)

two_children : (c d : List Form) → AreEqualityFree c → AreEqualityFree d → HaveEqualityFree (c ∷ d ∷ [])
two_children c d h k = All-cons AreEqualityFree c (d ∷ []) h (one_child d k)

pub split_free : (f : Form) → IsEqualityFree f → HaveEqualityFree (split f)
split_free (Form.negation (Form.negation a)) h = one_child (one a) (one_free a h)
split_free (Form.binary Connective.conjunction a b) h =
    let x = or_parts (holds_equality a) (holds_equality b) h in one_child (two a b) (two_free a b x.0 x.1)
split_free (Form.negation (Form.binary Connective.disjunction a b)) h =
    let x = or_parts (holds_equality a) (holds_equality b) h in
    one_child (two (Form.negation a) (Form.negation b)) (two_free (Form.negation a) (Form.negation b) x.0 x.1)
split_free (Form.negation (Form.binary Connective.implication a b)) h =
    let x = or_parts (holds_equality a) (holds_equality b) h in
    one_child (two a (Form.negation b)) (two_free a (Form.negation b) x.0 x.1)
split_free (Form.binary Connective.disjunction a b) h =
    let x = or_parts (holds_equality a) (holds_equality b) h in two_children (one a) (one b) (one_free a x.0) (one_free b x.1)
split_free (Form.negation (Form.binary Connective.conjunction a b)) h =
    let x = or_parts (holds_equality a) (holds_equality b) h in
    two_children (one (Form.negation a)) (one (Form.negation b)) (one_free (Form.negation a) x.0) (one_free (Form.negation b) x.1)
split_free (Form.binary Connective.implication a b) h =
    let x = or_parts (holds_equality a) (holds_equality b) h in
    two_children (one (Form.negation a)) (one b) (one_free (Form.negation a) x.0) (one_free b x.1)
split_free (Form.binary Connective.equivalence a b) h =
    let x = or_parts (holds_equality a) (holds_equality b) h in
    two_children (two a b) (two (Form.negation a) (Form.negation b)) (two_free a b x.0 x.1) (two_free (Form.negation a) (Form.negation b) x.0 x.1)
split_free (Form.negation (Form.binary Connective.equivalence a b)) h =
    let x = or_parts (holds_equality a) (holds_equality b) h in
    two_children (two a (Form.negation b)) (two (Form.negation a) b) (two_free a (Form.negation b) x.0 x.1) (two_free (Form.negation a) b x.0 x.1)
split_free f h = All-nil AreEqualityFree

-- Raw offers.

abbrev pub IsFreeRaw : Raw → Type 0
IsFreeRaw r = HaveEqualityFree r.children

-- the children of a raw offer are without an equality; bindings that are too deep give none
abbrev pub IsFreeEntry : Entry → Type 0
IsFreeEntry (Entry.offer p) = IsFreeRaw p.raw
IsFreeEntry (Entry.unbound at) = Unit {0}

abbrev AreFreeRaws : List Raw → Type 0
AreFreeRaws rs = All IsFreeRaw rs

abbrev pub AreFreeEntries : List Entry → Type 0
AreFreeEntries es = All IsFreeEntry es

no_raws : AreFreeRaws []
no_raws = All-nil IsFreeRaw

one_raw : (r : Raw) → IsFreeRaw r → AreFreeRaws (r ∷ [])
one_raw r h = All-cons IsFreeRaw r [] h no_raws

no_entries : AreFreeEntries []
no_entries = All-nil IsFreeEntry

both_entries : (xs ys : List Entry) → AreFreeEntries xs → AreFreeEntries ys → AreFreeEntries (xs ++ ys)
both_entries xs ys h k = All-append IsFreeEntry xs ys h k

entries_free : (k : Kind) (f : Form) (j : ℕ) (i : Option ℕ) (rs : List Raw) → AreFreeRaws rs → AreFreeEntries (entries k f j i rs)
entries_free k f j i [] h = no_entries
entries_free k f j i (r ∷ rs) h =
    All-cons IsFreeEntry (Entry.offer (record { kind = k; raw = r; blamed = f; later = j; earlier = i })) (entries k f j i rs)
    (All-head IsFreeRaw r rs h) (entries_free k f j i rs (All-tail IsFreeRaw r rs h))

instance_entries_free : (j : ℕ) (i : Option ℕ) (rs : List Raw) → AreFreeRaws rs → AreFreeEntries (instance_entries j i rs)
instance_entries_free j i [] h = no_entries
instance_entries_free j i (r ∷ rs) h =
    both_entries (entries Kind.instance r.act.first j i (r ∷ [])) (instance_entries j i rs)
    (entries_free Kind.instance r.act.first j i (r ∷ []) (one_raw r (All-head IsFreeRaw r rs h)))
    (instance_entries_free j i rs (All-tail IsFreeRaw r rs h))

opened_free : (f : Form) (q : Quantified) (w : Opening) → IsEqualityFree q.body → IsFreeRaw (opened f q w)
opened_free f q w h = one_child (one (at_part q w)) (one_free (at_part q w) (part_free q w h))

split_offers_free : (f : Form) (cs : List (List Form)) → HaveEqualityFree cs → AreFreeRaws (split_offers f cs)
split_offers_free f [] h = no_raws
split_offers_free f (c ∷ cs) h = one_raw _ h

opened_entries_free : (table : List Form) (j : ℕ) (f : Form) (o : Option Quantified) → IfFree o → AreFreeEntries (opened_entries table j f o)
opened_entries_free table j f None h = no_entries
opened_entries_free table j f (Some q) h =
    entries_free (opened_kind q.kind) f j None (opened_offers (number_of table f) f (Some q))
    (one_raw (opened f q (own_part (number_of table f) q)) (opened_free f q (own_part (number_of table f) q) h))

-- alpha, beta, delta and gamma
pub own_free : (table : List Form) (j : ℕ) (f : Form) → IsEqualityFree f → AreFreeEntries (own_entries table j f)
own_free table j f h =
    both_entries (entries (split_kind (split f)) f j None (split_offers f (split f))) (opened_entries table j f (quantified f))
    (entries_free (split_kind (split f)) f j None (split_offers f (split f)) (split_offers_free f (split f) (split_free f h)))
    (opened_entries_free table j f (quantified f) (quantified_free f h))

where_free : (f : Form) (o : Option Quantified) (w : Opening) → IfFree o → AreFreeRaws (opened_where f o w)
where_free f None w h = no_raws
where_free f (Some q) w h = one_raw (opened f q w) (opened_free f q w h)

number_free : (o : Option Form) (w : Opening) → ((f : Form) → o ≡ Some f → IsEqualityFree f) → AreFreeRaws (instance_of o w)
number_free None w h = no_raws
number_free (Some f) w h = where_free f (quantified f) w (quantified_free f (h f refl))

if_free : (v : Bool) (rs : List Raw) → AreFreeRaws rs → AreFreeRaws (cond v rs [])
if_free true rs h = h
if_free false rs h = no_raws

module _ (s : Setting) (table : List Form) (free : AreEqualityFree table) where
  at_number : (n : ℕ) (w : Opening) → AreFreeRaws (instance_of (slice_get table n) w)
  at_number n w = number_free (slice_get table n) w (λ f e. member_free table f free (get-contains table n f e))

  instance_free : (b : Binding) → AreFreeRaws (instance s.symbols table b)
  instance_free (Binding.of_type m u) = at_number m (Opening.of_type u)
  instance_free (Binding.of_term m t u) =
      if_free (has_type s.symbols u t) (instance_of (slice_get table m) (Opening.of_term u)) (at_number m (Opening.of_term u))

  instances_free : (bs : List Binding) → AreFreeRaws (instances s.symbols table bs)
  instances_free [] = no_raws
  instances_free (b ∷ bs) =
      All-append IsFreeRaw (instance s.symbols table b) (instances s.symbols table bs) (instance_free b) (instances_free bs)

  module _ (Unifies : List Binding → Type 0) (Differ : Type 0) where
    of_instances : {rs : List Raw} → InstancesOf s.symbols table Unifies Differ rs → AreFreeRaws rs
    of_instances (InstancesOf.unified made u) = instances_free (in_order made)
    of_instances (InstancesOf.apart d) = no_raws

    bindings_free : {j : ℕ} {i : Option ℕ} {xs : List Entry} → BindingEntries s table Unifies Differ j i xs → AreFreeEntries xs
    bindings_free {j} {i} (BindingEntries.listed {rs = rs} bounded x) = instance_entries_free j i rs (of_instances x)
    bindings_free (BindingEntries.too_deep made u unified d) =
        All-cons IsFreeEntry (Entry.unbound (Side.of_term u)) [] tt no_entries

  single_free : (j : ℕ) {f : Form} {xs : List Entry} → SingleEntries s table false j f xs → AreFreeEntries xs
  single_free j (SingleEntries.inequation {xs = xs} t u v h) =
      both_entries xs [] (bindings_free (UnifiesTerms u v) (TermsDiffer u v) h) no_entries
  single_free j (SingleEntries.other n) = no_entries

  pair_free : (j i : ℕ) (g f : Form) {xs : List Entry} → PairEntries s table false j i g f xs → AreFreeEntries xs
  pair_free j i g f (PairEntries.none e) = no_entries
  pair_free j i g f (PairEntries.opposed {xs = xs} o e h) =
      both_entries xs [] (bindings_free (UnifiesForms o.left o.right) (FormsDiffer o.left o.right) h) no_entries

  with_free : (j : ℕ) (f : Form) {i : ℕ} {gs : List Form} {xs : List Entry} → PairsWith s table false j f i gs xs → AreFreeEntries xs
  with_free j f PairsWith.none = no_entries
  with_free j f (PairsWith.more {i = i} {g = g} {gs = gs} {xs = xs} {ys = ys} here rest) =
      both_entries xs ys (pair_free j i g f here) (with_free j f rest)

  from_free : {gs fs : List Form} {xs : List Entry} → EntriesFrom s table false gs fs xs → AreEqualityFree fs → AreFreeEntries xs
  from_free EntriesFrom.none h = no_entries
  from_free (EntriesFrom.more {gs = gs} {fs = fs} {f = f} {xs = xs} {ys = ys} {zs = zs} single pairs rest) h =
      both_entries (own_entries table (length gs) f ++ (xs ++ ys)) zs
      (both_entries (own_entries table (length gs) f) (xs ++ ys) (own_free table (length gs) f (All-head IsEqualityFree f fs h))
      (both_entries xs ys (single_free (length gs) single) (with_free (length gs) f pairs)))
      (from_free rest (All-tail IsEqualityFree f fs h))

  -- the raw offers of a branch without an equality have none in their children
  pub raw_free : (b : List Form) (es : List Entry) → AreRawOffers s table b es → AreEqualityFree b → AreFreeEntries es
  raw_free b es raw h = from_free (subst (λ v. EntriesFrom s table v [] b es) (has_none b h) raw) h
