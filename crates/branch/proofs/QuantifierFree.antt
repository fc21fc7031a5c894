-- A branch without quantifiers, equality and parameters offers its alpha and beta formulas, and nothing else.
use Rattle.std.proofs.Common.{◌≡◌, ℕ, ◌+◌, false, refl, ap, sym, subst, ◌∙◌, List, [], ◌∷◌, ◌++◌, inl, inr, Contains, Option, None, map, length, append-nil}
use Rattle.std.proofs.lemmas.List.{length_push, map-append}
use Rattle.std.proofs.lemmas.List.Elements.{Contains-append_left, Contains-append_right, Contains-append_cases, Contains-push_cases}
use Rattle.std.proofs.lemmas.Bool.{or_from}
use Rattle.zm_logic.specs.Tree.{Term, Form}
use Rattle.zm_logic.specs.Parameter.{HasNoParameter}
use Rattle.zm_logic.specs.Truth.{IsQuantifierFree}
use Rattle.zm_logic.proofs.Sames.{Contains-here, Contains-there, Contains-cases, Contains-none, only}
use Rattle.unify.specs.Binding.{Binding}
use Rattle.unify.specs.Unification.{UnifiesForms}
use Rattle.param_store.specs.RawOffers.{Raw, on, split, split_offers, quantified}
use Rattle.branch.specs.Setting.{Setting}
use Rattle.equality_rules.specs.Refused.{IsFirstDeepBinding}
use Rattle.equality_rules.specs.Instances.{InstancesOf, instances, in_order}
use Rattle.equality_rules.specs.Pairs.{is_equality, FormsDiffer}
use Rattle.branch.specs.BranchOffers.{Entry, Placed, entries, split_kind, opened_entries, own_entries, instance_entries, BindingEntries, SingleEntries, PairEntries, PairsWith, EntriesFrom, has_equality, AreRawOffers}
use Rattle.branch.specs.QuantifierFree.{AreQuantifierFree, split_at, splits_from, splits}
use Rattle.branch.proofs.Unbound.{nothing_bound, opposites_plain}

not_quantified : (f : Form) → IsQuantifierFree f → quantified f ≡ None
not_quantified Form.truth h = refl
not_quantified Form.falsity h = refl
not_quantified (Form.atom p ts us) h = refl
not_quantified (Form.equal t a b) h = absurd h
not_quantified (Form.negation Form.truth) h = refl
not_quantified (Form.negation Form.falsity) h = refl
not_quantified (Form.negation (Form.atom p ts us)) h = refl
not_quantified (Form.negation (Form.equal t a b)) h = absurd h
not_quantified (Form.negation (Form.negation f)) h = refl
not_quantified (Form.negation (Form.binary c f g)) h = refl
not_quantified (Form.negation (Form.quantified q t f)) h = absurd h
not_quantified (Form.negation (Form.quantified_types q f)) h = absurd h
not_quantified (Form.binary c f g) h = refl
not_quantified (Form.quantified q t f) h = absurd h
not_quantified (Form.quantified_types q f) h = absurd h

not_equality : (f : Form) → IsQuantifierFree f → is_equality f ≡ false
not_equality Form.truth h = refl
not_equality Form.falsity h = refl
not_equality (Form.atom p ts us) h = refl
not_equality (Form.equal t a b) h = absurd h
not_equality (Form.negation f) h = refl
not_equality (Form.binary c f g) h = refl
not_equality (Form.quantified q t f) h = refl
not_equality (Form.quantified_types q f) h = refl

pub no_equality : (b : List Form) → ((f : Form) → Contains b f → IsQuantifierFree f) → has_equality b ≡ false
no_equality [] h = refl
no_equality (f ∷ fs) h =
    or_from (is_equality f) (has_equality fs) (not_equality f (h f (Contains-here f fs))) (no_equality fs (λ g m. h g (Contains-there f fs g m)))

-- what a formula offers by itself
pub own_split : (table : List Form) (j : ℕ) (f : Form) → IsQuantifierFree f → own_entries table j f ≡ map Entry.offer (split_at j f (split f))
own_split table j f h =
    ap (λ o. entries (split_kind (split f)) f j None (split_offers f (split f)) ++ opened_entries table j f o) (not_quantified f h)
    ∙ (append-nil (entries (split_kind (split f)) f j None (split_offers f (split f))) ∙ go (split f))
  where
    go : (cs : List (List Form)) → entries (split_kind cs) f j None (split_offers f cs) ≡ map Entry.offer (split_at j f cs)
    go [] = refl
    go (c ∷ cs) = refl

pub joined : (own xs ys zs o r : List Entry) → own ≡ o → xs ≡ [] → ys ≡ [] → zs ≡ r → (own ++ (xs ++ ys)) ++ zs ≡ o ++ r
joined own xs ys zs o r a b c d = rw a (rw b (rw c (rw d (ap (λ z. z ++ r) (append-nil o)))))

module _ (s : Setting) (table : List Form) where
  not_deep : (u : Term) → IsFirstDeepBinding [] u → ⊥
  not_deep u d =
      Contains-none d.binding
      (subst (λ z. Contains z d.binding) (sym d.order) (Contains-append_right d.before (d.binding ∷ d.after) d.binding (Contains-here d.binding d.after)))

  module _ (Unifies : List Binding → Type 0) (Differ : Type 0) (none : (made : List Binding) → Unifies made → made ≡ []) where
    no_instances : {rs : List Raw} → InstancesOf s.symbols table Unifies Differ rs → rs ≡ []
    no_instances (InstancesOf.unified made u) = ap (λ z. instances s.symbols table (in_order z)) (none made u)
    no_instances (InstancesOf.apart d) = refl

    no_bindings : {j : ℕ} {i : Option ℕ} {xs : List Entry} → BindingEntries s table Unifies Differ j i xs → xs ≡ []
    no_bindings {j} {i} (BindingEntries.listed h x) = ap (λ z. instance_entries j i z) (no_instances x)
    no_bindings (BindingEntries.too_deep made u unified d) = absurd (not_deep u (subst (λ z. IsFirstDeepBinding z u) (none made unified) d))

  no_single : (j : ℕ) {f : Form} {xs : List Entry} → SingleEntries s table false j f xs → IsQuantifierFree f → xs ≡ []
  no_single j (SingleEntries.inequation t u v h) q = absurd q
  no_single j (SingleEntries.other n) q = refl

  no_pair : (j i : ℕ) (g f : Form) {xs : List Entry} → PairEntries s table false j i g f xs → HasNoParameter g → HasNoParameter f → xs ≡ []
  no_pair j i g f (PairEntries.none e) h k = refl
  no_pair j i g f (PairEntries.opposed o e x) h k =
      let p = opposites_plain g f o e h k in
      ap (λ z. z ++ []) (no_bindings (UnifiesForms o.left o.right) (FormsDiffer o.left o.right) (λ made u. nothing_bound o.left o.right made p.0 p.1 u) x)

  no_pairs : (j : ℕ) (f : Form) {i : ℕ} {gs : List Form} {xs : List Entry} → PairsWith s table false j f i gs xs
      → ((g : Form) → Contains gs g → HasNoParameter g) → HasNoParameter f → xs ≡ []
  no_pairs j f (PairsWith.none) h k = refl
  no_pairs j f (PairsWith.more {i = i} {g = g} {gs = gs} {ys = ys} x rest) h k =
      ap (λ z. z ++ ys) (no_pair j i g f x (h g (Contains-here g gs)) k) ∙ no_pairs j f rest (λ y m. h y (Contains-there g gs y m)) k

  splits_are : {gs fs : List Form} {es : List Entry} → EntriesFrom s table false gs fs es → ((g : Form) → Contains gs g → HasNoParameter g)
      → ((f : Form) → Contains fs f → IsQuantifierFree f × HasNoParameter f) → es ≡ map Entry.offer (splits_from (length gs) fs)
  splits_are (EntriesFrom.none) h k = refl
  splits_are (EntriesFrom.more {gs = gs} {fs = fs} {f = f} {xs = xs} {ys = ys} {zs = zs} x p rest) h k =
      let q = k f (Contains-here f fs) in
      let r = splits_are rest (λ g m. elim (Contains-push_cases gs f g m) [ inl i ↦ h g i | inr e ↦ subst (λ y. HasNoParameter y) e q.1 ]) (λ g m. k g (Contains-there f fs g m)) in
      joined (own_entries table (length gs) f) xs ys zs (map Entry.offer (split_at (length gs) f (split f))) (map Entry.offer (splits_from (length gs + 1) fs))
      (own_split table (length gs) f q.0) (no_single (length gs) x q.0) (no_pairs (length gs) f p h q.1) (r ∙ ap (λ n. map Entry.offer (splits_from n fs)) (length_push gs f))
      ∙ sym (map-append Entry.offer (split_at (length gs) f (split f)) (splits_from (length gs + 1) fs))

  -- the raw offers of a branch
  pub raw_splits : (b : List Form) (es : List Entry) → AreQuantifierFree b → AreRawOffers s table b es → es ≡ map Entry.offer (splits b)
  raw_splits b es q h =
      splits_are (subst (λ v. EntriesFrom s table v [] b es) (no_equality b q.free) h) (λ g m. absurd (Contains-none g m)) (λ f m. (q.free f m, q.parameters f m))

-- where a raw offer of a branch comes from
pub record IsSplit (b : List Form) (p : Placed) : Type 0 where
  pub form : Form
  pub stands : Contains b form
  pub children : split form ≡ p.raw.children
  pub some : p.raw.children ≡ [] → ⊥

pub split_source : (b : List Form) (j : ℕ) (p : Placed) → Contains (splits_from j b) p → IsSplit b p
split_source [] j p m = absurd (Contains-none p m)
split_source (f ∷ fs) j p m = elim (Contains-append_cases (split_at j f (split f)) (splits_from (j + 1) fs) p m) [
  | inl i ↦ here (split f) refl i
  | inr i ↦ let x = split_source fs (j + 1) p i in
      record { form = x.form; stands = Contains-there f fs x.form x.stands; children = x.children; some = x.some }
]
  where
    here : (cs : List (List Form)) → split f ≡ cs → Contains (split_at j f cs) p → IsSplit (f ∷ fs) p
    here [] e i = absurd (Contains-none p i)
    here (c ∷ cs) e i =
        let q : Placed = record { kind = split_kind (c ∷ cs); raw = record { act = on f; children = c ∷ cs }; blamed = f; later = j; earlier = None } in
        subst (IsSplit (f ∷ fs)) (only q p i) (record { form = f; stands = Contains-here f fs; children = e; some = λ z. cc })

-- each alpha or beta formula of a branch gives a raw offer with its children
pub split_there : (b : List Form) (j : ℕ) (f : Form) (c : List Form) (cs : List (List Form)) → Contains b f → split f ≡ c ∷ cs
    → (p : Placed) × Contains (splits_from j b) p × (p.raw.children ≡ c ∷ cs)
split_there [] j f c cs m e = absurd (Contains-none f m)
split_there (g ∷ fs) j f c cs m e = elim (Contains-cases g fs f m) [
  | inl i ↦
      let q : Placed = record { kind = split_kind (c ∷ cs); raw = record { act = on g; children = c ∷ cs }; blamed = g; later = j; earlier = None } in
      let k : split g ≡ c ∷ cs = ap split i ∙ e in
      (q, Contains-append_left (split_at j g (split g)) (splits_from (j + 1) fs) q (subst (λ ds. Contains (split_at j g ds) q) (sym k) (Contains-here q [])), refl)
  | inr i ↦ let x = split_there fs (j + 1) f c cs i e in
      (x.0, Contains-append_right (split_at j g (split g)) (splits_from (j + 1) fs) x.0 x.1, x.2)
]
