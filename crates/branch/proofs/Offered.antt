-- Each raw offer is one by the rules.
use Rattle.std.proofs.Common.{◌≡◌, ◌==◌, ℕ, Bool, true, false, ◌&&◌, cond, refl, sym, subst, List, [], ◌∷◌, ◌++◌, inl, inr, Contains, Option, None, Some, slice_get, length}
use Rattle.std.proofs.lemmas.Bool.{eqb-true, and_parts}
use Rattle.std.proofs.lemmas.List.Elements.{Contains-append_cases}
use Rattle.std.proofs.lemmas.Option.{same_Some}
use Rattle.zm_logic.specs.Tree.{Ty, Term, Form, Opening, Side, differ}
use Rattle.zm_logic.specs.Typing.{symbol_at}
use Rattle.zm_logic.specs.Same.{same_type, same_types}
use Rattle.zm_logic.proofs.Sames.{Contains-here, Contains-there, Contains-cases, Contains-none, only, same_type-true, same_types-true}
use Rattle.param_store.specs.RawOffers.{Raw, Quantified, on, on_with, one, split, split_offers, quantified, own_part, number_of, at_part, opened, opened_offers}
use Rattle.unify.specs.Binding.{Binding}
use Rattle.unify.specs.Unification.{UnifiesForms, UnifiesTerms}
use Rattle.equality_rules.specs.Typed.{has_type}
use Rattle.equality_rules.specs.Instances.{InstancesOf, instances, in_order, instance_of, opened_where}
use Rattle.equality_rules.specs.Equality.{unequal, has_arguments, on_pair, step, value_steps, pair_steps}
use Rattle.equality_rules.specs.Pairs.{Opposites, alike, opposites, FormsDiffer, TermsDiffer}
use Rattle.equality_rules.proofs.Typed.{term_true}
use Rattle.branch.specs.Setting.{Setting}
use Rattle.branch.specs.BranchOffers.{Kind, Entry, entries, split_kind, opened_kind, opened_entries, own_entries, instance_entries, BindingEntries, SingleEntries, PairEntries, PairsWith, EntriesFrom, has_equality, AreRawOffers}
use Rattle.branch.specs.Offered.{Solves, Offered}

-- a raw offer is one by the rules, if it isn't one for bindings that are too deep
abbrev pub IsOffered : Setting → List Form → List Form → Entry → Type 0
IsOffered s table b (Entry.offer p) = Offered s table b p.kind p.raw.act p.raw.children
IsOffered s table b (Entry.unbound at) = Unit {0}

module _ (s : Setting) (table b : List Form) where
  abbrev AllOffered : List Entry → Type 0
  AllOffered es = (x : Entry) → Contains es x → IsOffered s table b x

  abbrev AllRaw : Kind → List Raw → Type 0
  AllRaw k rs = (r : Raw) → Contains rs r → Offered s table b k r.act r.children

  none_offered : AllOffered []
  none_offered x h = absurd (Contains-none x h)

  both_offered : (xs ys : List Entry) → AllOffered xs → AllOffered ys → AllOffered (xs ++ ys)
  both_offered xs ys h k x m = elim (Contains-append_cases xs ys x m) [ inl i ↦ h x i | inr i ↦ k x i ]

  entries_offered : (k : Kind) (f : Form) (j : ℕ) (i : Option ℕ) (rs : List Raw) → AllRaw k rs → AllOffered (entries k f j i rs)
  entries_offered k f j i [] h x m = absurd (Contains-none x m)
  entries_offered k f j i (r ∷ rs) h x m =
      elim (Contains-cases (Entry.offer (record { kind = k; raw = r; blamed = f; later = j; earlier = i })) (entries k f j i rs) x m) [
        | inl e ↦ subst (IsOffered s table b) e (h r (Contains-here r rs))
        | inr n ↦ entries_offered k f j i rs (λ y w. h y (Contains-there r rs y w)) x n
      ]

  instances_placed : (j : ℕ) (i : Option ℕ) (rs : List Raw) → AllRaw Kind.instance rs → AllOffered (instance_entries j i rs)
  instances_placed j i [] h = none_offered
  instances_placed j i (r ∷ rs) h =
      both_offered (entries Kind.instance r.act.first j i (r ∷ [])) (instance_entries j i rs)
      (entries_offered Kind.instance r.act.first j i (r ∷ []) (λ y w. subst (λ z. Offered s table b Kind.instance z.act z.children) (only r y w) (h r (Contains-here r rs))))
      (instances_placed j i rs (λ y w. h y (Contains-there r rs y w)))

  no_raw : (k : Kind) → AllRaw k []
  no_raw k r m = absurd (Contains-none r m)

  one_raw : (k : Kind) (r : Raw) → Offered s table b k r.act r.children → AllRaw k (r ∷ [])
  one_raw k r h x m = subst (λ z. Offered s table b k z.act z.children) (only r x m) h

  both_raw : (k : Kind) (xs ys : List Raw) → AllRaw k xs → AllRaw k ys → AllRaw k (xs ++ ys)
  both_raw k xs ys h g x m = elim (Contains-append_cases xs ys x m) [ inl i ↦ h x i | inr i ↦ g x i ]

  if_raw : (k : Kind) (v : Bool) (xs : List Raw) → (v ≡ true → AllRaw k xs) → AllRaw k (cond v xs [])
  if_raw k true xs h = h refl
  if_raw k false xs h = no_raw k

  split_offered : (f : Form) (j : ℕ) (cs : List (List Form)) → Contains b f → split f ≡ cs → AllOffered (entries (split_kind cs) f j None (split_offers f cs))
  split_offered f j [] h e = none_offered
  split_offered f j (c ∷ cs) h e =
      entries_offered (split_kind (c ∷ cs)) f j None (split_offers f (c ∷ cs))
      (one_raw (split_kind (c ∷ cs)) (record { act = on f; children = c ∷ cs }) (Offered.splits f h e (λ z. cc)))

  opened_offered : (f : Form) (j : ℕ) (o : Option Quantified) → Contains b f → quantified f ≡ o → AllOffered (opened_entries table j f o)
  opened_offered f j None h e = none_offered
  opened_offered f j (Some q) h e =
      entries_offered (opened_kind q.kind) f j None (opened_offers (number_of table f) f (Some q))
      (one_raw (opened_kind q.kind) (opened f q (own_part (number_of table f) q)) (Offered.opens f q h e))

  own_offered : (f : Form) (j : ℕ) → Contains b f → AllOffered (own_entries table j f)
  own_offered f j h =
      both_offered (entries (split_kind (split f)) f j None (split_offers f (split f))) (opened_entries table j f (quantified f))
      (split_offered f j (split f) h refl) (opened_offered f j (quantified f) h refl)

  at_quantified : (f : Form) (w : Opening) → ((q : Quantified) → quantified f ≡ Some q → Offered s table b Kind.instance (on_with f w) (one (at_part q w) ∷ []))
      → AllRaw Kind.instance (opened_where f (quantified f) w)
  at_quantified f w h = go (quantified f) refl
    where
      go : (o : Option Quantified) → quantified f ≡ o → AllRaw Kind.instance (opened_where f o w)
      go None e = no_raw Kind.instance
      go (Some q) e = one_raw Kind.instance (opened f q w) (h q e)

  at_number : (n : ℕ) (w : Opening) → ((f : Form) (q : Quantified) → slice_get table n ≡ Some f → quantified f ≡ Some q → Offered s table b Kind.instance (on_with f w) (one (at_part q w) ∷ []))
      → AllRaw Kind.instance (instance_of (slice_get table n) w)
  at_number n w h = go (slice_get table n) refl
    where
      go : (o : Option Form) → slice_get table n ≡ o → AllRaw Kind.instance (instance_of o w)
      go None e = no_raw Kind.instance
      go (Some f) e = at_quantified f w (λ q i. h f q e i)

  instances_offered : (made : List Binding) → Solves b made → (bs : List Binding) → ((x : Binding) → Contains bs x → Contains (in_order made) x)
      → AllRaw Kind.instance (instances s.symbols table bs)
  instances_offered made h [] w = no_raw Kind.instance
  instances_offered made h (Binding.of_type m u ∷ bs) w =
      both_raw Kind.instance (instance_of (slice_get table m) (Opening.of_type u)) (instances s.symbols table bs)
      (at_number m (Opening.of_type u) (λ f q e i. Offered.at_type m u f q made h (w (Binding.of_type m u) (Contains-here (Binding.of_type m u) bs)) e i))
      (instances_offered made h bs (λ x n. w x (Contains-there (Binding.of_type m u) bs x n)))
  instances_offered made h (Binding.of_term m t u ∷ bs) w =
      both_raw Kind.instance (cond (has_type s.symbols u t) (instance_of (slice_get table m) (Opening.of_term u)) []) (instances s.symbols table bs)
      (if_raw Kind.instance (has_type s.symbols u t) (instance_of (slice_get table m) (Opening.of_term u))
      (λ y. at_number m (Opening.of_term u)
      (λ f q e i. Offered.at_term m t u f q made h (w (Binding.of_term m t u) (Contains-here (Binding.of_term m t u) bs)) (term_true s.symbols u t y) e i)))
      (instances_offered made h bs (λ x n. w x (Contains-there (Binding.of_term m t u) bs x n)))

  of_instances : (Unifies : List Binding → Type 0) (Differ : Type 0) → ((made : List Binding) → Unifies made → Solves b made) → {rs : List Raw}
      → InstancesOf s.symbols table Unifies Differ rs → AllRaw Kind.instance rs
  of_instances Unifies Differ h (InstancesOf.unified made u) = instances_offered made (h made u) (in_order made) (λ x m. m)
  of_instances Unifies Differ h (InstancesOf.apart d) = no_raw Kind.instance

  bindings_offered : (Unifies : List Binding → Type 0) (Differ : Type 0) → ((made : List Binding) → Unifies made → Solves b made) → {j : ℕ} {i : Option ℕ} {xs : List Entry}
      → BindingEntries s table Unifies Differ j i xs → AllOffered xs
  bindings_offered Unifies Differ h {j} {i} (BindingEntries.listed {rs = rs} bounded x) = instances_placed j i rs (of_instances Unifies Differ h x)
  bindings_offered Unifies Differ h (BindingEntries.too_deep made u unified d) = λ x m. subst (IsOffered s table b) (only (Entry.unbound (Side.of_term u)) x m) tt

  values_offered : (t : Ty) (u v : Term) → Contains b (differ t u v) → AllRaw Kind.equality (value_steps s.symbols (differ t u v) u v)
  values_offered t (Term.app f ts us) (Term.app g rs vs) h =
      if_raw Kind.equality ((f == g) && (same_types ts rs && has_arguments us)) _ (λ e.
      let p = and_parts _ _ e in let q = and_parts _ _ p.1 in
      let i : Term.app g rs vs ≡ Term.app f ts vs = (let j = eqb-true f g p.0 in let k = same_types-true ts rs q.0 in cc) in
      let P : Term → Type 0 = λ x. Offered s table b Kind.equality (on (differ t (Term.app f ts us) x)) (unequal (symbol_at s.symbols f) ts us vs) in
      let Q : Term → Type 0 = λ x. Contains b (differ t (Term.app f ts us) x) in
      one_raw Kind.equality (record { act = on (differ t (Term.app f ts us) (Term.app g rs vs)); children = unequal (symbol_at s.symbols f) ts us vs })
      (subst P (sym i) (Offered.values t f ts us vs (subst Q i h))))
  values_offered t u v h = no_raw Kind.equality

  pairs_offered : (f g : Form) → Contains b f → Contains b (Form.negation g) → AllRaw Kind.equality (pair_steps s.symbols f g)
  pairs_offered (Form.atom p ts us) (Form.atom q rs vs) h k =
      if_raw Kind.equality ((p == q) && (same_types ts rs && has_arguments us)) _ (λ e.
      let x = and_parts _ _ e in let y = and_parts _ _ x.1 in
      let i : Form.atom q rs vs ≡ Form.atom p ts vs = (let j = eqb-true p q x.0 in let l = same_types-true ts rs y.0 in cc) in
      let P : Form → Type 0 = λ z. Offered s table b Kind.equality (on_pair (Form.atom p ts us) z false) (unequal (symbol_at s.symbols p) ts us vs) in
      let Q : Form → Type 0 = λ z. Contains b (Form.negation z) in
      one_raw Kind.equality (record { act = on_pair (Form.atom p ts us) (Form.atom q rs vs) false; children = unequal (symbol_at s.symbols p) ts us vs })
      (subst P (sym i) (Offered.arguments p ts us vs h (subst Q i k))))
  pairs_offered (Form.equal t a c) (Form.equal u d e) h k =
      if_raw Kind.equality (same_type t u) _ (λ i.
      let j = same_type-true t u i in
      let Q : Ty → Type 0 = λ z. Contains b (Form.negation (Form.equal z d e)) in
      let P : Ty → Type 0 = λ z. Offered s table b Kind.equality (on_pair (Form.equal t a c) (Form.equal z d e) false) (one (differ t d a) ∷ one (differ t c e) ∷ []) in
      let R : Ty → Type 0 = λ z. Offered s table b Kind.equality (on_pair (Form.equal t a c) (Form.equal z d e) true) (one (differ t d c) ∷ one (differ t a e) ∷ []) in
      let l = subst Q (sym j) k in
      both_raw Kind.equality (step (on_pair (Form.equal t a c) (Form.equal u d e) false) (one (differ t d a) ∷ one (differ t c e) ∷ []))
      (step (on_pair (Form.equal t a c) (Form.equal u d e) true) (one (differ t d c) ∷ one (differ t a e) ∷ []))
      (one_raw Kind.equality (record { act = on_pair (Form.equal t a c) (Form.equal u d e) false; children = one (differ t d a) ∷ one (differ t c e) ∷ [] }) (subst P j (Offered.first_sides t a c d e h l)))
      (one_raw Kind.equality (record { act = on_pair (Form.equal t a c) (Form.equal u d e) true; children = one (differ t d c) ∷ one (differ t a e) ∷ [] }) (subst R j (Offered.second_sides t a c d e h l))))
  pairs_offered f g h k = no_raw Kind.equality

  -- two opposite formulas of the branch
  record IsOpposed (o : Opposites) : Type 0 where
    plain : Contains b o.plain
    denied : Contains b (Form.negation o.denied)
    solves : (made : List Binding) → UnifiesForms o.left o.right made → Solves b made

  if_alike : (v : Bool) (x o : Opposites) → cond v (Some x) None ≡ Some o → x ≡ o
  if_alike true x o e = same_Some x o e
  if_alike false x o e = cc

  opposed : (g f : Form) (o : Opposites) → opposites g f ≡ Some o → Contains b g → Contains b f → IsOpposed o
  opposed (Form.negation g) (Form.negation f) o e h k = cc
  opposed (Form.negation g) f o e h k =
      subst IsOpposed (if_alike (alike g f) (record { plain = f; denied = g; left = g; right = f }) o e)
      (record { plain = k; denied = h; solves = λ made u. Solves.of_swapped g f h k u })
  opposed g (Form.negation f) o e h k =
      subst IsOpposed (if_alike (alike g f) (record { plain = g; denied = f; left = g; right = f }) o e)
      (record { plain = h; denied = k; solves = λ made u. Solves.of_pair g f h k u })
  opposed g f o e h k = cc

  if_equality : (k : Kind) (f : Form) (j : ℕ) (i : Option ℕ) (v : Bool) (rs : List Raw) → AllRaw k rs → AllOffered (entries k f j i (cond v rs []))
  if_equality k f j i v rs h = entries_offered k f j i (cond v rs []) (if_raw k v rs (λ e. h))

  single_offered : (equality : Bool) (j : ℕ) {f : Form} {xs : List Entry} → SingleEntries s table equality j f xs → Contains b f → AllOffered xs
  single_offered v j (SingleEntries.inequation {xs = xs} t x y h) m =
      both_offered xs (entries Kind.equality (differ t x y) j None (cond v (value_steps s.symbols (differ t x y) x y) []))
      (bindings_offered (UnifiesTerms x y) (TermsDiffer x y) (λ made u. Solves.of_sides t x y m u) h)
      (if_equality Kind.equality (differ t x y) j None v (value_steps s.symbols (differ t x y) x y) (values_offered t x y m))
  single_offered v j (SingleEntries.other n) m = none_offered

  pair_offered : (equality : Bool) (j i : ℕ) (g f : Form) {xs : List Entry} → PairEntries s table equality j i g f xs → Contains b g → Contains b f → AllOffered xs
  pair_offered v j i g f (PairEntries.none e) h k = none_offered
  pair_offered v j i g f (PairEntries.opposed {xs = xs} o e entered) h k =
      let x = opposed g f o e h k in
      both_offered xs (entries Kind.equality f j (Some i) (cond v (pair_steps s.symbols o.plain o.denied) []))
      (bindings_offered (UnifiesForms o.left o.right) (FormsDiffer o.left o.right) x.solves entered)
      (if_equality Kind.equality f j (Some i) v (pair_steps s.symbols o.plain o.denied) (pairs_offered o.plain o.denied x.plain x.denied))

  with_offered : (equality : Bool) (j : ℕ) (f : Form) {i : ℕ} {gs : List Form} {xs : List Entry} → PairsWith s table equality j f i gs xs
      → ((g : Form) → Contains gs g → Contains b g) → Contains b f → AllOffered xs
  with_offered v j f (PairsWith.none) w k = none_offered
  with_offered v j f (PairsWith.more {i = i} {g = g} {gs = gs} {xs = xs} {ys = ys} here rest) w k =
      both_offered xs ys (pair_offered v j i g f here (w g (Contains-here g gs)) k) (with_offered v j f rest (λ x m. w x (Contains-there g gs x m)) k)

  from_offered : (equality : Bool) {gs fs : List Form} {xs : List Entry} → EntriesFrom s table equality gs fs xs
      → ((g : Form) → Contains gs g → Contains b g) → ((f : Form) → Contains fs f → Contains b f) → AllOffered xs
  from_offered v (EntriesFrom.none) w u = none_offered
  from_offered v (EntriesFrom.more {gs = gs} {fs = fs} {f = f} {xs = xs} {ys = ys} {zs = zs} single pairs rest) w u =
      let h = u f (Contains-here f fs) in
      both_offered (own_entries table (length gs) f ++ (xs ++ ys)) zs
      (both_offered (own_entries table (length gs) f) (xs ++ ys) (own_offered f (length gs) h)
      (both_offered xs ys (single_offered v (length gs) single h) (with_offered v (length gs) f pairs w h)))
      (from_offered v rest
      (λ g m. elim (Contains-append_cases gs (f ∷ []) g m) [ inl i ↦ w g i | inr i ↦ subst (Contains b) (only f g i) h ])
      (λ g m. u g (Contains-there f fs g m)))

  pub raw_offered : (es : List Entry) → AreRawOffers s table b es → (x : Entry) → Contains es x → IsOffered s table b x
  raw_offered es h = from_offered (has_equality b) h (λ g m. absurd (Contains-none g m)) (λ f m. m)
