-- A branch has one list of raw offers and one list of offers.
use Rattle.std.proofs.Common.{◌≡◌, ℕ, ◌<◌, ◌≤◌, Bool, refl, ap, sym, subst, ◌∙◌, arith, List, [], ◌∷◌, ◌++◌, length, Contains, Option, None, Some, cond, filter, reverse, slice_get}
use Rattle.std.proofs.lemmas.List.Elements.{All-contains, Contains-append_right}
use Rattle.equality_rules.proofs.Unifying.{no_unifier, no_term_unifier, one_of_forms, one_of_terms}
use Rattle.zm_logic.specs.Tree.{Term, Form, Side, differ}
use Rattle.zm_logic.specs.Typing.{WellTyped}
use Rattle.zm_logic.proofs.Sames.{Contains-here, Contains-there}
use Rattle.param_store.specs.RawOffers.{Act, Raw}
use Rattle.unify.specs.Binding.{Binding}
use Rattle.unify.specs.Unification.{UnifiesForms, UnifiesTerms}
use Rattle.unify.specs.Answer.{solved_depth, name_of}
use Rattle.equality_rules.specs.Refused.{AreBounded, IsFirstDeepBinding}
use Rattle.equality_rules.specs.Instances.{InstancesOf, instances, in_order}
use Rattle.equality_rules.specs.Equality.{value_steps, pair_steps}
use Rattle.equality_rules.specs.Pairs.{opposites, FormsDiffer, TermsDiffer}
use Rattle.branch.specs.Setting.{Setting}
use Rattle.branch.specs.Sound.{IsSound}
use Rattle.branch.specs.Normal.{Fault, Made, MakesAll}
use Rattle.branch.specs.BranchOffers.{Kind, Entry, entries, own_entries, instance_entries, BindingEntries, SingleEntries, PairEntries, PairsWith, EntriesFrom, has_equality, AreRawOffers}
use Rattle.branch.specs.Offers.{Child, Offer, offer_of, MakesForm, MakesChild, MakesOffer, is_useful, AreOffers, IsOfferAt}
use Rattle.branch.specs.Introduced.{Above, HasFacts}
use Rattle.branch.proofs.Kept.{made_is}
use Rattle.branch.proofs.Unifiers.{IsOne}
use Rattle.branch.proofs.Offered.{IsOffered, raw_offered}
use Rattle.branch.proofs.Sequent.{of_facts}
use Rattle.branch.proofs.Children.{AllOf, AllIn, offered_typed}
use Rattle.branch.proofs.Grows.{all_of, all_in}

-- Raw offers.

module _ (s : Setting) (table : List Form) where
  some_and_none : {A : Type 0} (o : Option A) (x : A) → o ≡ None → o ≡ Some x → ⊥
  some_and_none o x e h = let i : None ≡ Some x = sym e ∙ h in cc

  same_side : {A : Type 0} (o : Option A) (x y : A) → o ≡ Some x → o ≡ Some y → x ≡ y
  same_side o x y e h = let i : Some x ≡ Some y = sym e ∙ h in cc

  list_is : (x y : Binding) (xs ys : List Binding) → x ∷ xs ≡ y ∷ ys → (x ≡ y) × (xs ≡ ys)
  list_is x y xs ys e = (cc, cc)

  -- the first binding that is too deep
  one_first : (made : List Binding) (xs ys : List Binding) (x y : Binding) (us vs : List Binding) → xs ++ x ∷ us ≡ ys ++ y ∷ vs
      → ((c : Binding) → Contains xs c → solved_depth made c ≤ 2000) → ((c : Binding) → Contains ys c → solved_depth made c ≤ 2000)
      → 2000 < solved_depth made x → 2000 < solved_depth made y → x ≡ y
  one_first made [] [] x y us vs e h k d c = (list_is x y us vs e).0
  one_first made [] (w ∷ ys) x y us vs e h k d c =
      let i = (list_is x w us (ys ++ y ∷ vs) e).0 in
      let l = subst (λ z. solved_depth made z ≤ 2000) (sym i) (k w (Contains-here w ys)) in absurd (omega arith)
  one_first made (z ∷ xs) [] x y us vs e h k d c =
      let i = (list_is z y (xs ++ x ∷ us) vs e).0 in
      let l = subst (λ w. solved_depth made w ≤ 2000) i (h z (Contains-here z xs)) in absurd (omega arith)
  one_first made (z ∷ xs) (w ∷ ys) x y us vs e h k d c =
      one_first made xs ys x y us vs (list_is z w (xs ++ x ∷ us) (ys ++ y ∷ vs) e).1
      (λ a m. h a (Contains-there z xs a m)) (λ a m. k a (Contains-there w ys a m)) d c

  one_deep : (made : List Binding) (u v : Term) → IsFirstDeepBinding made u → IsFirstDeepBinding made v → u ≡ v
  one_deep made u v x y =
      let P : Binding → Type 0 = λ c. solved_depth made c ≤ 2000 in
      let e = one_first made x.before y.before x.binding y.binding x.after y.after (sym x.order ∙ y.order)
      (λ c m. All-contains P x.before c x.bounded m) (λ c m. All-contains P y.before c y.bounded m) x.deep y.deep in
      sym x.named ∙ ap name_of e ∙ y.named

  not_bounded : (made : List Binding) (u : Term) → AreBounded made → IsFirstDeepBinding made u → ⊥
  not_bounded made u h x =
      let m : Contains (reverse made) x.binding = subst (λ z. Contains z x.binding) (sym x.order) (Contains-append_right x.before (x.binding ∷ x.after) x.binding (Contains-here x.binding x.after)) in
      let l = All-contains (λ c. solved_depth made c ≤ 2000) (reverse made) x.binding h m in
      let d = x.deep in absurd (omega arith)

  module _ (Unifies : List Binding → Type 0) (Differ : Type 0) (one : IsOne Unifies) (apart : Differ → (made : List Binding) → Unifies made → ⊥) where
    one_instances : {rs ts : List Raw} → InstancesOf s.symbols table Unifies Differ rs → InstancesOf s.symbols table Unifies Differ ts → rs ≡ ts
    one_instances (InstancesOf.unified made u) (InstancesOf.unified also v) = ap (λ z. instances s.symbols table (in_order z)) (one made also u v)
    one_instances (InstancesOf.unified made u) (InstancesOf.apart d) = absurd (apart d made u)
    one_instances (InstancesOf.apart d) (InstancesOf.unified made u) = absurd (apart d made u)
    one_instances (InstancesOf.apart d) (InstancesOf.apart e) = refl

    one_binding_entries : {j : ℕ} {i : Option ℕ} {xs ys : List Entry} → BindingEntries s table Unifies Differ j i xs → BindingEntries s table Unifies Differ j i ys → xs ≡ ys
    one_binding_entries {j} {i} (BindingEntries.listed h x) (BindingEntries.listed k y) = ap (λ z. instance_entries j i z) (one_instances x y)
    one_binding_entries (BindingEntries.listed h x) (BindingEntries.too_deep made u unified d) = absurd (not_bounded made u (h made unified) d)
    one_binding_entries (BindingEntries.too_deep made u unified d) (BindingEntries.listed h x) = absurd (not_bounded made u (h made unified) d)
    one_binding_entries (BindingEntries.too_deep made u unified d) (BindingEntries.too_deep also v united e) =
        ap (λ z. Entry.unbound (Side.of_term z) ∷ []) (one_deep made u v d (subst (λ z. IsFirstDeepBinding z v) (one also made united unified) e))

  module _ (equality : Bool) where
    one_single : (j : ℕ) {f : Form} {xs ys : List Entry} → SingleEntries s table equality j f xs → SingleEntries s table equality j f ys → xs ≡ ys
    one_single j (SingleEntries.inequation t u v h) (SingleEntries.inequation r x y k) =
        ap (λ z. z ++ entries Kind.equality (differ t u v) j None (cond equality (value_steps s.symbols (differ t u v) u v) []))
        (one_binding_entries (UnifiesTerms u v) (TermsDiffer u v) (one_of_terms u v) (no_term_unifier u v) h k)
    one_single j (SingleEntries.inequation t u v h) (SingleEntries.other n) = absurd (n t u v refl)
    one_single j (SingleEntries.other n) (SingleEntries.inequation t u v h) = absurd (n t u v refl)
    one_single j (SingleEntries.other n) (SingleEntries.other m) = refl

    one_pair : (j i : ℕ) (g f : Form) {xs ys : List Entry} → PairEntries s table equality j i g f xs → PairEntries s table equality j i g f ys → xs ≡ ys
    one_pair j i g f (PairEntries.none e) (PairEntries.none h) = refl
    one_pair j i g f (PairEntries.none e) (PairEntries.opposed o h x) = absurd (some_and_none (opposites g f) o e h)
    one_pair j i g f (PairEntries.opposed o h x) (PairEntries.none e) = absurd (some_and_none (opposites g f) o e h)
    one_pair j i g f (PairEntries.opposed {xs = xs} o h x) (PairEntries.opposed {xs = ys} p k y) =
        let e = same_side (opposites g f) p o k h in
        let z = one_binding_entries (UnifiesForms o.left o.right) (FormsDiffer o.left o.right) (one_of_forms o.left o.right) (no_unifier o.left o.right) x
        (subst (λ q. BindingEntries s table (UnifiesForms q.left q.right) (FormsDiffer q.left q.right) j (Some i) ys) e y) in
        ap (λ l. l ++ entries Kind.equality f j (Some i) (cond equality (pair_steps s.symbols o.plain o.denied) [])) z
        ∙ ap (λ q. ys ++ entries Kind.equality f j (Some i) (cond equality (pair_steps s.symbols q.plain q.denied) [])) (sym e)

    one_with : (j : ℕ) (f : Form) {i : ℕ} {gs : List Form} {xs ys : List Entry} → PairsWith s table equality j f i gs xs → PairsWith s table equality j f i gs ys → xs ≡ ys
    one_with j f (PairsWith.none) (PairsWith.none) = refl
    one_with j f (PairsWith.more {i = i} {g = g} {xs = xs} {ys = ys} h x) (PairsWith.more {xs = zs} {ys = ws} k y) =
        ap (λ l. l ++ ys) (one_pair j i g f h k) ∙ ap (λ l. zs ++ l) (one_with j f x y)

    one_from : {gs fs : List Form} {xs ys : List Entry} → EntriesFrom s table equality gs fs xs → EntriesFrom s table equality gs fs ys → xs ≡ ys
    one_from (EntriesFrom.none) (EntriesFrom.none) = refl
    one_from (EntriesFrom.more {gs = gs} {f = f} {xs = xs} {ys = ys} {zs = zs} a b c) (EntriesFrom.more {xs = us} {ys = vs} {zs = ws} d e h) =
        three (own_entries table (length gs) f) xs us ys vs zs ws (one_single (length gs) a d) (one_with (length gs) f b e) (one_from c h)
      where
        three : (o xs us ys vs zs ws : List Entry) → xs ≡ us → ys ≡ vs → zs ≡ ws → (o ++ (xs ++ ys)) ++ zs ≡ (o ++ (us ++ vs)) ++ ws
        three o xs us ys vs zs ws p q r = rw p (rw q (rw r refl))

-- Offers.

pub fault_is_not_made : {A : Type 0} (e : Fault) (a : A) (x : Made A) → x ≡ Made.fault e → x ≡ Made.made a → ⊥
fault_is_not_made e a x p q = cc

pub fault_is : {A : Type 0} (d e : Fault) → ◌≡◌ {A = Made A} (Made.fault d) (Made.fault e) → d ≡ e
fault_is d e p = cc

module _ {A B : Type 0} (Makes : A → Made B → Type 0) where
  pub one_all : {xs : List A} {a b : Made (List B)} → ((x : A) → Contains xs x → (y z : Made B) → Makes x y → Makes x z → y ≡ z)
      → MakesAll Makes xs a → MakesAll Makes xs b → a ≡ b
  one_all h (MakesAll.none) (MakesAll.none) = refl
  one_all h (MakesAll.more {x = x} {y = y} {xs = xs} {ys = ys} m ms) (MakesAll.more {y = z} {ys = zs} n ns) =
      let p = made_is y z (h x (Contains-here x xs) (Made.made y) (Made.made z) m n) in
      let q = made_is ys zs (one_all (λ w i. h w (Contains-there x xs w i)) ms ns) in
      rw p (rw q refl)
  one_all h (MakesAll.more {x = x} {y = y} {xs = xs} m ms) (MakesAll.first {e = e} n) =
      absurd (fault_is_not_made e y (Made.made y) (h x (Contains-here x xs) (Made.made y) (Made.fault e) m n) refl)
  one_all h (MakesAll.more {x = x} {xs = xs} {ys = ys} m ms) (MakesAll.later {e = e} n ns) =
      absurd (fault_is_not_made e ys (Made.made ys) (one_all (λ w i. h w (Contains-there x xs w i)) ms ns) refl)
  one_all h (MakesAll.first {x = x} {xs = xs} {e = e} m) (MakesAll.more {y = y} n ns) =
      absurd (fault_is_not_made e y (Made.fault e) refl (h x (Contains-here x xs) (Made.fault e) (Made.made y) m n))
  one_all h (MakesAll.first {x = x} {xs = xs} {e = d} m) (MakesAll.first {e = e} n) =
      ap Made.fault (fault_is d e (h x (Contains-here x xs) (Made.fault d) (Made.fault e) m n))
  one_all h (MakesAll.first {x = x} {xs = xs} {e = e} m) (MakesAll.later {y = y} n ns) =
      absurd (fault_is_not_made e y (Made.fault e) refl (h x (Contains-here x xs) (Made.fault e) (Made.made y) m n))
  one_all h (MakesAll.later {x = x} {xs = xs} {e = e} m ms) (MakesAll.more {ys = ys} n ns) =
      absurd (fault_is_not_made e ys (Made.fault e) refl (one_all (λ w i. h w (Contains-there x xs w i)) ms ns))
  one_all h (MakesAll.later {x = x} {y = y} {xs = xs} m ms) (MakesAll.first {e = e} n) =
      absurd (fault_is_not_made e y (Made.made y) (h x (Contains-here x xs) (Made.made y) (Made.fault e) m n) refl)
  one_all h (MakesAll.later {x = x} {xs = xs} {e = d} m ms) (MakesAll.later {e = e} n ns) =
      ap Made.fault (fault_is d e (one_all (λ w i. h w (Contains-there x xs w i)) ms ns))

module _ (s : Setting) (sound : IsSound s) where
  one_form : (blamed f : Form) (x y : Made Form) → WellTyped s.symbols f → MakesForm s blamed f x → MakesForm s blamed f y → x ≡ y
  one_form blamed f x y w (MakesForm.too_deep d) (MakesForm.too_deep e) = refl
  one_form blamed f x y w (MakesForm.too_deep d) (MakesForm.normal e n) = absurd (omega arith)
  one_form blamed f x y w (MakesForm.normal e n) (MakesForm.too_deep d) = absurd (omega arith)
  one_form blamed f x y w (MakesForm.normal d m) (MakesForm.normal e n) = sound.determined f x y w m n

  one_forms : (blamed : Form) (fs : List Form) (x y : Made (List Form)) → AllOf (WellTyped s.symbols) fs → MakesAll (MakesForm s blamed) fs x → MakesAll (MakesForm s blamed) fs y → x ≡ y
  one_forms blamed fs x y w m n = one_all (MakesForm s blamed) (λ f i a b. one_form blamed f a b (all_of (WellTyped s.symbols) fs w f i)) m n

  one_child : (blamed : Form) (r : List Form) (x y : Made Child) → AllOf (WellTyped s.symbols) r → MakesChild s blamed r x → MakesChild s blamed r y → x ≡ y
  one_child blamed r x y w (MakesChild.made {fs = fs} m) (MakesChild.made {fs = gs} n) =
      ap (λ z. Made.made (record { raw = r; normal = z })) (made_is fs gs (one_forms blamed r (Made.made fs) (Made.made gs) w m n))
  one_child blamed r x y w (MakesChild.made {fs = fs} m) (MakesChild.fault {e = e} n) =
      absurd (fault_is_not_made e fs (Made.made fs) (one_forms blamed r (Made.made fs) (Made.fault e) w m n) refl)
  one_child blamed r x y w (MakesChild.fault {e = e} m) (MakesChild.made {fs = fs} n) =
      absurd (fault_is_not_made e fs (Made.fault e) refl (one_forms blamed r (Made.fault e) (Made.made fs) w m n))
  one_child blamed r x y w (MakesChild.fault {e = d} m) (MakesChild.fault {e = e} n) =
      ap Made.fault (fault_is d e (one_forms blamed r (Made.fault d) (Made.fault e) w m n))

  one_children : (blamed : Form) (cs : List (List Form)) (x y : Made (List Child)) → AllIn (WellTyped s.symbols) cs → MakesAll (MakesChild s blamed) cs x → MakesAll (MakesChild s blamed) cs y → x ≡ y
  one_children blamed cs x y w m n = one_all (MakesChild s blamed) (λ r i a b. one_child blamed r a b (all_in (WellTyped s.symbols) cs w r i)) m n

  abbrev IsEntryTyped : Entry → Type 0
  IsEntryTyped (Entry.offer p) = AllIn (WellTyped s.symbols) p.raw.children
  IsEntryTyped (Entry.unbound at) = Unit {0}

  one_offer : {e : Entry} {x y : Made Offer} → IsEntryTyped e → MakesOffer s e x → MakesOffer s e y → x ≡ y
  one_offer w (MakesOffer.made {p = p} {cs = cs} m) (MakesOffer.made {cs = ds} n) =
      ap (λ z. Made.made (offer_of p z)) (made_is cs ds (one_children p.blamed p.raw.children (Made.made cs) (Made.made ds) w m n))
  one_offer w (MakesOffer.made {p = p} {cs = cs} m) (MakesOffer.fault {e = e} n) =
      absurd (fault_is_not_made e cs (Made.made cs) (one_children p.blamed p.raw.children (Made.made cs) (Made.fault e) w m n) refl)
  one_offer w (MakesOffer.fault {p = p} {e = e} m) (MakesOffer.made {cs = cs} n) =
      absurd (fault_is_not_made e cs (Made.fault e) refl (one_children p.blamed p.raw.children (Made.fault e) (Made.made cs) w m n))
  one_offer w (MakesOffer.fault {p = p} {e = d} m) (MakesOffer.fault {e = e} n) =
      ap Made.fault (fault_is d e (one_children p.blamed p.raw.children (Made.fault d) (Made.fault e) w m n))
  one_offer w (MakesOffer.unbound) (MakesOffer.unbound) = refl

  module _ (t : List Form) (above : List Above) (b : List Form) (facts : HasFacts s t above b) where
    entry_typed : (e : Entry) → IsOffered s t b e → IsEntryTyped e
    entry_typed (Entry.offer p) h = offered_typed s sound t above b b (of_facts s t above b facts) h
    entry_typed (Entry.unbound at) h = tt

    -- all raw offers are made, or the first fault stands, in one way
    pub one_made : (es fs : List Entry) (x y : Made (List Offer)) → AreRawOffers s t b es → AreRawOffers s t b fs → MakesAll (MakesOffer s) es x → MakesAll (MakesOffer s) fs y → x ≡ y
    one_made es fs x y h k m n =
        let e : fs ≡ es = one_from s t (has_equality b) k h in
        one_all (MakesOffer s) (λ a i c d. one_offer (entry_typed a (raw_offered s t b es h a i))) m (subst (λ z. MakesAll (MakesOffer s) z y) e n)

    pub one_offers : (os ps : List Offer) → AreOffers s t b os → AreOffers s t b ps → os ≡ ps
    one_offers os ps x y =
        let e = made_is x.all y.all (one_made x.entries y.entries (Made.made x.all) (Made.made y.all) x.raw y.raw x.made y.made) in
        sym x.useful ∙ ap (λ z. filter (is_useful b) z) e ∙ y.useful

    -- the same place holds the same offer
    pub one_at : (k : ℕ) (v w : Kind) (a c : Act) (xs ys : List Child) → IsOfferAt s t b k v a xs → IsOfferAt s t b k w c ys → (v ≡ w) × (a ≡ c) × (xs ≡ ys)
    one_at k v w a c xs ys x y =
        let e = one_offers x.listed y.listed x.offers y.offers in
        let o : x.offer ≡ y.offer = same x.offer y.offer (sym x.at ∙ ap (λ z. slice_get z k) e ∙ y.at) in
        (sym x.same_kind ∙ ap (λ z. z.kind) o ∙ y.same_kind, sym x.same_act ∙ ap (λ z. z.act) o ∙ y.same_act, sym x.same_children ∙ ap (λ z. z.children) o ∙ y.same_children)
      where
        same : (p q : Offer) → Some p ≡ Some q → p ≡ q
        same p q e = cc
