-- The instances of bindings, one binding further.
use Rattle.std.proofs.Common.{ℕ, zero, suc, ◌≡◌, ◌+◌, ◌<◌, ◌≤◌, Option, List, [], ◌∷◌, ◌++◌, All, length, take, drop, get_or, map, append_assoc, append-nil, refl, ap, sym, subst, ◌∙◌, arith}
use Rattle.std.proofs.lemmas.List.{take_more, map-append}
use Rattle.std.proofs.lemmas.List.Elements.{All-get_or}
use Rattle.unify.proofs.Listed.{same_ids}
use Rattle.zm_logic.specs.Tree as tree
use Rattle.term_store.specs.Trees.{Tables, Extends}
use Rattle.term_store.specs.declared.ids.FormId.{FormId}
use Rattle.term_store.specs.declared.opening.Redex.{Redex}
use Rattle.param_store.specs.RawOffers.{Raw}
use Rattle.param_store.specs.Depth.{deepest}
use Rattle.param_store.specs.View.{forms_of, HasForms}
use Rattle.param_store.specs.Fault.{IfDeepAt}
use Rattle.param_store.specs.View.{AreRaws}
use Rattle.param_store.specs.declared.offer.RawOffer.{RawOffer}
use Rattle.param_store.specs.declared.fault.OfferFault.{OfferFault}
use Rattle.param_store.specs.declared.fault.OfferFault.TheVariants as faults
use Rattle.param_store.proofs.Stay.{forms_stay, are_raws_stay}
use Rattle.unify.specs.Binding as made
use Rattle.unify.specs.Answer.{HasIds}
use Rattle.unify.specs.View.{binding_of}
use Rattle.unify.specs.declared.binding.Binding.{Binding}
use Rattle.equality_rules.specs.Instances.{instance, instances}
use Rattle.equality_rules.specs.Offered.{NamesInstance, IsOffer, listed}
use Rattle.equality_rules.proofs.Offers.{names_among, raws_both, deepest_both}

module _ (symbols : List tree.Symbol) (table : List tree.Form) where
  pub instances_both : (bs cs : List made.Binding) → instances symbols table (bs ++ cs) ≡ instances symbols table bs ++ instances symbols table cs
  instances_both [] cs = refl
  instances_both (b ∷ bs) cs =
      ap (λ xs. instance symbols table b ++ xs) (instances_both bs cs)
      ∙ sym (append_assoc (instance symbols table b) (instances symbols table bs) (instances symbols table cs))

-- a list up to a place, and from there on
split_at : {X : Type 0} (xs : List X) (i : ℕ) (d : X) → i < length xs → xs ≡ take i xs ++ get_or xs i d ∷ drop (i + 1) xs
split_at [] i d h = absurd (omega arith)
split_at (x ∷ xs) zero d h = refl
split_at (x ∷ xs) (suc i) d h =
    let z : suc i + 1 ≡ suc (i + 1) = omega arith in
    ap (λ ys. x ∷ ys) (split_at xs i d (omega arith)) ∙ ap (λ n. take (suc i) (x ∷ xs) ++ get_or (x ∷ xs) (suc i) d ∷ drop n (x ∷ xs)) (sym z)

module _ (symbols : List tree.Symbol) (s : Tables) (ids : List FormId) (bindings : List Binding) where
  -- the instances of the bindings up to a place
  abbrev pub listed_to : ℕ → List Raw
  listed_to i = instances symbols (forms_of s ids) (map (binding_of s) (take i bindings))

  abbrev pub all_listed : List Raw
  all_listed = instances symbols (forms_of s ids) (map (binding_of s) bindings)

  abbrev pub listed_at : Tables → ℕ → Binding → List Raw
  listed_at t i d = instance symbols (forms_of t ids) (binding_of t (get_or bindings i d))

  module _ (t : Tables) (e : Extends s t) (has : HasForms s ids) (all : All (HasIds s) bindings) (i : ℕ) (d : Binding) (within : i < length bindings) where
    pub has_here : HasIds s (get_or bindings i d)
    has_here = All-get_or (HasIds s) bindings i d within all

    -- an instance doesn't change while the store grows
    pub here_stays : listed_at t i d ≡ listed_at s i d
    here_stays =
        ap (λ table. instance symbols table (binding_of t (get_or bindings i d))) (forms_stay s t e ids has)
        ∙ ap (instance symbols (forms_of s ids)) (same_ids s t e (get_or bindings i d) has_here)

    pub one_more : listed_to i ++ listed_at t i d ≡ listed_to (i + 1)
    one_more =
        let table = forms_of s ids in
        let b = binding_of s (get_or bindings i d) in
        ap (λ xs. listed_to i ++ xs) (here_stays ∙ sym (append-nil (listed_at s i d)))
        ∙ sym (instances_both symbols table (map (binding_of s) (take i bindings)) (b ∷ []))
        ∙ ap (instances symbols table) (sym (map-append (binding_of s) (take i bindings) (get_or bindings i d ∷ [])))
        ∙ ap (λ xs. instances symbols table (map (binding_of s) xs)) (sym (take_more bindings i d within))

    all_split : all_listed ≡ listed_to i ++ (listed_at s i d ++ instances symbols (forms_of s ids) (map (binding_of s) (drop (i + 1) bindings)))
    all_split =
        let table = forms_of s ids in
        ap (λ xs. instances symbols table (map (binding_of s) xs)) (split_at bindings i d within)
        ∙ ap (instances symbols table) (map-append (binding_of s) (take i bindings) (get_or bindings i d ∷ drop (i + 1) bindings))
        ∙ instances_both symbols table (map (binding_of s) (take i bindings)) (map (binding_of s) (get_or bindings i d ∷ drop (i + 1) bindings))

    -- the first that is too deep is the first among all
    pub names_all : (u : Tables) (at : Redex) → deepest (listed_to i) ≤ 2000 → NamesInstance u (listed_at t i d) at → NamesInstance u all_listed at
    names_all u at h n =
        let rest = instances symbols (forms_of s ids) (map (binding_of s) (drop (i + 1) bindings)) in
        subst (λ xs. NamesInstance u xs at) (sym all_split)
        (names_among u (listed_to i) (listed_at s i d) rest at h (subst (λ xs. NamesInstance u xs at) here_stays n))

    pub names_fault : (u : Tables) (fault : OfferFault) → deepest (listed_to i) ≤ 2000 → IfDeepAt (NamesInstance u (listed_at t i d)) fault
        → IfDeepAt (NamesInstance u all_listed) fault
    names_fault u faults.Memory h n = tt
    names_fault u (faults.Deep at) h n = names_all u at h n

    -- the instance of one more binding is listed
    pub listed_more : (u : Tables) → Extends t u → (rs qs : List RawOffer) (o : Option RawOffer) → AreRaws t (listed_to i) rs
        → IsOffer u (listed_at t i d) o → qs ≡ rs ++ listed o → AreRaws u (listed_to (i + 1)) qs
    listed_more u f rs qs o h k q =
        subst (AreRaws u (listed_to (i + 1))) (sym q)
        (subst (λ os. AreRaws u os (rs ++ listed o)) one_more
        (raws_both u (listed_to i) (listed_at t i d) rs (listed o) (are_raws_stay t u f (listed_to i) rs h) k))

    pub bounded_more : deepest (listed_to i) ≤ 2000 → deepest (listed_at t i d) ≤ 2000 → deepest (listed_to (i + 1)) ≤ 2000
    bounded_more h k = subst (λ os. deepest os ≤ 2000) one_more (deepest_both (listed_to i) (listed_at t i d) h k)

pub none_more : (rs : List RawOffer) → rs ≡ rs ++ []
none_more rs = sym (append-nil rs)
