-- The innermost binder of a name, searched place by place.
use Rattle.std.proofs.Common.{◌≡◌, ℕ, suc, ◌+◌, ◌-◌, ◌<◌, Bool, true, false, cond, List, length, map, reverse, drop, get_or, Option, Some, None, refl, sym, ◌∙◌, ap, arith}
use Rattle.std.proofs.Math.Seq.{drop-cons}
use Rattle.std.specs.Option.{option_map}
use Rattle.std.proofs.lemmas.List.{length-map, length-reverse, get_or-map, get_or-reverse}
use Rattle.dk_text.specs.Names.{Scope, is_bound_by, index_of}

-- the index behind so many binders
abbrev pub behind_index : ℕ → Option ℕ → Option ℕ
behind_index k o = option_map (λ i. k + i) o

one_more : (k : ℕ) (o : Option ℕ) → behind_index k (option_map (λ i. suc i) o) ≡ behind_index (k + 1) o
one_more k None = refl
one_more k (Some i) = ap Some (let e : k + suc i ≡ k + 1 + i = omega arith in e)

-- the binder at the index, in the list whose last one is the innermost
pub binder_at_index : {X : Type 0} → (view : X → Option (List ℕ)) (binders : List X) (k j : ℕ) (d : X) → k < length binders → j ≡ length binders - 1 - k →
    get_or (reverse (map view binders)) k (view d) ≡ view (get_or binders j d)
binder_at_index view binders k j d lt e =
    let there : k < length (map view binders) = omega (arith, length-map binders view) in
    let within : length binders - 1 - k < length binders = omega arith in
    let same : length (map view binders) - 1 - k ≡ j = omega (arith, length-map binders view) in
    get_or-reverse (map view binders) k (view d) there ∙ ap (λ i. get_or (map view binders) i (view d)) same
    ∙ get_or-map view binders j d (view d) (let w : j < length binders = omega arith in w)

index_step : (name : List ℕ) (scope : Scope) (k : ℕ) (d : Option (List ℕ)) → k < length scope →
    index_of name (drop k scope) ≡ cond (is_bound_by name (get_or scope k d)) (Some 0) (option_map (λ i. suc i) (index_of name (drop (suc k) scope)))
index_step name scope k d lt = ap (index_of name) (drop-cons scope k d lt)

-- the binder at this index has the name
pub found_here : (name : List ℕ) (scope : Scope) (k : ℕ) (d : Option (List ℕ)) → k < length scope → is_bound_by name (get_or scope k d) ≡ true →
    behind_index k (index_of name (drop k scope)) ≡ Some k
found_here name scope k d lt e =
    ap (behind_index k) (index_step name scope k d lt ∙ ap (λ t. cond t (Some 0) (option_map (λ i. suc i) (index_of name (drop (suc k) scope)))) e)
    ∙ ap Some (let z : k + 0 ≡ k = omega arith in z)

-- it has another name
pub not_here : (name : List ℕ) (scope : Scope) (k : ℕ) (d : Option (List ℕ)) → k < length scope → is_bound_by name (get_or scope k d) ≡ false →
    behind_index (k + 1) (index_of name (drop (k + 1) scope)) ≡ behind_index k (index_of name (drop k scope))
not_here name scope k d lt e =
    let one : k + 1 ≡ suc k = omega arith in
    ap (λ j. behind_index (k + 1) (index_of name (drop j scope))) one
    ∙ sym (one_more k (index_of name (drop (suc k) scope)))
    ∙ sym (ap (behind_index k) (index_step name scope k d lt ∙ ap (λ t. cond t (Some 0) (option_map (λ i. suc i) (index_of name (drop (suc k) scope)))) e))

-- the search ends at a binder of the name
pub search_found : {X : Type 0} (view : X → Option (List ℕ)) (binders : List X) (scope : Scope) (name : List ℕ) (k j : ℕ) (d : X) (b : Bool) → reverse (map view binders) ≡ scope →
    k < length binders → j ≡ length binders - 1 - k → b ≡ is_bound_by name (view (get_or binders j d)) → b ≡ true →
    behind_index k (index_of name (drop k scope)) ≡ index_of name scope → Some k ≡ index_of name scope
search_found view binders scope name k j d b is lt e bound h so_far =
    let within : k < length scope = omega (arith, ap length is, length-reverse (map view binders), length-map binders view) in
    let there : get_or scope k (view d) ≡ view (get_or binders j d) = ap (λ s. get_or s k (view d)) (sym is) ∙ binder_at_index view binders k j d lt e in
    sym (found_here name scope k (view d) within (ap (is_bound_by name) there ∙ sym bound ∙ h)) ∙ so_far

-- it goes on at any other binder
pub search_on : {X : Type 0} (view : X → Option (List ℕ)) (binders : List X) (scope : Scope) (name : List ℕ) (k j : ℕ) (d : X) (b : Bool) → reverse (map view binders) ≡ scope →
    k < length binders → j ≡ length binders - 1 - k → b ≡ is_bound_by name (view (get_or binders j d)) → b ≡ false →
    behind_index k (index_of name (drop k scope)) ≡ index_of name scope → behind_index (k + 1) (index_of name (drop (k + 1) scope)) ≡ index_of name scope
search_on view binders scope name k j d b is lt e bound h so_far =
    let within : k < length scope = omega (arith, ap length is, length-reverse (map view binders), length-map binders view) in
    let there : get_or scope k (view d) ≡ view (get_or binders j d) = ap (λ s. get_or s k (view d)) (sym is) ∙ binder_at_index view binders k j d lt e in
    not_here name scope k (view d) within (ap (is_bound_by name) there ∙ sym bound ∙ h) ∙ so_far
