-- Names resolved: an identifier names the innermost binder of that name, else the constant declared before.
use Rattle.std.specs.Prelude.{◌≡◌, ℕ, suc, Bool, true, false, cond, List, [], ◌∷◌, Option, Some, None}
use Rattle.std.specs.Option.{option_map}
use Rattle.std.specs.Str.{bytes_eq}
use Rattle.lp_terms.specs.Term.{Lp}
use Rattle.lp_terms.specs.Signature.{Entry}
use Rattle.lp_terms.specs.Names.{is_among}
use Rattle.lp_terms.specs.File.{declared_after}
use Rattle.dk_text.specs.Tokens.{Token, EntryTokens, Skips}
use Rattle.dk_text.specs.Grammar.{Raw, word, universe, bracket, apply, product, abstraction, Binding, binding, RawEntry, declaration, definition, rewriting, IsEntry}

-- the names of the binders round a place, the innermost first; an unnamed product binds no name
abbrev pub Scope : Type 0
Scope = List (Option (List ℕ))

abbrev pub is_bound_by : List ℕ → Option (List ℕ) → Bool
is_bound_by name None = false
is_bound_by name (Some x) = bytes_eq x name

-- the index of the innermost binder of the name
abbrev pub index_of : List ℕ → Scope → Option ℕ
index_of name [] = None
index_of name (binder ∷ scope) = cond (is_bound_by name binder) (Some 0) (option_map (λ i. suc i) (index_of name scope))

-- what names stand for, or the first of them that stands for nothing
pub data Resolved (A : Type 0) : Type 0 where
  known : (value : A) → Resolved A
  unknown : (left : ℕ) → Resolved A

abbrev pub and_then : {A B : Type 0} → Resolved A → (A → Resolved B) → Resolved B
and_then (known x) f = f x
and_then (unknown left) f = unknown left

abbrev pub constant_or_unknown : Bool → List ℕ → ℕ → Resolved Lp
constant_or_unknown true name left = known (Lp.const name)
constant_or_unknown false name left = unknown left

abbrev pub resolved_word : List (List ℕ) → Option ℕ → List ℕ → ℕ → Resolved Lp
resolved_word declared (Some i) name left = known (Lp.index i)
resolved_word declared None name left = constant_or_unknown (is_among name declared) name left

abbrev pub resolved : List (List ℕ) → Scope → Raw → Resolved Lp
resolved declared scope (word name left) = resolved_word declared (index_of name scope) name left
resolved declared scope universe = known Lp.sort
resolved declared scope (bracket t) = resolved declared scope t
resolved declared scope (apply f a) = and_then (resolved declared scope f) (λ g. and_then (resolved declared scope a) (λ b. known (Lp.app g b)))
resolved declared scope (product x a b) = and_then (resolved declared scope a) (λ c. and_then (resolved declared (x ∷ scope) b) (λ d. known (Lp.prod c d)))
resolved declared scope (abstraction x a b) = and_then (resolved declared scope a) (λ c. and_then (resolved declared (Some x ∷ scope) b) (λ d. known (Lp.abs c d)))

-- the context's types, and then what follows in the scope of its variables
abbrev pub resolved_context : {A : Type 0} → List (List ℕ) → Scope → List Binding → (Scope → List Lp → Resolved A) → Resolved A
resolved_context declared scope [] next = next scope []
resolved_context declared scope (binding x a ∷ bs) next = and_then (resolved declared scope a) (λ c. resolved_context declared (Some x ∷ scope) bs (λ inner cs. next inner (c ∷ cs)))

abbrev pub resolved_entry : List (List ℕ) → RawEntry → Resolved Entry
resolved_entry declared (declaration name definable a) = and_then (resolved declared [] a) (λ c. known (Entry.declare name definable c))
resolved_entry declared (definition name a b) = and_then (resolved declared [] a) (λ c. and_then (resolved declared [] b) (λ d. known (Entry.define name c d)))
resolved_entry declared (rewriting context a b) = resolved_context declared [] context (λ scope cs.
    and_then (resolved declared scope a) (λ c. and_then (resolved declared scope b) (λ d. known (Entry.rule cs c d))))

-- The text is the entries, where these names are declared before.
pub data Reads : List (List ℕ) → List ℕ → List Entry → Type 0 where
  end : {declared : List (List ℕ)} {bytes : List ℕ} → Skips bytes [] → Reads declared bytes []
  entry : {declared : List (List ℕ)} {bytes rest : List ℕ} {tokens : List Token} {raw : RawEntry} {e : Entry} {es : List Entry} →
      EntryTokens bytes tokens rest → IsEntry tokens raw → resolved_entry declared raw ≡ known e → Reads (declared_after declared e) rest es → Reads declared bytes (e ∷ es)
