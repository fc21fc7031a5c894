-- Where the formulas of a branch are found, and where its literals stand.
use Rattle.std.specs.Prelude.{ℕ, ◌+◌, ◌≤◌, ◌<◌, ◌≡◌, Bool, true, false, ◌||◌, cond, None, List, [], ◌∷◌, ◌++◌, length}
use Rattle.zm_logic.specs.Tree.{Form}
use Rattle.zm_logic.specs.Same.{has}
use Rattle.term_store.specs.Trees.{Tables}
use Rattle.term_store.specs.declared.ids.FormId.{FormId}
use Rattle.param_store.specs.View.{forms_of, HasForms}
use Rattle.equality_rules.specs.Pairs.{is_atom, is_equality, opposites}
use Rattle.branch.specs.declared.lookup.Lookup.{Lookup}
use Rattle.branch.specs.Left.{form_at}

-- whether a formula is an atom or an equality, and whether it is the negation of one
abbrev pub is_plain : Form → Bool
is_plain f = is_atom f || is_equality f

abbrev pub is_denial : Form → Bool
is_denial (Form.negation f) = is_plain f
is_denial f = false

-- a list with a place behind it, or as it is
abbrev pub with_place : Bool → List ℕ → ℕ → List ℕ
with_place there is i = cond there (is ++ i ∷ []) is

-- The places are in order, from m on and below n, and P holds of all others there.
abbrev pub Skips : (ℕ → Type 0) → ℕ → List ℕ → ℕ → Type 0
Skips P m [] n = (k : ℕ) → m ≤ k → k < n → P k
Skips P m (i ∷ is) n = (m ≤ i) × (i < n) × ((k : ℕ) → m ≤ k → k < i → P k) × Skips P (i + 1) is n

-- The formulas found are those of the branch, and the places are those of its literals without and with a negation.
pub record IsLookup (s : Tables) (forms : List FormId) (l : Lookup) : Type 0 where
  pub has_found : HasForms s l.found
  pub found : (f : Form) → has (forms_of s l.found) f ≡ has (forms_of s forms) f
  pub plain : Skips (λ i. is_plain (form_at (forms_of s forms) i) ≡ false) 0 l.plain (length forms)
  pub denied : Skips (λ i. is_denial (form_at (forms_of s forms) i) ≡ false) 0 l.denied (length forms)

-- no other place than these has a formula that is the opposite of the one at j
abbrev pub ArePaired : List Form → ℕ → List ℕ → ℕ → Type 0
ArePaired branch j is n = Skips (λ i. opposites (form_at branch i) (form_at branch j) ≡ None) 0 is n
