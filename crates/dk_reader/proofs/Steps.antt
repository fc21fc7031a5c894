-- What the reader over pieces does at one token.
use Rattle.std.proofs.Common.{◌≡◌, ℕ, true, false, List, [], ◌∷◌, Option, Some, None, refl, sym, ◌∙◌, ap, drop}
use Rattle.std.proofs.lemmas.Bool.{both_ways}
use Rattle.dk_text.specs.Tokens.{Token, id, colon, becomes, long_arrow, point, comma, close_square}
use Rattle.dk_reader.specs.Pieces.{Piece}
use Rattle.dk_reader.specs.Spelled.{ends_term}
use Rattle.dk_reader.specs.Machine.{State, Outcome, behind_head, finish, step, go_on, read, bound, binder_name}

none_some : (x : List ℕ) → ◌≡◌ {A = Option (List ℕ)} None (Some x) → ⊥
none_some x e = cc

some_same : (x y : List ℕ) → ◌≡◌ {A = Option (List ℕ)} (Some x) (Some y) → x ≡ y
some_same x y e = cc

-- where no binder begins
pub read_step : (declared : List (List ℕ)) (token : Token) (tokens : List Token) (s : State) → binder_name (token ∷ tokens) ≡ None →
    read declared (token ∷ tokens) s ≡ go_on (read declared tokens) (token ∷ tokens) (step declared token s)
read_step declared (id x left) [] s e = refl
read_step declared (id x left) (colon ∷ tokens) s e = absurd (none_some x (sym e))
read_step declared (id x left) (token ∷ tokens) s e = refl
read_step declared token tokens s e = refl

-- where one begins
pub read_binder : (declared : List (List ℕ)) (tokens : List Token) (s : State) (x : List ℕ) → binder_name tokens ≡ Some x →
    read declared tokens s ≡ go_on (read declared (drop 2 tokens)) tokens (bound x s s.head)
read_binder declared [] s x e = absurd (none_some x e)
read_binder declared (id y left ∷ []) s x e = absurd (none_some x e)
read_binder declared (id y left ∷ colon ∷ tokens) s x e =
    ap (λ z. go_on (read declared tokens) (id y left ∷ colon ∷ tokens) (bound z s s.head)) (some_same y x e)
read_binder declared (id y left ∷ token ∷ tokens) s x e = absurd (none_some x e)
read_binder declared (token ∷ tokens) s x e = absurd (none_some x e)

behind_finish : (token : Token) (s : State) (h : Option Piece) → ends_term (token ∷ []) ≡ true → behind_head token s h ≡ finish s h
behind_finish becomes s None e = refl
behind_finish becomes s (Some p) e = refl
behind_finish long_arrow s None e = refl
behind_finish long_arrow s (Some p) e = refl
behind_finish point s None e = refl
behind_finish point s (Some p) e = refl
behind_finish comma s None e = refl
behind_finish comma s (Some p) e = refl
behind_finish close_square s None e = refl
behind_finish close_square s (Some p) e = refl
behind_finish token s h e = absurd (both_ways false refl e)

-- at a token that ends a term
pub read_at_end : (declared : List (List ℕ)) (tokens : List Token) (s : State) (o : Outcome) → ends_term tokens ≡ true → finish s s.head ≡ o →
    read declared tokens s ≡ go_on (read declared (drop 1 tokens)) tokens o
read_at_end declared (becomes ∷ tokens) s o e f = ap (go_on (read declared tokens) (becomes ∷ tokens)) (behind_finish becomes s s.head refl ∙ f)
read_at_end declared (long_arrow ∷ tokens) s o e f = ap (go_on (read declared tokens) (long_arrow ∷ tokens)) (behind_finish long_arrow s s.head refl ∙ f)
read_at_end declared (point ∷ tokens) s o e f = ap (go_on (read declared tokens) (point ∷ tokens)) (behind_finish point s s.head refl ∙ f)
read_at_end declared (comma ∷ tokens) s o e f = ap (go_on (read declared tokens) (comma ∷ tokens)) (behind_finish comma s s.head refl ∙ f)
read_at_end declared (close_square ∷ tokens) s o e f = ap (go_on (read declared tokens) (close_square ∷ tokens)) (behind_finish close_square s s.head refl ∙ f)
read_at_end declared [] s o e f = absurd (both_ways false refl e)
read_at_end declared (token ∷ tokens) s o e f = absurd (both_ways false refl e)
