-- What the steps of the code answer.
use Rattle.std.proofs.Common.{◌≡◌, ℕ, ◌<◌, ◌≤◌, Bool, true, false, List, [], ◌∷◌, length, map, take, drop, get_or, ◌-◌, Option, Some, None, Result, IfOk, refl, sym, ◌∙◌, ap, subst, arith}
use Rattle.std.specs.Bool.{then_some}
use Rattle.std.specs.Prelude.{MatchOption, IfSome}
use Rattle.std.proofs.lemmas.List.{take_rest, drop-map, length-drop}
use Rattle.dk_text.specs.Tokens as plain
use Rattle.dk_text.specs.Names.{Scope}
use Rattle.dk_reader.specs.Seen.{seen}
use Rattle.dk_reader.specs.Pieces.{piece_seen}
use Rattle.dk_reader.specs.Machine.{Outcome, State, frame_seen, state_seen, outcome_seen, finish_seen, whole_in, finish, step, go_on, read, fresh, binder_name}
use Rattle.dk_reader.specs.declared.token.Token.{Token}
use Rattle.dk_reader.specs.declared.piece.Piece.{Piece}
use Rattle.dk_reader.specs.declared.stack.Frame.{Frame}
use Rattle.dk_reader.specs.declared.machine.Machine.{Machine}
use Rattle.dk_reader.specs.declared.machine.Step.{Step}
use Rattle.dk_reader.specs.Spelled.{ends_term, SpellsNoTerm}
use Rattle.dk_reader.proofs.Steps.{read_step, read_at_end}
use Rattle.dk_reader.proofs.Terms.{IsRead, read_found, read_refused}

-- an answer that is another
pub outcome_of : {E : Type 0} (r : Result Step E) (after : Machine) (scope : Scope) (o u : Outcome) → IfOk r (λ s. outcome_seen s (state_seen after scope) ≡ o) → o ≡ u →
    IfOk r (λ s. outcome_seen s (state_seen after scope) ≡ u)
outcome_of r after scope o u h e = subst (λ (x : Outcome). IfOk r (λ s. outcome_seen s (state_seen after scope) ≡ x)) e h

nil_cons : (f : Frame) (fs : List Frame) → f ∷ fs ≡ [] → ⊥
nil_cons f fs e = cc

false_true : ◌≡◌ {A = Bool} false true → ⊥
false_true e = cc

-- a whole is a term where nothing is left open
pub finish_of : (fs : List Frame) (p : Piece) (scope : Scope) (b : Bool) → (b ≡ true → fs ≡ []) → (fs ≡ [] → b ≡ true) →
    finish_seen (then_some b p) scope ≡ whole_in (map frame_seen fs) (piece_seen p) scope
finish_of [] p scope true empty some = refl
finish_of [] p scope false empty some = absurd (false_true (some refl))
finish_of (f ∷ fs) p scope true empty some = absurd (nil_cons f fs (empty refl))
finish_of (f ∷ fs) p scope false empty some = refl

-- the first token
pub first_seen : (tokens : List Token) (d : Token) → 0 < length tokens → map seen tokens ≡ seen (get_or tokens 0 d) ∷ drop 1 (map seen tokens)
first_seen [] d lt = absurd (omega arith)
first_seen (t ∷ ts) d lt = refl

-- what is read at a token that begins no binder
pub read_at : (declared : List (List ℕ)) (tokens : List plain.Token) (token : plain.Token) (s : State) (o : Outcome) → tokens ≡ token ∷ drop 1 tokens → binder_name tokens ≡ None →
    o ≡ step declared token s → read declared tokens s ≡ go_on (read declared (drop 1 tokens)) tokens o
read_at declared tokens token s o e none same =
    let others = drop 1 tokens in
    ap (λ ts. read declared ts s) e ∙ read_step declared token others s (sym (ap binder_name e) ∙ none)
    ∙ ap (λ u. go_on (read declared others) (token ∷ others) u) (sym same)
    ∙ ap (λ ts. go_on (read declared others) ts o) (sym e)

pub some_of : {A : Type 0} (o : Option A) (x : A) (P : Type 0) (Q : A → Type 0) → o ≡ Some x → MatchOption o P Q → Q x
some_of o x P Q e h = subst (λ (r : Option _). MatchOption r P Q) e h

pub none_of : {A : Type 0} (o : Option A) (P : Type 0) (Q : A → Type 0) → o ≡ None → MatchOption o P Q → P
none_of o P Q e h = subst (λ (r : Option _). MatchOption r P Q) e h

pub if_some_of : {A : Type 0} (o : Option A) (x : A) (Q : A → Type 0) → o ≡ Some x → IfSome o Q → Q x
if_some_of o x Q e h = subst (λ (r : Option _). IfSome r Q) e h

-- the tokens behind so many
pub rest_seen : (tokens : List Token) (n : ℕ) → map seen (take (length tokens - n) (drop n tokens)) ≡ drop n (map seen tokens)
rest_seen tokens n = ap (map seen) (take_rest tokens n) ∙ sym (drop-map seen n tokens)

pub rest_within : (tokens : List Token) (n m : ℕ) → length tokens ≤ m → length (take (length tokens - n) (drop n tokens)) ≤ m
rest_within tokens n m h = let e = ap length (take_rest tokens n) in omega (arith, e, length-drop n tokens)

-- the term has been read
pub read_ended : (declared : List (List ℕ)) (scope left : Scope) (all rest : List plain.Token) (s : State) (r : Option Piece) (p : Piece) → read declared all (fresh scope) ≡ read declared rest s →
    ends_term rest ≡ true → finish_seen r left ≡ finish s s.head → r ≡ Some p → IsRead declared scope all rest (piece_seen p) left
read_ended declared scope left all rest s r p e ends f h =
    read_found declared scope all rest (piece_seen p) left
    (e ∙ read_at_end declared rest s (finish_seen (Some p) left) ends (sym f ∙ ap (λ x. finish_seen x left) h)) ends

-- something is left open
pub read_open : (declared : List (List ℕ)) (scope left : Scope) (all rest : List plain.Token) (s : State) (r : Option Piece) → read declared all (fresh scope) ≡ read declared rest s →
    ends_term rest ≡ true → finish_seen r left ≡ finish s s.head → r ≡ None → SpellsNoTerm all
read_open declared scope left all rest s r e ends f h =
    read_refused declared scope all (e ∙ read_at_end declared rest s (finish_seen None left) ends (sym f ∙ ap (λ x. finish_seen x left) h))
