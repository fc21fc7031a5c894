-- The reader over pieces reads the pieces of what the reader of terms reads.
use Rattle.std.proofs.Common.{◌≡◌, ℕ, suc, max, Bool, true, false, cond, List, [], ◌∷◌, Option, Some, None, refl, sym, ◌∙◌, ap, arith}
use Rattle.std.specs.Prelude.{nat_lt}
use Rattle.std.specs.Option.{option_map}
use Rattle.std.proofs.lemmas.Bool.Decides.{nat_tests}
use Rattle.lp_terms.specs.Term.{Lp}
use Rattle.dk_text.specs.Tokens.{Token, id, type_word, colon, becomes, arrow, fat_arrow, long_arrow, point, comma, open_round, close_round, close_square}
use Rattle.dk_text.specs.Grammar.{Raw, word, universe, bracket, product, abstraction}
use Rattle.dk_text.specs.Names.{Scope, Resolved, resolved}
use Rattle.dk_text.specs.Refusals.{nesting}
use Rattle.dk_text.specs.Machine as raw
use Rattle.dk_reader.specs.Pieces.{deep, shallow, piece_at, piece_of, value_of_two, piece_of_two, bracket_piece}
use Rattle.dk_reader.specs.Machine.{Frame, opened, named, to_codomain, to_body, State, Read, refused, found, on, Closed, closing, put, after_bracket, whole, after_arrow, after_fat_arrow, after_binder, go_on, read, fresh}

-- Two pieces

deeper : (n m : ℕ) → nat_lt 8000 n ≡ true → nat_lt 8000 (suc (max n m)) ≡ true
deeper n m h = grind (arith, nat_tests)

deeper_behind : (n m : ℕ) → nat_lt 8000 m ≡ true → nat_lt 8000 (suc (max n m)) ≡ true
deeper_behind n m h = grind (arith, nat_tests)

two_in : (make : Lp → Lp → Lp) (n m : ℕ) (v w : Resolved Lp) (d e : Bool) → nat_lt 8000 n ≡ d → nat_lt 8000 m ≡ e →
    piece_of_two make (cond d deep (shallow n v)) (cond e deep (shallow m w)) ≡ piece_at (suc (max n m)) (value_of_two make v w)
two_in make n m v w true e p q = sym (ap (λ t. cond t deep (shallow (suc (max n m)) (value_of_two make v w))) (deeper n m p))
two_in make n m v w false true p q = sym (ap (λ t. cond t deep (shallow (suc (max n m)) (value_of_two make v w))) (deeper_behind n m q))
two_in make n m v w false false p q = refl

two : (make : Lp → Lp → Lp) (n m : ℕ) (v w : Resolved Lp) → piece_of_two make (piece_at n v) (piece_at m w) ≡ piece_at (suc (max n m)) (value_of_two make v w)
two make n m v w = two_in make n m v w (nat_lt 8000 n) (nat_lt 8000 m) refl refl

one_deeper : (n : ℕ) → nat_lt 8000 n ≡ true → nat_lt 8000 (suc n) ≡ true
one_deeper n h = grind (arith, nat_tests)

one_in : (n : ℕ) (v : Resolved Lp) (d : Bool) → nat_lt 8000 n ≡ d → bracket_piece (cond d deep (shallow n v)) ≡ piece_at (suc n) v
one_in n v true p = sym (ap (λ t. cond t deep (shallow (suc n) v)) (one_deeper n p))
one_in n v false p = refl

one : (n : ℕ) (v : Resolved Lp) → bracket_piece (piece_at n v) ≡ piece_at (suc n) v
one n v = one_in n v (nat_lt 8000 n) refl

-- States

module _ (declared : List (List ℕ)) (base : Scope) where
  -- the names of the binders at a place that stands in these frames
  abbrev pub scope_of : List raw.Frame → Scope
  scope_of [] = base
  scope_of (raw.opened h ∷ fs) = scope_of fs
  scope_of (raw.named x ∷ fs) = scope_of fs
  scope_of (raw.to_codomain x a ∷ fs) = x ∷ scope_of fs
  scope_of (raw.to_body x a ∷ fs) = Some x ∷ scope_of fs

  abbrev pub frames_of : List raw.Frame → List Frame
  frames_of [] = []
  frames_of (raw.opened h ∷ fs) = opened (option_map (piece_of declared (scope_of fs)) h) ∷ frames_of fs
  frames_of (raw.named x ∷ fs) = named x ∷ frames_of fs
  frames_of (raw.to_codomain x a ∷ fs) = to_codomain (piece_of declared (scope_of fs) a) ∷ frames_of fs
  frames_of (raw.to_body x a ∷ fs) = to_body (piece_of declared (scope_of fs) a) ∷ frames_of fs

  abbrev pub state_of : List raw.Frame → Option Raw → State
  state_of fs h = record { frames = frames_of fs; head = option_map (piece_of declared (scope_of fs)) h; scope = scope_of fs }

  abbrev pub read_of : raw.Read → Read
  read_of raw.refused = refused
  read_of (raw.found t rest) = found (piece_of declared base t) rest base

  abbrev closed_of : raw.Closed → Closed
  closed_of (raw.closed fs t) = record { frames = frames_of fs; piece = piece_of declared (scope_of fs) t; scope = scope_of fs }

  put_of : (fs : List raw.Frame) (h : Option Raw) (u : Raw) → put (piece_of declared (scope_of fs) u) (state_of fs h) ≡ on (state_of fs (Some (raw.applied_to h u)))
  put_of fs None u = refl
  put_of fs (Some f) u =
      let s = scope_of fs in
      ap (λ p. on (record { frames = frames_of fs; head = Some p; scope = s })) (two Lp.app (nesting f) (nesting u) (resolved declared s f) (resolved declared s u))

  closing_of : (fs : List raw.Frame) (t : Raw) → closing (frames_of fs) (scope_of fs) (piece_of declared (scope_of fs) t) ≡ closed_of (raw.closing fs t)
  closing_of [] t = refl
  closing_of (raw.opened h ∷ fs) t = refl
  closing_of (raw.named x ∷ fs) t = refl
  closing_of (raw.to_codomain x a ∷ fs) t =
      let s = scope_of fs in
      ap (λ p. closing (frames_of fs) s p) (two Lp.prod (nesting a) (nesting t) (resolved declared s a) (resolved declared (x ∷ s) t)) ∙ closing_of fs (product x a t)
  closing_of (raw.to_body x a ∷ fs) t =
      let s = scope_of fs in
      ap (λ p. closing (frames_of fs) s p) (two Lp.abs (nesting a) (nesting t) (resolved declared s a) (resolved declared (Some x ∷ s) t)) ∙ closing_of fs (abstraction x a t)

  -- what is read from here on
  record Goes (tokens : List Token) : Type 0 where
    reads : (fs : List raw.Frame) (h : Option Raw) → read declared tokens (state_of fs h) ≡ read_of (raw.read tokens fs h)

  bracket_of : (tokens all : List Token) → Goes tokens → (c : raw.Closed) → go_on (read declared tokens) all (after_bracket (closed_of c)) ≡ read_of (raw.after_bracket (raw.read tokens) c)
  bracket_of tokens all g (raw.closed [] t) = refl
  bracket_of tokens all g (raw.closed (raw.opened before ∷ fs) t) =
      let s = scope_of fs in
      ap (λ p. go_on (read declared tokens) all (put p (state_of fs before))) (one (nesting t) (resolved declared s t))
      ∙ ap (λ o. go_on (read declared tokens) all o) (put_of fs before (bracket t))
      ∙ g.reads fs (Some (raw.applied_to before (bracket t)))
  bracket_of tokens all g (raw.closed (raw.named x ∷ fs) t) = refl
  bracket_of tokens all g (raw.closed (raw.to_codomain x a ∷ fs) t) = refl
  bracket_of tokens all g (raw.closed (raw.to_body x a ∷ fs) t) = refl

  whole_of : (all : List Token) (go : State → Read) (c : raw.Closed) → go_on go all (whole (closed_of c)) ≡ read_of (raw.whole all c)
  whole_of all go (raw.closed [] t) = refl
  whole_of all go (raw.closed (raw.opened h ∷ fs) t) = refl
  whole_of all go (raw.closed (raw.named x ∷ fs) t) = refl
  whole_of all go (raw.closed (raw.to_codomain x a ∷ fs) t) = refl
  whole_of all go (raw.closed (raw.to_body x a ∷ fs) t) = refl

  whole_at : (all : List Token) (go : State → Read) (fs : List raw.Frame) (t : Raw) →
      go_on go all (whole (closing (frames_of fs) (scope_of fs) (piece_of declared (scope_of fs) t))) ≡ read_of (raw.whole all (raw.closing fs t))
  whole_at all go fs t = ap (λ c. go_on go all (whole c)) (closing_of fs t) ∙ whole_of all go (raw.closing fs t)

  arrow_of : (tokens all : List Token) → Goes tokens → (fs : List raw.Frame) (a : Raw) →
      go_on (read declared tokens) all (after_arrow (frames_of fs) (scope_of fs) (piece_of declared (scope_of fs) a)) ≡ read_of (raw.after_arrow (raw.read tokens) fs a)
  arrow_of tokens all g [] a = g.reads (raw.to_codomain None a ∷ []) None
  arrow_of tokens all g (raw.opened h ∷ fs) a = g.reads (raw.to_codomain None a ∷ raw.opened h ∷ fs) None
  arrow_of tokens all g (raw.named x ∷ fs) a = g.reads (raw.to_codomain (Some x) a ∷ fs) None
  arrow_of tokens all g (raw.to_codomain x c ∷ fs) a = g.reads (raw.to_codomain None a ∷ raw.to_codomain x c ∷ fs) None
  arrow_of tokens all g (raw.to_body x c ∷ fs) a = g.reads (raw.to_codomain None a ∷ raw.to_body x c ∷ fs) None

  fat_arrow_of : (tokens all : List Token) → Goes tokens → (fs : List raw.Frame) (a : Raw) →
      go_on (read declared tokens) all (after_fat_arrow (frames_of fs) (scope_of fs) (piece_of declared (scope_of fs) a)) ≡ read_of (raw.after_fat_arrow (raw.read tokens) fs a)
  fat_arrow_of tokens all g [] a = refl
  fat_arrow_of tokens all g (raw.opened h ∷ fs) a = refl
  fat_arrow_of tokens all g (raw.named x ∷ fs) a = g.reads (raw.to_body x a ∷ fs) None
  fat_arrow_of tokens all g (raw.to_codomain x c ∷ fs) a = refl
  fat_arrow_of tokens all g (raw.to_body x c ∷ fs) a = refl

  binder_of : (tokens all : List Token) → Goes tokens → (fs : List raw.Frame) (x : List ℕ) →
      go_on (read declared tokens) all (after_binder (frames_of fs) (scope_of fs) x) ≡ read_of (raw.after_binder (raw.read tokens) fs x)
  binder_of tokens all g [] x = g.reads (raw.named x ∷ []) None
  binder_of tokens all g (raw.opened h ∷ fs) x = g.reads (raw.named x ∷ raw.opened h ∷ fs) None
  binder_of tokens all g (raw.named y ∷ fs) x = refl
  binder_of tokens all g (raw.to_codomain y c ∷ fs) x = g.reads (raw.named x ∷ raw.to_codomain y c ∷ fs) None
  binder_of tokens all g (raw.to_body y c ∷ fs) x = g.reads (raw.named x ∷ raw.to_body y c ∷ fs) None

  atom_of : (tokens all : List Token) → Goes tokens → (fs : List raw.Frame) (h : Option Raw) (u : Raw) →
      go_on (read declared tokens) all (put (piece_of declared (scope_of fs) u) (state_of fs h)) ≡ read_of (raw.read tokens fs (Some (raw.applied_to h u)))
  atom_of tokens all g fs h u = ap (λ o. go_on (read declared tokens) all o) (put_of fs h u) ∙ g.reads fs (Some (raw.applied_to h u))

  reads_of : (tokens : List Token) (fs : List raw.Frame) (h : Option Raw) → read declared tokens (state_of fs h) ≡ read_of (raw.read tokens fs h)
  reads_of [] fs h = refl
  reads_of (id x left ∷ []) fs None = refl
  reads_of (id x left ∷ []) fs (Some f) = refl
  reads_of (id x left ∷ colon ∷ tokens) fs None = binder_of tokens (id x left ∷ colon ∷ tokens) (record { reads = reads_of tokens }) fs x
  reads_of (id x left ∷ colon ∷ tokens) fs (Some f) = refl
  reads_of (id x left ∷ token ∷ tokens) fs None =
      atom_of (token ∷ tokens) (id x left ∷ token ∷ tokens) (record { reads = reads_of (token ∷ tokens) }) fs None (word x left)
  reads_of (id x left ∷ token ∷ tokens) fs (Some f) =
      atom_of (token ∷ tokens) (id x left ∷ token ∷ tokens) (record { reads = reads_of (token ∷ tokens) }) fs (Some f) (word x left)
  reads_of (type_word ∷ tokens) fs h = atom_of tokens (type_word ∷ tokens) (record { reads = reads_of tokens }) fs h universe
  reads_of (open_round ∷ tokens) fs h = reads_of tokens (raw.opened h ∷ fs) None
  reads_of (close_round ∷ tokens) fs (Some t) =
      ap (λ c. go_on (read declared tokens) (close_round ∷ tokens) (after_bracket c)) (closing_of fs t)
      ∙ bracket_of tokens (close_round ∷ tokens) (record { reads = reads_of tokens }) (raw.closing fs t)
  reads_of (arrow ∷ tokens) fs (Some t) = arrow_of tokens (arrow ∷ tokens) (record { reads = reads_of tokens }) fs t
  reads_of (fat_arrow ∷ tokens) fs (Some t) = fat_arrow_of tokens (fat_arrow ∷ tokens) (record { reads = reads_of tokens }) fs t
  reads_of (becomes ∷ tokens) fs (Some t) = whole_at (becomes ∷ tokens) (read declared tokens) fs t
  reads_of (long_arrow ∷ tokens) fs (Some t) = whole_at (long_arrow ∷ tokens) (read declared tokens) fs t
  reads_of (point ∷ tokens) fs (Some t) = whole_at (point ∷ tokens) (read declared tokens) fs t
  reads_of (comma ∷ tokens) fs (Some t) = whole_at (comma ∷ tokens) (read declared tokens) fs t
  reads_of (close_square ∷ tokens) fs (Some t) = whole_at (close_square ∷ tokens) (read declared tokens) fs t
  reads_of (token ∷ tokens) fs None = refl
  reads_of (token ∷ tokens) fs (Some t) = refl

-- what the reader over pieces reads of the tokens
pub read_pieces : (declared : List (List ℕ)) (scope : Scope) (tokens : List Token) → read declared tokens (fresh scope) ≡ read_of declared scope (raw.read tokens [] None)
read_pieces declared scope tokens = reads_of declared scope tokens [] None
