-- The slow reader of types reads what is in the grammar, and where the scan of the nesting lets a type through, it reads it.
use Rattle.std.proofs.Common.{◌≡◌, ◌<◌, ◌≤◌, ◌+◌, ◌-◌, ℕ, zero, suc, true, List, [], ◌∷◌, length, Option, Some, None, refl, sym, ◌∙◌, ap, subst, arith}
use Rattle.std.proofs.lemmas.Option.{some_pair_parts, none-some, same_Some}
use Rattle.tptp_lex.specs.declared.signs.Sign.{Sign}
use Rattle.tptp_lex.specs.declared.signs.Sign.TheVariants.{Open, Close, Comma}
use Rattle.tptp_reader.specs.declared.lexeme.Defined.{Defined}
use Rattle.tptp_reader.specs.declared.lexeme.Defined.TheVariants.{True, False, Individual, Truth, Kind, Other}
use Rattle.tptp_reader.specs.Raw.{Name, RawType, RawTypes, raw_type_depth, raw_types_depth}
use Rattle.tptp_reader.specs.View.{raw_types_of}
use Rattle.tptp_reader.specs.Tokens.{Token, lower, upper, defined, quoted, distinct, number, sign}
use Rattle.tptp_reader.specs.Rows.{Nesting, deeper}
use Rattle.tptp_reader.specs.Grammar.{word_of, IsType, type_individual, type_truth, type_kind, type_variable, type_constant, type_applied, IsTypes, last_type, more_types}
use Rattle.tptp_reader.specs.Within.{within}
use Rattle.tptp_reader.specs.Parsing.{behind, then}
use Rattle.tptp_reader.specs.SlowLists.{goes_on, made, ended_by, separated}
use Rattle.tptp_reader.specs.SlowTypes.{defined_type, constructed_type, type_by, no_types, type_in, type_arguments_in}
use Rattle.tptp_reader.proofs.Behind.{behind_back}
use Rattle.tptp_reader.proofs.ReadLaws.{same_read, made_back, made_goes, ended_back, ended_goes}
use Rattle.tptp_reader.proofs.Lists.{Shrinks, Chain, last, more, chain_read, read_chain}
use Rattle.tptp_reader.proofs.Opens.{opens, inside}
use Rattle.tptp_reader.proofs.WordLaws.{word_passes}
use Rattle.tptp_reader.proofs.TypeSteps.{type_upper, type_defined, type_lower, type_quoted, type_arguments_step}

-- what reads only types of the grammar, or only lists of them
abbrev pub SoundType : (List Token → Option (RawType × List Token)) → Type 0
SoundType item = (tokens : List Token) (t : RawType) (rest : List Token) → item tokens ≡ Some (t, rest) → IsType tokens rest t

abbrev SoundTypes : (List Token → Option (List RawType × List Token)) → Type 0
SoundTypes items = (tokens : List Token) (ts : List RawType) (rest : List Token) → items tokens ≡ Some (ts, rest) → IsTypes Comma tokens rest (raw_types_of ts)

pub chain_types : (item : List Token → Option (RawType × List Token)) → SoundType item → (between : Sign) (tokens rest : List Token) (ts : List RawType) → Chain item between tokens rest ts → IsTypes between tokens rest (raw_types_of ts)
chain_types item s between tokens rest _ (last {x = t} e) = last_type (s tokens t rest e)
chain_types item s between tokens rest _ (more {middle = middle} {x = t} {xs = ts} e c) = more_types (s tokens t (sign between ∷ middle) e) (chain_types item s between middle rest ts c)

separated_sound : (item : List Token → Option (RawType × List Token)) → SoundType item → SoundTypes (separated item Comma)
separated_sound item s tokens ts rest e = chain_types item s Comma tokens rest ts (read_chain item Comma tokens ts rest e)

-- what stands in the brackets behind a type constructor
bracket_sound : (arguments : List Token → Option (List RawType × List Token)) → SoundTypes arguments → (t : Token) (c : Name) → word_of t ≡ Some c → (inner : List Token) (u : RawType) (rest : List Token) →
    made (λ ts. RawType.named c (raw_types_of ts)) (ended_by Close (arguments inner)) ≡ Some (u, rest) → IsType (t ∷ sign Open ∷ inner) rest u
bracket_sound arguments s t c w inner u rest e =
    let m = made_back (λ ts. RawType.named c (raw_types_of ts)) (ended_by Close (arguments inner)) u rest e in
    let h = ended_back Close (arguments inner) m.from rest m.reads in
    subst (IsType (t ∷ sign Open ∷ inner) rest) m.makes (type_applied w (s inner m.from (sign Close ∷ rest) h))

constructor_sound : (arguments : List Token → Option (List RawType × List Token)) → SoundTypes arguments → (t : Token) (c : Name) → word_of t ≡ Some c → (tokens : List Token) (u : RawType) (rest : List Token) (r : Option (List Token)) → behind Open tokens ≡ r →
    goes_on r (λ rest. made (λ ts. RawType.named c (raw_types_of ts)) (ended_by Close (arguments rest))) (Some (RawType.named c RawTypes.none, tokens)) ≡ Some (u, rest) → IsType (t ∷ tokens) rest u
constructor_sound arguments s t c w tokens u rest None b e = same_read (λ ts x. IsType (t ∷ tokens) ts x) (RawType.named c RawTypes.none) u tokens rest e (type_constant w)
constructor_sound arguments s t c w tokens u rest (Some inner) b e =
    subst (λ (ts : List Token). IsType (t ∷ ts) rest u) (sym (behind_back Open tokens inner b)) (bracket_sound arguments s t c w inner u rest e)

defined_sound : (word : Defined) (tokens : List Token) (u : RawType) (rest : List Token) → then {B = RawType × List Token} (defined_type word) (λ t. Some (t, tokens)) ≡ Some (u, rest) → IsType (defined word ∷ tokens) rest u
defined_sound Individual tokens u rest e = same_read (λ ts x. IsType (defined Individual ∷ tokens) ts x) RawType.individual u tokens rest e type_individual
defined_sound Truth tokens u rest e = same_read (λ ts x. IsType (defined Truth ∷ tokens) ts x) RawType.truth u tokens rest e type_truth
defined_sound Kind tokens u rest e = same_read (λ ts x. IsType (defined Kind ∷ tokens) ts x) RawType.kind u tokens rest e type_kind
defined_sound True tokens u rest e = absurd (none-some (u, rest) e)
defined_sound False tokens u rest e = absurd (none-some (u, rest) e)
defined_sound Other tokens u rest e = absurd (none-some (u, rest) e)

by_sound : (arguments : List Token → Option (List RawType × List Token)) → SoundTypes arguments → SoundType (type_by arguments)
by_sound arguments s (upper x ∷ tokens) u rest e = same_read (λ ts v. IsType (upper x ∷ tokens) ts v) (RawType.variable x) u tokens rest e type_variable
by_sound arguments s (defined word ∷ tokens) u rest e = defined_sound word tokens u rest e
by_sound arguments s (lower c ∷ tokens) u rest e = constructor_sound arguments s (lower c) c refl tokens u rest (behind Open tokens) refl e
by_sound arguments s (quoted c ∷ tokens) u rest e = constructor_sound arguments s (quoted c) c refl tokens u rest (behind Open tokens) refl e
by_sound arguments s [] u rest e = absurd (none-some (u, rest) e)
by_sound arguments s (distinct ∷ tokens) u rest e = absurd (none-some (u, rest) e)
by_sound arguments s (number text ∷ tokens) u rest e = absurd (none-some (u, rest) e)
by_sound arguments s (sign x ∷ tokens) u rest e = absurd (none-some (u, rest) e)

none_sound : SoundTypes no_types
none_sound tokens ts rest e = absurd (none-some (ts, rest) e)

-- what is read as a type is one
pub type_sound : (room : ℕ) (tokens : List Token) (t : RawType) (rest : List Token) → type_in room tokens ≡ Some (t, rest) → IsType tokens rest t
unfolding type_in
type_sound zero tokens t rest e = by_sound no_types none_sound tokens t rest e
type_sound (suc room) tokens t rest e = by_sound (separated (type_in room) Comma) (separated_sound (type_in room) (type_sound room)) tokens t rest e

-- a type takes at least one token
mutual
  pub type_fewer : (tokens rest : List Token) (t : RawType) → IsType tokens rest t → length rest < length tokens
  type_fewer tokens rest t type_individual = omega arith
  type_fewer tokens rest t type_truth = omega arith
  type_fewer tokens rest t type_kind = omega arith
  type_fewer tokens rest t type_variable = omega arith
  type_fewer tokens rest t (type_constant w) = omega arith
  type_fewer _ rest _ (type_applied {tokens = inner} {ts = ts} w d) = let h = types_fewer Comma inner (sign Close ∷ rest) ts d in omega arith

  pub types_fewer : (between : Sign) (tokens rest : List Token) (ts : RawTypes) → IsTypes between tokens rest ts → length rest < length tokens
  types_fewer between tokens rest _ (last_type {t = t} d) = type_fewer tokens rest t d
  types_fewer between tokens rest _ (more_types {middle = middle} {t = t} {ts = ts} d e) =
      let h = type_fewer tokens (sign between ∷ middle) t d in let k = types_fewer between middle rest ts e in omega arith

pub type_shrinks : (room : ℕ) → Shrinks (type_in room)
type_shrinks room = record { fewer = λ tokens t rest e. (let h = type_fewer tokens rest t (type_sound room tokens t rest e) in omega arith) }

-- the sign between leaves the nesting as it is
abbrev pub Passes : Sign → Nesting → Type 0
Passes between s = (middle : List Token) → within s (sign between ∷ middle) ≡ true → within s middle ≡ true

comma_passes : (s : Nesting) → Passes Comma (deeper s)
comma_passes s middle h = h

-- a type leaves the nesting as it is, and so do types where the sign between does
mutual
  pub type_passes : (s : Nesting) (tokens rest : List Token) (t : RawType) → IsType tokens rest t → within s tokens ≡ true → within s rest ≡ true
  type_passes s tokens rest t type_individual h = h
  type_passes s tokens rest t type_truth h = h
  type_passes s tokens rest t type_kind h = h
  type_passes s tokens rest t type_variable h = h
  type_passes s _ rest _ (type_constant {t = t} {c = c} w) h = word_passes t c w s rest h
  type_passes s _ rest _ (type_applied {t = t} {tokens = inner} {c = c} {ts = ts} w d) h =
      types_pass Comma (deeper s) (comma_passes s) inner (sign Close ∷ rest) ts d (inside s inner (word_passes t c w s (sign Open ∷ inner) h))

  pub types_pass : (between : Sign) (s : Nesting) → Passes between s → (tokens rest : List Token) (ts : RawTypes) → IsTypes between tokens rest ts → within s tokens ≡ true → within s rest ≡ true
  types_pass between s go tokens rest _ (last_type {t = t} d) h = type_passes s tokens rest t d h
  types_pass between s go tokens rest _ (more_types {middle = middle} {t = t} {ts = ts} d e) h =
      types_pass between s go middle rest ts e (go middle (type_passes s tokens (sign between ∷ middle) t d h))

-- a type is no deeper than the scan of the nesting lets it be
mutual
  pub type_depth : (s : Nesting) (tokens rest : List Token) (t : RawType) → IsType tokens rest t → within s tokens ≡ true → s.count ≤ 200 → s.count + raw_type_depth t ≤ 201
  type_depth s tokens rest t type_individual h le = omega arith
  type_depth s tokens rest t type_truth h le = omega arith
  type_depth s tokens rest t type_kind h le = omega arith
  type_depth s tokens rest t type_variable h le = omega arith
  type_depth s tokens rest t (type_constant w) h le = omega arith
  type_depth s _ rest _ (type_applied {t = t} {tokens = inner} {c = c} {ts = ts} w d) h le =
      let within_bracket = word_passes t c w s (sign Open ∷ inner) h in
      let open_left = opens s inner within_bracket in
      let one_left : suc s.count ≤ 200 = omega arith in
      let ih = types_depth s inner (sign Close ∷ rest) ts d (inside s inner within_bracket) one_left in
      omega arith

  types_depth : (s : Nesting) (tokens rest : List Token) (ts : RawTypes) → IsTypes Comma tokens rest ts → within (deeper s) tokens ≡ true → suc s.count ≤ 200 → suc s.count + raw_types_depth ts ≤ 201
  types_depth s tokens rest _ (last_type {t = t} d) h le = let ih = type_depth (deeper s) tokens rest t d h le in omega arith
  types_depth s tokens rest _ (more_types {middle = middle} {t = t} {ts = ts} d e) h le =
      let ih = type_depth (deeper s) tokens (sign Comma ∷ middle) t d h le in
      let jh = types_depth s middle rest ts e (type_passes (deeper s) tokens (sign Comma ∷ middle) t d h) le in
      omega arith

abbrev pub types_list : RawTypes → List RawType
types_list RawTypes.none = []
types_list (RawTypes.more t ts) = t ∷ types_list ts

pub types_listed : (ts : RawTypes) → raw_types_of (types_list ts) ≡ ts
types_listed RawTypes.none = refl
types_listed (RawTypes.more t ts) = ap (RawTypes.more t) (types_listed ts)

constructor_read : (room : ℕ) (t : Token) (c : Name) → word_of t ≡ Some c → (tokens : List Token) → type_in room (t ∷ tokens) ≡ constructed_type (type_arguments_in room) c tokens
constructor_read room (lower text) c e tokens = type_lower room text tokens ∙ ap (λ (g : Name). constructed_type (type_arguments_in room) g tokens) (same_Some text c e)
constructor_read room (quoted text) c e tokens = type_quoted room text tokens ∙ ap (λ (g : Name). constructed_type (type_arguments_in room) g tokens) (same_Some text c e)
constructor_read room (upper text) c e tokens = absurd (none-some c e)
constructor_read room (defined word) c e tokens = absurd (none-some c e)
constructor_read room distinct c e tokens = absurd (none-some c e)
constructor_read room (number text) c e tokens = absurd (none-some c e)
constructor_read room (sign x) c e tokens = absurd (none-some c e)

-- no bracket is the sign between
abbrev pub IsNoBracket : Sign → Type 0
IsNoBracket between = (tokens : List Token) → behind Open (sign between ∷ tokens) ≡ None

-- where the scan of the nesting lets a type through, and no bracket follows it, it is read
mutual
  pub type_read : (room : ℕ) (s : Nesting) (tokens rest : List Token) (t : RawType) → IsType tokens rest t → within s tokens ≡ true → 200 ≤ room + s.count → behind Open rest ≡ None → type_in room tokens ≡ Some (t, rest)
  type_read room s _ rest _ type_individual h le ends = type_defined room Individual rest
  type_read room s _ rest _ type_truth h le ends = type_defined room Truth rest
  type_read room s _ rest _ type_kind h le ends = type_defined room Kind rest
  type_read room s _ rest _ (type_variable {x = x}) h le ends = type_upper room x rest
  type_read room s _ rest _ (type_constant {t = t} {c = c} w) h le ends =
      constructor_read room t c w rest
      ∙ ap (λ r. goes_on r (λ rest. made (λ ts. RawType.named c (raw_types_of ts)) (ended_by Close (type_arguments_in room rest))) (Some (RawType.named c RawTypes.none, rest))) ends
  type_read room s _ rest _ (type_applied {t = t} {tokens = inner} {c = c} {ts = ts} w d) h le ends =
      let within_bracket = word_passes t c w s (sign Open ∷ inner) h in
      let open_left = opens s inner within_bracket in
      let some_room : 0 < room = omega arith in
      let room_left : 200 ≤ (room - 1) + suc s.count = omega arith in
      let chain = types_chain Comma (λ tokens. refl) (room - 1) (deeper s) (comma_passes s) inner (sign Close ∷ rest) ts d (inside s inner within_bracket) room_left refl in
      let reads = type_arguments_step room inner some_room ∙ chain_read (type_in (room - 1)) (type_shrinks (room - 1)) Comma inner (sign Close ∷ rest) (types_list ts) chain refl in
      constructor_read room t c w (sign Open ∷ inner)
      ∙ made_goes (λ ts. RawType.named c (raw_types_of ts)) (ended_by Close (type_arguments_in room inner)) (types_list ts) rest (ended_goes Close (type_arguments_in room inner) (types_list ts) rest reads)
      ∙ ap (λ vs. Some (RawType.named c vs, rest)) (types_listed ts)

  pub types_chain : (between : Sign) → IsNoBracket between → (room : ℕ) (s : Nesting) → Passes between s → (tokens rest : List Token) (ts : RawTypes) → IsTypes between tokens rest ts → within s tokens ≡ true → 200 ≤ room + s.count → behind Open rest ≡ None →
      Chain (type_in room) between tokens rest (types_list ts)
  types_chain between free room s go tokens rest _ (last_type {t = t} d) h le ends = last (type_read room s tokens rest t d h le ends)
  types_chain between free room s go tokens rest _ (more_types {middle = middle} {t = t} {ts = ts} d e) h le ends =
      more (type_read room s tokens (sign between ∷ middle) t d h le (free middle))
      (types_chain between free room s go middle rest ts e (go middle (type_passes s tokens (sign between ∷ middle) t d h)) le ends)

-- one front of the tokens at most spells a type, where no bracket follows, and it spells one
pub one_type : (s : Nesting) (tokens xs ys : List Token) (t u : RawType) → within s tokens ≡ true → IsType tokens xs t → IsType tokens ys u → behind Open xs ≡ None → behind Open ys ≡ None → (t ≡ u) × (xs ≡ ys)
one_type s tokens xs ys t u h d e p q =
    some_pair_parts t u xs ys (sym (type_read 200 s tokens xs t d h (omega arith) p) ∙ type_read 200 s tokens ys u e h (omega arith) q)
