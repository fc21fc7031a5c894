-- The slow reader of declared types reads what is in the grammar, and where the scan of the nesting lets one through, it
-- reads it.
use Rattle.std.proofs.Common.{◌≡◌, ◌<◌, ◌≤◌, ◌+◌, ◌-◌, ℕ, zero, suc, Bool, true, false, cond, List, [], ◌∷◌, length, Option, Some, None, refl, sym, ◌∙◌, ap, subst, arith}
use Rattle.std.proofs.lemmas.Option.{some_pair_parts, none-some}
use Rattle.tptp_lex.specs.declared.signs.Sign.{Sign}
use Rattle.tptp_lex.specs.declared.signs.Sign.TheVariants.{Open, Close, OpenList, CloseList, Colon, AllTypes, Arrow, Star}
use Rattle.tptp_reader.specs.Raw.{RawType, RawTypes, RawVariable, RawTop, raw_type_depth, raw_types_depth}
use Rattle.tptp_reader.specs.Tokens.{Token, sign}
use Rattle.tptp_reader.specs.Rows.{Nesting, deeper, with_pending}
use Rattle.tptp_reader.specs.Grammar.{under, mapping, IsType, type_individual, type_truth, type_kind, type_variable, type_constant, type_applied, IsTypes, last_type, more_types, IsVariables, IsTop, for_all_types, bracketed_top, plain_top, one_argument, product}
use Rattle.tptp_reader.specs.Within.{within}
use Rattle.tptp_reader.specs.Parsing.{first_sign, behind, then}
use Rattle.tptp_reader.specs.View.{raw_types_of}
use Rattle.tptp_reader.specs.SlowLists.{goes_on, made, ended_by, followed_all}
use Rattle.tptp_reader.specs.SlowTypes.{type_in, variables_in}
use Rattle.tptp_reader.specs.SlowTops.{from_type, plain_top_in, result_in, product_from, after_first, first_in_bracket, begins_top, bracketed_top_by, type_variables_in, bound_top_by, no_top, top_in}
use Rattle.tptp_reader.proofs.Behind.{behind_back}
use Rattle.tptp_reader.proofs.ReadLaws.{same_read, then_back, made_back, made_goes, ended_back, ended_goes}
use Rattle.tptp_reader.proofs.Lists.{followed_chain, chain_followed}
use Rattle.tptp_reader.proofs.Opens.{opens, inside, inside_list, binds, bound}
use Rattle.tptp_reader.proofs.WordLaws.{word_is_no_sign}
use Rattle.tptp_reader.proofs.TypeLaws.{chain_types, type_sound, type_fewer, types_fewer, type_shrinks, type_passes, types_pass, type_depth, types_list, types_listed, type_read, types_chain}
use Rattle.tptp_reader.proofs.VariableLaws.{variables_sound, variables_fewer, variables_pass, variables_read}
use Rattle.tptp_reader.proofs.TopSteps.{top_step, top_plain, bound_step, bracket_step}

-- what reads only declared types of the grammar behind a token
abbrev SoundBehind : Token → (List Token → Option (RawTop × List Token)) → Type 0
SoundBehind t item = (tokens : List Token) (top : RawTop) (rest : List Token) → item tokens ≡ Some (top, rest) → IsTop (t ∷ tokens) rest top

abbrev pub SoundTop : (List Token → Option (RawTop × List Token)) → Type 0
SoundTop item = (tokens : List Token) (top : RawTop) (rest : List Token) → item tokens ≡ Some (top, rest) → IsTop tokens rest top

from_sound : (room : ℕ) (front tokens : List Token) (t : RawType) (top : RawTop) (rest : List Token) → IsType front tokens t → (r : Option (List Token)) → behind Arrow tokens ≡ r →
    goes_on r (λ rest. made (mapping (RawTypes.more t RawTypes.none)) (type_in room rest)) (Some (mapping RawTypes.none t, tokens)) ≡ Some (top, rest) → IsTop front rest top
from_sound room front tokens t top rest d None b e =
    same_read (λ ts x. IsTop front ts x) (mapping RawTypes.none t) top tokens rest e (plain_top d refl)
from_sound room front tokens t top rest d (Some inner) b e =
    let m = made_back (mapping (RawTypes.more t RawTypes.none)) (type_in room inner) top rest e in
    one_argument (subst (λ (ts : List Token). IsType front ts t) (behind_back Arrow tokens inner b) d) (type_sound room inner m.from rest m.reads) (sym m.makes)

plain_sound : (room : ℕ) → SoundTop (plain_top_in room)
unfolding plain_top_in
plain_sound room tokens top rest e =
    let x = then_back (type_in room tokens) (λ x. from_type room x.0 x.1) (top, rest) e in
    from_sound room tokens x.middle.1 x.middle.0 top rest (type_sound room tokens x.middle.0 x.middle.1 x.first) (behind Arrow x.middle.1) refl x.second

-- behind the bracket of a first type
closed_sound : (outside : ℕ) (front inner : List Token) (t : RawType) (top : RawTop) (rest : List Token) → IsType front (sign Close ∷ inner) t → (r : Option (List Token)) → behind Arrow inner ≡ r →
    goes_on r (λ rest. made (mapping (RawTypes.more t RawTypes.none)) (type_in outside rest)) (Some (mapping RawTypes.none t, inner)) ≡ Some (top, rest) → IsTop (sign Open ∷ front) rest top
closed_sound outside front inner t top rest d None b e =
    same_read (λ ts x. IsTop (sign Open ∷ front) ts x) (mapping RawTypes.none t) top inner rest e (bracketed_top (plain_top d refl))
closed_sound outside front inner t top rest d (Some after) b e =
    let m = made_back (mapping (RawTypes.more t RawTypes.none)) (type_in outside after) top rest e in
    let arrow = subst (λ (ts : List Token). IsType front (sign Close ∷ ts) t) (behind_back Arrow inner after b) d in
    product (last_type arrow) (type_sound outside after m.from rest m.reads) (sym m.makes)

first_closed : (outside : ℕ) (front tokens : List Token) (t : RawType) (top : RawTop) (rest : List Token) → IsType front tokens t → then (behind Close tokens) (λ rest. from_type outside t rest) ≡ Some (top, rest) → IsTop (sign Open ∷ front) rest top
first_closed outside front tokens t top rest d e =
    let x = then_back (behind Close tokens) (λ rest. from_type outside t rest) (top, rest) e in
    closed_sound outside front x.middle t top rest (subst (λ (ts : List Token). IsType front ts t) (behind_back Close tokens x.middle x.first) d) (behind Arrow x.middle) refl x.second

product_sound : (inside outside : ℕ) (front tokens : List Token) (t : RawType) (top : RawTop) (rest : List Token) → type_in inside front ≡ Some (t, tokens) → product_from inside outside t tokens ≡ Some (top, rest) → IsTop (sign Open ∷ front) rest top
product_sound inside outside front tokens t top rest reads e =
    let x = then_back (ended_by Close (followed_all (type_in inside) Star (t ∷ []) tokens)) (λ x. result_in outside x.0 x.1) (top, rest) e in
    let types = x.middle.0 in
    let after = x.middle.1 in
    let listed = ended_back Close (followed_all (type_in inside) Star (t ∷ []) tokens) types after x.first in
    let chain = followed_chain (type_in inside) Star front tokens t types (sign Close ∷ after) reads listed in
    let y = then_back (behind Arrow after) (λ rest. made (mapping (raw_types_of types)) (type_in outside rest)) (top, rest) x.second in
    let m = made_back (mapping (raw_types_of types)) (type_in outside y.middle) top rest y.second in
    let arguments = subst (λ (ts : List Token). IsTypes Star front (sign Close ∷ ts) (raw_types_of types)) (behind_back Arrow after y.middle y.first) (chain_types (type_in inside) (type_sound inside) Star front (sign Close ∷ after) types chain) in
    product arguments (type_sound outside y.middle m.from rest m.reads) (sym m.makes)

after_sound : (inside outside : ℕ) (front tokens : List Token) (t : RawType) (next : Option Sign) (top : RawTop) (rest : List Token) → type_in inside front ≡ Some (t, tokens) → after_first inside outside t next tokens ≡ Some (top, rest) → IsTop (sign Open ∷ front) rest top
after_sound inside outside front tokens t (Some Star) top rest reads e = product_sound inside outside front tokens t top rest reads e
after_sound inside outside front tokens t (Some Arrow) top rest reads e =
    bracketed_top (from_sound inside front tokens t top (sign Close ∷ rest) (type_sound inside front t tokens reads) (behind Arrow tokens) refl (ended_back Close (from_type inside t tokens) top rest e))
after_sound inside outside front tokens t (Some s) top rest reads e = first_closed outside front tokens t top rest (type_sound inside front t tokens reads) e
after_sound inside outside front tokens t None top rest reads e = first_closed outside front tokens t top rest (type_sound inside front t tokens reads) e

first_sound : (inside outside : ℕ) → SoundBehind (sign Open) (first_in_bracket inside outside)
unfolding first_in_bracket
first_sound inside outside tokens top rest e =
    let x = then_back (type_in inside tokens) (λ x. after_first inside outside x.0 (first_sign x.1) x.1) (top, rest) e in
    after_sound inside outside tokens x.middle.1 x.middle.0 (first_sign x.middle.1) top rest x.first x.second

bracket_sound : (inner : List Token → Option (RawTop × List Token)) → SoundTop inner → (inside outside : ℕ) (tokens : List Token) (top : RawTop) (rest : List Token) (b : Bool) → cond b (ended_by Close (inner tokens)) (first_in_bracket inside outside tokens) ≡ Some (top, rest) → IsTop (sign Open ∷ tokens) rest top
bracket_sound inner s inside outside tokens top rest true e = bracketed_top (s tokens top (sign Close ∷ rest) (ended_back Close (inner tokens) top rest e))
bracket_sound inner s inside outside tokens top rest false e = first_sound inside outside tokens top rest e

-- the variables that were read behind the quantifier
record Binders (room : ℕ) (tokens : List Token) (vs : List RawVariable) (rest : List Token) : Type 0 where
  inner : List Token
  begins : tokens ≡ sign OpenList ∷ inner
  variables : IsVariables true inner (sign CloseList ∷ sign Colon ∷ rest) vs

binders_sound : (room : ℕ) (tokens : List Token) (vs : List RawVariable) (rest : List Token) → type_variables_in room tokens ≡ Some (vs, rest) → Binders room tokens vs rest
unfolding type_variables_in
binders_sound room tokens vs rest e =
    let x = then_back (behind OpenList tokens) (λ rest. ended_by Colon (ended_by CloseList (variables_in true room rest))) (vs, rest) e in
    let colon = ended_back Colon (ended_by CloseList (variables_in true room x.middle)) vs rest x.second in
    let closes = ended_back CloseList (variables_in true room x.middle) vs (sign Colon ∷ rest) colon in
    record { inner = x.middle; begins = behind_back OpenList tokens x.middle x.first; variables = variables_sound true room x.middle vs (sign CloseList ∷ sign Colon ∷ rest) closes }

bound_sound : (inner : List Token → Option (RawTop × List Token)) → SoundTop inner → (room : ℕ) → SoundBehind (sign AllTypes) (bound_top_by inner room)
bound_sound inner s room tokens top rest e =
    let x = then_back (type_variables_in room tokens) (λ x. made (under x.0) (inner x.1)) (top, rest) e in
    let m = made_back (under x.middle.0) (inner x.middle.1) top rest x.second in
    let binders = binders_sound room tokens x.middle.0 x.middle.1 x.first in
    subst (λ (ts : List Token). IsTop (sign AllTypes ∷ ts) rest top) (sym binders.begins) (for_all_types binders.variables (s x.middle.1 m.from rest m.reads) (sym m.makes))

none_sound : (t : Token) → SoundBehind t no_top
none_sound t tokens top rest e = absurd (none-some (top, rest) e)

other_sound : (bracketed : List Token → Option (RawTop × List Token)) → SoundBehind (sign Open) bracketed → (room : ℕ) (tokens : List Token) (top : RawTop) (rest : List Token) (r : Option (List Token)) → behind Open tokens ≡ r →
    goes_on r bracketed (plain_top_in room tokens) ≡ Some (top, rest) → IsTop tokens rest top
other_sound bracketed s room tokens top rest None b e = plain_sound room tokens top rest e
other_sound bracketed s room tokens top rest (Some inner) b e =
    subst (λ (ts : List Token). IsTop ts rest top) (sym (behind_back Open tokens inner b)) (s inner top rest e)

by_sound : (bound bracketed : List Token → Option (RawTop × List Token)) → SoundBehind (sign AllTypes) bound → SoundBehind (sign Open) bracketed → (room : ℕ) (tokens : List Token) (top : RawTop) (rest : List Token) (r : Option (List Token)) → behind AllTypes tokens ≡ r →
    goes_on r bound (goes_on (behind Open tokens) bracketed (plain_top_in room tokens)) ≡ Some (top, rest) → IsTop tokens rest top
by_sound bound bracketed s b room tokens top rest None h e = other_sound bracketed b room tokens top rest (behind Open tokens) refl e
by_sound bound bracketed s b room tokens top rest (Some inner) h e =
    subst (λ (ts : List Token). IsTop ts rest top) (sym (behind_back AllTypes tokens inner h)) (s inner top rest e)

-- what is read as a declared type is one
pub top_sound : (room : ℕ) → SoundTop (top_in room)
unfolding top_in
top_sound zero tokens top rest e = by_sound no_top no_top (none_sound (sign AllTypes)) (none_sound (sign Open)) zero tokens top rest (behind AllTypes tokens) refl e
top_sound (suc room) tokens top rest e =
    by_sound (bound_top_by (top_in room) room) (bracketed_top_by (top_in room) room (suc room)) (bound_sound (top_in room) (top_sound room) room)
    (λ ts x xs h. bracket_sound (top_in room) (top_sound room) room (suc room) ts x xs (begins_top (first_sign ts)) h) (suc room) tokens top rest (behind AllTypes tokens) refl e

-- a declared type takes at least one token
pub top_fewer : (tokens rest : List Token) (top : RawTop) → IsTop tokens rest top → length rest < length tokens
top_fewer _ rest top (for_all_types {tokens = inner} {middle = middle} {vs = vs} {top = bare} d e w) =
    let h = variables_fewer true inner (sign CloseList ∷ sign Colon ∷ middle) vs d in let k = top_fewer middle rest bare e in omega arith
top_fewer _ rest top (bracketed_top {tokens = inner} d) = let h = top_fewer inner (sign Close ∷ rest) top d in omega arith
top_fewer tokens rest top (plain_top {t = t} d w) = type_fewer tokens rest t d
top_fewer tokens rest top (one_argument {middle = middle} {t = t} {u = u} d e w) =
    let h = type_fewer tokens (sign Arrow ∷ middle) t d in let k = type_fewer middle rest u e in omega arith
top_fewer _ rest top (product {tokens = inner} {middle = middle} {ts = ts} {u = u} d e w) =
    let h = types_fewer Star inner (sign Close ∷ sign Arrow ∷ middle) ts d in let k = type_fewer middle rest u e in omega arith

-- the types of a product are no deeper than the scan of the nesting lets them be
product_depth : (s : Nesting) (tokens rest : List Token) (ts : RawTypes) → IsTypes Star tokens rest ts → within s tokens ≡ true → s.count ≤ 200 → raw_types_depth ts ≤ 201
product_depth s tokens rest _ (last_type {t = t} d) h le = let k = type_depth s tokens rest t d h le in omega arith
product_depth s tokens rest _ (more_types {middle = middle} {t = t} {ts = ts} d e) h le =
    let k = type_depth s tokens (sign Star ∷ middle) t d h le in
    let l = product_depth s middle rest ts e (type_passes s tokens (sign Star ∷ middle) t d h) le in
    omega arith

-- a declared type's arguments and its result are at most 201 deep
abbrev pub IsShallowTop : RawTop → Type 0
IsShallowTop top = (raw_types_depth top.arguments ≤ 201) × (raw_type_depth top.result ≤ 201)

-- they are no deeper than the scan of the nesting lets them be
pub top_depth : (s : Nesting) (tokens rest : List Token) (top : RawTop) → IsTop tokens rest top → within s tokens ≡ true → s.count ≤ 200 → IsShallowTop top
top_depth s _ rest top (for_all_types {tokens = inner} {middle = middle} {vs = vs} {top = bare} d e w) h le =
    let open_left = binds s (sign OpenList ∷ inner) h in
    let behind_head = bound s (sign OpenList ∷ inner) h in
    let behind_list = variables_pass true (with_pending s) inner (sign CloseList ∷ sign Colon ∷ middle) vs d (inside_list (with_pending s) inner behind_head) in
    subst (λ (x : RawTop). IsShallowTop x) (sym w) (top_depth (with_pending s) middle rest bare e behind_list (omega arith))
top_depth s _ rest top (bracketed_top {tokens = inner} d) h le =
    let open_left = opens s inner h in
    top_depth (deeper s) inner (sign Close ∷ rest) top d (inside s inner h) (omega arith)
top_depth s tokens rest top (plain_top {t = t} d w) h le =
    let k = type_depth s tokens rest t d h le in
    subst (λ (x : RawTop). IsShallowTop x) (sym w) (omega arith, omega arith)
top_depth s tokens rest top (one_argument {middle = middle} {t = t} {u = u} d e w) h le =
    let j = type_depth s tokens (sign Arrow ∷ middle) t d h le in
    let k = type_depth s middle rest u e (type_passes s tokens (sign Arrow ∷ middle) t d h) le in
    subst (λ (x : RawTop). IsShallowTop x) (sym w) (omega arith, omega arith)
top_depth s _ rest top (product {tokens = inner} {middle = middle} {ts = ts} {u = u} d e w) h le =
    let open_left = opens s inner h in
    let within_bracket = inside s inner h in
    let j = product_depth (deeper s) inner (sign Close ∷ sign Arrow ∷ middle) ts d within_bracket (omega arith) in
    let k = type_depth s middle rest u e (types_pass Star (deeper s) (λ ts k. k) inner (sign Close ∷ sign Arrow ∷ middle) ts d within_bracket) le in
    subst (λ (x : RawTop). IsShallowTop x) (sym w) (j, omega arith)

-- a type begins with no sign
type_is_no_sign : (tokens rest : List Token) (t : RawType) → IsType tokens rest t → first_sign tokens ≡ None
type_is_no_sign tokens rest t type_individual = refl
type_is_no_sign tokens rest t type_truth = refl
type_is_no_sign tokens rest t type_kind = refl
type_is_no_sign tokens rest t type_variable = refl
type_is_no_sign _ rest _ (type_constant {t = t} {c = c} w) = word_is_no_sign t c w rest
type_is_no_sign _ rest _ (type_applied {t = t} {tokens = inner} {c = c} w d) = word_is_no_sign t c w (sign Open ∷ inner)

no_sign : (next : Option Sign) (s : Sign) → next ≡ None → next ≡ Some s → ⊥
no_sign next s e h = none-some s (sym e ∙ h)

top_type : (room : ℕ) (tokens rest : List Token) (t : RawType) → IsType tokens rest t → top_in room tokens ≡ plain_top_in room tokens
top_type room tokens rest t d =
    let n = type_is_no_sign tokens rest t d in
    top_plain room tokens (no_sign (first_sign tokens) AllTypes n) (no_sign (first_sign tokens) Open n)

from_read : (room : ℕ) (t : RawType) (rest : List Token) → behind Arrow rest ≡ None → from_type room t rest ≡ Some (mapping RawTypes.none t, rest)
from_read room t rest e = ap (λ r. goes_on r (λ rest. made (mapping (RawTypes.more t RawTypes.none)) (type_in room rest)) (Some (mapping RawTypes.none t, rest))) e

plain_read : (room : ℕ) (tokens rest : List Token) (t : RawType) → type_in room tokens ≡ Some (t, rest) → plain_top_in room tokens ≡ from_type room t rest
unfolding plain_top_in
plain_read room tokens rest t e = ap (λ r. then r (λ x. from_type room x.0 x.1)) e

-- where a type comes first in a bracket
first_read : (inside outside : ℕ) (tokens middle rest : List Token) (t : RawType) → IsType tokens middle t → type_in inside tokens ≡ Some (t, middle) →
    bracketed_top_by (top_in inside) inside outside tokens ≡ after_first inside outside t (first_sign middle) middle
unfolding first_in_bracket
first_read inside outside tokens middle rest t d e =
    ap (λ next. cond (begins_top next) (ended_by Close (top_in inside tokens)) (first_in_bracket inside outside tokens)) (type_is_no_sign tokens middle t d)
    ∙ ap (λ r. then r (λ x. after_first inside outside x.0 (first_sign x.1) x.1)) e

-- a declared type in a bracket
bracket_read : (room outside : ℕ) (s : Nesting) (tokens rest : List Token) (top : RawTop) → IsTop tokens (sign Close ∷ rest) top → top_in room tokens ≡ Some (top, sign Close ∷ rest) → within (deeper s) tokens ≡ true → 200 ≤ room + suc s.count → behind Arrow rest ≡ None →
    bracketed_top_by (top_in room) room outside tokens ≡ Some (top, rest)
bracket_read room outside s tokens rest top (for_all_types d e w) ih h le ends = ended_goes Close (top_in room tokens) top rest ih
bracket_read room outside s tokens rest top (bracketed_top d) ih h le ends = ended_goes Close (top_in room tokens) top rest ih
bracket_read room outside s tokens rest top (product d e w) ih h le ends = ended_goes Close (top_in room tokens) top rest ih
bracket_read room outside s tokens rest top (plain_top {t = t} d w) ih h le ends =
    first_read room outside tokens (sign Close ∷ rest) rest t d (type_read room (deeper s) tokens (sign Close ∷ rest) t d h le refl)
    ∙ from_read outside t rest ends
    ∙ ap (λ (x : RawTop). Some (x, rest)) (sym w)
bracket_read room outside s tokens rest top (one_argument {middle = middle} {t = t} {u = u} d e w) ih h le ends =
    let result_reads = type_read room (deeper s) middle (sign Close ∷ rest) u e (type_passes (deeper s) tokens (sign Arrow ∷ middle) t d h) le refl in
    first_read room outside tokens (sign Arrow ∷ middle) rest t d (type_read room (deeper s) tokens (sign Arrow ∷ middle) t d h le refl)
    ∙ ended_goes Close (made (mapping (RawTypes.more t RawTypes.none)) (type_in room middle)) (mapping (RawTypes.more t RawTypes.none) u) rest (made_goes (mapping (RawTypes.more t RawTypes.none)) (type_in room middle) u (sign Close ∷ rest) result_reads)
    ∙ ap (λ (x : RawTop). Some (x, rest)) (sym w)

-- a product in a bracket, with its result behind it
product_read : (room outside : ℕ) (s : Nesting) (tokens middle rest : List Token) (ts : RawTypes) (u : RawType) → IsTypes Star tokens (sign Close ∷ sign Arrow ∷ middle) ts → type_in outside middle ≡ Some (u, rest) → within (deeper s) tokens ≡ true → 200 ≤ room + suc s.count →
    bracketed_top_by (top_in room) room outside tokens ≡ Some (mapping ts u, rest)
product_read room outside s tokens middle rest _ u (last_type {t = t} d) result_reads h le =
    first_read room outside tokens (sign Close ∷ sign Arrow ∷ middle) rest t d (type_read room (deeper s) tokens (sign Close ∷ sign Arrow ∷ middle) t d h le refl)
    ∙ made_goes (mapping (RawTypes.more t RawTypes.none)) (type_in outside middle) u rest result_reads
product_read room outside s tokens middle rest _ u (more_types {middle = next} {t = t} {ts = ts} d e) result_reads h le =
    let first = type_read room (deeper s) tokens (sign Star ∷ next) t d h le refl in
    let chain = types_chain Star (λ tokens. refl) room (deeper s) (λ tokens k. k) tokens (sign Close ∷ sign Arrow ∷ middle) (RawTypes.more t ts) (more_types d e) h le refl in
    let types = t ∷ types_list ts in
    let listed = chain_followed (type_in room) (type_shrinks room) Star tokens (sign Star ∷ next) (sign Close ∷ sign Arrow ∷ middle) t types first chain refl in
    first_read room outside tokens (sign Star ∷ next) rest t d first
    ∙ ap (λ r. then r (λ x. result_in outside x.0 x.1)) (ended_goes Close (followed_all (type_in room) Star (t ∷ []) (sign Star ∷ next)) types (sign Arrow ∷ middle) listed)
    ∙ made_goes (mapping (raw_types_of types)) (type_in outside middle) u rest result_reads
    ∙ ap (λ (vs : RawTypes). Some (mapping vs u, rest)) (types_listed (RawTypes.more t ts))

binders_read : (room : ℕ) (s : Nesting) (tokens rest : List Token) (vs : List RawVariable) → IsVariables true tokens (sign CloseList ∷ sign Colon ∷ rest) vs → within (deeper s) tokens ≡ true → 200 ≤ room + suc s.count → type_variables_in room (sign OpenList ∷ tokens) ≡ Some (vs, rest)
unfolding type_variables_in
binders_read room s tokens rest vs d h le =
    ended_goes Colon (ended_by CloseList (variables_in true room tokens)) vs rest
    (ended_goes CloseList (variables_in true room tokens) vs (sign Colon ∷ rest) (variables_read true room s tokens (sign Colon ∷ rest) vs d h le))

-- where the scan of the nesting lets a declared type through, and neither a bracket nor an arrow follows it, it is read
pub top_read : (room : ℕ) (s : Nesting) (tokens rest : List Token) (top : RawTop) → IsTop tokens rest top → within s tokens ≡ true → 200 ≤ room + s.count → behind Open rest ≡ None → behind Arrow rest ≡ None → top_in room tokens ≡ Some (top, rest)
top_read room s _ rest top (for_all_types {tokens = inner} {middle = middle} {vs = vs} {top = bare} d e w) h le ends arrow =
    let open_left = binds s (sign OpenList ∷ inner) h in
    let some_room : 0 < room = omega arith in
    let room_left : 200 ≤ (room - 1) + suc s.count = omega arith in
    let more_left : 200 ≤ (room - 1) + suc (suc s.count) = omega arith in
    let in_list = inside_list (with_pending s) inner (bound s (sign OpenList ∷ inner) h) in
    let behind_list = variables_pass true (with_pending s) inner (sign CloseList ∷ sign Colon ∷ middle) vs d in_list in
    let binders = binders_read (room - 1) (with_pending s) inner middle vs d in_list more_left in
    let ih = top_read (room - 1) (with_pending s) middle rest bare e behind_list room_left ends arrow in
    top_step room (sign AllTypes ∷ sign OpenList ∷ inner)
    ∙ bound_step room (sign OpenList ∷ inner) some_room
    ∙ ap (λ r. then r (λ x. made (under x.0) (top_in (room - 1) x.1))) binders
    ∙ made_goes (under vs) (top_in (room - 1) middle) bare rest ih
    ∙ ap (λ (x : RawTop). Some (x, rest)) (sym w)
top_read room s _ rest top (bracketed_top {tokens = inner} d) h le ends arrow =
    let open_left = opens s inner h in
    let some_room : 0 < room = omega arith in
    let room_left : 200 ≤ (room - 1) + suc s.count = omega arith in
    let ih = top_read (room - 1) (deeper s) inner (sign Close ∷ rest) top d (inside s inner h) room_left refl refl in
    top_step room (sign Open ∷ inner)
    ∙ bracket_step room inner some_room
    ∙ bracket_read (room - 1) room s inner rest top d ih (inside s inner h) room_left arrow
top_read room s tokens rest top (plain_top {t = t} d w) h le ends arrow =
    top_type room tokens rest t d
    ∙ plain_read room tokens rest t (type_read room s tokens rest t d h le ends)
    ∙ from_read room t rest arrow
    ∙ ap (λ (x : RawTop). Some (x, rest)) (sym w)
top_read room s tokens rest top (one_argument {middle = middle} {t = t} {u = u} d e w) h le ends arrow =
    top_type room tokens (sign Arrow ∷ middle) t d
    ∙ plain_read room tokens (sign Arrow ∷ middle) t (type_read room s tokens (sign Arrow ∷ middle) t d h le refl)
    ∙ made_goes (mapping (RawTypes.more t RawTypes.none)) (type_in room middle) u rest (type_read room s middle rest u e (type_passes s tokens (sign Arrow ∷ middle) t d h) le ends)
    ∙ ap (λ (x : RawTop). Some (x, rest)) (sym w)
top_read room s _ rest top (product {tokens = inner} {middle = middle} {ts = ts} {u = u} d e w) h le ends arrow =
    let open_left = opens s inner h in
    let some_room : 0 < room = omega arith in
    let room_left : 200 ≤ (room - 1) + suc s.count = omega arith in
    let behind_bracket = types_pass Star (deeper s) (λ ts k. k) inner (sign Close ∷ sign Arrow ∷ middle) ts d (inside s inner h) in
    top_step room (sign Open ∷ inner)
    ∙ bracket_step room inner some_room
    ∙ product_read (room - 1) room s inner middle rest ts u d (type_read room s middle rest u e behind_bracket le ends) (inside s inner h) room_left
    ∙ ap (λ (x : RawTop). Some (x, rest)) (sym w)

-- one front of the tokens at most spells a declared type, where neither a bracket nor an arrow follows, and it spells one
pub one_top : (s : Nesting) (tokens xs ys : List Token) (top other : RawTop) → within s tokens ≡ true → IsTop tokens xs top → IsTop tokens ys other → behind Open xs ≡ None → behind Arrow xs ≡ None → behind Open ys ≡ None → behind Arrow ys ≡ None → (top ≡ other) × (xs ≡ ys)
one_top s tokens xs ys top other h d e p q u v =
    some_pair_parts top other xs ys (sym (top_read 200 s tokens xs top d h (omega arith) p q) ∙ top_read 200 s tokens ys other e h (omega arith) u v)
