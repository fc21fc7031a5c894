-- The slow reader of the variables of quantifiers, against the grammar.
use Rattle.std.proofs.Common.{◌≡◌, ◌<◌, ◌≤◌, ◌+◌, ℕ, suc, Bool, true, false, List, [], ◌∷◌, length, Option, Some, None, refl, sym, ◌∙◌, ap, subst, arith}
use Rattle.std.proofs.lemmas.Option.{some_pair_parts, none-some}
use Rattle.tptp_lex.specs.declared.signs.Sign.TheVariants.{Open, CloseList, Comma, Colon}
use Rattle.tptp_reader.specs.Raw.{Name, RawType, RawVariable, RawForm, Quantifier, written_depth}
use Rattle.tptp_reader.specs.Tokens.{Token, lower, upper, defined, quoted, distinct, number, sign}
use Rattle.tptp_reader.specs.Rows.{Nesting, deeper}
use Rattle.tptp_reader.specs.Limits.{IsNested}
use Rattle.tptp_reader.specs.Grammar.{IsVariable, untyped, with_type, IsVariables, last_variable, more_variables, quantify}
use Rattle.tptp_reader.specs.Within.{within}
use Rattle.tptp_reader.specs.Parsing.{behind}
use Rattle.tptp_reader.specs.SlowLists.{goes_on, made}
use Rattle.tptp_reader.specs.SlowTypes.{type_in, written_type_in, variable_of, variable_in, variables_in}
use Rattle.tptp_reader.proofs.Behind.{behind_back}
use Rattle.tptp_reader.proofs.ReadLaws.{made_back, made_goes}
use Rattle.tptp_reader.proofs.Lists.{Shrinks, Chain, last, more, chain_read, read_chain}
use Rattle.tptp_reader.proofs.TypeLaws.{type_sound, type_fewer, type_passes, type_depth, type_read}
use Rattle.tptp_reader.proofs.TypeSteps.{variable_upper}

colon_sound : (room : ℕ) (x : Name) (tokens : List Token) (t : Option RawType) (rest : List Token) (r : Option (List Token)) → behind Colon tokens ≡ r →
    goes_on r (λ rest. made Some (type_in room rest)) (Some (None, tokens)) ≡ Some (t, rest) → IsVariable true (upper x ∷ tokens) rest (variable_of x t)
colon_sound room x tokens t rest None b e =
    let same = some_pair_parts None t tokens rest e in
    subst (λ (ts : List Token). IsVariable true (upper x ∷ tokens) ts (variable_of x t)) same.1 (untyped (ap (variable_of x) (sym same.0)))
colon_sound room x tokens t rest (Some inner) b e =
    let m = made_back Some (type_in room inner) t rest e in
    subst (λ (ts : List Token). IsVariable true (upper x ∷ ts) rest (variable_of x t)) (sym (behind_back Colon tokens inner b))
    (with_type (type_sound room inner m.from rest m.reads) (ap (variable_of x) (sym m.makes)))

written_sound : (typed : Bool) (room : ℕ) (x : Name) (tokens : List Token) (t : Option RawType) (rest : List Token) → written_type_in typed room tokens ≡ Some (t, rest) → IsVariable typed (upper x ∷ tokens) rest (variable_of x t)
written_sound false room x tokens t rest e =
    let same = some_pair_parts None t tokens rest e in
    subst (λ (ts : List Token). IsVariable false (upper x ∷ tokens) ts (variable_of x t)) same.1 (untyped (ap (variable_of x) (sym same.0)))
written_sound true room x tokens t rest e = colon_sound room x tokens t rest (behind Colon tokens) refl e

pub variable_sound : (typed : Bool) (room : ℕ) (tokens : List Token) (v : RawVariable) (rest : List Token) → variable_in typed room tokens ≡ Some (v, rest) → IsVariable typed tokens rest v
unfolding variable_in
variable_sound typed room (upper x ∷ tokens) v rest e =
    let m = made_back (variable_of x) (written_type_in typed room tokens) v rest e in
    subst (IsVariable typed (upper x ∷ tokens) rest) m.makes (written_sound typed room x tokens m.from rest m.reads)
variable_sound typed room [] v rest e = absurd (none-some (v, rest) e)
variable_sound typed room (lower f ∷ tokens) v rest e = absurd (none-some (v, rest) e)
variable_sound typed room (defined word ∷ tokens) v rest e = absurd (none-some (v, rest) e)
variable_sound typed room (quoted f ∷ tokens) v rest e = absurd (none-some (v, rest) e)
variable_sound typed room (distinct ∷ tokens) v rest e = absurd (none-some (v, rest) e)
variable_sound typed room (number text ∷ tokens) v rest e = absurd (none-some (v, rest) e)
variable_sound typed room (sign s ∷ tokens) v rest e = absurd (none-some (v, rest) e)

-- a variable takes at least one token
pub variable_fewer : (typed : Bool) (tokens rest : List Token) (v : RawVariable) → IsVariable typed tokens rest v → length rest < length tokens
variable_fewer typed _ rest v (untyped w) = omega arith
variable_fewer typed _ rest v (with_type {tokens = inner} {t = t} d w) = let h = type_fewer inner rest t d in omega arith

pub variable_shrinks : (typed : Bool) (room : ℕ) → Shrinks (variable_in typed room)
variable_shrinks typed room = record { fewer = λ tokens v rest e. (let h = variable_fewer typed tokens rest v (variable_sound typed room tokens v rest e) in omega arith) }

-- a variable leaves the nesting as it is
pub variable_passes : (typed : Bool) (s : Nesting) (tokens rest : List Token) (v : RawVariable) → IsVariable typed tokens rest v → within s tokens ≡ true → within s rest ≡ true
variable_passes typed s _ rest v (untyped w) h = h
variable_passes typed s _ rest v (with_type {tokens = inner} {t = t} d w) h = type_passes s inner rest t d h

-- its type is no deeper than the scan of the nesting lets it be
pub variable_depth : (typed : Bool) (s : Nesting) (tokens rest : List Token) (v : RawVariable) → IsVariable typed tokens rest v → within s tokens ≡ true → s.count ≤ 200 → s.count + written_depth v.type ≤ 201
variable_depth typed s _ rest v (untyped w) h le =
    subst (λ (x : RawVariable). s.count + written_depth x.type ≤ 201) (sym w) (omega arith)
variable_depth typed s _ rest v (with_type {tokens = inner} {t = t} d w) h le =
    subst (λ (x : RawVariable). s.count + written_depth x.type ≤ 201) (sym w) (type_depth s inner rest t d h le)

-- where the scan of the nesting lets a variable through, and neither a bracket nor a colon follows it, it is read
pub variable_read : (typed : Bool) (room : ℕ) (s : Nesting) (tokens rest : List Token) (v : RawVariable) → IsVariable typed tokens rest v → within s tokens ≡ true → 200 ≤ room + s.count → behind Open rest ≡ None → behind Colon rest ≡ None →
    variable_in typed room tokens ≡ Some (v, rest)
variable_read false room s _ rest v (untyped {x = x} w) h le ends colon = variable_upper false room x rest ∙ ap (λ (y : RawVariable). Some (y, rest)) (sym w)
variable_read true room s _ rest v (untyped {x = x} w) h le ends colon =
    variable_upper true room x rest
    ∙ ap (λ r. made (variable_of x) (goes_on r (λ rest. made Some (type_in room rest)) (Some (None, rest)))) colon
    ∙ ap (λ (y : RawVariable). Some (y, rest)) (sym w)
variable_read typed room s _ rest v (with_type {x = x} {tokens = inner} {t = t} d w) h le ends colon =
    variable_upper true room x (sign Colon ∷ inner)
    ∙ made_goes (variable_of x) (made Some (type_in room inner)) (Some t) rest (made_goes Some (type_in room inner) t rest (type_read room s inner rest t d h le ends))
    ∙ ap (λ (y : RawVariable). Some (y, rest)) (sym w)

-- what is read as variables is some of them
chain_variables : (typed : Bool) (room : ℕ) (tokens rest : List Token) (vs : List RawVariable) → Chain (variable_in typed room) Comma tokens rest vs → IsVariables typed tokens rest vs
chain_variables typed room tokens rest _ (last {x = v} e) = last_variable (variable_sound typed room tokens v rest e)
chain_variables typed room tokens rest _ (more {middle = middle} {x = v} {xs = vs} e c) = more_variables (variable_sound typed room tokens v (sign Comma ∷ middle) e) (chain_variables typed room middle rest vs c)

pub variables_sound : (typed : Bool) (room : ℕ) (tokens : List Token) (vs : List RawVariable) (rest : List Token) → variables_in typed room tokens ≡ Some (vs, rest) → IsVariables typed tokens rest vs
unfolding variables_in
variables_sound typed room tokens vs rest e = chain_variables typed room tokens rest vs (read_chain (variable_in typed room) Comma tokens vs rest e)

pub variables_fewer : (typed : Bool) (tokens rest : List Token) (vs : List RawVariable) → IsVariables typed tokens rest vs → length rest < length tokens
variables_fewer typed tokens rest _ (last_variable {v = v} d) = variable_fewer typed tokens rest v d
variables_fewer typed tokens rest _ (more_variables {middle = middle} {v = v} {vs = vs} d e) =
    let h = variable_fewer typed tokens (sign Comma ∷ middle) v d in let k = variables_fewer typed middle rest vs e in omega arith

-- variables in a bracket leave the nesting as it is there
pub variables_pass : (typed : Bool) (s : Nesting) (tokens rest : List Token) (vs : List RawVariable) → IsVariables typed tokens rest vs → within (deeper s) tokens ≡ true → within (deeper s) rest ≡ true
variables_pass typed s tokens rest _ (last_variable {v = v} d) h = variable_passes typed (deeper s) tokens rest v d h
variables_pass typed s tokens rest _ (more_variables {middle = middle} {v = v} {vs = vs} d e) h =
    variables_pass typed s middle rest vs e (variable_passes typed (deeper s) tokens (sign Comma ∷ middle) v d h)

-- the type of each is at most 201 deep
abbrev pub AreShallow : List RawVariable → Type 0
AreShallow [] = Unit {0}
AreShallow (v ∷ vs) = (written_depth v.type ≤ 201) × AreShallow vs

pub variables_depth : (typed : Bool) (s : Nesting) (tokens rest : List Token) (vs : List RawVariable) → IsVariables typed tokens rest vs → within (deeper s) tokens ≡ true → suc s.count ≤ 200 → AreShallow vs
variables_depth typed s tokens rest _ (last_variable {v = v} d) h le = (let k = variable_depth typed (deeper s) tokens rest v d h le in omega arith, tt)
variables_depth typed s tokens rest _ (more_variables {middle = middle} {v = v} {vs = vs} d e) h le = (
  let k = variable_depth typed (deeper s) tokens (sign Comma ∷ middle) v d h le in omega arith,
  variables_depth typed s middle rest vs e (variable_passes typed (deeper s) tokens (sign Comma ∷ middle) v d h) le,
)

-- a formula under quantifiers of such variables is within the limits of nesting where it is one
pub nested_under : (q : Quantifier) (vs : List RawVariable) (f : RawForm) → AreShallow vs → IsNested f → IsNested (quantify q vs f)
nested_under q [] f h n = n
nested_under q (v ∷ vs) f h n = (h.0, nested_under q vs f h.1 n)

variables_chain : (typed : Bool) (room : ℕ) (s : Nesting) (tokens rest : List Token) (vs : List RawVariable) → IsVariables typed tokens rest vs → within (deeper s) tokens ≡ true → 200 ≤ room + suc s.count → behind Open rest ≡ None → behind Colon rest ≡ None →
    Chain (variable_in typed room) Comma tokens rest vs
variables_chain typed room s tokens rest _ (last_variable {v = v} d) h le ends colon = last (variable_read typed room (deeper s) tokens rest v d h le ends colon)
variables_chain typed room s tokens rest _ (more_variables {middle = middle} {v = v} {vs = vs} d e) h le ends colon =
    more (variable_read typed room (deeper s) tokens (sign Comma ∷ middle) v d h le refl refl)
    (variables_chain typed room s middle rest vs e (variable_passes typed (deeper s) tokens (sign Comma ∷ middle) v d h) le ends colon)

-- variables in square brackets are read, where the scan of the nesting lets them through
pub variables_read : (typed : Bool) (room : ℕ) (s : Nesting) (tokens rest : List Token) (vs : List RawVariable) → IsVariables typed tokens (sign CloseList ∷ rest) vs → within (deeper s) tokens ≡ true → 200 ≤ room + suc s.count →
    variables_in typed room tokens ≡ Some (vs, sign CloseList ∷ rest)
unfolding variables_in
variables_read typed room s tokens rest vs d h le =
    chain_read (variable_in typed room) (variable_shrinks typed room) Comma tokens (sign CloseList ∷ rest) vs (variables_chain typed room s tokens (sign CloseList ∷ rest) vs d h le refl refl) refl
