-- Where the rows before the grammar refuse nothing, a statement of the grammar is read, and is within the limits but for its
-- formula's depth.
use Rattle.std.proofs.Common.{◌≡◌, ◌||◌, ◌+◌, ◌-◌, ℕ, Bool, true, false, cond, List, [], ◌∷◌, take, Option, Some, None, refl, sym, ◌∙◌, ap, arith}
use Rattle.std.specs.Prelude.{codes}
use Rattle.std.specs.Option.{option_map}
use Rattle.std.specs.Str.{bytes_eq}
use Rattle.std.proofs.lemmas.Slice.Eq.{bytes_eq-Decides}
use Rattle.std.proofs.lemmas.Bool.{and_right}
use Rattle.std.proofs.lemmas.Option.{none-some, same_Some}
use Rattle.tptp_lex.specs.declared.signs.Sign.TheVariants.{Open, Close, OpenList, CloseList, Comma, Stop}
use Rattle.tptp_reader.specs.declared.tree.RawRole.{RawRole}
use Rattle.tptp_reader.specs.Raw.{Name, RawForm, RawTop, RawStatement}
use Rattle.tptp_reader.specs.Limits.{IsNested}
use Rattle.tptp_reader.specs.Tokens.{Token, lower, upper, defined, quoted, distinct, number, sign}
use Rattle.tptp_reader.specs.Brackets.{to_comma, formula_part}
use Rattle.tptp_reader.specs.Rows.{Fault, or_else, is_formula_word, role_of, statement_row, role_row, nested, unnested, nesting_row, token_row, formula_rows, early_fault}
use Rattle.tptp_reader.specs.Within.{within}
use Rattle.tptp_reader.specs.Parsing.{behind, then}
use Rattle.tptp_reader.specs.Grammar.{name_of, unescaped, language_of, IsEnding, IsNames, IsStatement, formula, typing, whole_file, part_of_file}
use Rattle.tptp_reader.specs.SlowLists.{goes_on}
use Rattle.tptp_reader.specs.SlowWords.{name_in}
use Rattle.tptp_reader.specs.SlowTops.{typing_in}
use Rattle.tptp_reader.specs.SlowForms.{formula_in}
use Rattle.tptp_reader.specs.SlowStatements.{lower_in, is_last, with_comma, whole_inclusion, part_inclusion, inclusion_in, typed_statement_in, stated_by, stated_in, bodied_in, annotated_in, worded_by, worded_in, statement_in, statements}
use Rattle.tptp_reader.specs.Kept.{forms}
use Rattle.tptp_reader.proofs.Within.{part_within}
use Rattle.tptp_reader.proofs.WordLaws.{name_read}
use Rattle.tptp_reader.proofs.TopLaws.{IsShallowTop}
use Rattle.tptp_reader.proofs.TypingLaws.{typing_read, typing_depth}
use Rattle.tptp_reader.proofs.FormsComplete.{formula_complete}
use Rattle.tptp_reader.proofs.NameLaws.{lower_goes, quoted_goes, comma_goes, names_go}
use Rattle.tptp_reader.proofs.Endings.{ending_follows, ended_goes}

-- the front of a fof or tff statement
abbrev front : Name → Token → Name → List Token → List Token
front word t role body = lower word ∷ sign Open ∷ t ∷ sign Comma ∷ lower role ∷ sign Comma ∷ body

neither_fault : (a b : Option Fault) → or_else a b ≡ None → (a ≡ None) × (b ≡ None)
neither_fault None b e = (refl, e)
neither_fault (Some fault) b e = absurd (none-some fault (sym e))

no_place : {A B : Type 0} (f : A → B) (o : Option A) → option_map f o ≡ None → o ≡ None
no_place f None e = refl
no_place f (Some n) e = absurd (none-some (f n) (sym e))

added_taken : (n : ℕ) → (6 + n) - 6 ≡ n
added_taken n = omega arith

-- the formula part is what stands behind the second comma, up to the next
part_is : (word role name : Name) (t : Token) (body : List Token) → name_of t ≡ Some name → formula_part (front word t role body) ≡ take (to_comma 0 body) body
part_is word role name (lower text) body e = ap (λ n. take n body) (added_taken (to_comma 0 body))
part_is word role name (quoted text) body e = ap (λ n. take n body) (added_taken (to_comma 0 body))
part_is word role name (number text) body e = ap (λ n. take n body) (added_taken (to_comma 0 body))
part_is word role name (upper text) body e = absurd (none-some name e)
part_is word role name (defined w) body e = absurd (none-some name e)
part_is word role name distinct body e = absurd (none-some name e)
part_is word role name (sign s) body e = absurd (none-some name e)

language_word : (tff fof : Bool) (typed : Bool) → cond tff (Some true) (cond fof (Some false) None) ≡ Some typed → (fof || tff) ≡ true
language_word true true typed e = refl
language_word true false typed e = refl
language_word false true typed e = refl
language_word false false typed e = absurd (none-some typed e)

-- a formula part that the rows let through is within the limit of nesting
part_lets : (word role name : Name) (typed : Bool) (t : Token) (body : List Token) → language_of word ≡ Some typed → name_of t ≡ Some name → early_fault (front word t role body) ≡ None → within unnested body ≡ true
part_lets word role name typed t body l n e =
    let tokens = front word t role body in
    let rows = (neither_fault (statement_row word) (cond (is_formula_word word) (formula_rows word tokens) None) e).1 in
    let is_word = language_word (bytes_eq word (codes "tff")) (bytes_eq word (codes "fof")) typed l in
    let some_rows : formula_rows word tokens ≡ None = sym (ap (λ (b : Bool). cond b (formula_rows word tokens) None) is_word) ∙ rows in
    let later = (neither_fault (role_row word tokens) (or_else (nesting_row tokens) (token_row tokens)) some_rows).1 in
    let nesting = (neither_fault (nesting_row tokens) (token_row tokens) later).0 in
    let none = no_place _ (nested 200 unnested (formula_part tokens)) nesting in
    part_within unnested body (sym (ap (nested 200 unnested) (part_is word role name t body n)) ∙ none)

not_include : (word : Name) (typed : Bool) (b : Bool) → bytes_eq word (codes "include") ≡ b → language_of word ≡ Some typed → b ≡ false
not_include word typed false e l = refl
not_include word typed true e l =
    let is : word ≡ codes "include" = (bytes_eq-Decides word (codes "include")).0 e in
    absurd (none-some typed (sym (ap language_of is) ∙ l))

not_type : (role : Name) (kind : RawRole) (b : Bool) → bytes_eq role (codes "type") ≡ b → role_of role ≡ Some kind → b ≡ false
not_type role kind false e r = refl
not_type role kind true e r =
    let is : role ≡ codes "type" = (bytes_eq-Decides role (codes "type")).0 e in
    absurd (none-some kind (sym (ap role_of is) ∙ r))

stated_read : (typed : Bool) (name role : Name) (kind : RawRole) (body ending : List Token) (f : RawForm) → role_of role ≡ Some kind → formula_in forms typed 200 body ≡ Some (f, ending) → IsEnding ending → stated_in forms statements typed name role body ≡ Some (RawStatement.formula name kind f)
unfolding stated_in
stated_read typed name role kind body ending f r e d =
    ap (λ k. stated_by forms statements typed name k body) r
    ∙ ap (λ o. then o (λ g. Some (RawStatement.formula name kind g))) (ended_goes (formula_in forms typed 200 body) f ending e d)

typed_read : (name subject : Name) (top : RawTop) (body ending : List Token) → typing_in 200 body ≡ Some ((subject, top), ending) → IsEnding ending → typed_statement_in name body ≡ Some (RawStatement.typing name subject top)
unfolding typed_statement_in
typed_read name subject top body ending e d =
    ap (λ o. then o (λ x. Some (RawStatement.typing name x.0 x.1))) (ended_goes (typing_in 200 body) (subject, top) ending e d)

annotated_read : (typed : Bool) (t : Token) (name role : Name) (body : List Token) → name_of t ≡ Some name → annotated_in forms statements typed (t ∷ sign Comma ∷ lower role ∷ sign Comma ∷ body) ≡ bodied_in forms statements typed name role body
unfolding annotated_in
annotated_read typed t name role body n =
    ap (λ o. then o (λ x. then (with_comma (lower_in x.1)) (λ y. bodied_in forms statements typed x.0 y.0 y.1)))
    (comma_goes (name_in (t ∷ sign Comma ∷ lower role ∷ sign Comma ∷ body)) name (lower role ∷ sign Comma ∷ body) (name_read t name (sign Comma ∷ lower role ∷ sign Comma ∷ body) n))
    ∙ ap (λ o. then o (λ y. bodied_in forms statements typed name y.0 y.1)) (comma_goes (lower_in (lower role ∷ sign Comma ∷ body)) role body (lower_goes role (sign Comma ∷ body)))

word_read : (word : Name) (tokens : List Token) → statement_in forms statements (lower word ∷ sign Open ∷ tokens) ≡ worded_in forms statements word tokens
unfolding statement_in
word_read word tokens = ap (λ o. then o (λ x. then (behind Open x.1) (λ rest. worded_in forms statements x.0 rest))) (lower_goes word (sign Open ∷ tokens))

front_read : (word : Name) (typed : Bool) (t : Token) (name role : Name) (body : List Token) → language_of word ≡ Some typed → name_of t ≡ Some name → statement_in forms statements (front word t role body) ≡ bodied_in forms statements typed name role body
front_read word typed t name role body l n =
    word_read word (t ∷ sign Comma ∷ lower role ∷ sign Comma ∷ body)
    ∙ ap (λ (b : Bool). cond b (option_map statements.of_other (inclusion_in (t ∷ sign Comma ∷ lower role ∷ sign Comma ∷ body))) (worded_by forms statements (language_of word) (t ∷ sign Comma ∷ lower role ∷ sign Comma ∷ body))) (not_include word typed (bytes_eq word (codes "include")) refl l)
    ∙ ap (λ o. worded_by forms statements o (t ∷ sign Comma ∷ lower role ∷ sign Comma ∷ body)) l
    ∙ annotated_read typed t name role body n

include_read : (word : Name) (tokens : List Token) (s : RawStatement) → bytes_eq word (codes "include") ≡ true → inclusion_in tokens ≡ Some s → statement_in forms statements (lower word ∷ sign Open ∷ tokens) ≡ Some s
include_read word tokens s w e =
    word_read word tokens
    ∙ ap (λ (b : Bool). cond b (option_map statements.of_other (inclusion_in tokens)) (worded_by forms statements (language_of word) tokens)) w
    ∙ ap (option_map statements.of_other) e

whole_read : (text : Name) → inclusion_in (quoted text ∷ sign Close ∷ sign Stop ∷ []) ≡ Some (RawStatement.inclusion (unescaped text) None)
unfolding inclusion_in
whole_read text = ap (λ o. then o (λ x. goes_on (behind Comma x.1) (part_inclusion x.0) (whole_inclusion x.0 x.1))) (quoted_goes text (sign Close ∷ sign Stop ∷ []))

part_read : (text : Name) (tokens : List Token) (names : List Name) → IsNames tokens (sign CloseList ∷ sign Close ∷ sign Stop ∷ []) names → inclusion_in (quoted text ∷ sign Comma ∷ sign OpenList ∷ tokens) ≡ Some (RawStatement.inclusion (unescaped text) (Some names))
unfolding inclusion_in
part_read text tokens names d =
    ap (λ o. then o (λ x. goes_on (behind Comma x.1) (part_inclusion x.0) (whole_inclusion x.0 x.1))) (quoted_goes text (sign Comma ∷ sign OpenList ∷ tokens))
    ∙ ap (λ o. then o (λ x. cond (is_last x.1) (Some (RawStatement.inclusion (unescaped text) (Some x.0))) None)) (names_go tokens (sign Close ∷ sign Stop ∷ []) names d)

-- what is within the limits but for its formula's depth
abbrev pub IsShallow : RawStatement → Type 0
IsShallow (RawStatement.formula name role f) = IsNested f
IsShallow (RawStatement.typing name subject top) = IsShallowTop top
IsShallow (RawStatement.inclusion file names) = Unit {0}

pub record Whole (tokens : List Token) (s : RawStatement) : Type 0 where
  pub reads : statement_in forms statements tokens ≡ Some s
  pub shallow : IsShallow s

pub statement_complete : (tokens : List Token) (s : RawStatement) → early_fault tokens ≡ None → IsStatement tokens s → Whole tokens s
statement_complete _ _ e (formula {typed = typed} {word = word} {role_word = role} {t = t} {body = body} {ending = ending} {name = name} {role = kind} {f = f} l n r d ends) =
    let lets = part_lets word role name typed t body l n e in
    let whole = formula_complete typed body ending f d lets (ending_follows ending ends).0 in
    let no = and_right typed (bytes_eq role (codes "type")) (not_type role kind (bytes_eq role (codes "type")) refl r) in
    record {
      reads = front_read word typed t name role body l n
          ∙ ap (λ (b : Bool). cond b (option_map statements.of_other (typed_statement_in name body)) (stated_in forms statements typed name role body)) no
          ∙ stated_read typed name role kind body ending f r whole.0 ends;
      shallow = whole.1;
    }
statement_complete _ _ e (typing {word = word} {role_word = role} {t = t} {body = body} {ending = ending} {name = name} {subject = subject} {top = top} l n r d ends) =
    let lets = part_lets word role name true t body l n e in
    let after = ending_follows ending ends in
    let read = typing_read 200 unnested body ending subject top d lets (omega arith) after.1 after.2 in
    record {
      reads = front_read word true t name role body l n
          ∙ ap (λ (b : Bool). cond b (option_map statements.of_other (typed_statement_in name body)) (stated_in forms statements true name role body)) r
          ∙ ap (option_map statements.of_other) (typed_read name subject top body ending read ends);
      shallow = typing_depth unnested body ending subject top d lets (omega arith);
    }
statement_complete _ _ e (whole_file {word = word} {text = text} {file = file} w f) = record {
  reads = include_read word (quoted text ∷ sign Close ∷ sign Stop ∷ []) (RawStatement.inclusion (unescaped text) None) w (whole_read text) ∙ ap (λ (g : Name). Some (RawStatement.inclusion g None)) (sym f);
  shallow = tt;
}
statement_complete _ _ e (part_of_file {word = word} {text = text} {tokens = tokens} {file = file} {names = names} w f d) = record {
  reads = include_read word (quoted text ∷ sign Comma ∷ sign OpenList ∷ tokens) (RawStatement.inclusion (unescaped text) (Some names)) w (part_read text tokens names d) ∙ ap (λ (g : Name). Some (RawStatement.inclusion g (Some names))) (sym f);
  shallow = tt;
}

-- tokens that the rows let through spell at most one statement
pub one_statement : (tokens : List Token) (s t : RawStatement) → early_fault tokens ≡ None → IsStatement tokens s → IsStatement tokens t → s ≡ t
one_statement tokens s t e d k = same_Some s t (sym (statement_complete tokens s e d).reads ∙ (statement_complete tokens t e k).reads)
