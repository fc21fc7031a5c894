-- A slow reader of statements, as a function on lists of tokens. What it makes of a formula, and of a statement, is left
-- open.
use Rattle.std.specs.Prelude.{Bool, false, ◌&&◌, cond, List, [], ◌∷◌, codes, Option, Some, None}
use Rattle.std.specs.Option.{option_map}
use Rattle.std.specs.Str.{bytes_eq}
use Rattle.tptp_lex.specs.declared.signs.Sign.TheVariants.{Open, Close, OpenList, CloseList, Comma}
use Rattle.tptp_reader.specs.declared.tree.RawRole.{RawRole}
use Rattle.tptp_reader.specs.Raw.{Name, RawForm, RawStatement}
use Rattle.tptp_reader.specs.Tokens.{Token, lower, quoted, sign}
use Rattle.tptp_reader.specs.Brackets.{Bracket, behind_closing, is_point}
use Rattle.tptp_reader.specs.Rows.{role_of}
use Rattle.tptp_reader.specs.Grammar.{unescaped, language_of}
use Rattle.tptp_reader.specs.Parsing.{behind, then}
use Rattle.tptp_reader.specs.SlowLists.{goes_on, separated}
use Rattle.tptp_reader.specs.SlowTops.{typing_in}
use Rattle.tptp_reader.specs.SlowWords.{name_in}
use Rattle.tptp_reader.specs.SlowForms.{Values, formula_in}
use Rattle.tptp_reader.specs.Kept.{Kept, whole, too_deep}

-- the lower that comes next
unfoldable pub lower_in : List Token → Option (Name × List Token)
lower_in (lower text ∷ rest) = Some (text, rest)
lower_in tokens = None

-- the quoted name that comes next
unfoldable pub quoted_in : List Token → Option (Name × List Token)
quoted_in (quoted text ∷ rest) = Some (text, rest)
quoted_in tokens = None

-- nothing but the closing bracket and the point
abbrev pub is_last : List Token → Bool
is_last (sign Close ∷ rest) = is_point (Some rest)
is_last tokens = false

-- the end of a fof or tff statement: a bracket and a point, with notes before them or none
abbrev pub is_ending : List Token → Bool
is_ending (sign Close ∷ rest) = is_point (Some rest)
is_ending (sign Comma ∷ rest) = is_point (behind_closing (Bracket.round ∷ []) rest)
is_ending tokens = false

-- what was read, where a statement ends behind it
abbrev pub with_ending : {A : Type 0} → Option (A × List Token) → Option A
with_ending read = then read (λ x. cond (is_ending x.1) (Some x.0) None)

-- the names of an include, with their brackets
unfoldable pub names_in : List Token → Option (List Name × List Token)
names_in tokens =
    then (behind OpenList tokens) (λ first.
    then (separated name_in Comma first) (λ x.
    then (behind CloseList x.1) (λ rest. Some (x.0, rest))))

abbrev pub whole_inclusion : Name → List Token → Option RawStatement
whole_inclusion text tokens = cond (is_last tokens) (Some (RawStatement.inclusion (unescaped text) None)) None

abbrev pub part_inclusion : Name → List Token → Option RawStatement
part_inclusion text tokens =
    then (names_in tokens) (λ x. cond (is_last x.1) (Some (RawStatement.inclusion (unescaped text) (Some x.0))) None)

-- an include, behind its first bracket
unfoldable pub inclusion_in : List Token → Option RawStatement
inclusion_in tokens = then (quoted_in tokens) (λ x. goes_on (behind Comma x.1) (part_inclusion x.0) (whole_inclusion x.0 x.1))

-- a declaration, behind its role
unfoldable pub typed_statement_in : Name → List Token → Option RawStatement
typed_statement_in name tokens = then (with_ending (typing_in 200 tokens)) (λ x. Some (RawStatement.typing name x.0 x.1))

-- what a formula with its name and its role makes, and what another statement makes
pub record Makers (A B : Type 0) : Type 0 where
  pub of_formula : Name → RawRole → A → B
  pub of_other : RawStatement → B

abbrev pub stated_by : {A B : Type 0} → Values A → Makers A B → Bool → Name → Option RawRole → List Token → Option B
stated_by v m typed name None tokens = None
stated_by v m typed name (Some role) tokens = then (with_ending (formula_in v typed 200 tokens)) (λ a. Some (m.of_formula name role a))

-- a formula, behind its role
unfoldable pub stated_in : {A B : Type 0} → Values A → Makers A B → Bool → Name → Name → List Token → Option B
stated_in v m typed name role tokens = stated_by v m typed name (role_of role) tokens

-- a statement's body, behind its role
abbrev pub bodied_in : {A B : Type 0} → Values A → Makers A B → Bool → Name → Name → List Token → Option B
bodied_in v m typed name role tokens =
    cond (typed && bytes_eq role (codes "type")) (option_map m.of_other (typed_statement_in name tokens)) (stated_in v m typed name role tokens)

-- a word and the comma behind it
abbrev pub with_comma : Option (Name × List Token) → Option (Name × List Token)
with_comma read = then read (λ x. then (behind Comma x.1) (λ rest. Some (x.0, rest)))

-- a fof or tff statement, behind its first bracket
unfoldable pub annotated_in : {A B : Type 0} → Values A → Makers A B → Bool → List Token → Option B
annotated_in v m typed tokens =
    then (with_comma (name_in tokens)) (λ x.
    then (with_comma (lower_in x.1)) (λ y. bodied_in v m typed x.0 y.0 y.1))

abbrev pub worded_by : {A B : Type 0} → Values A → Makers A B → Option Bool → List Token → Option B
worded_by v m None tokens = None
worded_by v m (Some typed) tokens = annotated_in v m typed tokens

-- a statement with its first word, behind its first bracket
abbrev pub worded_in : {A B : Type 0} → Values A → Makers A B → Name → List Token → Option B
worded_in v m word tokens = cond (bytes_eq word (codes "include")) (option_map m.of_other (inclusion_in tokens)) (worded_by v m (language_of word) tokens)

-- a statement
unfoldable pub statement_in : {A B : Type 0} → Values A → Makers A B → List Token → Option B
statement_in v m tokens = then (lower_in tokens) (λ x. then (behind Open x.1) (λ rest. worded_in v m x.0 rest))

-- the statements themselves
abbrev pub statements : Makers RawForm RawStatement
statements = record { of_formula = RawStatement.formula; of_other = λ s. s }

abbrev pub kept_stated : Name → RawRole → Kept → Option RawStatement
kept_stated name role (whole f n) = Some (RawStatement.formula name role f)
kept_stated name role too_deep = None

-- the statement, or none where its formula is too deep
abbrev pub kept_statements : Makers Kept (Option RawStatement)
kept_statements = record { of_formula = kept_stated; of_other = Some }
