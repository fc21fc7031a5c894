-- The grammar of statements. A front of the tokens spells something, and the rest follows it.
--     statement = ("fof" | "tff") "(" name "," role "," body [ "," notes ] ")" "."
--               | "include" "(" quoted [ "," "[" name { "," name } "]" ] ")" "."
--     name      = word | digits
--     formula   = unit | unit binary unit | unit "&" unit { "&" unit } | unit "|" unit { "|" unit }
--     binary    = "=>" | "<=" | "<=>" | "<~>" | "~&" | "~|"
--     unit      = "~" unit | ("!" | "?") "[" var { "," var } "]" ":" unit | "(" formula ")"
--               | "$true" | "$false" | term | term ("=" | "!=") term
--     var       = upper | upper ":" atype
--     term      = upper | word [ "(" term { "," term } ")" ] | "$i" | "$o"
--     typing    = word ":" top | "(" typing ")"
--     top       = "!>" "[" var { "," var } "]" ":" top | "(" top ")"
--               | atype [ ">" atype ] | "(" atype { "*" atype } ")" ">" atype
--     atype     = "$i" | "$o" | "$tType" | upper | word [ "(" atype { "," atype } ")" ]
-- A word is a lower or a quoted name. The body is a typing exactly where the language is tff and the role is type. Typed
-- variables, $i and $o stand in tff alone. Notes are any tokens with balanced brackets.
use Rattle.std.specs.Prelude.{◌≡◌, ℕ, ◌==◌, Bool, true, false, cond, List, [], ◌∷◌, ◌++◌, codes, Option, Some, None}
use Rattle.std.specs.List.{list_all}
use Rattle.std.specs.Str.{bytes_eq}
use Rattle.tptp_lex.specs.declared.signs.Sign.{Sign}
use Rattle.tptp_lex.specs.declared.signs.Sign.TheVariants.{Open, Close, OpenList, CloseList, Comma, Stop, Colon, And, Or, Not, Implies, If, Iff, Xor, NotAnd, NotOr, Equal, NotEqual, All, Exists, AllTypes, Arrow, Star}
use Rattle.tptp_lex.specs.Numbers.{is_digit}
use Rattle.tptp_reader.specs.declared.lexeme.Defined.TheVariants.{True, False, Individual, Truth, Kind}
use Rattle.tptp_reader.specs.declared.tree.RawRole.{RawRole}
use Rattle.tptp_reader.specs.Raw.{Name, RawType, RawTypes, RawTerm, RawTerms, RawVariable, RawForm, RawTop, RawStatement, Connective, Quantifier}
use Rattle.tptp_reader.specs.Tokens.{Token, lower, upper, defined, quoted, number, sign}
use Rattle.tptp_reader.specs.Brackets.{Bracket, behind_closing}
use Rattle.tptp_reader.specs.Rows.{role_of}

-- a word: a lower or a quoted name
abbrev pub word_of : Token → Option Name
word_of (lower text) = Some text
word_of (quoted text) = Some text
word_of token = None

-- the name of a statement: a word, or digits
abbrev pub name_of : Token → Option Name
name_of (number text) = cond (list_all is_digit text) (Some text) None
name_of token = word_of token

-- IsTerm typed tokens rest term: typed tells whether the language is tff
mutual
  pub data IsTerm : Bool → List Token → List Token → RawTerm → Type 0 where
    term_variable : {typed : Bool} {x : Name} {rest : List Token} → IsTerm typed (upper x ∷ rest) rest (RawTerm.variable x)
    term_individual : {rest : List Token} → IsTerm true (defined Individual ∷ rest) rest RawTerm.individual
    term_truth : {rest : List Token} → IsTerm true (defined Truth ∷ rest) rest RawTerm.truth
    constant : {typed : Bool} {t : Token} {rest : List Token} {f : Name} → word_of t ≡ Some f → IsTerm typed (t ∷ rest) rest (RawTerm.named f RawTerms.none)
    applied : {typed : Bool} {t : Token} {tokens rest : List Token} {f : Name} {us : RawTerms} →
        word_of t ≡ Some f → IsTerms typed tokens (sign Close ∷ rest) us → IsTerm typed (t ∷ sign Open ∷ tokens) rest (RawTerm.named f us)

  -- one term or more, with commas between
  pub data IsTerms : Bool → List Token → List Token → RawTerms → Type 0 where
    last_term : {typed : Bool} {tokens rest : List Token} {u : RawTerm} → IsTerm typed tokens rest u → IsTerms typed tokens rest (RawTerms.more u RawTerms.none)
    more_terms : {typed : Bool} {tokens middle rest : List Token} {u : RawTerm} {us : RawTerms} →
        IsTerm typed tokens (sign Comma ∷ middle) u → IsTerms typed middle rest us → IsTerms typed tokens rest (RawTerms.more u us)

mutual
  pub data IsType : List Token → List Token → RawType → Type 0 where
    type_individual : {rest : List Token} → IsType (defined Individual ∷ rest) rest RawType.individual
    type_truth : {rest : List Token} → IsType (defined Truth ∷ rest) rest RawType.truth
    type_kind : {rest : List Token} → IsType (defined Kind ∷ rest) rest RawType.kind
    type_variable : {x : Name} {rest : List Token} → IsType (upper x ∷ rest) rest (RawType.variable x)
    type_constant : {t : Token} {rest : List Token} {c : Name} → word_of t ≡ Some c → IsType (t ∷ rest) rest (RawType.named c RawTypes.none)
    type_applied : {t : Token} {tokens rest : List Token} {c : Name} {ts : RawTypes} →
        word_of t ≡ Some c → IsTypes Comma tokens (sign Close ∷ rest) ts → IsType (t ∷ sign Open ∷ tokens) rest (RawType.named c ts)

  -- one type or more, with a sign between: a comma among arguments, a star in a product
  pub data IsTypes : Sign → List Token → List Token → RawTypes → Type 0 where
    last_type : {between : Sign} {tokens rest : List Token} {t : RawType} → IsType tokens rest t → IsTypes between tokens rest (RawTypes.more t RawTypes.none)
    more_types : {between : Sign} {tokens middle rest : List Token} {t : RawType} {ts : RawTypes} →
        IsType tokens (sign between ∷ middle) t → IsTypes between middle rest ts → IsTypes between tokens rest (RawTypes.more t ts)

-- a variable at its quantifier
pub data IsVariable : Bool → List Token → List Token → RawVariable → Type 0 where
  untyped : {typed : Bool} {x : Name} {rest : List Token} {v : RawVariable} → v ≡ record { name = x; type = None } → IsVariable typed (upper x ∷ rest) rest v
  with_type : {x : Name} {tokens rest : List Token} {t : RawType} {v : RawVariable} →
      IsType tokens rest t → v ≡ record { name = x; type = Some t } → IsVariable true (upper x ∷ sign Colon ∷ tokens) rest v

pub data IsVariables : Bool → List Token → List Token → List RawVariable → Type 0 where
  last_variable : {typed : Bool} {tokens rest : List Token} {v : RawVariable} → IsVariable typed tokens rest v → IsVariables typed tokens rest (v ∷ [])
  more_variables : {typed : Bool} {tokens middle rest : List Token} {v : RawVariable} {vs : List RawVariable} →
      IsVariable typed tokens (sign Comma ∷ middle) v → IsVariables typed middle rest vs → IsVariables typed tokens rest (v ∷ vs)

-- a formula under one quantifier for each variable, the first outermost
abbrev pub quantify : Quantifier → List RawVariable → RawForm → RawForm
quantify q [] f = f
quantify q (v ∷ vs) f = RawForm.quantified q v (quantify q vs f)

-- what the sign of a quantifier stands for
abbrev pub quantifier_of : Sign → Option Quantifier
quantifier_of All = Some Quantifier.universal
quantifier_of Exists = Some Quantifier.existential
quantifier_of s = None

-- what a binary connective makes of two formulas, where it joins just two
abbrev pub joined_by : Sign → RawForm → RawForm → Option RawForm
joined_by Implies f g = Some (RawForm.binary Connective.implication f g)
joined_by If f g = Some (RawForm.binary Connective.implication g f)
joined_by Iff f g = Some (RawForm.binary Connective.equivalence f g)
joined_by Xor f g = Some (RawForm.negation (RawForm.binary Connective.equivalence f g))
joined_by NotAnd f g = Some (RawForm.negation (RawForm.binary Connective.conjunction f g))
joined_by NotOr f g = Some (RawForm.negation (RawForm.binary Connective.disjunction f g))
joined_by s f g = None

-- the connective of a sign that may join more than two
abbrev pub chain_of : Sign → Option Connective
chain_of And = Some Connective.conjunction
chain_of Or = Some Connective.disjunction
chain_of s = None

mutual
  pub data IsUnit : Bool → List Token → List Token → RawForm → Type 0 where
    negated : {typed : Bool} {tokens rest : List Token} {f : RawForm} → IsUnit typed tokens rest f → IsUnit typed (sign Not ∷ tokens) rest (RawForm.negation f)
    quantified : {typed : Bool} {s : Sign} {q : Quantifier} {tokens middle rest : List Token} {vs : List RawVariable} {f g : RawForm} →
        quantifier_of s ≡ Some q → IsVariables typed tokens (sign CloseList ∷ sign Colon ∷ middle) vs → IsUnit typed middle rest f →
        g ≡ quantify q vs f → IsUnit typed (sign s ∷ sign OpenList ∷ tokens) rest g
    bracketed : {typed : Bool} {tokens rest : List Token} {f : RawForm} → IsFormula typed tokens (sign Close ∷ rest) f → IsUnit typed (sign Open ∷ tokens) rest f
    truth : {typed : Bool} {rest : List Token} → IsUnit typed (defined True ∷ rest) rest RawForm.truth
    falsity : {typed : Bool} {rest : List Token} → IsUnit typed (defined False ∷ rest) rest RawForm.falsity
    atom : {typed : Bool} {tokens rest : List Token} {u : RawTerm} → IsTerm typed tokens rest u → IsUnit typed tokens rest (RawForm.plain u)
    equation : {typed : Bool} {tokens middle rest : List Token} {a b : RawTerm} →
        IsTerm typed tokens (sign Equal ∷ middle) a → IsTerm typed middle rest b → IsUnit typed tokens rest (RawForm.equal a b)
    inequation : {typed : Bool} {tokens middle rest : List Token} {a b : RawTerm} →
        IsTerm typed tokens (sign NotEqual ∷ middle) a → IsTerm typed middle rest b → IsUnit typed tokens rest (RawForm.negation (RawForm.equal a b))

  pub data IsFormula : Bool → List Token → List Token → RawForm → Type 0 where
    single : {typed : Bool} {tokens rest : List Token} {f : RawForm} → IsUnit typed tokens rest f → IsFormula typed tokens rest f
    joined : {typed : Bool} {s : Sign} {tokens middle rest : List Token} {f g h : RawForm} →
        IsUnit typed tokens (sign s ∷ middle) f → IsUnit typed middle rest g → joined_by s f g ≡ Some h → IsFormula typed tokens rest h
    chained : {typed : Bool} {s : Sign} {c : Connective} {tokens rest : List Token} {f : RawForm} →
        chain_of s ≡ Some c → IsChain s c typed tokens rest f → IsFormula typed tokens rest f

  -- A chain of two units or more with one connective. It nests to the left: p & q & r is (p & q) & r.
  pub data IsChain : Sign → Connective → Bool → List Token → List Token → RawForm → Type 0 where
    two : {s : Sign} {c : Connective} {typed : Bool} {tokens middle rest : List Token} {f g : RawForm} →
        IsUnit typed tokens (sign s ∷ middle) f → IsUnit typed middle rest g → IsChain s c typed tokens rest (RawForm.binary c f g)
    one_more : {s : Sign} {c : Connective} {typed : Bool} {tokens middle rest : List Token} {f g : RawForm} →
        IsChain s c typed tokens (sign s ∷ middle) f → IsUnit typed middle rest g → IsChain s c typed tokens rest (RawForm.binary c f g)

-- a declared type under further type variables
abbrev pub under : List RawVariable → RawTop → RawTop
under vs top = record { binders = vs ++ top.binders; arguments = top.arguments; result = top.result }

-- a declared type without type variables of its own
abbrev pub mapping : RawTypes → RawType → RawTop
mapping ts t = record { binders = []; arguments = ts; result = t }

pub data IsTop : List Token → List Token → RawTop → Type 0 where
  for_all_types : {tokens middle rest : List Token} {vs : List RawVariable} {top whole : RawTop} →
      IsVariables true tokens (sign CloseList ∷ sign Colon ∷ middle) vs → IsTop middle rest top → whole ≡ under vs top →
      IsTop (sign AllTypes ∷ sign OpenList ∷ tokens) rest whole
  bracketed_top : {tokens rest : List Token} {top : RawTop} → IsTop tokens (sign Close ∷ rest) top → IsTop (sign Open ∷ tokens) rest top
  plain_top : {tokens rest : List Token} {t : RawType} {top : RawTop} → IsType tokens rest t → top ≡ mapping RawTypes.none t → IsTop tokens rest top
  one_argument : {tokens middle rest : List Token} {t u : RawType} {top : RawTop} →
      IsType tokens (sign Arrow ∷ middle) t → IsType middle rest u → top ≡ mapping (RawTypes.more t RawTypes.none) u → IsTop tokens rest top
  product : {tokens middle rest : List Token} {ts : RawTypes} {u : RawType} {top : RawTop} →
      IsTypes Star tokens (sign Close ∷ sign Arrow ∷ middle) ts → IsType middle rest u → top ≡ mapping ts u → IsTop (sign Open ∷ tokens) rest top

-- a declaration: the symbol's name and its type
pub data IsTyping : List Token → List Token → Name → RawTop → Type 0 where
  declares : {t : Token} {tokens rest : List Token} {f : Name} {top : RawTop} → word_of t ≡ Some f → IsTop tokens rest top → IsTyping (t ∷ sign Colon ∷ tokens) rest f top
  bracketed_typing : {tokens rest : List Token} {f : Name} {top : RawTop} → IsTyping tokens (sign Close ∷ rest) f top → IsTyping (sign Open ∷ tokens) rest f top

-- the end of a fof or tff statement: a bracket and a point, with notes before them or none
pub data IsEnding : List Token → Type 0 where
  plain_ending : IsEnding (sign Close ∷ sign Stop ∷ [])
  with_notes : {tokens : List Token} → behind_closing (Bracket.round ∷ []) tokens ≡ Some (sign Stop ∷ []) → IsEnding (sign Comma ∷ tokens)

pub data IsNames : List Token → List Token → List Name → Type 0 where
  last_name : {t : Token} {rest : List Token} {name : Name} → name_of t ≡ Some name → IsNames (t ∷ rest) rest (name ∷ [])
  more_names : {t : Token} {tokens rest : List Token} {name : Name} {names : List Name} →
      name_of t ≡ Some name → IsNames tokens rest names → IsNames (t ∷ sign Comma ∷ tokens) rest (name ∷ names)

-- The name of a file: behind a backslash (92) stands the byte that is meant.
abbrev pub unescaped : List ℕ → Name
unescaped [] = []
unescaped (a ∷ []) = a ∷ []
unescaped (a ∷ b ∷ bytes) = cond (a == 92) (b ∷ unescaped bytes) (a ∷ unescaped (b ∷ bytes))

-- the language of a statement's word: tff is typed, fof is not
abbrev pub language_of : List ℕ → Option Bool
language_of word = cond (bytes_eq word (codes "tff")) (Some true) (cond (bytes_eq word (codes "fof")) (Some false) None)

pub data IsStatement : List Token → RawStatement → Type 0 where
  formula : {typed : Bool} {word role_word : List ℕ} {t : Token} {body ending : List Token} {name : Name} {role : RawRole} {f : RawForm} →
      language_of word ≡ Some typed → name_of t ≡ Some name → role_of role_word ≡ Some role → IsFormula typed body ending f → IsEnding ending →
      IsStatement (lower word ∷ sign Open ∷ t ∷ sign Comma ∷ lower role_word ∷ sign Comma ∷ body) (RawStatement.formula name role f)
  typing : {word role_word : List ℕ} {t : Token} {body ending : List Token} {name subject : Name} {top : RawTop} →
      language_of word ≡ Some true → name_of t ≡ Some name → bytes_eq role_word (codes "type") ≡ true → IsTyping body ending subject top → IsEnding ending →
      IsStatement (lower word ∷ sign Open ∷ t ∷ sign Comma ∷ lower role_word ∷ sign Comma ∷ body) (RawStatement.typing name subject top)
  whole_file : {word text : List ℕ} {file : Name} → bytes_eq word (codes "include") ≡ true → file ≡ unescaped text →
      IsStatement (lower word ∷ sign Open ∷ quoted text ∷ sign Close ∷ sign Stop ∷ []) (RawStatement.inclusion file None)
  part_of_file : {word text : List ℕ} {tokens : List Token} {file : Name} {names : List Name} → bytes_eq word (codes "include") ≡ true → file ≡ unescaped text →
      IsNames tokens (sign CloseList ∷ sign Close ∷ sign Stop ∷ []) names →
      IsStatement (lower word ∷ sign Open ∷ quoted text ∷ sign Comma ∷ sign OpenList ∷ tokens) (RawStatement.inclusion file (Some names))
