-- How names, types, terms and atoms are printed.
use Rattle.std.specs.Prelude.{ℕ, zero, suc, ◌&&◌, Bool, true, false, cond, codes, decimal, List, [], ◌∷◌, ◌++◌}
use Rattle.std.specs.List.{list_all}
use Rattle.tptp_lex.specs.Words.{is_small, is_word}
use Rattle.zm_logic.specs.Tree.{Ty, Tys, Term, Terms, Form}

abbrev pub Name : Type 0
Name = List ℕ

-- a small letter, and then letters, digits and low lines
abbrev pub is_lower : Name → Bool
is_lower [] = false
is_lower (b ∷ bytes) = is_small b && list_all is_word bytes

-- a name prints as it is where it is a lower, and else between quotes
abbrev pub name_text : Name → List ℕ
name_text name = cond (is_lower name) name (codes "'" ++ name ++ codes "'")

-- the text of the symbol at a place of a list of names; nothing where the list is shorter
abbrev pub nth_text : List Name → ℕ → List ℕ
nth_text [] n = []
nth_text (name ∷ names) zero = name_text name
nth_text (name ∷ names) (suc n) = nth_text names n

-- a type constructor: 0 is that of individuals, and the names are those of the symbols from 1 on
abbrev pub constructor_text : List Name → ℕ → List ℕ
constructor_text names zero = codes "$i"
constructor_text names (suc n) = nth_text names n

-- any other symbol; 0 is the number of none
abbrev pub symbol_text : List Name → ℕ → List ℕ
symbol_text names zero = []
symbol_text names (suc n) = nth_text names n

abbrev pub no_types : Tys → Bool
no_types Tys.none = true
no_types (Tys.more t ts) = false

abbrev pub no_terms : Terms → Bool
no_terms Terms.none = true
no_terms (Terms.more u us) = false

-- what stands before an argument: a bracket before the first one, and a comma before each further one
abbrev pub mark_text : Bool → List ℕ
mark_text is_first = cond is_first (codes "(") (codes ",")

-- the bracket behind the last argument; nothing where there is none
abbrev pub closing_text : Bool → List ℕ
closing_text is_none = cond is_none [] (codes ")")

-- a type: a variable is X and its number, a parameter $$a and its number, a metavariable $$b and its number
abbrev mutual
  pub type_text : List Name → Ty → List ℕ
  type_text names (Ty.bound n) = codes "X" ++ decimal n
  type_text names (Ty.param n) = codes "$$a" ++ decimal n
  type_text names (Ty.meta n) = codes "$$b" ++ decimal n
  type_text names (Ty.con c ts) = constructor_text names c ++ types_text names true ts ++ closing_text (no_types ts)

  -- arguments, each behind its mark
  pub types_text : List Name → Bool → Tys → List ℕ
  types_text names is_first Tys.none = []
  types_text names is_first (Tys.more t ts) = mark_text is_first ++ type_text names t ++ types_text names false ts

-- a symbol with its type arguments
abbrev pub head_text : List Name → ℕ → Tys → List ℕ
head_text names n ts = symbol_text names n ++ types_text names true ts

-- a term: a variable is X and its number, an epsilon term $$e and its number, a metavariable $$m and its number; any other
-- term is its symbol, and in one pair of brackets its type arguments and then its term arguments
abbrev mutual
  pub term_text : List Name → Term → List ℕ
  term_text names (Term.bound n) = codes "X" ++ decimal n
  term_text names (Term.eps n t) = codes "$$e" ++ decimal n
  term_text names (Term.meta n t) = codes "$$m" ++ decimal n
  term_text names (Term.app f ts us) = head_text names f ts ++ (terms_text names (no_types ts) us ++ closing_text (no_types ts && no_terms us))

  -- arguments, each behind its mark
  pub terms_text : List Name → Bool → Terms → List ℕ
  terms_text names is_first Terms.none = []
  terms_text names is_first (Terms.more u us) = mark_text is_first ++ term_text names u ++ terms_text names false us

-- an atom: its symbol, and its arguments as a term has them
abbrev pub atom_text : List Name → Form → List ℕ
atom_text names (Form.atom p ts us) = head_text names p ts ++ (terms_text names (no_types ts) us ++ closing_text (no_types ts && no_terms us))
atom_text names f = []
