-- A slow reader of declared types and of declarations. room: how many more brackets and heads of quantifiers may come.
use Rattle.std.specs.Prelude.{ℕ, zero, suc, Bool, true, false, cond, List, [], ◌∷◌, Option, Some, None}
use Rattle.tptp_lex.specs.declared.signs.Sign.{Sign}
use Rattle.tptp_lex.specs.declared.signs.Sign.TheVariants.{Open, Close, OpenList, CloseList, Colon, AllTypes, Arrow, Star}
use Rattle.tptp_reader.specs.Raw.{Name, RawType, RawTypes, RawVariable, RawTop}
use Rattle.tptp_reader.specs.Tokens.{Token}
use Rattle.tptp_reader.specs.Grammar.{under, mapping}
use Rattle.tptp_reader.specs.Parsing.{first_sign, behind, then}
use Rattle.tptp_reader.specs.declared.tree.RawTop.{RawTop as WrittenTop}
use Rattle.tptp_reader.specs.View.{raw_types_of, raw_top_tree}
use Rattle.tptp_reader.specs.SlowLists.{goes_on, made, ended_by, followed_all}
use Rattle.tptp_reader.specs.SlowWords.{word_in}
use Rattle.tptp_reader.specs.SlowTypes.{type_in, variables_in}

-- what a first type begins: it is the one argument where an arrow follows, and else the result
abbrev pub from_type : ℕ → RawType → List Token → Option (RawTop × List Token)
from_type room t tokens =
    goes_on (behind Arrow tokens) (λ rest. made (mapping (RawTypes.more t RawTypes.none)) (type_in room rest)) (Some (mapping RawTypes.none t, tokens))

-- a declared type that begins with a type
unfoldable pub plain_top_in : ℕ → List Token → Option (RawTop × List Token)
plain_top_in room tokens = then (type_in room tokens) (λ x. from_type room x.0 x.1)

-- the result of a declared type with these arguments
abbrev pub result_in : ℕ → List RawType → List Token → Option (RawTop × List Token)
result_in room ts tokens = then (behind Arrow tokens) (λ rest. made (mapping (raw_types_of ts)) (type_in room rest))

-- a product, and the result behind its bracket
abbrev pub product_from : ℕ → ℕ → RawType → List Token → Option (RawTop × List Token)
product_from inside outside t tokens = then (ended_by Close (followed_all (type_in inside) Star (t ∷ []) tokens)) (λ x. result_in outside x.0 x.1)

-- what follows the first type in a bracket; the sign that comes next tells it
abbrev pub after_first : ℕ → ℕ → RawType → Option Sign → List Token → Option (RawTop × List Token)
after_first inside outside t (Some Star) tokens = product_from inside outside t tokens
after_first inside outside t (Some Arrow) tokens = ended_by Close (from_type inside t tokens)
after_first inside outside t next tokens = then (behind Close tokens) (λ rest. from_type outside t rest)

-- what an open bracket begins, where a type comes next
unfoldable pub first_in_bracket : ℕ → ℕ → List Token → Option (RawTop × List Token)
first_in_bracket inside outside tokens = then (type_in inside tokens) (λ x. after_first inside outside x.0 (first_sign x.1) x.1)

-- a bracket or a quantifier comes next
abbrev pub begins_top : Option Sign → Bool
begins_top (Some Open) = true
begins_top (Some AllTypes) = true
begins_top next = false

-- what an open bracket begins
abbrev pub bracketed_top_by : (List Token → Option (RawTop × List Token)) → ℕ → ℕ → List Token → Option (RawTop × List Token)
bracketed_top_by inner inside outside tokens = cond (begins_top (first_sign tokens)) (ended_by Close (inner tokens)) (first_in_bracket inside outside tokens)

-- the variables of a declared type, with their brackets and the colon
unfoldable pub type_variables_in : ℕ → List Token → Option (List RawVariable × List Token)
type_variables_in room tokens = then (behind OpenList tokens) (λ rest. ended_by Colon (ended_by CloseList (variables_in true room rest)))

-- what a quantifier of type variables begins
abbrev pub bound_top_by : (List Token → Option (RawTop × List Token)) → ℕ → List Token → Option (RawTop × List Token)
bound_top_by inner room tokens = then (type_variables_in room tokens) (λ x. made (under x.0) (inner x.1))

abbrev pub no_top : List Token → Option (RawTop × List Token)
no_top tokens = None

-- a declared type, by the readers of what stands behind a quantifier and behind a bracket
abbrev pub top_by : (List Token → Option (RawTop × List Token)) → (List Token → Option (RawTop × List Token)) → ℕ → List Token → Option (RawTop × List Token)
top_by bound bracketed room tokens = goes_on (behind AllTypes tokens) bound (goes_on (behind Open tokens) bracketed (plain_top_in room tokens))

unfoldable pub top_in : ℕ → List Token → Option (RawTop × List Token)
top_in zero tokens = top_by no_top no_top zero tokens
top_in (suc room) tokens = top_by (bound_top_by (top_in room) room) (bracketed_top_by (top_in room) room (suc room)) (suc room) tokens

-- behind a quantifier of type variables
unfoldable pub bound_top_in : ℕ → List Token → Option (RawTop × List Token)
bound_top_in zero tokens = None
bound_top_in (suc room) tokens = bound_top_by (top_in room) room tokens

-- behind an open bracket
unfoldable pub bracketed_top_in : ℕ → List Token → Option (RawTop × List Token)
bracketed_top_in zero tokens = None
bracketed_top_in (suc room) tokens = bracketed_top_by (top_in room) room (suc room) tokens

abbrev pub declaration : Name → RawTop → Name × RawTop
declaration f top = (f, top)

-- a declaration without brackets
unfoldable pub declaration_in : ℕ → List Token → Option ((Name × RawTop) × List Token)
declaration_in room tokens = then (ended_by Colon (word_in tokens)) (λ x. made (declaration x.0) (top_in room x.1))

abbrev pub no_typing : List Token → Option ((Name × RawTop) × List Token)
no_typing tokens = None

abbrev pub typing_by : (List Token → Option ((Name × RawTop) × List Token)) → ℕ → List Token → Option ((Name × RawTop) × List Token)
typing_by bracketed room tokens = goes_on (behind Open tokens) bracketed (declaration_in room tokens)

unfoldable pub typing_in : ℕ → List Token → Option ((Name × RawTop) × List Token)
typing_in zero tokens = typing_by no_typing zero tokens
typing_in (suc room) tokens = typing_by (λ rest. ended_by Close (typing_in room rest)) (suc room) tokens

-- behind an open bracket
unfoldable pub bracketed_typing_in : ℕ → List Token → Option ((Name × RawTop) × List Token)
bracketed_typing_in zero tokens = None
bracketed_typing_in (suc room) tokens = ended_by Close (typing_in room tokens)

-- what a declaration of the program stands for
abbrev pub typing_tree : Name × WrittenTop → Name × RawTop
typing_tree typing = (typing.0, raw_top_tree typing.1)
