-- What is told of a refused input, as a list of bytes.
use Rattle.std.specs.Prelude.{ℕ, codes, decimal, List, [], ◌++◌, map}
use Rattle.tptp_reader.specs.declared.refusal.UnsupportedForm.{UnsupportedForm}
use Rattle.tptp_reader.specs.declared.refusal.UnsupportedForm.TheVariants as forms
use Rattle.tptp_include.specs.Gathering.{Refusal}
use Rattle.tff_typing.specs.Fault.{Found, Fault}
use Rattle.zenon_modulo.specs.Answer.{Untyped, Explanation}
use Rattle.zenon_modulo.specs.Names.{Name, type_text}

-- a place of a file
abbrev pub place_text : Name → ℕ → List ℕ
place_text file at = codes " at " ++ file ++ codes ":" ++ decimal at

-- a form that isn't read
abbrev pub form_text : UnsupportedForm → List ℕ
form_text forms.Statement = codes "statement"
form_text forms.Role = codes "role"
form_text forms.Numeral = codes "numeral"
form_text forms.DistinctObject = codes "distinct object"
form_text forms.DefinedWord = codes "defined word"
form_text forms.Operator = codes "operator"

-- why nothing is gathered
abbrev pub gather_text : Refusal → List ℕ
gather_text (Refusal.syntax file at) = codes "syntax" ++ place_text file at
gather_text (Refusal.too_deep file at) = codes "too deep" ++ place_text file at
gather_text (Refusal.unsupported form file at) = codes "unsupported " ++ form_text form ++ place_text file at
gather_text (Refusal.include_depth file) = codes "include depth " ++ file
gather_text (Refusal.cycle file) = codes "include cycle " ++ file
gather_text (Refusal.missing file) = codes "missing file " ++ file
gather_text Refusal.too_large = codes "too large"
gather_text (Refusal.no_such_formula name) = codes "no formula " ++ name

-- what is wanted, or was found
abbrev pub found_text : List Name → Found → List ℕ
found_text names Found.truth = codes "$o"
found_text names (Found.of_type t) = type_text names t

-- the two types of a mismatch
abbrev pub mismatch_text : List Name → Fault → List ℕ
mismatch_text names (Fault.mismatch wanted got) = codes ", wanted " ++ found_text names wanted ++ codes ", got " ++ found_text names got
mismatch_text names fault = []

abbrev pub fault_text : Fault → List ℕ
fault_text Fault.second_conjecture = codes "second conjecture"
fault_text Fault.redeclared = codes "redeclared"
fault_text Fault.too_many_symbols = codes "too many symbols"
fault_text Fault.unbound = codes "unbound"
fault_text Fault.arity = codes "arity"
fault_text Fault.not_a_type = codes "not a type"
fault_text Fault.not_a_term = codes "not a term"
fault_text (Fault.mismatch wanted got) = codes "mismatch"

abbrev pub untyped_text : Untyped → List ℕ
untyped_text u = fault_text u.fault ++ place_text u.file u.at ++ mismatch_text (map (λ s. s.name) u.symbols) u.fault

abbrev pub explanation_text : Explanation → List ℕ
explanation_text (Explanation.ungathered r) = gather_text r
explanation_text (Explanation.untyped u) = untyped_text u
explanation_text Explanation.too_large = codes "too large"
explanation_text Explanation.not_built = codes "not built"

-- a line
abbrev pub refusal_text : Explanation → List ℕ
refusal_text e = codes "refused: " ++ explanation_text e ++ codes "\n"
