-- What is written for an answer, as a list of bytes.
use Rattle.std.specs.Prelude.{ℕ, Bool, codes, decimal, cond, List, [], ◌∷◌, ◌++◌, map, flat_map}
use Rattle.zm_logic.specs.Tree.{Problem}
use Rattle.zm_logic.specs.Truth.{Valued}
use Rattle.branch.specs.Tableau.{Node, picks}
use Rattle.branch.specs.Stopping.{Cause}
use Rattle.dk_text.specs.Text.{file_text}
use Rattle.zenon_modulo.specs.Answer.{Answer}
use Rattle.zenon_modulo.specs.Names.{Name, atom_text}
use Rattle.zenon_modulo.specs.Message.{refusal_text}
use Rattle.zenon_modulo.specs.ProofFile.{proof_entries}

-- a comma before each further number
abbrev pub further_picks : List ℕ → List ℕ
further_picks [] = []
further_picks (k ∷ ks) = codes "," ++ decimal k ++ further_picks ks

-- a space, and then the numbers with commas between them; nothing where there is none
abbrev pub picks_text : List ℕ → List ℕ
picks_text [] = []
picks_text (k ∷ ks) = codes " " ++ decimal k ++ further_picks ks

-- the names of the symbols of a problem, of which the first is that of symbol 1
abbrev pub symbol_names : Problem → List Name
symbol_names p = map (λ s. s.name) p.symbols

abbrev pub truth_text : Bool → List ℕ
truth_text b = cond b (codes " = true\n") (codes " = false\n")

-- a line for each atom
abbrev pub valuation_text : List Name → List Valued → List ℕ
valuation_text names v = flat_map (λ x. atom_text names x.atom ++ truth_text x.truth) v

-- the name of a cause
abbrev pub cause_text : Cause → List ℕ
cause_text Cause.saturated = codes "saturated"
cause_text Cause.steps = codes "steps"
cause_text Cause.branch_length = codes "branch length"
cause_text (Cause.rewrites from) = codes "rewrites"
cause_text (Cause.deep at) = codes "depth"

-- two lines, which are comments of the file that follows them
abbrev pub proved_lines : Node → List ℕ
proved_lines node = codes "(; proved ;)\n(; picks:" ++ picks_text (picks node) ++ codes " ;)\n"

abbrev pub proved_text : Problem → Node → List ℕ
proved_text p node = proved_lines node ++ file_text (proof_entries p node)

abbrev pub falsified_text : Problem → List Valued → List ℕ
falsified_text p v = codes "falsified\n" ++ valuation_text (symbol_names p) v

abbrev pub unknown_text : Cause → Node → List ℕ
unknown_text why node = codes "unknown: " ++ cause_text why ++ codes "\npicks:" ++ picks_text (picks node) ++ codes "\n"

-- what is written to the sink for results
abbrev pub out_text : Problem → Answer → List ℕ
out_text p (Answer.proved tree) = proved_text p tree
out_text p (Answer.falsified v tree) = falsified_text p v
out_text p (Answer.unknown why tree) = unknown_text why tree
out_text p (Answer.refused e) = []
out_text p (Answer.misused m) = []
out_text p Answer.read_fault = []
out_text p Answer.library_fault = []
out_text p Answer.write_fault = []
out_text p Answer.memory = []

-- how the program is called
abbrev pub usage_text : List ℕ
usage_text = codes "usage: zenon_modulo prove FILE [options] | check FILE [options] | gen K [options]\n"

-- what is written to the sink for messages
abbrev pub diag_text : Answer → List ℕ
diag_text (Answer.proved tree) = []
diag_text (Answer.falsified v tree) = []
diag_text (Answer.unknown why tree) = []
diag_text (Answer.refused e) = refusal_text e
diag_text (Answer.misused m) = usage_text
diag_text Answer.read_fault = codes "fault: read\n"
diag_text Answer.library_fault = codes "fault: library\n"
diag_text Answer.write_fault = []
diag_text Answer.memory = codes "out of memory\n"
