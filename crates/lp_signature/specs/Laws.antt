-- What holds of the prelude, of names and of signatures. Each statement is the contract of a function of the module laws.
use Rattle.std.specs.Prelude.{codes, ℕ, ◌≡◌, ◌≢◌, ◌<◌, ◌^◌, Some, List, [], ◌++◌}
use Rattle.std.specs.Fmt.{decimal}
use Rattle.lp_terms.specs.WellFormed.{IsWellFormed}
use Rattle.lp_terms.specs.File.{IsNewName, IsFile}
use Rattle.zm_logic.specs.Tree.{Symbol, Problem}
use Rattle.zm_logic.specs.Typing.{nth}
use Rattle.zm_logic.specs.Problem.{IsTypedProblem}
use Rattle.rule_select.specs.Selection.{Selection, IsSelection}
use Rattle.lp_signature.specs.Prelude.{prelude}
use Rattle.lp_signature.specs.Names.{coded, symbol_name, premise_name}
use Rattle.lp_signature.specs.Problem.{signature}
use Rattle.lp_signature.specs.Declarable.{IsDeclarable, IsWritable, declared_by}

-- each entry is well formed after those before it
abbrev pub PreludeIsWellFormed : Type 0
PreludeIsWellFormed = IsWellFormed prelude

-- its entries are those of a file, so it can be printed
abbrev pub PreludeIsFile : Type 0
PreludeIsFile = IsFile prelude

-- no two names are escaped alike
abbrev pub EscapedNamesDiffer : Type 0
EscapedNamesDiffer = (xs ys : List ℕ) → coded xs ≡ coded ys → xs ≡ ys

-- no two symbols of a typed problem have one constant
abbrev pub SymbolNamesDiffer : Type 0
SymbolNamesDiffer =
    (p : Problem) (m n : ℕ) (d e : Symbol) → IsTypedProblem p → IsWritable p → nth p.symbols m ≡ Some d → nth p.symbols n ≡ Some e
    → symbol_name d ≡ symbol_name e → m ≡ n

-- a symbol's constant is an identifier, no x with digits, and none of the prelude's
abbrev pub SymbolNamesAreNew : Type 0
SymbolNamesAreNew = (d : Symbol) → IsDeclarable d → IsNewName (declared_by [] prelude) (symbol_name d)

-- and neither a premise's constant, nor the goal's, nor that of a shared definition
abbrev pub SymbolNamesAreTheirOwn : Type 0
SymbolNamesAreTheirOwn =
    (d : Symbol) (k : ℕ) → (symbol_name d ≢ premise_name k) × (symbol_name d ≢ codes "goal") × (symbol_name d ≢ codes "sh_" ++ decimal k)

-- no two premises have one constant
abbrev pub PremiseNamesDiffer : Type 0
PremiseNamesDiffer = (j k : ℕ) → j < 2 ^ 64 → k < 2 ^ 64 → premise_name j ≡ premise_name k → j ≡ k

-- a premise's constant is an identifier, no x with digits, and none of the prelude's
abbrev pub PremiseNamesAreNew : Type 0
PremiseNamesAreNew = (k : ℕ) → k < 2 ^ 64 → IsNewName (declared_by [] prelude) (premise_name k)

-- the signature of a typed problem and its selection is a file's, where a file can declare each symbol and premise
abbrev pub SignaturesAreFiles : Type 0
SignaturesAreFiles = (p : Problem) (s : Selection) → IsTypedProblem p → IsSelection p s → IsWritable p → IsFile (signature p s)

-- the goal's name is new after it
abbrev pub GoalNameIsNew : Type 0
GoalNameIsNew = (p : Problem) (s : Selection) → IsNewName (declared_by [] (signature p s)) (codes "goal")
