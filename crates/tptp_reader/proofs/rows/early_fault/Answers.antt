use Rattle.std.proofs.Common.{rules, ◌≡◌, sym, ◌∙◌, subst, drop, map}
use Rattle.std.specs.Prelude.{IfOk, Option}
use Rattle.tptp_reader.specs.Parsing.{seen}
use Rattle.std.specs.Option.{option_map}
use Rattle.tptp_reader.specs.Counted.{fault_of}
use Rattle.tptp_reader.specs.Rows.{Fault}
use Rattle.tptp_reader.proofs.FormulaWords.{formula_early}
use Rattle.tptp_reader.proofs.rows.early_fault.Goals as goal

pub returns-then-is_formula_word : goal.returns-then-is_formula_word
returns-then-is_formula_word c =
    subst (λ (f : Option Fault). IfOk c.formula_rows.result (λ r. option_map fault_of r ≡ f))
    (sym (formula_early c.in-Lower.word.now (map seen c.args.lexemes.now) (map seen (drop 1 c.args.lexemes.now)) (search rules) (sym c.is_formula_word.ensures ∙ c.if-is_formula_word.true))) c.formula_rows.ensures
