-- Worked rows: the first fault of small problems.
use Rattle.std.proofs.Common.{◌≡◌, Some, Err, [], ◌∷◌, refl, codes}
use Rattle.zm_logic.specs.Tree.{Ty, Tys, Symbol, Sense}
use Rattle.zm_logic.specs.Typing.{individual}
use Rattle.tptp_reader.specs.Raw.{RawType, RawTypes, RawTerm, RawTerms, RawForm, RawStatement}
use Rattle.tptp_reader.specs.declared.tree.RawRole.TheVariants as roles
use Rattle.tff_typing.specs.Fault.{Fault, Found}
use Rattle.tff_typing.specs.Statements.{problem_in}

-- a variable that isn't bound
pub unbound_variable : problem_in (RawStatement.formula (codes "c") roles.Conjecture
    (RawForm.plain (RawTerm.named (codes "p") (RawTerms.more (RawTerm.variable (codes "X")) RawTerms.none))) ∷ [])
    ≡ Err (record { statement = 0; symbols = []; fault = Fault.unbound })
unbound_variable = refl

abbrev pub set : Symbol
set = record { name = codes "set"; types = 1; arguments = Tys.none; sense = Sense.constructor }

abbrev pub f : Symbol
f =
    record {
      name = codes "f";
      types = 1;
      arguments = Tys.more (Ty.con 1 (Tys.more (Ty.bound 0) Tys.none)) Tys.none;
      sense = Sense.predicate;
    }

abbrev pub a : Symbol
a = record { name = codes "a"; types = 0; arguments = Tys.none; sense = Sense.function individual }

-- `set: $tType > $tType`, `f: !>[A: $tType]: (set(A) > $o)`, `a: $i`, and then `f($i, a)`
pub wrong_argument : problem_in
    (RawStatement.typing (codes "t") (codes "set")
    (record { binders = []; arguments = RawTypes.more RawType.kind RawTypes.none; result = RawType.kind })
    ∷ RawStatement.typing (codes "t") (codes "f") (record {
      binders = record { name = codes "A"; type = Some RawType.kind } ∷ [];
      arguments =
          RawTypes.more
          (RawType.named (codes "set") (RawTypes.more (RawType.variable (codes "A")) RawTypes.none)) RawTypes.none;
      result = RawType.truth;
    })
    ∷ RawStatement.typing (codes "t") (codes "a")
    (record { binders = []; arguments = RawTypes.none; result = RawType.individual })
    ∷ RawStatement.formula (codes "c") roles.Conjecture
    (RawForm.plain
    (RawTerm.named (codes "f")
    (RawTerms.more RawTerm.individual (RawTerms.more (RawTerm.named (codes "a") RawTerms.none) RawTerms.none))))
    ∷ [])
    ≡ Err (record {
      statement = 3;
      symbols = set ∷ f ∷ a ∷ [];
      fault = Fault.mismatch (Found.of_type (Ty.con 1 (Tys.more individual Tys.none))) (Found.of_type individual);
    })
wrong_argument = refl
