-- Outcomes with a table.
use Rattle.std.proofs.Common.{Result, Ok, Err, refl}
use Rattle.tff_typing.specs.Fault.{Outcome}
use Rattle.tff_typing.specs.Typing.{unchanged}
use Rattle.tff_typing.specs.declared.symbols.Symbols.{Symbols}
use Rattle.tff_typing.specs.declared.fault.Stop.{Stop}
use Rattle.tff_typing.specs.declared.fault.Stop.TheVariants as stops
use Rattle.tff_typing.specs.View.{table_tree, Gives, GivesIn}

-- what leaves the table as it is
pub given_unchanged : {A B : Type 0} (view : A → B) (r : Result A Stop) (s : Symbols) (o : Outcome B) → Gives view r o
    → GivesIn view r s (unchanged (table_tree s) o)
given_unchanged view (Ok x) s o h = rw h refl
given_unchanged view (Err (stops.Refused e)) s o h = rw h refl
given_unchanged view (Err stops.Memory) s o h = tt
