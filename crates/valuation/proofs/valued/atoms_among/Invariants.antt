use Rattle.std.proofs.Common.{◌≡◌, map, filter, take}
use Rattle.zm_logic.specs.View.{form_tree}
use Rattle.param_store.specs.View.{forms_of}
use Rattle.valuation.specs.Valuation.{is_atom}
use Rattle.valuation.proofs.valued.atoms_among.Given as goal

abbrev pub invariant-loop-form : goal.invariant-loop-form
invariant-loop-form l = map form_tree l.all ≡ filter is_atom (forms_of l.store (take l.form-index l.forms))
