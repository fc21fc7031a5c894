-- The parts of a well typed formula are well typed.
use Rattle.std.proofs.Common.{ℕ, List}
use Rattle.zm_logic.specs.Tree.{Ty, Tys, Term, Terms, Form, Symbol, Connective, Quantifier}
use Rattle.zm_logic.specs.Typing.{HasType, IsType, IsAtom, WellTyped}

pub well_typed_equality : (symbols : List Symbol) {t : Ty} {a b : Term} → WellTyped symbols (Form.equal t a b) → IsType symbols 0 t
well_typed_equality symbols (WellTyped.equal it h g) = it

pub well_typed_left : (symbols : List Symbol) {t : Ty} {a b : Term} → WellTyped symbols (Form.equal t a b) → HasType symbols a t
well_typed_left symbols (WellTyped.equal it h g) = h

pub well_typed_right : (symbols : List Symbol) {t : Ty} {a b : Term} → WellTyped symbols (Form.equal t a b) → HasType symbols b t
well_typed_right symbols (WellTyped.equal it h g) = g

pub well_typed_atom : (symbols : List Symbol) {p : ℕ} {ts : Tys} {us : Terms} → WellTyped symbols (Form.atom p ts us) → IsAtom symbols p ts us
well_typed_atom symbols (WellTyped.atom h) = h

pub well_typed_negation : (symbols : List Symbol) {f : Form} → WellTyped symbols (Form.negation f) → WellTyped symbols f
well_typed_negation symbols (WellTyped.negation h) = h

pub first_part : (symbols : List Symbol) {c : Connective} {f g : Form} → WellTyped symbols (Form.binary c f g) → WellTyped symbols f
first_part symbols (WellTyped.binary h k) = h

pub second_part : (symbols : List Symbol) {c : Connective} {f g : Form} → WellTyped symbols (Form.binary c f g) → WellTyped symbols g
second_part symbols (WellTyped.binary h k) = k

pub binder_type : (symbols : List Symbol) {q : Quantifier} {t : Ty} {f : Form} → WellTyped symbols (Form.quantified q t f) → IsType symbols 0 t
binder_type symbols (WellTyped.quantified n x it h) = it
