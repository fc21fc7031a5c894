use Rattle.std.proofs.Common.{ap, sym, refl, ◌∙◌, length}
use Rattle.std.proofs.lemmas.Option.{slice_get_past, slice_get_read}
use Rattle.lp_terms.specs.Typing.{Class}
use Rattle.lp_terms.specs.View.{term_of}
use Rattle.dk_checker.specs.Found.{Found}
use Rattle.dk_checker.proofs.Variables.{bound_variable, unbound_variable}
use Rattle.dk_checker.proofs.infer.variable_class.Goals as goal

pub returns-in-None : goal.returns-in-None
returns-in-None c =
    unbound_variable c.args.types.now c.args.number (slice_get_past c.args.types.now c.args.number c.in-None.ensures.lookup.3)

pub returns-in_ok-copy-in-Some : goal.returns-in_ok-copy-in-Some
returns-in_ok-copy-in-Some c =
    let ts = c.args.types.now in
    let h = c.in-Some.ensures.lookup in
    bound_variable ts c.args.number c.in-Some.ty.now (slice_get_read ts (length ts) c.args.number c.in-Some.ty.now refl h.3.0 h.1)
    ∙ ap (λ x. Found.gives (Class.of (term_of x))) (sym c.in_ok-copy-in-Some.ensures)
