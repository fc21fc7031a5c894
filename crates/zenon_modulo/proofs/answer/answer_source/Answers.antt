use Rattle.std.proofs.Common.{arith, Err, refl, ap}
use Rattle.zenon_modulo.specs.Claims.{call_of}
use Rattle.zenon_modulo.proofs.Calls.{source_has_read, source_too_large, source_fault, source_memory}
use Rattle.zenon_modulo.proofs.answer.answer_source.Goals as goal

pub returns-in-Ok-clause-answered : goal.returns-in-Ok-clause-answered
returns-in-Ok-clause-answered g c = λ words command.
    let call = call_of g.S.Source g.L.Library words c.args.input.now c.read_to_limit.new.source c.args.library.now c.answer_text.new.library in
    c.answer_text.ensures.answer call
    (source_has_read call c.args.steps command c.deref.result.now c.in-Ok.bytes.items c.deref.ensures.value c.in-Ok.ensures.reads c.in-Ok.ensures.all
    (omega (arith, c.deref.ensures.len, c.in-Ok.ensures.fits))) refl c.answer_text.ensures.library

pub returns-in-Err-Failed-clause-answered : goal.returns-in-Err-Failed-clause-answered
returns-in-Err-Failed-clause-answered g c = λ words command.
    source_fault (call_of g.S.Source g.L.Library words c.args.input.now c.read_to_limit.new.source c.args.library.now c.args.library.now) c.args.steps command
    c.plain.result.outcome c.plain.result.text.items c.plain.ensures.outcome c.plain.ensures.text (c.in-Err-Failed.ensures.failed (ap Err c.in-Err-Failed.field-0-is))

pub returns-in-Err-TooLarge-clause-answered : goal.returns-in-Err-TooLarge-clause-answered
returns-in-Err-TooLarge-clause-answered g c = λ words command.
    source_too_large (call_of g.S.Source g.L.Library words c.args.input.now c.read_to_limit.new.source c.args.library.now c.args.library.now) c.args.steps command
    c.refused.result.outcome c.refused.result.text.items (c.in-Err-TooLarge.ensures.too_large (ap Err c.in-Err-TooLarge.field-0-is)) c.refused.ensures.outcome c.refused.ensures.text

pub returns-in-Err-Memory-clause-answered : goal.returns-in-Err-Memory-clause-answered
returns-in-Err-Memory-clause-answered g c = λ words command.
    source_memory (call_of g.S.Source g.L.Library words c.args.input.now c.read_to_limit.new.source c.args.library.now c.args.library.now) c.args.steps command
    c.plain-in-Err-Memory.result.outcome c.plain-in-Err-Memory.result.text.items c.plain-in-Err-Memory.ensures.outcome c.plain-in-Err-Memory.ensures.text
