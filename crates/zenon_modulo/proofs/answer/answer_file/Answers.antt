use Rattle.std.proofs.Common.{Err, subst, sym, ap, ◌∙◌}
use Rattle.zm_base.specs.Outside.{Rose}
use Rattle.zenon_modulo.specs.Stages.{IsFileRead}
use Rattle.zenon_modulo.proofs.Calls.{rose_since, file_has_read, missing_given, file_too_large, file_fault, file_memory}
use Rattle.zenon_modulo.proofs.answer.answer_file.Goals as goal

pub returns-in-Ok-clause-answered : goal.returns-in-Ok-clause-answered
returns-in-Ok-clause-answered g c = λ call command left files before now.
    c.answer_text.ensures.answer call
    (file_has_read call c.args.name.now c.args.steps command left c.deref.result.now c.in-Ok.bytes.items (g.L.Library.files c.args.library.now) c.deref.ensures.value files
    c.in-Ok.ensures.read.0 c.in-Ok.ensures.read.1) (files ∙ sym c.in-Ok.ensures.files)
    (λ e. rose_since call.library_faults call.library_faults_now (g.L.Library.faults c.args.library.now) (g.L.Library.faults c.read_file.new.library) (g.L.Library.faults c.answer_text.new.library)
    before now c.in-Ok.ensures.later (c.answer_text.ensures.library e))

pub returns-in-Err-Missing-clause-answered : goal.returns-in-Err-Missing-clause-answered
returns-in-Err-Missing-clause-answered g c = λ call command left files before now.
    missing_given call c.args.name.now c.args.steps command left c.missing.result.outcome c.missing.result.text.items (g.L.Library.files c.args.library.now) files
    (subst (λ e. IsFileRead (g.L.Library.files c.args.library.now) c.args.name.now (Err e)) c.in-Err-Missing.field-0-is c.in-Err-Missing.ensures.read)
    c.missing.ensures.outcome c.missing.ensures.text

pub returns-in-Err-TooLarge-clause-answered : goal.returns-in-Err-TooLarge-clause-answered
returns-in-Err-TooLarge-clause-answered g c = λ call command left files before now.
    file_too_large call c.args.name.now c.args.steps command left c.refused.result.outcome c.refused.result.text.items (g.L.Library.files c.args.library.now) files
    (subst (λ e. IsFileRead (g.L.Library.files c.args.library.now) c.args.name.now (Err e)) c.in-Err-TooLarge.field-0-is c.in-Err-TooLarge.ensures.read)
    c.refused.ensures.outcome c.refused.ensures.text

pub returns-in-Err-Failed-clause-answered : goal.returns-in-Err-Failed-clause-answered
returns-in-Err-Failed-clause-answered g c = λ call command left files before now.
    file_fault call c.args.name.now c.args.steps command left c.plain.result.outcome c.plain.result.text.items c.plain.ensures.outcome c.plain.ensures.text
    (subst (λ n. Rose n call.library_faults_now) (sym before) (subst (Rose (g.L.Library.faults c.args.library.now)) (sym now)
    (c.in-Err-Failed.ensures.failed (ap Err c.in-Err-Failed.field-0-is))))

pub returns-in-Err-Memory-clause-answered : goal.returns-in-Err-Memory-clause-answered
returns-in-Err-Memory-clause-answered g c = λ call command left files before now.
    file_memory call c.args.name.now c.args.steps command left c.plain-in-Err-Memory.result.outcome c.plain-in-Err-Memory.result.text.items
    c.plain-in-Err-Memory.ensures.outcome c.plain-in-Err-Memory.ensures.text
