use Rattle.std.proofs.Common.{List, [], ◌∷◌, sym, ◌∙◌, ap, subst}
use Rattle.std.proofs.lemmas.List.{map-append}
use Rattle.std.proofs.lemmas.Result.{err_from_is_err_and}
use Rattle.lp_terms.specs.Signature as signature
use Rattle.lp_terms.specs.View.{entry_of, entries_of}
use Rattle.lp_terms.specs.declared.file.Entry.{Entry}
use Rattle.dk_text.specs.Refusals.{FileAnswers, file}
use Rattle.dk_reader.specs.Judged.{refusal_seen}
use Rattle.dk_reader.specs.Told.{Refuses}
use Rattle.dk_reader.proofs.Files.{SoFar, one_so_far, all_answered, all_in_order, answered_read}
use Rattle.dk_reader.proofs.NextRead.{told_refuses, is_nothing, is_something}
use Rattle.dk_reader.proofs.read.read_dk.Goals as goal

pub make-requires : goal.make-requires
make-requires c = all_in_order _ _ _ _ c.loop-here.invariant

pub returns-then-is_empty-clause-answered : goal.returns-then-is_empty-clause-answered
returns-then-is_empty-clause-answered c =
    subst (λ (z : List Entry). FileAnswers [] c.args.bytes.now (file (entries_of z))) (sym c.make.ensures)
    (all_answered _ _ _ _ _ c.loop-here.invariant c.after_blank-here.ensures.value (is_nothing c.after_blank-here.result.now c.is_empty.result c.is_empty.ensures c.if-is_empty.true))

pub returns-then-is_empty-clause-read : goal.returns-then-is_empty-clause-read
returns-then-is_empty-clause-read c =
    answered_read c.args.bytes.now (entries_of c.make.result) (subst (λ (z : List Entry). FileAnswers [] c.args.bytes.now (file (entries_of z))) (sym c.make.ensures)
    (all_answered _ _ _ _ _ c.loop-here.invariant c.after_blank-here.ensures.value (is_nothing c.after_blank-here.result.now c.is_empty.result c.is_empty.ensures c.if-is_empty.true)))

pub returns-in-Err-clause-refused : goal.returns-in-Err-clause-refused
returns-in-Err-clause-refused c =
    rw c.told.ensures (told_refuses c.args.bytes.now c.loop-here.rest.now c.after_blank-here.result.now _ (entries_of c.loop-here.entries) (refusal_seen c.in-Err.refusal) c.loop-here.invariant
    c.after_blank-here.ensures.value (is_something c.after_blank-here.result.now c.is_empty.result c.is_empty.ensures c.if-is_empty.false) c.in-Err.ensures.refused)

pub loop-here-preserved : goal.loop-here-preserved
loop-here-preserved c =
    let same = ap entries_of c.in_ok-push.ensures.ok ∙ map-append entry_of c.loop-here.entries (c.in-Ok.next.entry ∷ []) in
    subst (λ (z : List signature.Entry). SoFar c.args.bytes.now c.in-Ok.next.rest.now c.read_next.new.names z) (sym same)
    (one_so_far c.args.bytes.now c.loop-here.rest.now c.after_blank-here.result.now c.in-Ok.next.rest.now _ c.read_next.new.names (entries_of c.loop-here.entries) (entry_of c.in-Ok.next.entry)
    c.loop-here.invariant c.after_blank-here.ensures.value (is_something c.after_blank-here.result.now c.is_empty.result c.is_empty.ensures c.if-is_empty.false) c.after_blank-here.ensures.shrinks c.in-Ok.ensures.read)

pub returns-in_err-push-clause-refused : goal.returns-in_err-push-clause-refused
returns-in_err-push-clause-refused c =
    let p = err_from_is_err_and c.from_residual.result c.from_residual.ensures.1 in
    rw (p.1, p.2) Refuses.memory
