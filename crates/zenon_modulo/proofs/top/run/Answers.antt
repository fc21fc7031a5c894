use Rattle.std.proofs.Common.{◌≡◌, ◌≢◌, ◌⊎◌, [], OnOk, OnErr, subst}
use Rattle.zm_base.specs.Outside.{Rose}
use Rattle.zenon_modulo.specs.declared.outcome.Outcome.TheVariants.{Memory}
use Rattle.zenon_modulo.specs.Outcome.{RefusesInput, IfProved, IfFalsified, IfUnknown, IfSearched, IfRefused, IfTooLarge, IfUsage, IfReadFault, IfLibraryFault, IfRead}
use Rattle.zenon_modulo.specs.Claims.{IsProved, IsFalsified, IsUnknown, TakesFirst, IsRefused, IsMisused, HasReadFault, IsOperandRead, IsOperandCut, call_of}
use Rattle.zenon_modulo.specs.Writing.{Fails, Gains, GainsFront, gain_of}
use Rattle.zenon_modulo.proofs.Clauses as clauses
use Rattle.zenon_modulo.proofs.top.run.Goals as goal

pub returns-clause-proved : goal.returns-clause-proved
returns-clause-proved g c =
    clauses.finish (λ o. IfProved o (IsProved c.args.words.now (g.S.Source.left c.args.input.now) (g.L.Library.files c.args.library.now))) c.answer-answered.result.outcome c.finished.result c.with_status.result.outcome c.write_both-written.result
    (clauses.proved_of (call_of g.S.Source g.L.Library c.args.words.now c.args.input.now c.answer-answered.new.input c.args.library.now c.answer-answered.new.library)
    c.answer-answered.result.outcome c.answer-answered.result.text.items c.answer-answered.ensures.answered) tt c.with_status.ensures.outcome c.finished.ensures.ok c.finished.ensures.err

pub returns-clause-falsified : goal.returns-clause-falsified
returns-clause-falsified g c =
    clauses.finish (λ o. IfFalsified o (IsFalsified c.args.words.now (g.S.Source.left c.args.input.now) (g.L.Library.files c.args.library.now))) c.answer-answered.result.outcome c.finished.result c.with_status.result.outcome c.write_both-written.result
    (clauses.falsified_of (call_of g.S.Source g.L.Library c.args.words.now c.args.input.now c.answer-answered.new.input c.args.library.now c.answer-answered.new.library)
    c.answer-answered.result.outcome c.answer-answered.result.text.items c.answer-answered.ensures.answered) tt c.with_status.ensures.outcome c.finished.ensures.ok c.finished.ensures.err

pub returns-clause-unknown : goal.returns-clause-unknown
returns-clause-unknown g c =
    clauses.finish (λ o. IfUnknown o (IsUnknown c.args.words.now (g.S.Source.left c.args.input.now) (g.L.Library.files c.args.library.now))) c.answer-answered.result.outcome c.finished.result c.with_status.result.outcome c.write_both-written.result
    (clauses.unknown_of (call_of g.S.Source g.L.Library c.args.words.now c.args.input.now c.answer-answered.new.input c.args.library.now c.answer-answered.new.library)
    c.answer-answered.result.outcome c.answer-answered.result.text.items c.answer-answered.ensures.answered) tt c.with_status.ensures.outcome c.finished.ensures.ok c.finished.ensures.err

pub returns-clause-picks : goal.returns-clause-picks
returns-clause-picks g c =
    clauses.finish (λ o. IfSearched o TakesFirst) c.answer-answered.result.outcome c.finished.result c.with_status.result.outcome c.write_both-written.result
    (clauses.picks_of (call_of g.S.Source g.L.Library c.args.words.now c.args.input.now c.answer-answered.new.input c.args.library.now c.answer-answered.new.library)
    c.answer-answered.result.outcome c.answer-answered.result.text.items c.answer-answered.ensures.answered) tt c.with_status.ensures.outcome c.finished.ensures.ok c.finished.ensures.err

pub returns-clause-refused : goal.returns-clause-refused
returns-clause-refused g c =
    clauses.finish (λ o. IfRefused o (IsRefused c.args.words.now (g.S.Source.left c.args.input.now) (g.L.Library.files c.args.library.now))) c.answer-answered.result.outcome c.finished.result c.with_status.result.outcome c.write_both-written.result
    (clauses.refused_of (call_of g.S.Source g.L.Library c.args.words.now c.args.input.now c.answer-answered.new.input c.args.library.now c.answer-answered.new.library)
    c.answer-answered.result.outcome c.answer-answered.result.text.items c.answer-answered.ensures.answered) tt c.with_status.ensures.outcome c.finished.ensures.ok c.finished.ensures.err

pub returns-clause-refuses_input : goal.returns-clause-refuses_input
returns-clause-refuses_input g c =
    clauses.finish (λ o. RefusesInput o) c.answer-answered.result.outcome c.finished.result c.with_status.result.outcome c.write_both-written.result
    (clauses.refuses_input_of (call_of g.S.Source g.L.Library c.args.words.now c.args.input.now c.answer-answered.new.input c.args.library.now c.answer-answered.new.library)
    c.answer-answered.result.outcome c.answer-answered.result.text.items c.answer-answered.ensures.answered) tt c.with_status.ensures.outcome c.finished.ensures.ok c.finished.ensures.err

pub returns-clause-usage : goal.returns-clause-usage
returns-clause-usage g c =
    clauses.finish (λ o. IfUsage o (IsMisused c.args.words.now)) c.answer-answered.result.outcome c.finished.result c.with_status.result.outcome c.write_both-written.result
    (clauses.usage_of (call_of g.S.Source g.L.Library c.args.words.now c.args.input.now c.answer-answered.new.input c.args.library.now c.answer-answered.new.library)
    c.answer-answered.result.outcome c.answer-answered.result.text.items c.answer-answered.ensures.answered) tt c.with_status.ensures.outcome c.finished.ensures.ok c.finished.ensures.err

pub returns-clause-no_words : goal.returns-clause-no_words
returns-clause-no_words g c =
    clauses.finish (λ o. c.args.words.now ≡ [] → o ≢ Memory) c.answer-answered.result.outcome c.finished.result c.with_status.result.outcome c.write_both-written.result
    (clauses.no_words_of (call_of g.S.Source g.L.Library c.args.words.now c.args.input.now c.answer-answered.new.input c.args.library.now c.answer-answered.new.library)
    c.answer-answered.result.outcome c.answer-answered.result.text.items c.answer-answered.ensures.answered) (λ e d. clauses.no_memory d) c.with_status.ensures.outcome c.finished.ensures.ok c.finished.ensures.err

pub returns-clause-read_fault : goal.returns-clause-read_fault
returns-clause-read_fault g c =
    clauses.finish (λ o. IfReadFault o (HasReadFault c.args.words.now (g.S.Source.faults c.args.input.now) (g.S.Source.faults c.answer-answered.new.input))) c.answer-answered.result.outcome c.finished.result c.with_status.result.outcome c.write_both-written.result
    (clauses.read_fault_of (call_of g.S.Source g.L.Library c.args.words.now c.args.input.now c.answer-answered.new.input c.args.library.now c.answer-answered.new.library)
    c.answer-answered.result.outcome c.answer-answered.result.text.items c.answer-answered.ensures.answered) tt c.with_status.ensures.outcome c.finished.ensures.ok c.finished.ensures.err

pub returns-clause-library_fault : goal.returns-clause-library_fault
returns-clause-library_fault g c =
    clauses.finish (λ o. IfLibraryFault o (Rose (g.L.Library.faults c.args.library.now) (g.L.Library.faults c.answer-answered.new.library))) c.answer-answered.result.outcome c.finished.result c.with_status.result.outcome c.write_both-written.result
    (clauses.library_fault_of (call_of g.S.Source g.L.Library c.args.words.now c.args.input.now c.answer-answered.new.input c.args.library.now c.answer-answered.new.library)
    c.answer-answered.result.outcome c.answer-answered.result.text.items c.answer-answered.ensures.answered) tt c.with_status.ensures.outcome c.finished.ensures.ok c.finished.ensures.err

pub returns-clause-untouched : goal.returns-clause-untouched
returns-clause-untouched g c =
    clauses.finish (λ o. IfUsage o (λ misuse. g.S.Source.left c.answer-answered.new.input ≡ g.S.Source.left c.args.input.now)) c.answer-answered.result.outcome c.finished.result c.with_status.result.outcome c.write_both-written.result
    (clauses.untouched_of (call_of g.S.Source g.L.Library c.args.words.now c.args.input.now c.answer-answered.new.input c.args.library.now c.answer-answered.new.library)
    c.answer-answered.result.outcome c.answer-answered.result.text.items c.answer-answered.ensures.answered) tt c.with_status.ensures.outcome c.finished.ensures.ok c.finished.ensures.err

pub returns-clause-taken : goal.returns-clause-taken
returns-clause-taken g c =
    clauses.finish (λ o. IfRead o (IsOperandRead c.args.words.now (g.S.Source.left c.args.input.now) (g.S.Source.left c.answer-answered.new.input))) c.answer-answered.result.outcome c.finished.result c.with_status.result.outcome c.write_both-written.result
    (clauses.taken_of (call_of g.S.Source g.L.Library c.args.words.now c.args.input.now c.answer-answered.new.input c.args.library.now c.answer-answered.new.library)
    c.answer-answered.result.outcome c.answer-answered.result.text.items c.answer-answered.ensures.answered) tt c.with_status.ensures.outcome c.finished.ensures.ok c.finished.ensures.err

pub returns-clause-cut : goal.returns-clause-cut
returns-clause-cut g c =
    clauses.finish (λ o. IfTooLarge o (IsOperandCut c.args.words.now (g.S.Source.left c.args.input.now) (g.S.Source.left c.answer-answered.new.input))) c.answer-answered.result.outcome c.finished.result c.with_status.result.outcome c.write_both-written.result
    (clauses.cut_of (call_of g.S.Source g.L.Library c.args.words.now c.args.input.now c.answer-answered.new.input c.args.library.now c.answer-answered.new.library)
    c.answer-answered.result.outcome c.answer-answered.result.text.items c.answer-answered.ensures.answered) tt c.with_status.ensures.outcome c.finished.ensures.ok c.finished.ensures.err

pub returns-clause-write_fault : goal.returns-clause-write_fault
returns-clause-write_fault g c =
    clauses.write_fault_of (call_of g.S.Source g.L.Library c.args.words.now c.args.input.now c.answer-answered.new.input c.args.library.now c.answer-answered.new.library)
    (Fails g.K.Sink c.args.out.now c.write_both-written.new.out ⊎ Fails g.E.Sink c.args.diag.now c.write_both-written.new.diag)
    c.answer-answered.result.outcome c.finished.result c.with_status.result.outcome c.write_both-written.result c.answer-answered.result.text.items c.answer-answered.ensures.answered c.write_both-written.ensures.cause
    c.with_status.ensures.outcome c.finished.ensures.ok c.finished.ensures.err

pub returns-clause-written : goal.returns-clause-written
returns-clause-written g c =
    clauses.written_of (call_of g.S.Source g.L.Library c.args.words.now c.args.input.now c.answer-answered.new.input c.args.library.now c.answer-answered.new.library)
    c.answer-answered.result.text.items c.diag_text.result.now (gain_of g.K.Sink c.args.out.now c.write_both-written.new.out) (gain_of g.E.Sink c.args.diag.now c.write_both-written.new.diag)
    c.answer-answered.result.outcome c.finished.result c.with_status.result.outcome c.write_both-written.result c.answer-answered.ensures.answered c.diag_text.ensures
    (subst (λ t. OnOk c.write_both-written.result (Gains t (gain_of g.K.Sink c.args.out.now c.write_both-written.new.out))) c.deref.ensures.value c.write_both-written.ensures.out) c.write_both-written.ensures.diag
    c.with_status.ensures.outcome c.finished.ensures.ok c.finished.ensures.err

pub returns-clause-cut_short : goal.returns-clause-cut_short
returns-clause-cut_short g c =
    clauses.cut_short_of (call_of g.S.Source g.L.Library c.args.words.now c.args.input.now c.answer-answered.new.input c.args.library.now c.answer-answered.new.library)
    c.answer-answered.result.text.items c.diag_text.result.now (gain_of g.K.Sink c.args.out.now c.write_both-written.new.out) (gain_of g.E.Sink c.args.diag.now c.write_both-written.new.diag)
    c.answer-answered.result.outcome c.finished.result c.with_status.result.outcome c.write_both-written.result c.answer-answered.ensures.answered c.diag_text.ensures
    (subst (λ t. OnErr c.write_both-written.result (GainsFront t (gain_of g.K.Sink c.args.out.now c.write_both-written.new.out))) c.deref.ensures.value c.write_both-written.ensures.out_front) c.write_both-written.ensures.diag_front
    c.with_status.ensures.outcome c.finished.ensures.ok c.finished.ensures.err
