use Rattle.std.proofs.Common.{map, string_bytes, Err, refl, subst}
use Rattle.zenon_modulo.specs.declared.words.UsageRefusal.TheVariants.{NoMode}
use Rattle.zenon_modulo.specs.Claims.{call_of}
use Rattle.zenon_modulo.specs.WordsRead.{ExplainsWords}
use Rattle.zenon_modulo.proofs.Answered.{usage_given, memory_given}
use Rattle.zenon_modulo.proofs.Calls.{few_commands, memory_is_no_misuse}
use Rattle.zenon_modulo.proofs.answer.answer.Goals as goal

pub returns-in-Err-Usage-clause-answered : goal.returns-in-Err-Usage-clause-answered
returns-in-Err-Usage-clause-answered g c =
    usage_given (call_of g.S.Source g.L.Library c.args.words.now c.args.input.now c.args.input.now c.args.library.now c.args.library.now) c.in-Err-Usage.refusal
    c.plain.result.outcome c.plain.result.text.items c.plain.ensures.outcome c.plain.ensures.text
    (subst (ExplainsWords (map string_bytes c.args.words.now)) c.in-Err-Usage.field-0-is c.in-Err-Usage.ensures.misuse) refl

pub returns-in-Err-Memory-clause-answered : goal.returns-in-Err-Memory-clause-answered
returns-in-Err-Memory-clause-answered g c =
    memory_given (call_of g.S.Source g.L.Library c.args.words.now c.args.input.now c.args.input.now c.args.library.now c.args.library.now)
    c.plain-in-Err-Memory.result.outcome c.plain-in-Err-Memory.result.text.items c.plain-in-Err-Memory.ensures.outcome c.plain-in-Err-Memory.ensures.text
    (λ e. memory_is_no_misuse (Err c.in-Err-Memory.field-0) c.in-Err-Memory.field-0 NoMode (c.in-Err-Memory.ensures.none e) refl c.in-Err-Memory.field-0-is)

pub answer_command-requires : goal.answer_command-requires
answer_command-requires g c = few_commands (map string_bytes c.args.words.now) c.in-Ok.command c.in-Ok.ensures.command
