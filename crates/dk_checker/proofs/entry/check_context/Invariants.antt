use Rattle.std.proofs.Common.{◌≡◌, [], drop, length}
use Rattle.lp_terms.specs.Typing.{Context}
use Rattle.lp_terms.specs.WellFormed.{rule_context}
use Rattle.lp_terms.specs.View.{terms_of, entries_of}
use Rattle.dk_checker.specs.Inference.{check_context}
use Rattle.dk_checker.proofs.Entries.{context_left, rule_left}
use Rattle.dk_checker.proofs.entry.check_context.Given as goal

-- what is left of the context, after the types so far
abbrev pub invariant-loop-ty : goal.invariant-loop-ty
invariant-loop-ty l = record {
  told :
      context_left (entries_of l.signature) l.limit l.types (drop l.ty-index l.context)
      ≡ check_context (entries_of l.signature) l.limit (terms_of l.context) 0 [] Context.empty;
  types : rule_left l.types (drop l.ty-index l.context) ≡ rule_context (terms_of l.context) 0 [] Context.empty;
  many : length l.types ≡ l.ty-index;
}
