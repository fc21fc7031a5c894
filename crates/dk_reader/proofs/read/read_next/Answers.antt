use Rattle.std.proofs.Common.{◌+◌, ◌≤◌, List, length, map, sym, ap, subst, arith}
use Rattle.std.proofs.lemmas.List.{length-map}
use Rattle.dk_text.specs.Tokens.{EntryTokens}
use Rattle.dk_reader.specs.declared.token.Token.{Token}
use Rattle.dk_reader.specs.Seen.{seen}
use Rattle.dk_reader.specs.Proper.{AreProper}
use Rattle.dk_reader.proofs.Identifiers.{tokens_proper}
use Rattle.dk_reader.proofs.NextRead.{next_advances}
use Rattle.dk_reader.proofs.read.read_next.Goals as goal

pub accept-requires : goal.accept-requires
accept-requires c = subst (λ (z : List Token). AreProper (map seen z)) (sym c.as_slice.ensures.value) (tokens_proper c.in-Ok.ensures.tokens)

pub returns-in-Ok-clause-read : goal.returns-in-Ok-clause-read
returns-in-Ok-clause-read c =
    let lexes = subst (λ (z : List Token). EntryTokens c.args.here.now (map seen z) c.in-Ok.lexed.rest.now) (sym c.as_slice.ensures.value) c.in-Ok.ensures.tokens in
    let size : length c.in-Ok.lexed.rest.now + length (map seen c.as_slice.result.now) ≤ length c.args.here.now =
    omega (arith, c.in-Ok.ensures.shrinks, ap length c.as_slice.ensures.value, length-map c.as_slice.result.now seen) in
    next_advances c.accept.result _ _ _ _ _ lexes size c.accept.ensures.accepted c.accept.ensures.rest
