use Rattle.std.proofs.Common.{[], ◌∷◌, length, map, sym, ◌∙◌, ap, arith, length-append}
use Rattle.std.proofs.lemmas.List.{map-append}
use Rattle.dk_reader.specs.Seen.{seen}
use Rattle.dk_reader.proofs.Lexed.{none_left, point_left, more_left}
use Rattle.dk_reader.proofs.lexer.entry_tokens.Goals as goal

pub returns-in_default-clause-tokens : goal.returns-in_default-clause-tokens
returns-in_default-clause-tokens c = none_left _ _ _ _ c.loop-front.invariant.onwards c.after_blank-at.ensures.value c.in_default.ensures.value

pub returns-then-is_point-clause-tokens : goal.returns-then-is_point-clause-tokens
returns-then-is_point-clause-tokens c =
    point_left _ _ _ _ _ _ (seen c.in-Some.front.token) c.loop-front.invariant.onwards c.after_blank-at.ensures.value c.in-Some.ensures.value
    (sym c.is_point.ensures ∙ c.if-is_point.true)
    (ap (map seen) c.in_ok-push.ensures.items ∙ map-append seen c.loop-front.tokens.items (c.in-Some.front.token ∷ []))

pub loop-front-preserved : goal.loop-front-preserved
loop-front-preserved c =
    let size = ap length c.in_ok-push.ensures.items ∙ length-append c.loop-front.tokens.items (c.in-Some.front.token ∷ []) in
    record {
      onwards = more_left _ _ _ _ _ _ (seen c.in-Some.front.token) c.loop-front.invariant.onwards c.after_blank-at.ensures.value c.in-Some.ensures.value
          (sym c.is_point.ensures ∙ c.if-is_point.false)
          (ap (map seen) c.in_ok-push.ensures.items ∙ map-append seen c.loop-front.tokens.items (c.in-Some.front.token ∷ []));
      shrinks = omega (arith, size, c.loop-front.invariant.shrinks, c.after_blank-at.ensures.shrinks, c.in-Some.ensures.shrinks);
    }
