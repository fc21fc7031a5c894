use Rattle.std.proofs.Common.{◌≡◌, ◌+◌, ◌-◌, ℕ, List, length, Some, sym, ◌∙◌, ap, arith}
use Rattle.tptp_lex.specs.Tokens.{token_at}
use Rattle.tptp_lex.proofs.Suffix.{skips_place}
use Rattle.tptp_lex.proofs.lexer.token_from.Goals as goal

pub returns-in-Some-clause-token : goal.returns-in-Some-clause-token
returns-in-Some-clause-token c =
    let bytes : List ℕ = c.args.text.now in
    let rest : List ℕ = c.after_blank-rest.result.now in
    let start : ℕ = length bytes - length rest in
    let count : ℕ = c.in-Some.count in
    let place = skips_place bytes rest c.args.from c.after_blank-rest.ensures.value in
    let same : count ≡ start + count - start = omega arith in
    record {
      skips = place.0;
      row = ap token_at (sym place.1) ∙ sym c.in-Some.ensures.value ∙ ap (λ n. Some (c.in-Some.kind, n)) same;
      after = omega (arith, c.after_blank-rest.ensures.shrinks);
      order = omega arith;
      within = omega (arith, c.after_blank-rest.ensures.shrinks, c.in-Some.ensures.within);
    }

pub returns-in-None-clause-fault : goal.returns-in-None-clause-fault
returns-in-None-clause-fault c =
    let bytes : List ℕ = c.args.text.now in
    let rest : List ℕ = c.after_blank-rest.result.now in
    let place = skips_place bytes rest c.args.from c.after_blank-rest.ensures.value in
    record {
      skips = place.0;
      none = ap token_at (sym place.1) ∙ sym c.in-None.ensures.value;
      after = omega (arith, c.after_blank-rest.ensures.shrinks);
      within = omega arith;
    }
