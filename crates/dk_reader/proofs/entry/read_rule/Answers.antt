use Rattle.std.proofs.Common.{List, [], map, subst}
use Rattle.lp_terms.specs.View.{terms_of}
use Rattle.lp_terms.specs.declared.term.Lp.{Lp}
use Rattle.dk_text.specs.Names.{Scope, known}
use Rattle.dk_reader.specs.Seen.{seen}
use Rattle.dk_reader.specs.Parts.{shallow_context, parts_seen}
use Rattle.dk_reader.specs.Entries.{SpellsSides}
use Rattle.dk_reader.proofs.Entering.{answered, no_closed_rule, closed_rule_read, no_open_rule, open_rule_read}
use Rattle.dk_reader.proofs.entry.read_rule.Goals as goal

pub returns-in-Some : goal.returns-in-Some
returns-in-Some c =
    let behind = c.in-Some.ensures.value in
    answered c.read_sides.result (λ n. no_closed_rule _ _ behind n)
    (λ p s. closed_rule_read _ _ _ _ behind
    (subst (λ (ts : List Lp). SpellsSides c.args.names.now [] (map seen c.in-Some.sides.now) (shallow_context (known (terms_of ts))) (parts_seen p)) c.new.ensures
    (subst (λ (z : Scope). SpellsSides c.args.names.now z (map seen c.in-Some.sides.now) (shallow_context (known (terms_of c.new.result))) (parts_seen p)) c.requires s)))
    c.read_sides.ensures

pub returns : goal.returns
returns c =
    let context = rw c.in-Some-2.is at c.in_ok-read.ensures in
    answered c.read_sides-2.result (λ n. no_open_rule _ _ _ _ _ c.in_default.ensures.value context n) (λ p s. open_rule_read _ _ _ _ _ _ context s) c.read_sides-2.ensures
