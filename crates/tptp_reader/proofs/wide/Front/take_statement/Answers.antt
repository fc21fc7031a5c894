use Rattle.std.proofs.Common.{true, false, [], ◌∷◌}
use Rattle.tptp_reader.specs.Brackets.{Bracket, is_wide}
use Rattle.tptp_reader.specs.Scanning.{opens, closes, nothing}
use Rattle.tptp_reader.proofs.Awaited.{moves_then, moves_as, open_moves, point_moves}
use Rattle.tptp_reader.proofs.wide.Front.take_statement.Goals as goal

pub returns-then-not-branch-2 : goal.returns-then-not-branch-2
returns-then-not-branch-2 c =
    let s = c.args.self.now in let one = c.take_lower.new.self in let two = c.take.new.self in
    moves_then false s one two is_wide opens (closes (Bracket.round ∷ []))
    (moves_as _ true s one is_wide opens c.in_ok-take_lower.ensures c.if-not-branch.false)
    (moves_as _ false one two opens (closes (Bracket.round ∷ [])) (open_moves _ one two c.in_ok-take.ensures.yes c.in_ok-take.ensures.no) c.if-not-branch-2.true)

pub returns-then-not-branch-3 : goal.returns-then-not-branch-3
returns-then-not-branch-3 c =
    let s = c.args.self.now in let one = c.take_lower.new.self in let two = c.take.new.self in let three = c.take_balanced.new.self in
    moves_then false s one three is_wide opens (closes [])
    (moves_as _ true s one is_wide opens c.in_ok-take_lower.ensures c.if-not-branch.false)
    (moves_then false one two three opens (closes (Bracket.round ∷ [])) (closes [])
    (moves_as _ true one two opens (closes (Bracket.round ∷ [])) (open_moves _ one two c.in_ok-take.ensures.yes c.in_ok-take.ensures.no) c.if-not-branch-2.false)
    (moves_as _ false two three (closes (Bracket.round ∷ [])) (closes []) c.in_ok-take_balanced.ensures c.if-not-branch-3.true))

pub returns : goal.returns
returns c =
    let s = c.args.self.now in let one = c.take_lower.new.self in let two = c.take.new.self in let three = c.take_balanced.new.self in let four = c.take-2.new.self in
    moves_then _ s one four is_wide opens nothing
    (moves_as _ true s one is_wide opens c.in_ok-take_lower.ensures c.if-not-branch.false)
    (moves_then _ one two four opens (closes (Bracket.round ∷ [])) nothing
    (moves_as _ true one two opens (closes (Bracket.round ∷ [])) (open_moves _ one two c.in_ok-take.ensures.yes c.in_ok-take.ensures.no) c.if-not-branch-2.false)
    (moves_then _ two three four (closes (Bracket.round ∷ [])) (closes []) nothing
    (moves_as _ true two three (closes (Bracket.round ∷ [])) (closes []) c.in_ok-take_balanced.ensures c.if-not-branch-3.false)
    (point_moves _ three four c.in_ok-is_point.ensures.yes c.in_ok-is_point.ensures.no)))
