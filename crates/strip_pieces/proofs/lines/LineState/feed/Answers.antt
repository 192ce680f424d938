-- What is put is what the state is fed.
use Rattle.std.proofs.Common.{rules, ◌<◌, ◌≤◌, length, arith}
use Rattle.std.proofs.lemmas.Bool.Decides.{nat_tests}
use Rattle.strip_pieces.proofs.LineLemmas.{Feeds-lines}
use Rattle.strip_pieces.proofs.lines.LineState.feed.Goals as goal
use Rattle.strip_pieces.proofs.lines.LineState.feed.Goals.{else-room-lt-LEAST_LINE_ROOM-via-then-room-lt-LEAST_LINE_ROOM+else-not-is_empty, else-room-lt-LEAST_LINE_ROOM-via-else-room-lt-LEAST_LINE_ROOM}

pub returns-clause-fed : goal.returns-clause-fed
returns-clause-fed c =
    let enough : 0 < length c.args.text.now → 2 ≤ length c.args.room.now =
    elim c.else-room-lt-LEAST_LINE_ROOM.branch [
      | else-room-lt-LEAST_LINE_ROOM-via-then-room-lt-LEAST_LINE_ROOM+else-not-is_empty w ↦ λ some. grind (arith, nat_tests)
      | else-room-lt-LEAST_LINE_ROOM-via-else-room-lt-LEAST_LINE_ROOM w ↦ λ some. omega arith
    ] in
    Feeds-lines c.args.self.now c.take.new.self c.args.text.now c.args.room.now _ c.new-lines.result c.take.new.lines c.min-taken.result c.written-written.result
    c.new-lines.ensures.nothing c.new-lines.ensures.bytes (search rules) c.written-written.ensures c.take.ensures.puts c.take.ensures.held
    (omega (arith, c.min-taken.ensures, c.saturating_sub.ensures)) enough
