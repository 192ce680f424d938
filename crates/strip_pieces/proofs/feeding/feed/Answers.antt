-- What the parser took is what the state is fed.
use Rattle.std.proofs.Common.{rules, ◌<◌, ◌≤◌, ◌++◌, length, take, arith}
use Rattle.std.proofs.lemmas.Bool.Decides.{nat_tests}
use Rattle.anstyle_parse.specs.Machine.AsRead.{as_read}
use Rattle.stream_state.specs.State.{pending_of}
use Rattle.strip_pieces.proofs.FeedLemmas.{Feeds-taken}
use Rattle.stream_state.proofs.LogLemmas.{any_log}
use Rattle.strip_pieces.proofs.feeding.feed.Goals as goal
use Rattle.strip_pieces.proofs.feeding.feed.Goals.{else-room-lt-LEAST_ROOM-via-then-room-lt-LEAST_ROOM+else-not-is_empty, else-room-lt-LEAST_ROOM-via-else-room-lt-LEAST_ROOM}

pub take-taken-requires-clause-stands : goal.take-taken-requires-clause-stands
take-taken-requires-clause-stands c =
    let held = any_log (pending_of c.args.state.now) in
    (held.0, c.resume_in.ensures (as_read held.0) c.new-parser.ensures.stands held.1)

pub save-requires : goal.save-requires
save-requires c =
    let held = any_log (pending_of c.args.state.now) in
    (as_read (held.0 ++ take c.take-taken.result c.args.piece.now), c.take-taken.ensures.taken.stands held.0 (c.resume_in.ensures (as_read held.0) c.new-parser.ensures.stands held.1))

pub returns-clause-fed : goal.returns-clause-fed
returns-clause-fed c =
    let text = c.new-text.result in
    let enough : 0 < length c.args.piece.now → 6 ≤ length c.args.room.now =
    elim c.else-room-lt-LEAST_ROOM.branch [
      | else-room-lt-LEAST_ROOM-via-then-room-lt-LEAST_ROOM+else-not-is_empty w ↦ λ some. grind (arith, nat_tests)
      | else-room-lt-LEAST_ROOM-via-else-room-lt-LEAST_ROOM w ↦ λ some. omega arith
    ] in
    Feeds-taken c.args.state.now c.save.new.self c.resume_in.new.parser c.take-taken.new.parser c.args.piece.now c.args.room.now _ text c.take-taken.new.room _ _
    (λ before stands. c.resume_in.ensures before c.new-parser.ensures.stands stands) c.save.ensures c.new-text.ensures.nothing c.new-text.ensures.bytes (search rules) c.written-written.ensures c.take-taken.ensures.taken c.take-taken.ensures.all c.take-taken.ensures.at_once enough
