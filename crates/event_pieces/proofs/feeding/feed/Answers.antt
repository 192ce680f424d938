-- What the parser took is what the state is fed.
use Rattle.std.proofs.Common.{rules, ◌<◌, ◌≤◌, ◌++◌, length, take, refl, arith}
use Rattle.std.proofs.lemmas.Bool.Decides.{nat_tests}
use Rattle.stream_state.specs.State.{pending_of}
use Rattle.event_pieces.proofs.FeedLemmas.{Feeds-taken}
use Rattle.event_pieces.proofs.feeding.feed.Goals as goal
use Rattle.event_pieces.proofs.feeding.feed.Goals.{else-not-is_empty-via-then-not-is_empty+else-room-lt-LEAST_ROOM, else-not-is_empty-via-else-not-is_empty}

pub take-taken-requires-clause-stands : goal.take-taken-requires-clause-stands
take-taken-requires-clause-stands c = (pending_of c.args.state.now, c.resume_in.ensures (pending_of c.args.state.now) c.new-parser.ensures.stands refl)

pub returns-clause-fed : goal.returns-clause-fed
returns-clause-fed c =
    let enough_events : 0 < length c.args.piece.now → 2 ≤ length c.args.events.now =
    elim c.else-not-is_empty.branch [
      | else-not-is_empty-via-then-not-is_empty+else-room-lt-LEAST_ROOM w ↦ λ some. grind (arith, nat_tests)
      | else-not-is_empty-via-else-not-is_empty w ↦ λ some. grind (arith, nat_tests)
    ] in
    let enough_room : 0 < length c.args.piece.now → 6258 ≤ length c.args.room.now =
    elim c.else-not-is_empty.branch [
      | else-not-is_empty-via-then-not-is_empty+else-room-lt-LEAST_ROOM w ↦ λ some. grind (arith, nat_tests)
      | else-not-is_empty-via-else-not-is_empty w ↦ λ some. grind (arith, nat_tests)
    ] in
    Feeds-taken c.args.state.now c.save.new.self c.resume_in.new.parser c.take-taken.new.parser c.args.piece.now c.args.events.now _ c.args.room.now _
    c.new-writer.result c.take-taken.new.writer _ (λ before stands. c.resume_in.ensures before c.new-parser.ensures.stands stands) c.save.ensures c.new-writer.ensures.none_written c.new-writer.ensures.none_used
    c.new-writer.ensures.events c.new-writer.ensures.room (search rules) (search rules) c.written-written.ensures c.used-used.ensures
    c.take-taken.ensures.taken c.take-taken.ensures.all c.take-taken.ensures.at_once enough_events enough_room

pub save-requires : goal.save-requires
save-requires c =
    let held = pending_of c.args.state.now in
    (held ++ take c.take-taken.result c.args.piece.now, c.take-taken.ensures.taken.stands held (c.resume_in.ensures held c.new-parser.ensures.stands refl))
