-- What was taken is what the state is fed.
use Rattle.std.proofs.Common.{ℕ, List, ◌<◌, ◌≤◌, length, take, subst, arith}
use Rattle.std.proofs.lemmas.Bool.Decides.{nat_tests}
use Rattle.html_pieces.specs.Feed.{Takes}
use Rattle.html_pieces.proofs.FeedLemmas.{Feeds-front, few-front}
use Rattle.html_pieces.proofs.state.HtmlState.feed.Goals as goal
use Rattle.html_pieces.proofs.state.HtmlState.feed.Goals.{else-room-lt-LEAST_ROOM-via-then-room-lt-LEAST_ROOM+else-not-is_empty, else-room-lt-LEAST_ROOM-via-else-room-lt-LEAST_ROOM}

pub returns-in-Some-clause-fed : goal.returns-in-Some-clause-fed
returns-in-Some-clause-fed c =
    let enough : 0 < length c.args.piece.now → 6534 ≤ length c.args.room.now =
    elim c.else-room-lt-LEAST_ROOM.branch [
      | else-room-lt-LEAST_ROOM-via-then-room-lt-LEAST_ROOM+else-not-is_empty w ↦ λ some. grind (arith, nat_tests)
      | else-room-lt-LEAST_ROOM-via-else-room-lt-LEAST_ROOM w ↦ λ some. omega arith
    ] in
    let taken = c.in-Some.taken in
    Feeds-front c.args.self.now c.args.self.now c.args.piece.now c.args.room.now c.take_verbatim.new.room c.min-size.result c.min-2.result taken taken
    (omega (arith, c.min-size.ensures)) (omega (arith, c.min.ensures, c.min-2.ensures)) enough c.in-Some.ensures.within c.in-Some.ensures.some c.in-Some.ensures.sure
    (omega (arith, c.in-Some.ensures.taken.written_fits, c.in-Some.ensures.within, few-front c.min-2.result c.args.piece.now, c.min.ensures, c.min-2.ensures)) c.in-Some.ensures.taken

pub returns-then-first-piece-clause-fed : goal.returns-then-first-piece-clause-fed
returns-then-first-piece-clause-fed c =
    let enough : 0 < length c.args.piece.now → 6534 ≤ length c.args.room.now =
    elim c.else-room-lt-LEAST_ROOM.branch [
      | else-room-lt-LEAST_ROOM-via-then-room-lt-LEAST_ROOM+else-not-is_empty w ↦ λ some. grind (arith, nat_tests)
      | else-room-lt-LEAST_ROOM-via-else-room-lt-LEAST_ROOM w ↦ λ some. omega arith
    ] in
    let first = c.take_first-first.result in
    let after = c.take_first-first.new.room in
    let is = c.take_first-first.ensures in
    Feeds-front c.args.self.now c.take_first-first.new.self c.args.piece.now c.args.room.now after c.min-size.result c.min-2.result first.taken first.written
    (omega (arith, c.min-size.ensures)) (omega (arith, c.min.ensures, c.min-2.ensures)) enough is.within is.some is.sure is.few
    (subst (λ (room : List ℕ). Takes c.args.self.now c.take_first-first.new.self (take first.taken (take c.min-2.result c.args.piece.now)) room after first.written) c.in_default.ensures.same_room is.taken)

pub returns-clause-fed : goal.returns-clause-fed
returns-clause-fed c =
    let enough : 0 < length c.args.piece.now → 6534 ≤ length c.args.room.now =
    elim c.else-room-lt-LEAST_ROOM.branch [
      | else-room-lt-LEAST_ROOM-via-then-room-lt-LEAST_ROOM+else-not-is_empty w ↦ λ some. grind (arith, nat_tests)
      | else-room-lt-LEAST_ROOM-via-else-room-lt-LEAST_ROOM w ↦ λ some. omega arith
    ] in
    let first = c.take_first-first.result in
    let fed = c.take_others.result in
    let is = c.take_first-first.ensures in
    let others = c.take_others.ensures in
    let piece = take c.min-2.result c.args.piece.now in
    let begun = subst (λ (room : List ℕ). Takes c.args.self.now c.take_first-first.new.self (take first.taken piece) room c.take_first-first.new.room first.written) c.in_default.ensures.same_room is.taken in
    Feeds-front c.args.self.now c.take_others.new.self c.args.piece.now c.args.room.now c.take_others.new.room c.min-size.result c.min-2.result fed.taken fed.written
    (omega (arith, c.min-size.ensures)) (omega (arith, c.min.ensures, c.min-2.ensures)) enough others.within
    (λ some. omega (arith, is.some some, others.some)) (λ sure. omega (arith, is.sure sure, others.some, others.within)) others.few
    (others.taken c.args.self.now c.args.room.now begun)
