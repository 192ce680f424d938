-- Another part is taken, or nothing is left.
use Rattle.std.proofs.Common.{◌≡◌, ◌<◌, ◌+◌, ◌-◌, ℕ, List, ◌++◌, length, take, drop, sym, ap, ◌∙◌, subst, arith, length-take, length-drop}
use Rattle.std.proofs.Math.Seq.{take-add}
use Rattle.std.proofs.lemmas.List.{take_all}
use borrow.Rule.Slice.PartMut.{put_mid}
use Rattle.stream_state.proofs.LentLemmas.{put_rest}
use Rattle.safe_pieces.specs.Feed.{Takes}
use Rattle.safe_pieces.proofs.FeedLemmas.{Takes-nil, Takes-append, Feeds-taken, bounded-taken, none-left}
use Rattle.safe_pieces.proofs.state.SafeState.take_parts.Goals as goal

pub loop-count-init : goal.loop-count-init
loop-count-init c =
    let some : 0 < length c.args.piece.now → 0 < c.min-count.result =
    λ bytes. omega (arith, bytes, c.sure_count.ensures.most 1 (omega (arith, c.requires.room bytes, c.requires.lent, c.min.ensures)), c.min-count.ensures) in (
      omega (arith, c.min-count.ensures),
      λ more. omega (arith, c.sure_count.ensures.fits (omega (arith, more, c.min-count.ensures)), c.min.ensures, c.min-count.ensures),
      λ more. omega (arith, c.sure_count.ensures.fits (omega (arith, more, c.min-count.ensures)), c.min.ensures, c.min-count.ensures),
      λ bytes. omega (arith, some bytes),
      λ roomy none. sym (none-left (length c.args.piece.now) c.min-count.result some none),
      Takes-nil c.args.self.now c.args.room.now,
    )

pub loop-count-preserved : goal.loop-count-preserved
loop-count-preserved c =
    let (within, room_fits, lent_fits, some, once, so_far) = c.loop-count.invariant in
    let piece = c.args.piece.now in
    let room = c.loop-count.room in
    let taken = c.loop-count.taken in
    let count = c.loop-count.count in
    let written = c.loop-count.written in
    let more = c.take-more.result in
    let rest = c.take-more.new.room in
    let after = put_mid written (length room - written) room rest in
    let bytes = take (taken + count - taken) (drop taken piece) in
    let grown : take (taken + count) piece ≡ take taken piece ++ bytes =
    take-add taken count piece ∙ ap (λ n. take taken piece ++ take n (drop taken piece)) (omega arith) in
    let whole : take (length room - written) (drop written room) ≡ drop written room = take_all (length room - written) (drop written room) (omega (arith, length-drop written room)) in
    let two = subst (λ (r : List ℕ). Takes c.loop-count.self c.take-more.new.self bytes r rest more) whole c.take-more.ensures in
    let all = subst (λ (p : List ℕ). Takes c.args.self.now c.take-more.new.self p c.args.room.now after (written + more)) (sym grown)
    (Takes-append c.args.self.now c.loop-count.self c.take-more.new.self (take taken piece) bytes c.args.room.now room rest after written more so_far two (put_rest written room rest)) in
    let bounded = bounded-taken c.args.self.now c.take-more.new.self (take (taken + count) piece) c.args.room.now after (written + more) all in
    let next = c.next_count-count.ensures in (
      omega (arith, within, next.within),
      λ further. omega (arith, next.fits further, c.min-in-loop-count.ensures),
      λ further. omega (arith, next.fits further, c.min-in-loop-count.ensures),
      λ given. omega (arith, some given),
      λ roomy none.
          let left = none-left (length piece - (taken + count)) c.next_count-count.result
          (λ further. next.some further
          (omega (arith, roomy, further, bounded, length-take (taken + count) piece, within, c.min-in-loop-count.ensures, c.requires.lent, c.loop-count.auto.lent, c.take-more.auto.lent)))
          none in
          omega (arith, left, within),
      all,
    )

pub returns : goal.returns
returns c =
    let (within, room_fits, lent_fits, some, once, so_far) = c.loop-count.invariant in
    Feeds-taken c.args.self.now c.loop-count.self c.args.piece.now c.args.room.now c.loop-count.room c.loop-count.taken c.loop-count.written
    c.requires.room (omega (arith, within)) (λ bytes. omega (arith, some bytes, c.loop-count-test.false))
    (λ roomy. once (omega (arith, roomy, so_far.same_length)) (omega (arith, c.loop-count-test.false))) so_far
