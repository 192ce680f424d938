-- Some bytes more are taken, or none.
use Rattle.std.proofs.Common.{◌≡◌, ◌+◌, ◌-◌, ℕ, List, ◌++◌, length, take, drop, sym, ap, ◌∙◌, subst, arith, length-take, length-drop, take-append-drop}
use Rattle.std.proofs.Math.Seq.{take-add}
use Rattle.std.proofs.lemmas.List.{take_all}
use borrow.Rule.Slice.PartMut.{put_mid}
use Rattle.html_pieces.specs.declared.state.HtmlState.{HtmlState}
use Rattle.html_pieces.specs.Feed.{Takes}
use Rattle.stream_state.proofs.LentLemmas.{put_rest}
use Rattle.html_pieces.proofs.TakesLemmas.{Takes-append}
use Rattle.html_pieces.proofs.state.HtmlState.take_through_tries.Goals as goal

pub loop-count-preserved : goal.loop-count-preserved
loop-count-preserved c =
    let (within, few, so_far) = c.loop-count.invariant in
    let piece = c.args.piece.now in
    let room = c.loop-count.room in
    let taken = c.loop-count.taken in
    let count = c.loop-count.count in
    let written = c.loop-count.written in
    let rest = c.take_through.new.room in
    let after = put_mid written (length room - written) room rest in
    let step = taken + count - taken in
    let bytes = take step (drop taken piece) in
    let grown : take (taken + count) piece ≡ take taken piece ++ bytes =
    take-add taken count piece ∙ ap (λ n. take taken piece ++ take n (drop taken piece)) (omega arith) in
    let whole : take (length room - written) (drop written room) ≡ drop written room = take_all (length room - written) (drop written room) (omega (arith, length-drop written room)) in
    let two = subst (λ (r : List ℕ). Takes c.loop-count.self c.take_through.new.self bytes r rest c.in-Some.more) whole c.in-Some.ensures.taken in
    let lent = c.loop-count.lent in (
      omega (arith, within, c.next_try-count-in-loop-count.ensures),
      omega (
        arith,
        few,
        c.min-size.ensures,
        two.written_fits,
        length-drop written room,
        so_far.same_length,
        c.in-Some.ensures.few,
        length-take (length lent - written) (drop written lent),
        length-drop written lent,
        c.loop-count.auto.lent,
        c.loop-count.auto.room,
      ),
      subst (λ (p : List ℕ). Takes c.args.self.now c.take_through.new.self p c.args.room.now after (written + c.in-Some.more)) (sym grown)
          (Takes-append c.args.self.now c.loop-count.self c.take_through.new.self (take taken piece) bytes c.args.room.now room rest after written c.in-Some.more so_far two (put_rest written room rest)),
    )

pub returns-in_default-clause-taken : goal.returns-in_default-clause-taken
returns-in_default-clause-taken c =
    let (within, few, so_far) = c.loop-count.invariant in
    let piece = c.args.piece.now in
    let room = c.loop-count.room in
    let taken = c.loop-count.taken in
    let written = c.loop-count.written in
    let rest = c.take_through.new.room in
    let whole : take (length room - written) (drop written room) ≡ drop written room = take_all (length room - written) (drop written room) (omega (arith, length-drop written room)) in
    let same = put_rest written room rest ∙ ap (λ l. take written room ++ l) (c.in_default.ensures.same_room ∙ whole) ∙ take-append-drop written room in
    subst (λ (r : List ℕ). Takes c.args.self.now c.take_through.new.self (take taken piece) c.args.room.now r written) (sym same)
    (subst (λ (state : HtmlState). Takes c.args.self.now state (take taken piece) c.args.room.now room written) (sym c.in_default.ensures.same_state) so_far)
