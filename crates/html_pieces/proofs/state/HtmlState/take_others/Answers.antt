-- The first bytes, and others.
use Rattle.std.proofs.Common.{◌≡◌, ◌+◌, ◌-◌, ℕ, List, length, take, drop, sym, subst, arith, length-drop}
use Rattle.std.proofs.Math.Seq.{take-add}
use Rattle.std.proofs.lemmas.List.{take_all}
use borrow.Rule.Slice.PartMut.{put_mid}
use Rattle.html_pieces.specs.Feed.{Takes}
use Rattle.stream_state.proofs.LentLemmas.{put_rest}
use Rattle.html_pieces.proofs.TakesLemmas.{Takes-append}
use Rattle.html_pieces.proofs.state.HtmlState.take_others.Goals as goal

pub returns-clause-taken : goal.returns-clause-taken
returns-clause-taken c = λ begun clean takes.
    let piece = c.args.piece.now in
    let room = c.args.room.now in
    let first = c.args.first in
    let others = c.take_through_tries-others.result in
    let new = c.take_through_tries-others.new.self in
    let rest = c.take_through_tries-others.new.room in
    let after = put_mid first.written (length room - first.written) room rest in
    let more = take others.taken (drop first.taken piece) in
    let bytes : take (length piece - first.taken) (drop first.taken piece) ≡ drop first.taken piece = take_all (length piece - first.taken) (drop first.taken piece) (omega (arith, length-drop first.taken piece)) in
    let whole : take (length room - first.written) (drop first.written room) ≡ drop first.written room = take_all (length room - first.written) (drop first.written room) (omega (arith, length-drop first.written room)) in
    let two = subst (λ (r : List ℕ). Takes c.args.self.now new more r rest others.written) whole
    (subst (λ (p : List ℕ). Takes c.args.self.now new (take others.taken p) (take (length room - first.written) (drop first.written room)) rest others.written) bytes c.take_through_tries-others.ensures.taken) in
    subst (λ (p : List ℕ). Takes begun new p clean after (first.written + others.written)) (sym (take-add first.taken others.taken piece))
    (Takes-append begun c.args.self.now new (take first.taken piece) more clean room rest after first.written others.written takes two (put_rest first.written room rest))
