-- The last line is ended first, and then what the performer has still to write.
use Rattle.std.proofs.Common.{◌≡◌, ℕ, Bool, List, [], sym, ap, ◌∙◌, subst, append-nil}
use Rattle.std.specs.Prelude.{if◌then◌else◌}
use Rattle.anstyle_parse.specs.Io.Output.{Adds}
use Rattle.anstyle_parse.proofs.Written.Output.{Adds-append}
use Rattle.screen_calls.specs.Calls.{feed_calls, closing_calls}
use Rattle.screen_calls.specs.Rows.{performer_in, hand_of}
use Rattle.screen_calls.proofs.rows.CallRowsWriteRows.into_output.Goals as goal
use Rattle.screen_calls.proofs.rows.CallRowsWriteRows.into_output.Goals.{then-is_open, else-is_open}

pub returns : goal.returns
returns g c =
    let m = g.met.P in
    let writes = g.P.WritingPerformer in
    let receives = g.P.PerformText.receives in
    let rows = c.args.self in
    let it = performer_in rows in
    let end = c.if-is_open.performer in
    let last = closing_calls (hand_of rows) in
    let received : receives it last end = elim c.if-is_open.branch [
      | then-is_open w ↦ subst (λ (on : Bool). receives it (if on then feed_calls (hand_of rows).pen else []) end) (sym w.if-is_open.true)
          (subst (λ p. receives it (feed_calls (hand_of rows).pen) p) (sym w.performer-is) w.give_feed.ensures.received)
      | else-is_open w ↦ subst (λ (on : Bool). receives it (if on then feed_calls (hand_of rows).pen else []) end) (sym w.if-is_open.false)
          (subst (λ p. receives it [] p) (sym w.performer-is) (m.PerformText.follows.none it))
    ] in
    let ending : writes.ending_from end [] ≡ writes.ending_from it last =
    m.Resumable.goes_on.same_ending it last end received [] ∙ ap (writes.ending_from it) (append-nil last) in
    Adds-append g.W.Sink (writes.text_from it last) (writes.ending_from it last) (writes.output_in it) (writes.output_in end) c.into_output.result
    (m.WritingPerformer.adds it last end received)
    (subst (λ (t : List ℕ). Adds g.W.Sink t (writes.output_in end) c.into_output.result) ending c.into_output.ensures)
