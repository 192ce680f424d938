-- The HTML goes on from where the state says that it stands.
use Rattle.std.proofs.Common.{◌≡◌, ◌≤◌, ◌++◌, length, sym, ap, ap₂, ◌∙◌, subst, arith, length-take}
use Rattle.anstyle_parse.specs.Machine.AsRead.{as_read}
use Rattle.anstyle_parse.specs.Views.Accumulator.{parser_after}
use Rattle.anstyle_parse.specs.Views.AsRead.{read_by}
use Rattle.anstyle_parse.proofs.Streams.{bytes_below}
use Rattle.anstyle_parse.specs.Machine.Step.{machine_calls}
use Rattle.anstyle_parse.specs.Views.Parser.{machine_of}
use Rattle.std.specs.Option.{is_some}
use Rattle.anstyle_parse.specs.Io.Output.{writer_in, fault_in, Finishes}
use Rattle.stream_state.specs.declared.state.StreamState.{StreamState}
use Rattle.stream_state.specs.Log.{StandsForLog}
use Rattle.stream_state.specs.State.{pending_of}
use Rattle.stream_state.proofs.LogLemmas.{any_log, ContinuesLog-calls}
use Rattle.stream_state.proofs.LogQuoted.{quoted-log}
use Rattle.ansi_html.specs.Html.{Standing, html_from, standing_at_end}
use Rattle.ansi_html.specs.Writer.{output_of, styling_of, standing_of as writer_standing, kept}
use Rattle.ansi_html.proofs.SoundLemmas.{AreSound}
use Rattle.ansi_html.proofs.PieceLemmas.{length-html_continued, AreSound-at_end}
use Rattle.stream_state.specs.contracts.bounded_sink.LentBytesSink.TheImpl.{ghosts}
use Rattle.html_pieces.specs.State.{styling_in, standing_of}
use Rattle.html_pieces.proofs.LighterLemmas.{html-lighter}
use Rattle.html_pieces.proofs.StateLemmas.{AreSound-kept, kept-sound}
use Rattle.stream_state.proofs.LentLemmas.{held-all, longer, no_fault-of, some_fault-of, put-start, put-behind, put-length}
use Rattle.html_pieces.proofs.state.HtmlState.take_through.Goals as goal

pub returns-then-is_some-clause-little_room : goal.returns-then-is_some-clause-little_room
returns-then-is_some-clause-little_room c =
    let state = c.args.self.now in
    let piece = c.args.piece.now in
    let writer = c.go_on.new.self in
    let taken = c.advance_log.ensures.calls in
    let held = pending_of state.stream in
    let log = any_log held in
    let parser = c.resume_in.new.parser in
    let calls = machine_calls parser_after (read_by parser piece) (machine_of parser) in
    let continues = ContinuesLog-calls parser piece (bytes_below piece (λ i. omega (arith, c.type_inv.piece i))) log.0
    (c.resume_in.ensures (as_read log.0) c.new-parser.ensures.stands log.1) in
    let beside = quoted-log log.0 piece calls continues in
    let at : writer_standing writer ≡ standing_of state = c.go_on.ensures.standing ∙ ap kept c.standing.ensures in
    let short = length-html_continued (styling_of writer) held beside.raw beside.others (writer_standing writer)
    (subst AreSound (sym at) (AreSound-kept _)) (beside.continues held (sym log.1)) in
    let lighter = html-lighter (styling_of writer) (writer_standing writer) calls beside.others beside.lighter in
    let is_fault = c.fault.ensures ∙ ap fault_in c.output.ensures in
    let fault = some_fault-of (fault_in (output_of c.advance_log.new.performer)) (ap is_some (sym is_fault) ∙ sym c.is_some.ensures ∙ c.if-is_some.true) in
    let more = longer (html_from (styling_of writer) (writer_standing writer) calls) c.new.result (output_of writer) (output_of c.advance_log.new.performer)
    (ap writer_in (c.go_on.ensures.output ∙ c.new-writer.ensures.output) ∙ c.new-output.ensures.writer) c.new.ensures.nothing
    (ap fault_in (c.go_on.ensures.output ∙ c.new-writer.ensures.output) ∙ c.new-output.ensures.no_fault) taken.added fault.0 fault.1 in
    omega (arith, short, lighter, beside.as_long, more, c.new.ensures.limit)

pub save-requires : goal.save-requires
save-requires c =
    let log = any_log (pending_of c.args.self.now.stream) in
    (as_read (log.0 ++ c.args.piece.now), c.advance_log.ensures.stands log.0 (c.resume_in.ensures (as_read log.0) c.new-parser.ensures.stands log.1))

module _ (c : goal.After-standing-2) where
  sound : AreSound (writer_standing c.advance_log.new.performer)
  sound =
      let calls = machine_calls parser_after (read_by c.resume_in.new.parser c.args.piece.now) (machine_of c.resume_in.new.parser) in
      subst AreSound (sym c.advance_log.ensures.calls.standing) (AreSound-at_end calls (writer_standing c.go_on.new.self) (subst AreSound (sym c.go_on.ensures.standing) (AreSound-kept _)))

pub save-requires-2-clause-shown : goal.save-requires-2-clause-shown
save-requires-2-clause-shown c = omega (arith, ap (λ (at : Standing). length at.shown.link) c.standing-2.ensures, (sound c).shown.short)

pub save-requires-2-clause-selected : goal.save-requires-2-clause-selected
save-requires-2-clause-selected c = omega (arith, ap (λ (at : Standing). length at.selected.link) c.standing-2.ensures, (sound c).selected.short)

pub returns-clause-taken : goal.returns-clause-taken
returns-clause-taken c =
    let state = c.args.self.now in
    let piece = c.args.piece.now in
    let writer = c.go_on.new.self in
    let after = c.advance_log.new.performer in
    let taken = c.advance_log.ensures.calls in
    let parser = c.resume_in.new.parser in
    let calls = machine_calls parser_after (read_by parser piece) (machine_of parser) in
    let buffer = c.finish-buffer.result.0 in
    let at : writer_standing writer ≡ standing_of state = c.go_on.ensures.standing ∙ ap kept c.standing.ensures in
    let styling : styling_of writer ≡ styling_in state = c.go_on.ensures.styling ∙ c.new-writer.ensures.new.styling ∙ c.styling.ensures in
    let no_fault = no_fault-of (fault_in (output_of after)) (ap is_some (sym (c.fault.ensures ∙ ap fault_in c.output.ensures)) ∙ sym c.is_some.ensures ∙ c.if-is_some.false) in
    let text = html_from (styling_of writer) (writer_standing writer) calls in
    let whole = held-all text c.new.result (output_of writer) (output_of after)
    (ap writer_in (c.go_on.ensures.output ∙ c.new-writer.ensures.output) ∙ c.new-output.ensures.writer) c.new.ensures.nothing
    (ap fault_in (c.go_on.ensures.output ∙ c.new-writer.ensures.output) ∙ c.new-output.ensures.no_fault) taken.added buffer c.finish-buffer.result.1 no_fault
    (subst (λ output. Finishes ghosts output buffer c.finish-buffer.result.1) c.suspend.ensures c.finish-buffer.ensures.finishes) in
    let html = c.bytes-html.ensures ∙ whole.1 in
    let stands = taken.standing ∙ ap (λ (s : Standing). standing_at_end s calls) at in
    let is_sound : AreSound (standing_at_end (standing_of state) calls) = AreSound-at_end calls (standing_of state) (AreSound-kept _) in
    let fits : length c.bytes-html.result.now ≤ length c.args.room.now = omega (arith, ap length c.bytes-html.ensures, length-take buffer.written buffer.into.now, buffer.within, whole.0, c.new.ensures.limit) in
    record {
      calls = calls;
      same_length = put-length c.bytes-html.result.now c.args.room.now c.put_at_start.new.room c.put_at_start.result c.put_at_start.ensures.length c.put_at_start.ensures.written fits;
      continues = λ before is.
          ContinuesLog-calls parser piece (bytes_below piece (λ i. omega (arith, c.type_inv.piece i))) before
          (c.resume_in.ensures (as_read before) c.new-parser.ensures.stands is);
      stream = λ before is.
          subst (λ (stream : StreamState). StandsForLog stream (before ++ piece)) (sym c.save-2.ensures.stream)
          (c.save.ensures (as_read (before ++ piece)) (c.advance_log.ensures.stands before (c.resume_in.ensures (as_read before) c.new-parser.ensures.stands is)));
      styling = c.save-2.ensures.styling;
      standing = ap kept (c.save-2.ensures.standing ∙ c.standing-2.ensures ∙ stands) ∙ kept-sound _ is_sound;
      written_fits = omega (arith, c.put_at_start.ensures.length, fits);
      html = put-start c.bytes-html.result.now c.args.room.now c.put_at_start.new.room c.put_at_start.result c.put_at_start.ensures.length c.put_at_start.ensures.written ∙ html ∙ ap₂ (λ it s. html_from it s calls) styling at;
      untouched = put-behind c.bytes-html.result.now c.args.room.now c.put_at_start.new.room c.put_at_start.result c.put_at_start.ensures.length c.put_at_start.ensures.written;
    }
