-- The safe text goes on from where the state says that it stands.
use Rattle.std.proofs.Common.{◌≡◌, ◌≤◌, List, ℕ, ◌++◌, length, sym, ap, ap₂, ◌∙◌, subst, arith}
use Rattle.std.specs.Str.{encode_utf8_all}
use Rattle.anstyle_parse.specs.Machine.AsRead.{as_read}
use Rattle.anstyle_parse.specs.Views.Accumulator.{parser_after}
use Rattle.anstyle_parse.specs.Views.AsRead.{read_by}
use Rattle.anstyle_parse.specs.Machine.Step.{machine_calls}
use Rattle.anstyle_parse.specs.Views.Parser.{machine_of}
use Rattle.anstyle_parse.proofs.Streams.{bytes_below}
use Rattle.anstyle_parse.specs.Io.Output.{writer_in, fault_in, Finishes}
use Rattle.stream_state.specs.contracts.bounded_sink.LentBytesSink.TheImpl.{ghosts}
use Rattle.stream_state.specs.declared.state.StreamState.{StreamState}
use Rattle.stream_state.specs.Log.{StandsForLog, ContinuesLog}
use Rattle.stream_state.specs.State.{pending_of}
use Rattle.stream_state.proofs.LogLemmas.{any_log, ContinuesLog-calls}
use Rattle.stream_state.proofs.LogQuoted.{quoted-log}
use Rattle.stream_state.proofs.LentLemmas.{put-start, put-behind, put-length}
use Rattle.safe_text.specs.Decided.{decided_from, last_from, waiting}
use Rattle.safe_text.specs.Marks.{marked_from, hiding_from}
use Rattle.safe_text.proofs.MarkLemmas.{hiding-same}
use Rattle.safe_pieces.specs.State.{hiding_in}
use Rattle.safe_text.specs.MarkingWriter.{hiding_in as writer_hiding}
use Rattle.safe_pieces.proofs.FeedLemmas.{text-short, text-held}
use Rattle.safe_pieces.proofs.state.SafeState.take.Goals as goal

pub save-requires : goal.save-requires
save-requires c =
    let log = any_log (pending_of c.args.self.now.stream) in
    (as_read (log.0 ++ c.args.piece.now), c.advance_log.ensures.stands log.0 (c.resume_in.ensures (as_read log.0) c.new-parser.ensures.stands log.1))

pub put_at_start-requires : goal.put_at_start-requires
put_at_start-requires c =
    let piece = c.args.piece.now in
    let parser = c.resume_in.new.parser in
    let calls = machine_calls parser_after (read_by parser piece) (machine_of parser) in
    let log = any_log (pending_of c.args.self.now.stream) in
    let few = (quoted-log log.0 piece calls (ContinuesLog-calls parser piece (bytes_below piece (λ i. omega (arith, c.type_inv.piece i))) log.0
    (c.resume_in.ensures (as_read log.0) c.new-parser.ensures.stands log.1))).few_calls in
    let written = text-held c.new.result c.resume-writer.result c.advance_log.new.performer calls c.finish-buffer.result.0 c.finish-buffer.result.1
    (ap writer_in c.resume-writer.ensures.output ∙ c.new-output.ensures.writer) c.new.ensures.nothing (ap fault_in c.resume-writer.ensures.output ∙ c.new-output.ensures.no_fault)
    c.advance_log.ensures.calls (omega (arith, few, c.new.ensures.limit, c.requires.lent))
    (subst (λ output. Finishes ghosts output c.finish-buffer.result.0 c.finish-buffer.result.1) c.suspend.ensures c.finish-buffer.ensures.finishes) in
    omega (arith, ap length c.bytes.ensures, ap length written, text-short c.resume-writer.result calls, few, c.requires.room)

pub returns : goal.returns
returns c =
    let piece = c.args.piece.now in
    let writer = c.resume-writer.result in
    let taken = c.advance_log.ensures.calls in
    let parser = c.resume_in.new.parser in
    let calls = machine_calls parser_after (read_by parser piece) (machine_of parser) in
    let log = any_log (pending_of c.args.self.now.stream) in
    let goes_on : (log : List ℕ) → StandsForLog c.args.self.now.stream log → ContinuesLog log piece calls =
    λ log is. ContinuesLog-calls parser piece (bytes_below piece (λ i. omega (arith, c.type_inv.piece i))) log
    (c.resume_in.ensures (as_read log) c.new-parser.ensures.stands is) in
    let before = c.resume-writer.ensures.before ∙ c.standing.ensures.before in
    let held = c.resume-writer.ensures.held ∙ c.standing.ensures.held in
    let hiding : writer_hiding writer ≡ hiding_in c.args.self.now =
    hiding-same _ _ _ _ (c.resume-writer.ensures.style ∙ c.standing.ensures.style) (c.resume-writer.ensures.is_open ∙ c.standing.ensures.is_open) in
    let made = ap₂ (λ (h : List ℕ) at. h ++ marked_from at calls) held hiding in
    let few = (quoted-log log.0 piece calls (goes_on log.0 log.1)).few_calls in
    let written = c.bytes.ensures ∙ text-held c.new.result writer c.advance_log.new.performer calls c.finish-buffer.result.0 c.finish-buffer.result.1
    (ap writer_in c.resume-writer.ensures.output ∙ c.new-output.ensures.writer) c.new.ensures.nothing (ap fault_in c.resume-writer.ensures.output ∙ c.new-output.ensures.no_fault)
    taken (omega (arith, few, c.new.ensures.limit, c.requires.lent))
    (subst (λ output. Finishes ghosts output c.finish-buffer.result.0 c.finish-buffer.result.1) c.suspend.ensures c.finish-buffer.ensures.finishes) in
    let room = c.args.room.now in
    let bytes = c.bytes.result.now in
    let fits : length bytes ≤ length room = omega (arith, ap length written, text-short writer calls, few, c.requires.room) in
    record {
      calls = calls;
      continues = goes_on;
      stream = λ before is.
          subst (λ (stream : StreamState). StandsForLog stream (before ++ piece)) (sym c.save-2.ensures.stream)
          (c.save.ensures (as_read (before ++ piece)) (c.advance_log.ensures.stands before (c.resume_in.ensures (as_read before) c.new-parser.ensures.stands is)));
      last = c.save-2.ensures.before ∙ c.standing-2.ensures.before ∙ taken.taken.before ∙ ap₂ last_from before made;
      held = c.save-2.ensures.held ∙ c.standing-2.ensures.held ∙ taken.taken.held ∙ ap waiting made;
      hiding = hiding-same _ _ _ _ (c.save-2.ensures.style ∙ c.standing-2.ensures.style) (c.save-2.ensures.is_open ∙ c.standing-2.ensures.is_open)
          ∙ taken.hiding ∙ ap (λ at. hiding_from at calls) hiding;
      few_calls = few;
      same_length = put-length bytes room c.put_at_start.new.room c.put_at_start.result c.put_at_start.ensures.length c.put_at_start.ensures.written fits;
      written_fits = omega (arith, c.put_at_start.ensures.length, ap length written, text-short writer calls, few, c.requires.room);
      text = put-start bytes room c.put_at_start.new.room c.put_at_start.result c.put_at_start.ensures.length c.put_at_start.ensures.written
          ∙ written ∙ ap₂ (λ b (l : List ℕ). encode_utf8_all (decided_from b l)) before made;
      untouched = put-behind bytes room c.put_at_start.new.room c.put_at_start.result c.put_at_start.ensures.length c.put_at_start.ensures.written;
    }
