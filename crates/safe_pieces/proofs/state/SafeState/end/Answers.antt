-- What waits, and U+FFFD where a character is begun, fits and is written.
use Rattle.std.proofs.Common.{◌≡◌, ◌≤◌, Bool, true, false, List, ℕ, ◌++◌, length, sym, ap, ap₂, ◌∙◌, arith, lit≤, length-append}
use Rattle.std.specs.Str.{encode_utf8_all}
use Rattle.anstyle_parse.specs.Io.Output.{writer_in, fault_in}
use Rattle.stream_state.specs.Log.{end_calls}
use Rattle.stream_state.specs.contracts.bounded_sink.LentBytesSink.TheImpl.{ghosts}
use Rattle.stream_state.proofs.LentLemmas.{held-all, no_fault-within, put-start, put-behind}
use Rattle.safe_text.specs.Safe.{safe_from}
use Rattle.safe_text.specs.Marks.{Hiding, marked_from, hiding_from, closing, decided_marked}
use Rattle.safe_text.specs.Writer.{before_in as writer_before, held_in as writer_held}
use Rattle.safe_text.specs.MarkingWriter.{writer_in as safe_writer, output_in, hiding_in as writer_hiding}
use Rattle.safe_text.proofs.MarkLemmas.{hiding-same, adds-ended}
use Rattle.safe_text.proofs.MarkedLemmas.{length-from, length-between}
use Rattle.safe_text.proofs.PieceLemmas.{length-held}
use Rattle.safe_text.proofs.WholeLemmas.{length-safe}
use Rattle.safe_pieces.specs.State.{before_in, held_in, hiding_in, held_numbered}
use Rattle.safe_pieces.proofs.FeedLemmas.{end-rest}
use Rattle.safe_pieces.proofs.state.SafeState.end.Goals as goal

one_call : (is_begun : Bool) → length (end_calls is_begun) ≤ 1
one_call true = lit≤ tt
one_call false = lit≤ tt

pub returns-clause-ended : goal.returns-clause-ended
returns-clause-ended c =
    let state = c.args.self.now in
    let writer = c.resume-writer.result in
    let after = c.print_end.new.performer in
    let buffer = c.finish-buffer.result.0 in
    let calls = end_calls c.is_in_char-is_begun.result in
    let taken = c.print_end.ensures in
    let rest : Hiding → List ℕ = λ at. marked_from at calls ++ closing (hiding_from at calls) in
    let all = held_in state ++ rest (hiding_in state) in
    let before : writer_before (safe_writer writer) ≡ before_in state = c.resume-writer.ensures.before ∙ c.standing.ensures.before in
    let held : writer_held (safe_writer writer) ≡ held_in state = c.resume-writer.ensures.held ∙ c.standing.ensures.held in
    let hiding : writer_hiding writer ≡ hiding_in state =
    hiding-same _ _ _ _ (c.resume-writer.ensures.style ∙ c.standing.ensures.style) (c.resume-writer.ensures.is_open ∙ c.standing.ensures.is_open) in
    let text = encode_utf8_all (safe_from (writer_before (safe_writer writer)) (writer_held (safe_writer writer) ++ rest (writer_hiding writer))) in
    let is : text ≡ encode_utf8_all (safe_from (before_in state) all) =
    ap₂ (λ b (l : List ℕ). encode_utf8_all (safe_from b l)) before (ap₂ (λ (h : List ℕ) at. h ++ rest at) held hiding) in
    let added = adds-ended ghosts writer after calls c.into_output.result taken c.into_output.ensures in
    let short = length-safe (before_in state) all in
    let few = length-held (held_numbered state.held) in
    let many = length-append (held_in state) (rest (hiding_in state)) in
    let two = length-append (marked_from (hiding_in state) calls) (closing (hiding_from (hiding_in state) calls)) in
    let marks = length-from (hiding_in state) calls in
    let close = length-between (hiding_from (hiding_in state) calls).is_open false in
    let begun = one_call c.is_in_char-is_begun.result in
    let begins = ap writer_in c.resume-writer.ensures.output ∙ c.new-output.ensures.writer in
    let without = ap fault_in c.resume-writer.ensures.output ∙ c.new-output.ensures.no_fault in
    let no_fault = no_fault-within text c.new.result (output_in writer) c.into_output.result begins c.new.ensures.nothing without added
    (omega (arith, ap length is, short, few, many, two, marks, close, begun, c.new.ensures.limit)) in
    let whole = held-all text c.new.result (output_in writer) c.into_output.result begins c.new.ensures.nothing without added buffer c.finish-buffer.result.1 no_fault
    c.finish-buffer.ensures.finishes in
    let written = c.bytes.ensures ∙ whole.1 ∙ is in
    let front = put-start c.bytes.result.now c.args.room.now c.put_at_start.new.room c.put_at_start.result c.put_at_start.ensures.length c.put_at_start.ensures.written ∙ written in
    record {
      enough_room = omega arith;
      written_fits = omega (arith, c.put_at_start.ensures.length, ap length written, short, few, many, two, marks, close, begun);
      calls = calls;
      adds = c.is_in_char-is_begun.ensures.ends;
      ending = front;
      untouched = put-behind c.bytes.result.now c.args.room.now c.put_at_start.new.room c.put_at_start.result c.put_at_start.ensures.length c.put_at_start.ensures.written;
      text = λ before stands own all are these.
          end-rest state calls c.is_in_char-is_begun.ensures.ends before stands own all are these ∙ ap (λ t. decided_marked own ++ t) (sym front);
      begins = c.new-2.ensures;
    }
