-- U+FFFD, where a character is begun, and what closes the element fit, and are written.
use Rattle.std.proofs.Common.{◌≡◌, ◌++◌, length, ap, ap₂, sym, ◌∙◌, arith, length-append}
use Rattle.anstyle_parse.specs.Io.Output.{writer_in, fault_in}
use Rattle.anstyle_parse.proofs.Written.Output.{Adds-append}
use Rattle.ansi_html.specs.AddingProof.{standing_at_end-append}
use Rattle.ansi_html.specs.Html.{Standing, at_start, html_from, standing_at_end, element_end}
use Rattle.ansi_html.specs.Writer.{output_of, standing_of as writer_standing, styling_of, kept}
use Rattle.ansi_html.proofs.LengthLemmas.{length-end}
use Rattle.html_pieces.specs.State.{styling_in, standing_of}
use Rattle.html_pieces.proofs.LighterLemmas.{length-end_calls}
use Rattle.html_pieces.proofs.StateLemmas.{AreSound-kept}
use Rattle.stream_state.specs.Log.{end_calls}
use Rattle.stream_state.specs.contracts.bounded_sink.LentBytesSink.TheImpl.{ghosts}
use Rattle.stream_state.proofs.LentLemmas.{held-all, no_fault-within, put-start, put-behind}
use Rattle.html_pieces.proofs.state.HtmlState.end.Goals as goal

pub returns-clause-ended : goal.returns-clause-ended
returns-clause-ended c =
    let state = c.args.self.now in
    let writer = c.resume-writer.result in
    let after = c.print_end.new.performer in
    let old = output_of writer in
    let new = c.into_output.result in
    let buffer = c.finish-buffer.result.0 in
    let calls = end_calls c.is_in_char-is_begun.result in
    let printed = c.print_end.ensures in
    let at : writer_standing writer ≡ standing_of state = c.resume-writer.ensures.standing ∙ ap kept c.standing.ensures in
    let styling : styling_of writer ≡ styling_in state = c.resume-writer.ensures.styling ∙ c.styling.ensures in
    let text = html_from (styling_of writer) (writer_standing writer) calls ++ element_end (writer_standing after).shown in
    let is : text ≡ html_from (styling_in state) (standing_of state) calls ++ element_end (standing_at_end (standing_of state) calls).shown =
    ap₂ (λ l (s : Standing). l ++ element_end s.shown) (ap₂ (λ s x. html_from s x calls) styling at)
    (printed.standing ∙ ap (λ (s : Standing). standing_at_end s calls) at) in
    let added = Adds-append ghosts (html_from (styling_of writer) (writer_standing writer) calls) (element_end (writer_standing after).shown)
    old (output_of after) new printed.added c.into_output.ensures in
    let short = length-end_calls (styling_in state) (standing_of state) c.is_in_char-is_begun.result (AreSound-kept _) in
    let few = length-end (standing_at_end (standing_of state) calls).shown in
    let long = length-append (html_from (styling_in state) (standing_of state) calls) (element_end (standing_at_end (standing_of state) calls).shown) in
    let begins = ap writer_in c.resume-writer.ensures.output ∙ c.new-output.ensures.writer in
    let without = ap fault_in c.resume-writer.ensures.output ∙ c.new-output.ensures.no_fault in
    let no_fault = no_fault-within text c.new.result old new begins c.new.ensures.nothing without added (omega (arith, ap length is, long, short, few, c.new.ensures.limit)) in
    let whole = held-all text c.new.result old new begins c.new.ensures.nothing without added buffer c.finish-buffer.result.1 no_fault c.finish-buffer.ensures.finishes in
    let html = c.bytes.ensures ∙ whole.1 ∙ is in
    let front = put-start c.bytes.result.now c.args.room.now c.put_at_start.new.room c.put_at_start.result c.put_at_start.ensures.length c.put_at_start.ensures.written ∙ html in
    record {
      enough_room = omega arith;
      written_fits = omega (arith, c.put_at_start.ensures.length, ap length html, long, short, few);
      calls = calls;
      adds = c.is_in_char-is_begun.ensures.ends;
      closes = front;
      untouched = put-behind c.bytes.result.now c.args.room.now c.put_at_start.new.room c.put_at_start.result c.put_at_start.ensures.length c.put_at_start.ensures.written;
      html = λ before stands. (
        calls,
        c.is_in_char-is_begun.ensures.ends before stands.stream,
        λ own are.
            front ∙ ap (λ (s : Standing). html_from (styling_in state) s calls ++ element_end (standing_at_end s calls).shown) (stands.standing own are)
            ∙ ap (λ (s : Standing). html_from (styling_in state) (standing_at_end at_start own) calls ++ element_end s.shown) (sym (standing_at_end-append own calls at_start)),
      );
      begins = c.new-2.ensures.begins;
      styling = c.new-2.ensures.styling ∙ c.styling-2.ensures;
    }
