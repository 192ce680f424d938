use Rattle.std.proofs.Common.{List, ℕ, sym, ◌∙◌, subst}
use Rattle.anstyle_parse.specs.Stream.Items.{EachIs}
use Rattle.ansi_strip.specs.Driving.{is_clear}
use Rattle.strip_pieces.specs.SliceWriter.{Puts}
use Rattle.strip_pieces.proofs.SliceWriterLemmas.{inert_text-whole}
use Rattle.strip_pieces.proofs.slice_writer.SliceWriterPerformText.print_with_layout.Goals as goal

pub returns-then-is_clear : goal.returns-then-is_clear
returns-then-is_clear c =
    let text = c.args.text.now in
    let clear = subst (EachIs is_clear) c.as_bytes.ensures.value (c.is_clear.ensures c.if-is_clear.true) in
    subst (λ (t : List ℕ). Puts t c.args.self.now c.put_bytes.new.self)
    (c.as_bytes-then-is_clear.ensures.value ∙ sym (inert_text-whole text c.utf8.text clear)) c.put_bytes.ensures
