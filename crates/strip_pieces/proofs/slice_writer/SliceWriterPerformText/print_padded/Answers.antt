-- A text that is clear is put as it is, and any other in parts.
use Rattle.std.proofs.Common.{List, ℕ, sym, subst}
use Rattle.std.specs.Str.{IsUtf8}
use Rattle.anstyle_parse.proofs.Characters.Layout.{IsUtf8-text_bytes}
use Rattle.strip_pieces.specs.SliceWriter.{Puts}
use Rattle.strip_pieces.proofs.SliceWriterLemmas.{inert_text-whole}
use Rattle.strip_pieces.proofs.slice_writer.SliceWriterPerformText.print_padded.Goals as goal

pub returns-then-is_clear_padded : goal.returns-then-is_clear_padded
returns-then-is_clear_padded c =
    let text = c.args.text.now in
    subst (λ (t : List ℕ). Puts t c.args.self.now c.put_padded.new.self)
    (sym (inert_text-whole text (IsUtf8-text_bytes text c.requires.text) (c.is_clear_padded.ensures c.if-is_clear_padded.true))) c.put_padded.ensures

pub put_parts_of-requires : goal.put_parts_of-requires
put_parts_of-requires c = subst IsUtf8 (sym c.as_bytes.ensures) (IsUtf8-text_bytes c.args.text.now c.requires.text)
