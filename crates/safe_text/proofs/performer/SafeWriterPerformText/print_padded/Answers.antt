-- Plain text is its characters; so is any other of its bytes.
use Rattle.std.proofs.Common.{List, ℕ, sym, ◌∙◌, subst}
use Rattle.std.specs.Str.{IsUtf8, chars}
use Rattle.anstyle_parse.proofs.Characters.Layout.{IsUtf8-text_bytes}
use Rattle.safe_text.specs.Writer.{Takes}
use Rattle.safe_text.proofs.CallLemmas.{characters-layout}
use Rattle.safe_text.proofs.PartLemmas.{chars-plain}
use Rattle.safe_text.proofs.performer.SafeWriterPerformText.print_padded.Goals as goal

pub returns-then-is_plain_padded : goal.returns-then-is_plain_padded
returns-then-is_plain_padded g c =
    let text = c.args.text.now in
    subst (λ (cs : List ℕ). Takes g.W.Sink c.args.self.now cs c.put_plain_padded.new.self)
    (sym (characters-layout (chars text) ∙ chars-plain text (c.is_plain_padded.ensures c.if-is_plain_padded.true))) c.put_plain_padded.ensures

pub returns-else-is_nothing : goal.returns-else-is_nothing
returns-else-is_nothing g c =
    let text = c.args.text.now in
    subst (λ (cs : List ℕ). Takes g.W.Sink c.args.self.now cs c.take_bytes.new.self) (sym (characters-layout (chars text)))
    (subst (λ (bytes : List ℕ). Takes g.W.Sink c.args.self.now (chars bytes) c.take_bytes.new.self) c.as_bytes.ensures c.take_bytes.ensures)

pub take_bytes-requires : goal.take_bytes-requires
take_bytes-requires g c = subst IsUtf8 (sym c.as_bytes.ensures) (IsUtf8-text_bytes c.args.text.now c.requires.text)
