-- Where nothing is hidden and no run is open, there are no marks.
use Rattle.std.proofs.Common.{List, ℕ, map, refl, sym, ◌∙◌, subst}
use Rattle.std.specs.Str.{IsUtf8, chars}
use Rattle.anstyle_parse.specs.Stream.Texts.{layout_call}
use Rattle.anstyle_parse.proofs.Characters.Layout.{IsUtf8-text_bytes}
use Rattle.safe_text.specs.Unseen.{is_unseen}
use Rattle.safe_text.specs.MarkingWriter.{style_in, open_in, TakesMarked}
use Rattle.safe_text.proofs.MarkLemmas.{neither, layout-marked}
use Rattle.safe_text.proofs.marking.MarkingWriterPerformText.print_padded.Goals as goal

pub returns-then-has_marks : goal.returns-then-has_marks
returns-then-has_marks g c =
    subst (λ (bytes : List ℕ). TakesMarked g.W.Sink c.args.self.now (map layout_call (chars bytes)) c.take_bytes.new.self) c.as_bytes.ensures c.take_bytes.ensures

pub returns-else-has_marks : goal.returns-else-has_marks
returns-else-has_marks g c =
    let self = c.args.self.now in
    let none = neither (open_in self) (is_unseen (style_in self)) (sym c.has_marks-has_marks.ensures ∙ c.if-has_marks.false) in
    layout-marked g.W.Sink self _ (chars c.args.text.now) none.1 none.0 c.print_padded.ensures refl refl

pub take_bytes-requires : goal.take_bytes-requires
take_bytes-requires g c = subst IsUtf8 (sym c.as_bytes.ensures) (IsUtf8-text_bytes c.args.text.now c.requires.text)
