-- Where nothing is hidden and no run is open, there are no marks.
use Rattle.std.proofs.Common.{refl, sym, ◌∙◌}
use Rattle.std.specs.Str.{chars}
use Rattle.safe_text.specs.Unseen.{is_unseen}
use Rattle.safe_text.specs.MarkingWriter.{style_in, open_in}
use Rattle.safe_text.proofs.MarkLemmas.{neither, layout-marked}
use Rattle.safe_text.proofs.marking.MarkingWriterPerformText.print_with_layout.Goals as goal

pub returns-else-has_marks : goal.returns-else-has_marks
returns-else-has_marks g c =
    let self = c.args.self.now in
    let none = neither (open_in self) (is_unseen (style_in self)) (sym c.has_marks.ensures ∙ c.if-has_marks.false) in
    layout-marked g.W.Sink self _ (chars c.args.text.now) none.1 none.0 c.print_with_layout.ensures refl refl
