-- Its mark, and then the character.
use Rattle.std.proofs.Common.{◌∙◌, subst}
use Rattle.anstyle_parse.specs.Stream.Call.{print}
use Rattle.safe_text.specs.Unseen.{is_unseen}
use Rattle.safe_text.specs.Marks.{mark_between}
use Rattle.safe_text.specs.Writer.{Takes}
use Rattle.safe_text.specs.MarkingWriter.{writer_in, style_in, open_in}
use Rattle.safe_text.proofs.MarkLemmas.{hiding-same, one-marked}
use Rattle.safe_text.proofs.marking.MarkingWriter.take_printed.Goals as goal

pub returns : goal.returns
returns g c =
    let self = c.args.self.now in
    let style = style_in self in
    let hidden = c.is_unseen-hidden.ensures in
    one-marked g.W.Sink self _ (writer_in c.mark.new.self) (print c.args.c)
    (subst (λ t. Takes g.W.Sink (writer_in self) (mark_between (open_in self) t) (writer_in c.mark.new.self)) hidden c.mark.ensures.taken)
    c.take.ensures
    (hiding-same (style_in c.mark.new.self) style (open_in c.mark.new.self) (is_unseen style) c.mark.ensures.style (c.mark.ensures.on ∙ hidden))
