-- A mark comes before the first character, if there is one.
use Rattle.std.proofs.Common.{List, ℕ, map, length, eqb-true, sym, ap, ◌∙◌, subst}
use Rattle.std.specs.Str.{chars}
use Rattle.std.proofs.lemmas.List.{nil_from_length}
use Rattle.std.proofs.lemmas.Str.{chars-nil}
use Rattle.anstyle_parse.specs.Stream.Call.{print}
use Rattle.safe_text.specs.Marks.{mark_between}
use Rattle.safe_text.specs.Writer.{Takes}
use Rattle.safe_text.specs.MarkingWriter.{writer_in, open_in, TakesMarked}
use Rattle.safe_text.specs.MarkingProof.{TakesMarked-none}
use Rattle.safe_text.proofs.MarkLemmas.{some-characters, text-marked}
use Rattle.safe_text.proofs.marking.MarkingWriterPerformText.print_text.Goals as goal

pub returns-then-not-is_empty : goal.returns-then-not-is_empty
returns-then-not-is_empty g c =
    let text = c.args.text.now in
    let self = c.args.self.now in
    let hidden = c.is_unseen-hidden.ensures in
    text-marked g.W.Sink self _ (chars text) (writer_in c.mark.new.self)
    (some-characters text c.utf8.text (sym c.is_empty.ensures ∙ c.if-not-is_empty.true))
    (subst (λ t. Takes g.W.Sink (writer_in self) (mark_between (open_in self) t) (writer_in c.mark.new.self)) hidden c.mark.ensures.taken)
    c.print_text.ensures c.mark.ensures.style (c.mark.ensures.on ∙ hidden)

pub returns-else-not-is_empty : goal.returns-else-not-is_empty
returns-else-not-is_empty g c =
    let text = c.args.text.now in
    let none = nil_from_length text (eqb-true (length text) 0 (sym c.is_empty.ensures ∙ c.if-not-is_empty.false)) in
    subst (λ (cs : List ℕ). TakesMarked g.W.Sink c.args.self.now (map print cs) c.args.self.now) (sym (ap chars none ∙ chars-nil))
    (TakesMarked-none g.W.Sink c.args.self.now)
