-- The end of a line, a character that shows, or another.
use Rattle.std.proofs.Common.{sym, ◌∙◌}
use Rattle.safe_text.proofs.WriterLemmas.{line_end-taken, shown-taken, hidden-taken}
use Rattle.safe_text.proofs.performer.SafeWriter.write.Goals as goal

pub returns-then-ends_line : goal.returns-then-ends_line
returns-then-ends_line g c =
    line_end-taken g.W.Sink c.args.self.now c.put.new.self c.args.c c.requires.nothing c.requires.free (sym c.ends_line.ensures ∙ c.if-ends_line.true)
    c.put.ensures.held c.put.ensures.before c.put.ensures.added

pub returns-then-is_shown : goal.returns-then-is_shown
returns-then-is_shown g c =
    shown-taken g.W.Sink c.args.self.now c.put-then-is_shown.new.self c.args.c c.requires.nothing c.requires.free (sym c.ends_line.ensures ∙ c.if-ends_line.false)
    (sym c.is_shown.ensures ∙ c.if-is_shown.true) c.put-then-is_shown.ensures.held c.put-then-is_shown.ensures.before c.put-then-is_shown.ensures.added

pub returns-else-is_shown : goal.returns-else-is_shown
returns-else-is_shown g c =
    hidden-taken g.W.Sink c.args.self.now c.show.new.self c.args.c c.requires.nothing c.requires.free (sym c.ends_line.ensures ∙ c.if-ends_line.false)
    (sym c.is_shown.ensures ∙ c.if-is_shown.false) c.show.ensures.held c.show.ensures.before c.show.ensures.added
