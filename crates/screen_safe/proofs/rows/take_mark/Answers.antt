-- There is a mark where it was otherwise before.
use Rattle.std.proofs.Common.{refl}
use Rattle.safe_text.proofs.MarkLemmas.{flag-same, takes-same}
use Rattle.screen_safe.proofs.rows.take_mark.Goals as goal

pub returns-else-hidden-before : goal.returns-else-hidden-before
returns-else-hidden-before g c =
    takes-same g.W.Sink c.args.writer.now c.args.writer.now c.args.before c.args.hidden
    (flag-same c.args.hidden c.args.before c.if-hidden-before.false) refl
