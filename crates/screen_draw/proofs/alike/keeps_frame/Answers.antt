-- It can not have changed.
use Rattle.std.proofs.Common.{sym, ap, ◌∙◌}
use Rattle.std.specs.Prelude.{not}
use Rattle.screen_draw.proofs.SkippedLemmas.{frame-kept}
use Rattle.screen_draw.proofs.alike.keeps_frame.Goals as goal

pub returns-then-not-has_frame : goal.returns-then-not-has_frame
returns-then-not-has_frame c =
    let a = c.args.a.now.display in
    let b = c.args.b.now.display in
    ap not c.if-not-has_frame.true ∙ sym (frame-kept a b (c.has_frame.ensures c.args.a.now c.requires c.if-not-has_frame.true))
