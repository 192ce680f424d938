-- Joined in another order.
use Rattle.std.specs.Bool.{beq}
use Rattle.ansi_style.proofs.EqualityLemmas.{and-of_eight}
use Rattle.ansi_style.proofs.style.has_same_attributes.Goals as goal

pub returns : goal.returns
returns c =
    let a = c.args.a.now in
    let b = c.args.b.now in
    and-of_eight (beq a.bold b.bold) (beq a.dim b.dim) (beq a.italic b.italic) (beq a.blink b.blink)
    (beq a.reverse b.reverse) (beq a.hidden b.hidden) (beq a.struck_out b.struck_out) (beq a.overlined b.overlined)
