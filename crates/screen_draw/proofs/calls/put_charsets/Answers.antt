-- Two sets and a shift.
use Rattle.std.proofs.Common.{sym}
use Rattle.screen_draw.proofs.DrawLemmas.{draws-charsets}
use Rattle.screen_draw.proofs.calls.put_charsets.Goals as goal

pub returns : goal.returns
returns g c =
    draws-charsets g.W.Sink c.args.sets _ _
    (rw (sym c.charset_final-g0.ensures, sym c.charset_final-g1.ensures, sym c.shift.ensures) c.put.ensures)
