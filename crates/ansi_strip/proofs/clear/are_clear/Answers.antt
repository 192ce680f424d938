-- Both ends are clear, and they meet.
use Rattle.std.proofs.Common.{eqb-true, subst}
use Rattle.anstyle_parse.specs.Stream.Items.{EachIs}
use Rattle.ansi_strip.specs.Driving.{is_clear}
use Rattle.ansi_strip.proofs.LaneLemmas.{each_of_ends}
use Rattle.ansi_strip.proofs.clear.are_clear.Goals as goal

pub returns-in-Some-Some : goal.returns-in-Some-Some
returns-in-Some-Some g c = λ is short.
    let front = c.in-Some-Some.ensures.cases in
    let back = c.in-Some-Some.ensures'.cases in
    let both = c.unclear.ensures (eqb-true c.unclear.result 0 is) in
    each_of_ends is_clear g.row.N c.args.bytes.now front.enough short (subst (EachIs is_clear) front.same both.0)
    (subst (EachIs is_clear) back.1.same both.1)
