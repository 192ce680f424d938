use Rattle.std.proofs.Common.{arith, ap, length}
use Rattle.anstyle_parse.proofs.Machine.Runs.{length-Completes, LeadsTo-first, LeadsTo-whole}
use Rattle.anstyle_parse.proofs.parser.Parser.take_characters.Goals as goal

pub characters-smaller : goal.characters-smaller
characters-smaller g c =
    let n = g.C.CharAccumulator in
    let value = c.args.self.now.accumulator in
    let shorter = length-Completes n.taken value (n.taken value c.in-Some.first.now).0 c.in-Some.behind.now c.in-Some-whole.c c.in-Some-whole.further.now c.in-Some-whole.ensures.2 in
    omega (arith, shorter, ap length c.in-Some.ensures.cases.0)

pub characters-preserved : goal.characters-preserved
characters-preserved g c =
    let n = g.C.CharAccumulator in
    LeadsTo-first n.takes n.taken g.P.Perform.means c.in-Some.ensures.cases.0 c.characters.invariant
    (λ can. LeadsTo-whole n.takes n.taken g.P.Perform.means c.args.self.now c.characters.performer c.print.new.self
    c.in-Some.first.now c.in-Some.behind.now c.in-Some-whole.c c.in-Some-whole.further.now
    can c.requires.ground c.in-Some-whole.ensures c.print.ensures)
