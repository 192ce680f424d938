-- By how many digits the number has.
use Rattle.std.proofs.Common.{List, ℕ, subst}
use Rattle.anstyle_parse.specs.Io.Output.{Adds}
use Rattle.safe_text.proofs.VisibleLemmas.{visible-four, visible-five, visible-six}
use Rattle.safe_text.proofs.performer.put_visible.Goals as goal

pub returns-then-number-lt65536 : goal.returns-then-number-lt65536
returns-then-number-lt65536 g c =
    subst (λ (t : List ℕ). Adds g.W.Sink t c.args.output.now c.put.new.self)
    (visible-four c.args.c c.from-number.result c.hex_digit-high.result c.hex_digit-third.result c.hex_digit-second.result c.hex_digit-low.result
    c.from-number.ensures c.hex_digit-high.ensures c.hex_digit-third.ensures c.hex_digit-second.ensures c.hex_digit-low.ensures c.ranges.c.1.1 c.if-number-lt65536.true)
    c.put.ensures

pub returns-then-number-lt1048576 : goal.returns-then-number-lt1048576
returns-then-number-lt1048576 g c =
    subst (λ (t : List ℕ). Adds g.W.Sink t c.args.output.now c.put-then-number-lt1048576.new.self)
    (visible-five c.args.c c.from-number.result c.hex_digit-high.result c.hex_digit-third.result c.hex_digit-second.result c.hex_digit-low.result
    c.from-number.ensures c.hex_digit-high.ensures c.hex_digit-third.ensures c.hex_digit-second.ensures c.hex_digit-low.ensures c.ranges.c.1.1
    c.hex_digit-fifth.result c.hex_digit-fifth.ensures c.if-number-lt65536.false c.if-number-lt1048576.true)
    c.put-then-number-lt1048576.ensures

pub returns-else-number-lt1048576 : goal.returns-else-number-lt1048576
returns-else-number-lt1048576 g c =
    subst (λ (t : List ℕ). Adds g.W.Sink t c.args.output.now c.put-else-number-lt1048576.new.self)
    (visible-six c.args.c c.from-number.result c.hex_digit-high.result c.hex_digit-third.result c.hex_digit-second.result c.hex_digit-low.result
    c.from-number.ensures c.hex_digit-high.ensures c.hex_digit-third.ensures c.hex_digit-second.ensures c.hex_digit-low.ensures c.ranges.c.1.1
    c.hex_digit-sixth.result c.hex_digit-fifth-else-number-lt1048576.result c.hex_digit-sixth.ensures c.hex_digit-fifth-else-number-lt1048576.ensures
    c.if-number-lt65536.false c.if-number-lt1048576.false)
    c.put-else-number-lt1048576.ensures
