-- Those before `low` do not decide; at the end one range alone does.
use Rattle.std.proofs.Common.{◌≡◌, ◌+◌, ◌-◌, ◌/◌, ◌<◌, length, drop, ap, sym, ◌∙◌, arith, add-one}
use Rattle.safe_text.specs.Classes.{is_among}
use Rattle.safe_text.proofs.RangeLemmas.{is_among-drop, is_among-past, is_among-at}
use Rattle.safe_text.proofs.classes.is_among.Goals as goal

pub returns-then-low-ranges : goal.returns-then-low-ranges
returns-then-low-ranges c =
    let same : c.loop-low.high ≡ c.loop-low.low = omega arith in
    sym (c.loop-low.invariant.2 ∙ is_among-at c.args.number c.args.ranges.now c.loop-low.low c.loop-low.high (0, 0) same c.if-low-ranges.true c.loop-low.invariant.3)

pub returns-else-low-ranges : goal.returns-else-low-ranges
returns-else-low-ranges c = sym (c.loop-low.invariant.2 ∙ is_among-past c.args.number c.args.ranges.now c.loop-low.low c.if-low-ranges.false)

pub loop-low-preserved-then-ranges-middle : goal.loop-low-preserved-then-ranges-middle
loop-low-preserved-then-ranges-middle c =
    let ranges = c.args.ranges.now in
    let low = c.loop-low.low in
    let high = c.loop-low.high in
    let inside : low + (high - low) / 2 < length ranges = omega arith in
    let skipped : is_among c.args.number ranges ≡ is_among c.args.number (drop (low + (high - low) / 2 + 1) ranges) =
    is_among-drop c.args.number 0 ranges (low + (high - low) / 2) (0, 0) c.requires inside c.if-ranges-middle.true
    ∙ ap (λ k. is_among c.args.number (drop k ranges)) (sym (add-one (low + (high - low) / 2))) in
    (omega arith, c.loop-low.invariant.1, skipped, c.loop-low.invariant.3)
