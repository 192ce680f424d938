-- Sixteen more have come nearer to the front; and so do the last ones, as they stood before.
use Rattle.std.proofs.Common.{◌≡◌, ◌+◌, ◌≤◌, ◌++◌, length, take, drop, ap, ap₂, sym, ◌∙◌, arith}
use Rattle.std.specs.Simd.Lanes.{chunk}
use Rattle.std.proofs.lemmas.Simd.{length-put_chunk}
use Rattle.std.proofs.Math.Seq.{take-add}
use Rattle.ansi_screen.proofs.ShiftLemmas.{up-to-moved, after-moved, same-from, past-first, closed}
use Rattle.ansi_screen.proofs.grid.close_up.Goals as goal

pub loop-at-preserved : goal.loop-at-preserved
loop-at-preserved c =
    let old = c.args.order.now in
    let now = c.loop-at.order in
    let at = c.loop-at.at in
    let is = c.loop-at.invariant in
    let more : at + 1 + 16 ≤ length now = omega (arith, c.loop-at-test.true, is.1) in
    let room : at + 16 ≤ length now = omega (arith, more) in
    let next : drop (at + 1) now ≡ drop at (drop 1 old) = same-from at 1 now old is.3 ∙ past-first at old in (
      omega (arith, c.loop-at-test.true, is.1),
      length-put_chunk at now (chunk (at + 1) 16 now) ∙ is.1,
      up-to-moved (at + 1) at 16 now more room
          ∙ (ap₂ (λ a b. a ++ b) is.2 (ap (take 16) next) ∙ sym (take-add at 16 (drop 1 old))),
      after-moved (at + 1) at 16 now more room ∙ same-from at 16 now old is.3,
    )

pub returns : goal.returns
returns c =
    let is = c.loop-at.invariant in
    closed c.loop-at.at 16 c.args.order.now c.loop-at.order is.0 is.1 is.2 is.3 c.requires (omega (arith, c.loop-at-test.false, c.requires))
