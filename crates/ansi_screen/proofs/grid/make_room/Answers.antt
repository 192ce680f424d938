-- Sixteen more have gone further from the front; and so do the first ones, as they stood before.
use Rattle.std.proofs.Common.{◌≡◌, ◌+◌, ◌-◌, ◌≤◌, ◌++◌, length, take, drop, ap, ap₂, sym, ◌∙◌, arith}
use Rattle.std.specs.Simd.Lanes.{chunk}
use Rattle.std.proofs.lemmas.List.{drop-drop, drop-take, take-take, take-append-drop}
use Rattle.std.proofs.lemmas.Simd.{length-put_chunk}
use Rattle.ansi_screen.proofs.ShiftLemmas.{before-moved, from-moved, same-up-to, opened}
use Rattle.ansi_screen.proofs.grid.make_room.Goals as goal

pub loop-past-preserved : goal.loop-past-preserved
loop-past-preserved c =
    let old = c.args.order.now in
    let now = c.loop-past.order in
    let past = c.loop-past.past in
    let at = past - 16 in
    let is = c.loop-past.invariant in
    let others = take (length old - 1) old in
    let there : at + 16 ≤ length now = omega (arith, c.loop-past-test.true, is.0, is.1) in
    let room : at + 1 + 16 ≤ length now = omega (arith, c.loop-past-test.true, is.0, is.1) in
    let all : at + 16 ≡ past = omega (arith, c.loop-past-test.true) in
    let next : at + 1 + 16 ≡ past + 1 = omega (arith, c.loop-past-test.true) in
    let read : take 16 (drop at now) ≡ take 16 (drop at others) =
    sym (drop-take at 16 now)
    ∙ (ap (drop at) (same-up-to (at + 16) (past + 1) now old (omega (arith, all)) is.2
    ∙ sym (take-take (at + 16) (length old - 1) old (omega (arith, all, is.0)))) ∙ drop-take at 16 others) in
    let rest : drop (at + 1 + 16) now ≡ drop 16 (drop at others) =
    ap (λ n. drop n now) next ∙ (is.3 ∙ (ap (λ n. drop n others) (sym all) ∙ sym (drop-drop 16 at others))) in (
      omega (arith, is.0),
      length-put_chunk (at + 1) now (chunk at 16 now) ∙ is.1,
      before-moved at (at + 1) 16 now there room ∙ same-up-to (at + 1) (past + 1) now old (omega arith) is.2,
      from-moved at (at + 1) 16 now there room
          ∙ (ap₂ (λ a b. a ++ b) read rest ∙ take-append-drop 16 (drop at others)),
    )

pub returns : goal.returns
returns c =
    let is = c.loop-past.invariant in
    opened c.loop-past.past 16 c.args.order.now c.loop-past.order is.0 is.1 is.2 is.3 c.requires c.loop-past-test.false
