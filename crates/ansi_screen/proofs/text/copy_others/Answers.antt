-- One cell more.
use Rattle.std.proofs.Common.{◌≡◌, ◌+◌, ◌-◌, ◌*◌, ◌≤◌, length, ◌∙◌, arith}
use Rattle.std.proofs.lemmas.List.{length-drop}
use Rattle.ansi_screen.proofs.TextLemmas.{text-more, length-filled, filled-more}
use Rattle.ansi_screen.proofs.text.copy_others.Goals as goal

pub loop-i-preserved : goal.loop-i-preserved
loop-i-preserved c =
    let (few, so_far, long) = c.loop-i.invariant in
    let filled = c.loop-i.filled in
    let block = c.loop-i.block in
    let n = c.copy_unmarked_cell-filled.result in
    let bytes = c.copy_unmarked_cell-filled.new.bytes in
    let inside : filled ≤ 128 = omega (arith, few, c.loop-i-test.true, c.min-count.ensures) in
    let rest : length bytes ≡ 128 - filled = omega (arith, c.copy_unmarked_cell-filled.auto.bytes, length-drop filled block, long) in
    let more : filled + n ≤ 4 * (c.loop-i.i + 1) = omega (arith, few, c.copy_unmarked_cell-filled.ensures.few) in (
      more,
      filled-more 128 filled block bytes long inside n
          ∙ text-more c.args.cells.now c.loop-i.i _ _ _ (omega (arith, c.loop-i-test.true, c.min-count.ensures)) so_far c.copy_unmarked_cell-filled.ensures.text,
      length-filled 128 filled block bytes long inside rest,
    )
