-- Between two places where no right half stands, erasing and deleting change the cells between them alone.
use Rattle.std.proofs.Common.{ℕ, ◌+◌, ◌-◌, ◌≤◌, List, length, take, drop, ◌∙◌, arith}
use Rattle.std.specs.Prelude.{min}
use Rattle.std.proofs.lemmas.List.{length-replicate}
use Rattle.ansi_screen.specs.declared.cell.Cell.{Cell}
use Rattle.ansi_screen.specs.Cells.{cut, change, erased, moved_back, deleted}
use Rattle.ansi_screen.proofs.PairLemmas.{length-cut, length-run, length-back, clear-cut_other}
use Rattle.ansi_screen.proofs.RowLemmas.{IsFree, Same, same-trans, same-cut, same-change}

module _ (start end from : ℕ) (gap : Cell) (cells : List Cell) (first : start ≤ from) (free : IsFree start cells) (free_end : IsFree end cells) where
  pub same-erased : (to : ℕ) → from ≤ to → to ≤ end → end ≤ length cells → Same start end (change from to (erased gap) cells) cells
  same-erased to order last inside =
      let both : List Cell = cut from (cut to cells) in
      let fits : to ≤ length both = omega (arith, length-cut from (cut to cells), length-cut to cells) in
      same-change start end from to (erased gap) cells first order last inside free free_end
      (length-replicate (length (take (to - from) (drop from both))) gap ∙ length-run from to both fits)

  pub same-deleted : (n : ℕ) → from ≤ end → end ≤ length cells → Same start end (deleted n from end gap cells) cells
  same-deleted n order inside =
      let place : ℕ = from + min n (end - from) in
      let once : List Cell = cut place cells in
      let both : List Cell = cut from (cut end once) in
      let inside_once : end ≤ length once = omega (arith, length-cut place cells) in
      let inside_both : end ≤ length both = omega (arith, length-cut from (cut end once), length-cut end once) in
      same-trans start end (change from end (moved_back n gap) once) once cells
      (same-change start end from end (moved_back n gap) once first order (omega arith) inside_once
      (clear-cut_other place start cells free) (clear-cut_other place end cells free_end)
      (length-back n gap (take (end - from) (drop from both)) ∙ length-run from end both inside_both))
      (same-cut start end place cells (omega arith) (omega arith) free free_end)
