-- A row in blocks: what begins a block, the row, and what ends it.
use Rattle.std.proofs.Common.{◌≡◌, ℕ, Bool, true, false, List, [], ◌++◌, sym, ap, ◌∙◌, subst}
use Rattle.std.specs.Prelude.{◌-◌, if◌then◌else◌}
use Rattle.anstyle_parse.specs.declared.io.devices.Sink.{Ghosts as SinkOf}
use Rattle.anstyle_parse.specs.Io.Output.{Adds}
use Rattle.anstyle_parse.proofs.Written.Output.{Adds-nil, Adds-append}
use Rattle.ansi_html.specs.Blocks.{block_end}
use Rattle.ansi_screen.specs.declared.cell.Cell.{Cell}
use Rattle.ansi_screen.specs.Text.{goes_on}
use Rattle.screen_html.specs.declared.blocks.BlockRows.{BlockRows}
use Rattle.screen_html.specs.declared.rows.HtmlRows.{HtmlRows}
use Rattle.screen_html.specs.Writer.{row_html, after_row, output_of, standing_of, TakesRow as TakesHtmlRow}
use Rattle.screen_html.specs.Blocks.{Blocked, blocked, block_opening, block_closing, left_with_row, left_after_row, blocks_output, blocked_of, TakesRow}
use Rattle.screen_html.proofs.BlockLemmas.{left-some}

-- the lines that are left, by whether the row goes on
pub left-ended : (it : Blocked) (row : List Cell) → goes_on row ≡ false → left_after_row it row ≡ left_with_row it - 1
left-ended it row ends = ap (λ (on : Bool). if on then left_with_row it else left_with_row it - 1) ends

pub left-on : (it : Blocked) (row : List Cell) → goes_on row ≡ true → left_after_row it row ≡ left_with_row it
left-on it row on = ap (λ (on : Bool). if on then left_with_row it else left_with_row it - 1) on

module _ {W : Type 0} (sink : SinkOf W) where
  -- the block is begun, the row is taken, and the block ended
  pub writes-row : (old begun new : BlockRows W) (row : List Cell) (taken : HtmlRows W)
      → blocked_of begun ≡ blocked (blocked_of old).inside (left_with_row (blocked_of old))
      → Adds sink (block_opening (blocked_of old)) (blocks_output old) (blocks_output begun)
      → TakesHtmlRow sink begun.rows row taken
      → blocked_of new ≡ blocked (standing_of taken) (left_after_row (blocked_of old) row)
      → Adds sink (block_closing (left_after_row (blocked_of old) row)) (output_of taken) (blocks_output new)
      → TakesRow sink old row new
  writes-row old begun new row taken begins opened takes ends closed =
      let it = blocked_of old in
      let same = ap (λ (b : Blocked). b.inside) begins in
      let text = row_html it.inside row in
      let closing = block_closing (left_after_row it row) in
      record {
        added = Adds-append sink (block_opening it) (text ++ closing) (blocks_output old) (blocks_output begun) (blocks_output new) opened
            (Adds-append sink text closing (blocks_output begun) (output_of taken) (blocks_output new)
            (subst (λ at. Adds sink (row_html at row) (blocks_output begun) (output_of taken)) same takes.added) closed);
        standing = ends ∙ ap (λ at. blocked at (left_after_row it row)) (takes.standing ∙ ap (λ at. after_row at row) same);
      }

  -- Where a row goes on no block ends.
  pub closes-none : (old : BlockRows W) (row : List Cell) (taken : HtmlRows W) → goes_on row ≡ true
      → Adds sink (block_closing (left_after_row (blocked_of old) row)) (output_of taken) (output_of taken)
  closes-none old row taken on =
      subst (λ (t : List ℕ). Adds sink t (output_of taken) (output_of taken))
      (sym (ap block_closing (left-on (blocked_of old) row on) ∙ ap (λ (none : Bool). if none then block_end else []) (left-some (blocked_of old))))
      (Adds-nil sink (output_of taken))
