-- Rows that are taken one after another, and the end of the last line, are written as HTML.
use Rattle.std.proofs.Common.{◌≡◌, Bool, false, List, [], ◌∷◌, ◌++◌, map, sym, ap, ◌∙◌, subst}
use Rattle.anstyle_parse.specs.declared.io.devices.Sink.{Ghosts as SinkOf}
use Rattle.anstyle_parse.specs.declared.io.output.Output.{Output}
use Rattle.anstyle_parse.specs.Io.Output.{Adds}
use Rattle.anstyle_parse.specs.Io.AddingProof.{Adds-nil, Adds-append}
use Rattle.ansi_html.specs.declared.scheme.Styling.{Styling}
use Rattle.ansi_html.specs.Html.{no_element}
use Rattle.ansi_screen.specs.declared.cell.Cell.{Cell}
use Rattle.ansi_screen.specs.Leaving.{TakesRows}
use Rattle.screen_text.specs.Rows.{leaving, rows_from, after_rows, last_rows_from}
use Rattle.screen_html.specs.declared.page.PageRows.{PageRows}
use Rattle.screen_html.specs.Links.{Table}
use Rattle.screen_html.specs.Page.{lines_html}
use Rattle.screen_html.specs.PageWriter.{output_of, standing_of, TakesRow}
use Rattle.screen_html.specs.Shown.{linked}
use Rattle.screen_html.specs.Writer.{Between, row_html, after_row, after_command, closing_html}
use Rattle.screen_html.proofs.ShownLemmas.{between, last_rows_html}

module _ {W : Type 0} (sink : SinkOf W) where
  takes-standing : (rows : List (List Cell)) (a b : PageRows W) → TakesRows (TakesRow sink) a rows b
      → standing_of b ≡ after_rows after_row after_command (standing_of a) (map leaving rows)
  takes-standing [] a b same = ap standing_of same
  takes-standing (row ∷ rows) a b (middle, first, others) =
      takes-standing rows middle b others ∙ ap (λ (at : Between). after_rows after_row after_command at (map leaving rows)) first.standing

  takes-added : (rows : List (List Cell)) (a b : PageRows W) → TakesRows (TakesRow sink) a rows b
      → Adds sink (rows_from row_html after_row after_command (standing_of a) (map leaving rows)) (output_of a) (output_of b)
  takes-added [] a b same = subst (λ (x : PageRows W). Adds sink [] (output_of a) (output_of x)) (sym same) (Adds-nil sink (output_of a))
  takes-added (row ∷ rows) a b (middle, first, others) =
      Adds-append sink (row_html (standing_of a) row) (rows_from row_html after_row after_command (after_row (standing_of a) row) (map leaving rows))
      (output_of a) (output_of middle) (output_of b) first.added
      (subst (λ (at : Between). Adds sink (rows_from row_html after_row after_command at (map leaving rows)) (output_of middle) (output_of b)) first.standing
      (takes-added rows middle b others))

  -- from a new writer on
  pub adds-lines : (styling : Styling) (links : Table) (rows : List (List Cell)) (a b : PageRows W) (from end : Output W)
      → output_of a ≡ from → standing_of a ≡ between styling no_element (linked [] links) false → TakesRows (TakesRow sink) a rows b
      → Adds sink (closing_html (standing_of b)) (output_of b) end → Adds sink (lines_html styling links rows) from end
  adds-lines styling links rows a b from end begins new taken closed =
      let all = map leaving rows in
      let written : Adds sink (last_rows_from row_html after_row after_command closing_html (standing_of a) all) (output_of a) end =
      Adds-append sink (rows_from row_html after_row after_command (standing_of a) all) (closing_html (after_rows after_row after_command (standing_of a) all))
      (output_of a) (output_of b) end (takes-added rows a b taken)
      (subst (λ (at : Between). Adds sink (closing_html at) (output_of b) end) (takes-standing rows a b taken) closed) in
      subst (λ o. Adds sink (lines_html styling links rows) o end) begins
      (subst (λ t. Adds sink t (output_of a) end)
      (ap (λ (at : Between). last_rows_from row_html after_row after_command closing_html at all) new
      ∙ last_rows_html styling no_element (linked [] links) false rows)
      written)
