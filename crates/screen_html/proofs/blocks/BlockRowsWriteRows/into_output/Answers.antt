-- The last line is ended first, and then the block, if one is open.
use Rattle.std.proofs.Common.{[], ◌++◌, List, ℕ, Bool, eqb, sym, ap, ◌∙◌, subst, append-nil}
use Rattle.std.specs.Prelude.{if◌then◌else◌}
use Rattle.std.proofs.lemmas.Bool.{ne_eqb}
use Rattle.anstyle_parse.specs.Io.Output.{Adds}
use Rattle.anstyle_parse.proofs.Written.Output.{Adds-append}
use Rattle.ansi_html.specs.Blocks.{block_end}
use Rattle.screen_html.specs.Writer.{closing_html}
use Rattle.screen_html.specs.Blocks.{blocks_output, blocked_of}
use Rattle.screen_html.proofs.blocks.BlockRowsWriteRows.into_output.Goals as goal

pub returns-then-left-ne0 : goal.returns-then-left-ne0
returns-then-left-ne0 g c =
    let it = c.args.self in
    let inside = closing_html (blocked_of it).inside in
    let end = c.put_block_end.new.output in
    subst (λ (none : Bool). Adds g.W.Sink (inside ++ (if none then [] else block_end)) (blocks_output it) end) (sym (ne_eqb it.left 0 c.if-left-ne0.true))
    (Adds-append g.W.Sink inside block_end (blocks_output it) c.into_output-output.result end c.into_output-output.ensures c.put_block_end.ensures)

pub returns-else-left-ne0 : goal.returns-else-left-ne0
returns-else-left-ne0 g c =
    let it = c.args.self in
    let inside = closing_html (blocked_of it).inside in
    subst (λ (t : List ℕ). Adds g.W.Sink t (blocks_output it) c.into_output-output.result)
    (sym (append-nil inside) ∙ ap (λ n. inside ++ (if eqb n 0 then [] else block_end)) (sym c.if-left-ne0.false)) c.into_output-output.ensures
