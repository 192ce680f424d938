-- One cell more, between those that are kept.
use Rattle.std.proofs.Common.{◌≡◌, ◌+◌, ◌-◌, ◌≤◌, true, length-take, take, drop, refl, ap₂, sym, subst, ◌∙◌, arith}
use Rattle.std.specs.Prelude.{◌||◌, not}
use Rattle.std.proofs.lemmas.Bool.{le-ltb, lt-ltb}
use Rattle.std.proofs.lemmas.List.{take-take}
use Rattle.ansi_screen.specs.Cells.{is_right, cell_at}
use Rattle.ansi_screen.specs.declared.cell.Cell.{Cell}
use Rattle.screen_draw.specs.Alike.{all_two, are_alike}
use Rattle.screen_draw.specs.Drawing.{Draws}
use Rattle.screen_draw.specs.Update.{begun_at}
use Rattle.screen_draw.proofs.ColumnLemmas.{columns-wider}
use Rattle.screen_draw.proofs.StepLemmas.{RowDraws, row-from, row-more, row-closed, draws-none}
use Rattle.screen_draw.proofs.UnchangedLemmas.{row-begins, erased-nothing, alike-stays, differs-undone}
use Rattle.screen_draw.proofs.changes.put_row.Goals.{then-brush-gt0, else-brush-gt0+then-differs, else-brush-gt0+else-differs}
use Rattle.screen_draw.proofs.changes.put_row.Goals as goal

pub loop-column-init : goal.loop-column-init
loop-column-init g c =
    let left = c.args.columns.0 in
    let right = c.args.columns.1 in
    let count = c.alike_front-alike.result in
    let olds = c.args.olds.now in
    let news = c.args.news.now in
    let few : count ≤ right - left = omega (arith, c.alike_front-alike.ensures.within, length-take (right - left) (drop left olds)) in
    let alike : all_two are_alike (take count (drop left olds)) (take count (drop left news)) ≡ true =
    sym (ap₂ (all_two are_alike) (take-take count (right - left) (drop left olds) few) (take-take count (right - left) (drop left news) few))
    ∙ c.alike_front-alike.ensures.front in
    let begins = row-begins left count c.args.row c.args.place olds news c.requires.same c.requires.kept.front alike in
    subst (λ b. RowDraws g.W.Sink c.args.row (begun_at c.args.place) olds news (left + count) b c.args.output.now c.args.output.now)
    (sym c.begun_at-brush.ensures)
    (row-from g.W.Sink c.args.row (begun_at c.args.place) olds news (left + count) c.args.output.now begins.0 begins.1)

pub put_change-brush-requires-clause-differs : goal.put_change-brush-requires-clause-differs
put_change-brush-requires-clause-differs g c =
    let old = cell_at c.loop-column.column c.args.olds.now in
    let new = cell_at c.loop-column.column c.args.news.now in
    let is = ap₂ (λ (x y : Cell). not (is_right y.part || are_alike x y)) c.cell_in.ensures c.cell_in-else-brush-gt0.ensures in
    differs-undone c.loop-column.brush old new (le-ltb 0 c.loop-column.brush.erased c.if-brush-gt0.false)
    (sym is ∙ (sym c.differs.ensures ∙ c.if-differs.true))

pub loop-column-preserved : goal.loop-column-preserved
loop-column-preserved g c =
    let row = c.args.row in
    let column = c.loop-column.column in
    let olds = c.args.olds.now in
    let news = c.args.news.now in
    let brush = c.loop-column.brush in
    let first = begun_at c.args.place in
    let old = cell_at column olds in
    let new = cell_at column news in
    let before = c.args.output.now in
    let output = c.loop-column.output in
    elim c.if-brush-gt0.branch [
      | then-brush-gt0 w ↦
          let none = erased-nothing row column brush old new (drop (column + 1) olds) (drop (column + 1) news) (lt-ltb 0 brush.erased w.if-brush-gt0.true) in
          subst (λ b. RowDraws g.W.Sink row first olds news (column + 1) b before c.if-brush-gt0.output) (sym w.brush-is)
          (subst (λ o. RowDraws g.W.Sink row first olds news (column + 1) w.passed-brush.result before o) (sym w.output-is)
          (row-more g.W.Sink row first olds news column brush _ _ _ _ _ _ _
          (omega (arith, c.requires.same, c.requires.within)) (omega (arith, c.requires.within)) refl refl refl
          (w.passed-brush.ensures ∙ none.1) c.loop-column.invariant
          (subst (λ l. Draws g.W.Sink l output output) (sym none.0) (draws-none g.W.Sink output))))
      | else-brush-gt0+then-differs w ↦
          subst (λ b. RowDraws g.W.Sink row first olds news (column + 1) b before c.if-brush-gt0.output) (sym w.brush-is)
          (subst (λ o. RowDraws g.W.Sink row first olds news (column + 1) w.put_change-brush.result before o) (sym w.output-is)
          (row-more g.W.Sink row first olds news column brush _ _ _ _ _ _ _
          (omega (arith, c.requires.same, c.requires.within)) (omega (arith, c.requires.within)) refl refl refl
          w.put_change-brush.ensures.brush c.loop-column.invariant w.put_change-brush.ensures.calls))
      | else-brush-gt0+else-differs w ↦
          let is = ap₂ (λ (x y : Cell). not (is_right y.part || are_alike x y)) w.cell_in.ensures w.cell_in-else-brush-gt0.ensures in
          let none = alike-stays row column brush old new (drop (column + 1) olds) (drop (column + 1) news) (le-ltb 0 brush.erased w.if-brush-gt0.false)
          (sym is ∙ (sym w.differs.ensures ∙ w.if-differs.false)) in
          subst (λ b. RowDraws g.W.Sink row first olds news (column + 1) b before c.if-brush-gt0.output) (sym w.brush-is)
          (subst (λ o. RowDraws g.W.Sink row first olds news (column + 1) brush before o) (sym w.output-is)
          (row-more g.W.Sink row first olds news column brush _ _ _ _ _ _ _
          (omega (arith, c.requires.same, c.requires.within)) (omega (arith, c.requires.within)) refl refl refl
          none.1 c.loop-column.invariant
          (subst (λ l. Draws g.W.Sink l output output) (sym none.0) (draws-none g.W.Sink output))))
    ]

pub returns-clause-calls : goal.returns-clause-calls
returns-clause-calls g c =
    let kept = c.requires.kept in
    let behind = columns-wider c.args.columns.0 c.args.columns.1 c.args.columns.0 c.loop-column.column c.args.olds.now c.args.news.now (omega arith) (omega arith) kept in
    (row-closed g.W.Sink c.args.row (begun_at c.args.place) c.args.olds.now c.args.news.now c.loop-column.column c.loop-column.brush _ _ behind.back c.loop-column.invariant).0

pub returns-clause-place : goal.returns-clause-place
returns-clause-place g c =
    let kept = c.requires.kept in
    let behind = columns-wider c.args.columns.0 c.args.columns.1 c.args.columns.0 c.loop-column.column c.args.olds.now c.args.news.now (omega arith) (omega arith) kept in
    (row-closed g.W.Sink c.args.row (begun_at c.args.place) c.args.olds.now c.args.news.now c.loop-column.column c.loop-column.brush _ _ behind.back c.loop-column.invariant).1
