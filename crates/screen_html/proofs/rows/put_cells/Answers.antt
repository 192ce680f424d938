-- A run more, or one cell.
use Rattle.std.proofs.Common.{◌<◌, ◌++◌, [], ◌∷◌, length, take, arith, refl, ap, sym, ◌∙◌, append_assoc}
use Rattle.std.proofs.lemmas.List.{length-take}
use Rattle.ansi_html.proofs.StyledWriterLemmas.{WritesStyled-none}
use Rattle.screen_html.specs.Paid.{purse_of}
use Rattle.screen_html.proofs.RowLemmas.{further-joined, spent-further, spent-run, writes-further, writes-run}
use Rattle.screen_html.proofs.rows.put_cells.Goals as goal

pub rest-init : goal.rest-init
rest-init g c = ([], refl, WritesStyled-none g.W.Sink c.args.writer.now, refl)

pub rest-preserved-then-count-eq0 : goal.rest-preserved-then-count-eq0
rest-preserved-then-count-eq0 g c =
    let (passed, joined, written, spent) = c.rest.invariant in
    let first = c.in-Some.first.now in
    let further = c.in-Some.further.now in
    let places = c.args.links.now.places in
    let before = purse_of c.args.last.now c.args.spare.now in
    let here = purse_of c.rest.last c.rest.spare in
    let after = purse_of c.put_cell.new.last c.put_cell.new.spare in (
      passed ++ first ∷ [],
      joined ∙ ap (λ l. passed ++ l) c.in-Some.ensures.cases.0 ∙ sym (append_assoc passed (first ∷ []) further),
      writes-further g.W.Sink places passed (first ∷ []) before here c.args.writer.now c.rest.writer c.put_cell.new.writer written spent c.put_cell.ensures.written,
      spent-further places passed (first ∷ []) before here after spent c.put_cell.ensures.spent,
    )

pub rest-preserved : goal.rest-preserved
rest-preserved g c =
    let (passed, joined, written, spent) = c.rest.invariant in
    let rest = c.rest.rest.now in
    let n = c.copy_run-count.result in
    let block = c.copy_run-count.new.block in
    let first = c.in-Some.first.now in
    let places = c.args.links.now.places in
    let before = purse_of c.args.last.now c.args.spare.now in
    let here = purse_of c.rest.last c.rest.spare in
    let after = purse_of c.put_run.new.last c.put_run.new.spare in
    let some : 0 < length (take n block) = omega (arith, c.if-count-eq0.false, length-take n block, c.copy_run-count.array_long, c.copy_run-count.ensures.room) in (
      passed ++ take n rest,
      further-joined n c.args.cells.now passed rest c.split_at.result.1.now joined c.split_at.ensures.back,
      writes-further g.W.Sink places passed (take n rest) before here c.args.writer.now c.rest.writer c.put_run.new.writer written spent
          (writes-run g.W.Sink places first (take n rest) (take n block) here after c.rest.writer c.put_run.new.writer some c.copy_run-count.ensures.run
          c.put_run.ensures.spent c.put_run.ensures.written),
      spent-further places passed (take n rest) before here after spent
          (spent-run places first (take n rest) (take n block) here after some c.copy_run-count.ensures.run c.put_run.ensures.spent),
    )
