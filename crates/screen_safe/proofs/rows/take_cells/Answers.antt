-- One cell more, with a mark before it; and a mark at the end.
use Rattle.std.proofs.Common.{◌++◌, sym, subst}
use Rattle.std.proofs.lemmas.List.{nil_from_length}
use Rattle.safe_text.specs.Unseen.{is_unseen}
use Rattle.safe_text.specs.Marks.{mark_between}
use Rattle.safe_text.specs.Writer.{Takes}
use Rattle.safe_text.specs.TakingProof.{Takes-append}
use Rattle.screen_safe.specs.Characters.{cell_characters, cells_marked}
use Rattle.screen_safe.proofs.rows.take_cells.Goals as goal

pub rest-init : goal.rest-init
rest-init g c = λ end taken. taken

pub rest-preserved : goal.rest-preserved
rest-preserved g c = λ end taken.
    let first = c.in-Some.first.now in
    let further = c.in-Some.further.now in
    let is = c.in-Some.ensures.cases.0 in
    let hidden = is_unseen first.style in
    let mark = mark_between c.rest.is_hidden hidden in
    let behind = cells_marked hidden further in
    let same = c.is_unseen-hidden.ensures in
    let marked = subst (λ t. Takes g.W.Sink c.rest.writer (mark_between c.rest.is_hidden t) c.take_mark.new.writer) same c.take_mark.ensures in
    let others = subst (λ t. Takes g.W.Sink c.take_cell.new.writer (cells_marked t further) end) same taken in
    c.rest.invariant end
    (subst (λ cells. Takes g.W.Sink c.rest.writer (cells_marked c.rest.is_hidden cells) end) (sym is)
    (Takes-append g.W.Sink c.rest.writer c.take_mark.new.writer end mark (cell_characters first ++ behind) marked
    (Takes-append g.W.Sink c.take_mark.new.writer c.take_cell.new.writer end (cell_characters first) behind c.take_cell.ensures others)))

pub returns : goal.returns
returns g c =
    let none = nil_from_length c.rest.rest.now c.in_default.ensures.cases in
    c.rest.invariant c.take_mark-2.new.writer
    (subst (λ cells. Takes g.W.Sink c.rest.writer (cells_marked c.rest.is_hidden cells) c.take_mark-2.new.writer) (sym none) c.take_mark-2.ensures)
