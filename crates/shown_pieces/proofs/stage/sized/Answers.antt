-- A screen has taken the front.
use Rattle.std.proofs.Common.{sym, ap, ◌∙◌}
use Rattle.screen_text.specs.Recording.{is_decided}
use Rattle.shown_pieces.proofs.StageLemmas.{begun-on}
use Rattle.shown_pieces.proofs.stage.sized.Goals as goal

pub returns-clause-come : goal.returns-clause-come
returns-clause-come c =
    let decided =
    ap (is_decided c.in-Some.shown) (c.as_slice-2.ensures.value ∙ sym c.as_slice.ensures.value) ∙ sym c.is_decided.ensures.decided ∙ c.if-not-is_decided.false in
    begun-on _ c.args.size c.args.how c.args.front.items c.as_slice-2.result.now c.in-Some.shown c.begun.result c.showing.result
    c.showing.ensures c.as_slice-2.ensures.value (sym c.size_of_rows.ensures.rows ∙ c.in-Some.is) decided c.begun.ensures
