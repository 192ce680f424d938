-- What is saved, and the cells.
use Rattle.std.proofs.Common.{ℕ, [], ◌∷◌, ◌++◌, ap, subst, arith}
use Rattle.ansi_screen.specs.declared.place.Place.{Place}
use Rattle.screen_draw.specs.Buffers.{cells_of, saved_of}
use Rattle.screen_draw.specs.Draw.{sequence, plain_calls, saved_calls, cells_calls, first_pen}
use Rattle.screen_draw.specs.Drawing.{Draws}
use Rattle.screen_draw.proofs.BufferLemmas.{saved-row}
use Rattle.screen_draw.proofs.DrawLemmas.{draws-append}
use Rattle.screen_draw.proofs.cursors.put_screen.Goals as goal

pub put_saved-requires-clause-row : goal.put_saved-requires-clause-row
put_saved-requires-clause-row g c =
    let d = c.args.screen.now.display in
    let sized = c.columns.ensures.sized in
    omega (arith, ap (λ (p : Place). p.row) c.saved.ensures, saved-row c.args.buffer d sized, sized.rows_limit)

pub returns : goal.returns
returns g c =
    let d = c.args.screen.now.display in
    let place = saved_of c.args.buffer d in
    let cells = cells_calls d.width 0 first_pen (cells_of c.args.buffer d) in
    let erase = sequence (2 ∷ []) 0x4A ∷ [] in
    let saved = subst (λ (p : Place). Draws g.W.Sink (saved_calls d.width p) c.args.output.now c.put_saved.new.output) c.saved.ensures
    (subst (λ (w : ℕ). Draws g.W.Sink (saved_calls w c.saved.result) c.args.output.now c.put_saved.new.output) c.columns.ensures.columns c.put_saved.ensures) in
    draws-append g.W.Sink (saved_calls d.width place) (plain_calls ++ (erase ++ cells)) _ _ _ saved
    (draws-append g.W.Sink plain_calls (erase ++ cells) _ _ _ c.put_plain.ensures
    (draws-append g.W.Sink erase cells _ _ _ c.put_number.ensures c.put_cells.ensures))
