-- `==` of cells is equality, and so it is of slices of them.
use Rattle.std.proofs.lemmas.Slice.Eq.{slice_eq-Decides}
use Rattle.screen_pieces.proofs.same.are_same.Goals as goal

pub returns : goal.returns
returns c = slice_eq-Decides c.equality.ensures.cells c.args.a.now c.args.b.now _ c.eq.ensures
