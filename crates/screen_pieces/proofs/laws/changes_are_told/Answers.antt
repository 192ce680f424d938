-- The picture of when it forgot stays, and so does its size.
use Rattle.screen_pieces.proofs.ChangesLemmas.{changes-told}
use Rattle.screen_pieces.proofs.laws.changes_are_told.Goals as goal

pub returns : goal.returns
returns c = λ columns rows bytes piece old forgotten new row left right stands copy feeds changed.
    changes-told columns rows bytes piece old forgotten new row left right stands copy feeds changed
