-- Each field is what its bytes say.
use Rattle.std.proofs.Common.{refl}
use Rattle.screen_pieces.proofs.cell.put_any.Goals as goal

pub returns-clause-cell : goal.returns-clause-cell
returns-clause-cell c =
    rw (c.from-room.ensures, c.mark_numbers-mark_count.ensures, c.of-room.ensures.bytes, c.with.ensures, c.part_number-room.ensures, c.flag-room.ensures) refl

pub returns-clause-reserved : goal.returns-clause-reserved
returns-clause-reserved c = record { style = c.of-room.ensures.reserved; cell = refl }
