-- A screen has a stop, or none, for each column.
use Rattle.std.proofs.Common.{length, ap, arith}
use Rattle.screen_pieces.proofs.parts.stops.Goals as goal

pub returns-clause-columns : goal.returns-clause-columns
returns-clause-columns c = omega (arith, ap length c.stops.ensures.stops, c.stops.ensures.sized.tabs_fill)
