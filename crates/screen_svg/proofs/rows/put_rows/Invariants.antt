-- The rows so far are written.
use Rattle.anstyle_parse.specs.Io.Output.{Adds}
use Rattle.screen_svg.specs.Xml.{xml}
use Rattle.screen_svg.specs.Picture.{rows_events}
use Rattle.screen_svg.proofs.rows.put_rows.Given as goal

abbrev pub invariant-loop-row : goal.invariant-loop-row
invariant-loop-row g l = Adds g.W.Sink (xml (rows_events l.scheme l.links.places l.extent.above l.row l.screen)) l.initial.output l.output
