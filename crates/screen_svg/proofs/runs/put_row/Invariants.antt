-- The runs so far are written, and with those of the cells that are left they are all.
use Rattle.std.proofs.Common.{◌≡◌, ◌+◌, ◌++◌, List, length}
use Rattle.std.specs.List.{flat_map}
use Rattle.anstyle_parse.specs.Io.Output.{Adds}
use Rattle.screen_svg.specs.Xml.{Event, xml}
use Rattle.screen_svg.specs.Runs.{runs_after}
use Rattle.screen_svg.specs.Picture.{run_events, row_events}
use Rattle.screen_svg.proofs.runs.put_row.Given as goal

abbrev pub invariant-rest : goal.invariant-rest
invariant-rest g l = record {
  done : List Event;
  whole : done ++ flat_map (run_events l.scheme l.links.places l.row) (runs_after 0 l.column l.rest)
      ≡ row_events l.scheme l.links.places l.row l.cells;
  added : Adds g.W.Sink (xml done) l.initial.output l.output;
  columns : l.column + length l.rest ≡ length l.cells;
}

abbrev pub decreases-rest : goal.decreases-rest
decreases-rest g l = length l.rest
