use Rattle.anstyle_parse.proofs.Machine.Runs.{LeadsTo-trans}
use Rattle.anstyle_parse.proofs.parser.Parser.take_bytes.Goals as goal

pub rest-preserved : goal.rest-preserved
rest-preserved g c =
    LeadsTo-trans g.C.CharAccumulator.takes g.C.CharAccumulator.taken g.P.Perform.means c.rest.invariant c.take_first-rest.ensures.leads
