use Rattle.std.proofs.Common.{refl}
use Rattle.anstyle_parse.specs.declared.parser.Parser.{Parser}
use Rattle.anstyle_parse.specs.declared.state.definitions.State.TheVariants.{CsiParam}
use Rattle.anstyle_parse.proofs.Arguments.Taken.{LeadsQuietlyTo-fields}
use Rattle.anstyle_parse.proofs.parser.Parser.take_fields.Goals as goal

pub returns-then-rest-bytes-clause-leads : goal.returns-then-rest-bytes-clause-leads
returns-then-rest-bytes-clause-leads g c =
    let n = g.C.CharAccumulator in
    let new : Parser g.row.C.Denot = record c.args.self.now { state = CsiParam; header = c.fields-rest.new.self } in
    LeadsQuietlyTo-fields n.takes n.taken c.args.self.now new c.args.bytes.now c.fields-rest.result.now c.requires.header c.requires.can
    refl c.if-rest-bytes.true c.fields-rest.ensures
