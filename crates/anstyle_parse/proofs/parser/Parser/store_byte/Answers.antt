use Rattle.std.proofs.Common.{arith, sym, ◌∙◌}
use Rattle.anstyle_parse.specs.Views.Runs.{is_of_command}
use Rattle.anstyle_parse.specs.declared.parser.Parser.{Parser}
use Rattle.anstyle_parse.specs.Views.Parser.{machine_of}
use Rattle.anstyle_parse.specs.Views.Command.{texting_of}
use Rattle.anstyle_parse.proofs.Machine.Actions.{storing-whole}
use Rattle.anstyle_parse.proofs.Machine.Runs.{command_text, step-stored, LeadsQuietlyTo-byte, LeadsQuietlyTo-trans}
use Rattle.anstyle_parse.proofs.parser.Parser.store_byte.Goals as goal

pub returns-in-Some-clause-leads : goal.returns-in-Some-clause-leads
returns-in-Some-clause-leads g c =
    let n = g.C.CharAccumulator in
    let put : Parser g.row.C.Denot = record c.args.self.now { command = c.put.new.self } in
    let stepped = step-stored n.taken c.args.first (machine_of c.args.self.now) c.requires.command (omega arith) (omega arith) in
    let begun = LeadsQuietlyTo-byte n.takes n.taken is_of_command c.args.self.now put c.args.first c.args.behind.now c.requires.can (command_text c.args.first (omega arith) (omega arith))
    (storing-whole c.args.first (texting_of c.args.self.now.command) (texting_of c.put.new.self) (machine_of c.args.self.now) c.put.ensures ∙ sym stepped.0) stepped.1 in
    LeadsQuietlyTo-trans n.takes n.taken is_of_command begun c.store_plain.ensures.leads

pub returns-in_default-clause-leads : goal.returns-in_default-clause-leads
returns-in_default-clause-leads g c =
    let n = g.C.CharAccumulator in
    let put : Parser g.row.C.Denot = record c.args.self.now { command = c.put.new.self } in
    let stepped = step-stored n.taken c.args.first (machine_of c.args.self.now) c.requires.command (omega arith) (omega arith) in
    LeadsQuietlyTo-byte n.takes n.taken is_of_command c.args.self.now put c.args.first c.args.behind.now c.requires.can (command_text c.args.first (omega arith) (omega arith))
    (storing-whole c.args.first (texting_of c.args.self.now.command) (texting_of c.put.new.self) (machine_of c.args.self.now) c.put.ensures ∙ sym stepped.0) stepped.1

pub returns-in_default-2-clause-leads : goal.returns-in_default-2-clause-leads
returns-in_default-2-clause-leads g c =
    let n = g.C.CharAccumulator in
    let put : Parser g.row.C.Denot = record c.args.self.now { command = c.put.new.self } in
    let stepped = step-stored n.taken c.args.first (machine_of c.args.self.now) c.requires.command (omega arith) (omega arith) in
    LeadsQuietlyTo-byte n.takes n.taken is_of_command c.args.self.now put c.args.first c.args.behind.now c.requires.can (command_text c.args.first (omega arith) (omega arith))
    (storing-whole c.args.first (texting_of c.args.self.now.command) (texting_of c.put.new.self) (machine_of c.args.self.now) c.put.ensures ∙ sym stepped.0) stepped.1
