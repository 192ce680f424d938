-- The three actions one after another, as the machine makes them.
use Rattle.std.proofs.Common.{sym}
use Rattle.anstyle_parse.specs.Views.Parser.{machine_of}
use Rattle.anstyle_parse.proofs.Machine.Steps.{moved, moved_calls}
use Rattle.anstyle_parse.proofs.parser.Parser.change_state.Goals as goal

pub returns-in_default : goal.returns-in_default
returns-in_default g c =
    let add = g.C.CharAccumulator.taken in
    let means = g.P.Perform.means in
    let m = machine_of c.args.self.now in
    let m1 = machine_of c.perform_action-in_default.new.self in
    let m2 = machine_of c.perform_action-in_default-2.new.self in
    let m3 = machine_of c.perform_action-in_default-3.new.self in
    let p = c.args.performer.now in
    let p1 = c.perform_action-in_default.new.performer in
    let p2 = c.perform_action-in_default-2.new.performer in
    let p3 = c.perform_action-in_default-3.new.performer in
    record {
      machine = moved add means c.args.state c.args.action c.args.exit c.entry_action.result c.args.byte m m1 m2 m3 p p1 p2 p3
          c.in_default.not-Anywhere (sym c.requires.exit) c.entry_action.ensures
          c.perform_action-in_default.ensures.machine c.perform_action-in_default-2.ensures.machine c.perform_action-in_default-3.ensures.machine;
      calls = moved_calls add means c.args.state c.args.action c.args.exit c.entry_action.result c.args.byte m m1 m2 m3 p p1 p2 p3
          c.in_default.not-Anywhere (sym c.requires.exit) c.entry_action.ensures
          c.perform_action-in_default.ensures.machine c.perform_action-in_default-2.ensures.machine c.perform_action-in_default-3.ensures.machine
          c.perform_action-in_default.ensures.calls c.perform_action-in_default-2.ensures.calls c.perform_action-in_default-3.ensures.calls;
    }
