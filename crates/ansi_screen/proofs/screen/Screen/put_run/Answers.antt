-- The whole run comes into its cells; what REP repeats is its last character.
use Rattle.std.proofs.Common.{arith, refl}
use Rattle.anstyle_parse.proofs.Lists.Parts.{AllByRecursion-take}
use Rattle.ansi_screen.specs.After.{repeatable}
use Rattle.ansi_screen.proofs.PrintedLemmas.{put-state, put-stays, put-room}
use Rattle.ansi_screen.proofs.screen.Screen.put_run.Goals as goal

pub returns-then-count-gt0-clause-put : goal.returns-then-count-gt0-clause-put
returns-then-count-gt0-clause-put c =
    put-state c.args.run.now c.min-count.result _ c.args.self.now c.put_run.new.self _ (repeatable c.from.result) c.from.result
    c.self.view_is c.if-count-gt0.true (omega arith) (AllByRecursion-take _ c.min-count.result c.args.run.now c.requires)
    (put-room c.args.run.now c.min-count.result c.room.result _ c.min-count.ensures c.if-count-gt0.true c.room.ensures)
    c.put_run.ensures c.set_printed.ensures refl c.from.ensures

pub returns-then-count-gt0-clause-stays : goal.returns-then-count-gt0-clause-stays
returns-then-count-gt0-clause-stays c =
    put-stays c.args.run.now c.min-count.result c.room.result _ c.args.self.now c.self.view_is c.requires c.min-count.ensures c.if-count-gt0.true c.room.ensures
