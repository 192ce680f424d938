-- The groups that are left make the same of the screen as all of them did.
use Rattle.std.proofs.Common.{◌≡◌}
use Rattle.anstyle_parse.specs.Views.Params.{groups_shown, groups_left}
use Rattle.ansi_screen.specs.Modes.{with_modes, with_mode}
use Rattle.ansi_screen.specs.State.{changed}
use Rattle.ansi_screen.proofs.display.Display.set_modes.Given as goal

abbrev pub invariant-loop-group : goal.invariant-loop-group
invariant-loop-group l = changed (with_modes (with_mode l.on) (groups_left l.group-iterator)) l.self ≡ changed (with_modes (with_mode l.on) (groups_shown l.params)) l.initial.self
