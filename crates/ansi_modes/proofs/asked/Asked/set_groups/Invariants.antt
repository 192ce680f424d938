-- The groups that are left make the same of it as all of them did.
use Rattle.std.proofs.Common.{◌≡◌}
use Rattle.anstyle_parse.specs.Views.Params.{groups_shown, groups_left}
use Rattle.ansi_modes.specs.Asked.{with_numbers}
use Rattle.ansi_modes.proofs.asked.Asked.set_groups.Given as goal

abbrev pub invariant-loop-group : goal.invariant-loop-group
invariant-loop-group l = with_numbers l.on (groups_left l.group-iterator) l.self ≡ with_numbers l.on (groups_shown l.params) l.initial.self
