-- The groups that are left make the same style as all of them did.
use Rattle.std.proofs.Common.{◌≡◌}
use Rattle.anstyle_parse.specs.Views.Params.{groups_shown, groups_left}
use Rattle.ansi_style.specs.Rendition.{selected}
use Rattle.ansi_style.specs.Walk.{selected_from}
use Rattle.ansi_style.proofs.style.Style.select_groups.Given as goal

abbrev pub invariant-loop-group : goal.invariant-loop-group
invariant-loop-group l = selected_from l.expected (groups_left l.group-iterator) l.self ≡ selected (groups_shown l.params) l.initial.self
