-- At the beginning all groups are left.
use Rattle.std.proofs.Common.{ap, ◌∙◌}
use Rattle.anstyle_parse.specs.Views.Params.{groups_shown}
use Rattle.ansi_style.specs.declared.select.Expected.TheVariants.{Code}
use Rattle.ansi_style.specs.Walk.{selected_from}
use Rattle.ansi_style.proofs.WalkLemmas.{selected_from-code}
use Rattle.ansi_style.proofs.style.Style.select_groups.Goals as goal

pub loop-group-init : goal.loop-group-init
loop-group-init c =
    ap (λ groups. selected_from Code groups c.args.self.now) c.into_iter-group-iterator.ensures.into_iter_gives.0
    ∙ selected_from-code (groups_shown c.args.params.now) c.args.self.now
