-- The fields are the groups that are shown.
use Rattle.std.proofs.Common.{ap, sym, ◌∙◌}
use Rattle.anstyle_parse.specs.Views.Params.{groups_shown}
use Rattle.ansi_style.specs.declared.select.Expected.TheVariants.{Code}
use Rattle.ansi_style.specs.Walk.{selected_from}
use Rattle.ansi_style.proofs.WalkLemmas.{selected_from-code}
use Rattle.ansi_style.proofs.style.Style.select.Goals as goal

pub returns-in-Some : goal.returns-in-Some
returns-in-Some c =
    c.select_lone.ensures
    ∙ ap (λ groups. selected_from Code groups c.args.self.now) (sym c.in-Some.ensures.alone)
    ∙ selected_from-code (groups_shown c.args.params.now) c.args.self.now
