use Rattle.std.proofs.Common.{◌∷◌, [], arith, ap₂, ◌∙◌, length-append}
use Rattle.anstyle_parse.specs.Stream.Groups.{shown_groups}
use Rattle.anstyle_parse.specs.Views.Params.{closed_groups_of, open_group_of}
use Rattle.anstyle_parse.proofs.Arguments.Lengths.{shown_groups-open}
use Rattle.anstyle_parse.proofs.params.Params.push.Goals as goal

pub returns-clause-closed : goal.returns-clause-closed
returns-clause-closed c =
    let p = c.args.self.now in
    c.close.ensures.closed
    ∙ (ap₂ shown_groups c.extend.ensures.closed c.extend.ensures.open
    ∙ shown_groups-open (closed_groups_of p) _ (omega (arith, length-append (open_group_of p) (c.args.field ∷ []))))
