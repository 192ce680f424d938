use Rattle.std.proofs.Common.{ap}
use Rattle.ansi_html.specs.Blocks.{blocked}
use Rattle.ansi_html.proofs.blocks.BlocksWriterWritingPerformer.pass_on.Goals as goal

pub returns : goal.returns
returns g c =
    let is = c.pass_on.ensures in
    record { numbered = is.numbered; styling = is.styling; standing = ap (λ l. blocked l c.args.self.now.left) is.standing; added = is.added }
