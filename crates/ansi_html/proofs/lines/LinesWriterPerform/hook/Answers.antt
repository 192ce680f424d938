use Rattle.std.proofs.Common.{refl}
use Rattle.anstyle_parse.proofs.Written.Output.{Adds-nil}
use Rattle.ansi_html.specs.Html.{text_html}
use Rattle.ansi_html.specs.Liner.{output_of}
use Rattle.ansi_html.proofs.lines.LinesWriterPerform.hook.Goals as goal

pub returns : goal.returns
unfolding text_html
returns g c = record { styling = refl; standing = refl; added = Adds-nil g.W.Sink (output_of c.args.self.now) }
