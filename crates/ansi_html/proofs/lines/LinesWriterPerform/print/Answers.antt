use Rattle.std.proofs.Common.{refl}
use Rattle.anstyle_parse.specs.Stream.Call.{print}
use Rattle.anstyle_parse.proofs.Characters.Scalars.{length-encode-some}
use Rattle.ansi_html.proofs.LinerLemmas.{TakesCall-text}
use Rattle.ansi_html.proofs.lines.LinesWriterPerform.print.Goals as goal

pub returns : goal.returns
returns g c =
    let is = c.begin_text.ensures in
    TakesCall-text g.W.Sink c.len_utf8.result c.args.self.now c.begin_text.new.self (record { styling = is.styling; standing = is.standing; added = is.added }) (print c.args.c) refl (length-encode-some c.args.c) c.len_utf8.ensures.len c.print.new.self c.print.ensures
