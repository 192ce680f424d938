use Rattle.std.proofs.Common.{sym, subst}
use Rattle.anstyle_parse.specs.Io.Output.{Adds}
use Rattle.ansi_html.specs.Html.{escaped_text}
use Rattle.ansi_screen.specs.declared.cell.Marks.{Marks}
use Rattle.screen_svg.specs.Characters.{character_text, marks_text}
use Rattle.screen_svg.proofs.AddsLemmas.{Adds-escaped}
use Rattle.screen_svg.proofs.text.put_marks.Goals as goal

pub returns-in-Two : goal.returns-in-Two
returns-in-Two g c =
    let end = c.put_allowed-in-Two-2.new.output in
    subst (λ (marks : Marks). Adds g.W.Sink (escaped_text (marks_text marks)) c.args.output.now end) (sym c.in-Two.is)
    (Adds-escaped g.W.Sink (character_text c.in-Two.first) (character_text c.in-Two.second) c.args.output.now c.put_allowed-in-Two.new.output end
    c.put_allowed-in-Two.ensures c.put_allowed-in-Two-2.ensures)
