-- The style and the link of the cell are selected, and the text is written.
use Rattle.ansi_html.specs.ShownLinks.{link_in}
use Rattle.ansi_html.specs.Styled.{styled}
use Rattle.ansi_html.proofs.StyledWriterLemmas.{WritesStyled-text}
use Rattle.screen_html.proofs.runs.put_run.Goals as goal

pub returns-clause-written : goal.returns-clause-written
returns-clause-written g c =
    let cell = c.args.cell.now in
    WritesStyled-text g.W.Sink c.args.writer.now c.select.new.self c.put_text.new.self
    (styled cell.style (link_in c.begin_link.new.last) c.args.text.now) c.requires.some
    c.select.ensures.styling c.select.ensures.shown c.select.ensures.added
    c.put_text.ensures.styling c.put_text.ensures.shown c.put_text.ensures.added
