-- What was held is written.
use Rattle.screen_pieces.specs.Rows.{html_of_lines}
use Rattle.ansi_screen_c.specs.Calls.{Holds, ReadsOf, IsRefusedOf}
use Rattle.ansi_screen_c.proofs.ToldLemmas.{is-told, is-refused}
use Rattle.ansi_screen_c.proofs.lines.ansi_screen_lines_html.Goals as goal

pub returns-in-Some-clause-text : goal.returns-in-Some-clause-text
returns-in-Some-clause-text c =
    is-told (λ n was. Holds (ReadsOf (html_of_lines c.args.which c.args.styling) c.args.room.now c.lines_html-answer.new.room n) was)
    c.lines_html-answer.result c.in-Some.held.value c.deref.result.now c.args.screen.now.value c.in-Some.ensures.taken c.deref.ensures
    c.told.result c.told.new.written c.told.ensures.ok c.lines_html-answer.ensures.text

pub returns-in-Some-clause-refused : goal.returns-in-Some-clause-refused
returns-in-Some-clause-refused c =
    is-refused (λ n was. IsRefusedOf (html_of_lines c.args.which c.args.styling) c.args.room.now n was)
    c.lines_html-answer.result c.in-Some.held.value c.deref.result.now c.args.screen.now.value c.in-Some.ensures.taken c.deref.ensures
    c.told.result c.told.new.written c.told.ensures.err c.lines_html-answer.ensures.refused
