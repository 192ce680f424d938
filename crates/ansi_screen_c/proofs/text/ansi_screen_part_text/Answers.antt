-- What was held is read.
use Rattle.screen_pieces.specs.Text.{text_of_part, LacksPart}
use Rattle.ansi_screen_c.specs.Calls.{Holds, Reads, IsRefused}
use Rattle.ansi_screen_c.proofs.ToldLemmas.{is-told, is-refused}
use Rattle.ansi_screen_c.proofs.text.ansi_screen_part_text.Goals as goal

pub returns-in-Some-clause-text : goal.returns-in-Some-clause-text
returns-in-Some-clause-text c =
    is-told (λ n was. Holds (Reads (text_of_part c.args.row c.args.start c.args.end) c.args.room.now c.part_text-answer.new.room n) was) c.part_text-answer.result c.in-Some.held.value c.deref.result.now
    c.args.screen.now.value c.in-Some.ensures.taken c.deref.ensures c.told.result c.told.new.written
    c.told.ensures.ok c.part_text-answer.ensures.text

pub returns-in-Some-clause-refused : goal.returns-in-Some-clause-refused
returns-in-Some-clause-refused c =
    is-refused (λ n was. IsRefused (LacksPart c.args.row c.args.start c.args.end) (text_of_part c.args.row c.args.start c.args.end) c.args.room.now n was) c.part_text-answer.result c.in-Some.held.value c.deref.result.now
    c.args.screen.now.value c.in-Some.ensures.taken c.deref.ensures c.told.result c.told.new.written
    c.told.ensures.err c.part_text-answer.ensures.refused
