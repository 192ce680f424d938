-- The link of what was held is read.
use Rattle.screen_pieces.specs.declared.terminal.Terminal.{Terminal}
use Rattle.screen_html.specs.Links.{link_at}
use Rattle.screen_pieces.specs.Terminal.{links_of}
use Rattle.ansi_screen_c.specs.Calls.{Holds, ReadsOf, HasNoRoomOf}
use Rattle.ansi_screen_c.proofs.ToldLemmas.{is-told, is-refused}
use Rattle.ansi_screen_c.proofs.page.ansi_screen_link.Goals as goal

pub returns-in-Some-clause-uri : goal.returns-in-Some-clause-uri
returns-in-Some-clause-uri c =
    is-told (λ n was. Holds (ReadsOf (λ (terminal : Terminal). link_at c.args.number (links_of terminal)) c.args.room.now c.link_uri-answer.new.room n) was)
    c.link_uri-answer.result c.in-Some.held.value c.deref.result.now c.args.screen.now.value c.in-Some.ensures.taken c.deref.ensures
    c.told.result c.told.new.written c.told.ensures.ok c.link_uri-answer.ensures.text

pub returns-in-Some-clause-refused : goal.returns-in-Some-clause-refused
returns-in-Some-clause-refused c =
    is-refused (λ n was. HasNoRoomOf (λ (terminal : Terminal). link_at c.args.number (links_of terminal)) c.args.room.now n was)
    c.link_uri-answer.result c.in-Some.held.value c.deref.result.now c.args.screen.now.value c.in-Some.ensures.taken c.deref.ensures
    c.told.result c.told.new.written c.told.ensures.err c.link_uri-answer.ensures.refused
