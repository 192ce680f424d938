-- A terminal may go to another thread, as its screen may: it owns its memory alone.
use denote.Struct.Declared.{shape}
use denote.Param.Send.{IsSend, sendable, recorded_send, struct_send}
use Rattle.ansi_screen.proofs.SendLemmas.{screen_send}
use Rattle.anstyle_parse.proofs.parser.Parser.TheSendSync as parser_send
use Rattle.anstyle_parse.proofs.accumulator.Utf8Parser.TheSendSync as utf8_send
use Rattle.ansi_modes.proofs.asked.Asked.TheSendSync as asked_send
use Rattle.ansi_answers.proofs.color.Theme.TheSendSync as theme_send
use Rattle.ansi_answers.proofs.request.Request.TheSendSync as request_send
use Rattle.ansi_answers.proofs.waiting.Waiting.TheSendSync as waiting_send
use Rattle.screen_html.proofs.table.LinkTable.TheSendSync as links_send
use Rattle.screen_answers.specs.contracts.answering.Answering as answering
use Rattle.screen_pieces.specs.contracts.terminal.Terminal as terminal

answering_send : IsSend (answering.the_field).row
answering_send =
    struct_send (shape answering.the_type) (
      screen_send,
      (links_send.the_send, (asked_send.the_field_send, (theme_send.the_field_send, (request_send.the_field_send, (waiting_send.the_send, (search sendable, tt)))))),
    )

pub terminal_send : IsSend terminal.the_row
terminal_send =
    let of = terminal.the_type in
    recorded_send _ of.D of.to of.to_one (struct_send (shape of) (search (sendable, parser_send.the_field_send, utf8_send.the_send), (answering_send, tt)))
