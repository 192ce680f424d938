-- The sequence fits into the room, and a new parser makes its one call of it.
use Rattle.std.proofs.Common.{◌∷◌, [], refl, ◌∙◌, arith}
use Rattle.ansi_style.specs.Codes.{codes_of, codes_text, selection}
use Rattle.stream_state.proofs.LentLemmas.{held-all, no_fault-within}
use Rattle.screen_calls.proofs.SequenceLemmas.{length-codes, canon-codes}
use Rattle.screen_calls.proofs.ReceivedLemmas.{went-one}
use Rattle.screen_calls.proofs.select.give_style.Goals as goal

pub returns : goal.returns
returns g c =
    let style = c.args.style in
    let text = codes_text style in
    let lawful = c.write_codes.ensures.lawful in
    let none = no_fault-within text c.new.result c.new-output.result c.write_codes.new.output c.new-output.ensures.writer c.new.ensures.nothing
    c.new-output.ensures.no_fault c.write_codes.ensures.text (omega (arith, c.new.ensures.limit, length-codes style lawful)) in
    let held = held-all text c.new.result c.new-output.result c.write_codes.new.output c.new-output.ensures.writer c.new.ensures.nothing
    c.new-output.ensures.no_fault c.write_codes.ensures.text c.finish-codes.result.0 c.finish-codes.result.1 none c.finish-codes.ensures.finishes in
    went-one g.met.P.PerformText.follows c.args.performer.now (selection (codes_of style)) c.advance_all.new.performer
    (c.advance_all.ensures.replay (selection (codes_of style) ∷ []) refl c.new-parser.ensures.stands lawful (c.bytes.ensures ∙ held.1 ∙ canon-codes style))
