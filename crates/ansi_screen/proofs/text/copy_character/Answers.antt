-- By how many bytes the character has.
use Rattle.std.proofs.Common.{sym, ap, ◌∙◌, arith}
use Rattle.std.specs.Prelude.{encode_utf8}
use Rattle.anstyle_parse.proofs.Characters.Encoding.{encode_one, encode_two, encode_three, encode_four}
use Rattle.ansi_screen.proofs.TextLemmas.{set-one, set-two, set-three, set-four}
use Rattle.ansi_screen.proofs.text.copy_character.Goals as goal

pub returns-then-number-lt128-clause-text : goal.returns-then-number-lt128-clause-text
returns-then-number-lt128-clause-text c =
    let number = c.from-number.result in
    set-one c.args.bytes.now _ (omega arith) ∙ (sym (encode_one number (omega arith)) ∙ ap encode_utf8 c.from-number.ensures)

pub returns-then-number-lt2048-clause-text : goal.returns-then-number-lt2048-clause-text
returns-then-number-lt2048-clause-text c =
    let number = c.from-number.result in
    set-two c.args.bytes.now _ _ (omega arith) ∙ (sym (encode_two number (omega arith) (omega arith)) ∙ ap encode_utf8 c.from-number.ensures)

pub returns-then-number-lt65536-clause-text : goal.returns-then-number-lt65536-clause-text
returns-then-number-lt65536-clause-text c =
    let number = c.from-number.result in
    set-three c.args.bytes.now _ _ _ (omega arith) ∙ (sym (encode_three number (omega arith) (omega arith)) ∙ ap encode_utf8 c.from-number.ensures)

pub returns-clause-text : goal.returns-clause-text
returns-clause-text c =
    let number = c.from-number.result in
    set-four c.args.bytes.now _ _ _ _ (omega arith) ∙ (sym (encode_four number (omega arith)) ∙ ap encode_utf8 c.from-number.ensures)
