use Rattle.std.proofs.Common.{sym, arith, ◌∷◌, ◌∙◌, refl}
use Rattle.anstyle_parse.proofs.Machine.Texts.{BeginWithText-none, BeginWithText-byte, BeginWithText-trans, BeginWithText-whole, length-BeginWithText, length-BeginWithWhole}
use Rattle.anstyle_parse.proofs.parser.texts.after_first.Goals as goal

pub returns-then-is_ascii-clause-text : goal.returns-then-is_ascii-clause-text
returns-then-is_ascii-clause-text c =
    let bytes = c.args.first ∷ c.args.behind.now in
    BeginWithText-trans bytes c.args.behind.now c.after_bytes.result.now
    (BeginWithText-byte bytes c.args.first bytes c.args.behind.now (sym c.is_text_byte.ensures ∙ c.if-not-is_text_byte.false) refl (BeginWithText-none bytes)) c.after_bytes.ensures

pub returns-then-is_ascii-clause-within : goal.returns-then-is_ascii-clause-within
returns-then-is_ascii-clause-within c = length-BeginWithText c.args.behind.now c.after_bytes.result.now c.after_bytes.ensures

pub returns-clause-text : goal.returns-clause-text
returns-clause-text c =
    let bytes = c.args.first ∷ c.args.behind.now in
    BeginWithText-whole bytes c.in_ok-rest.field-0-0 bytes c.in_ok-rest.rest.now c.in_ok-rest.ensures (BeginWithText-none bytes)

pub returns-clause-within : goal.returns-clause-within
returns-clause-within c =
    let shorter = length-BeginWithWhole c.in_ok-rest.field-0-0 (c.args.first ∷ c.args.behind.now) c.in_ok-rest.rest.now c.in_ok-rest.ensures in
    omega (arith, shorter)
