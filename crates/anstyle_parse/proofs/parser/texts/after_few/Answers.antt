use Rattle.std.proofs.Common.{sym, ◌∙◌}
use Rattle.anstyle_parse.proofs.Machine.Texts.{BeginWithText-none, BeginWithText-byte}
use Rattle.anstyle_parse.proofs.parser.texts.after_few.Goals as goal

pub bytes-init : goal.bytes-init
bytes-init c = BeginWithText-none c.args.bytes.now

pub bytes-preserved : goal.bytes-preserved
bytes-preserved c =
    BeginWithText-byte c.args.bytes.now c.in-Some.first.now c.bytes.rest.now c.in-Some.behind.now
    (sym c.is_text_byte.ensures ∙ c.if-not-is_text_byte.false) c.in-Some.ensures.cases.0 c.bytes.invariant
