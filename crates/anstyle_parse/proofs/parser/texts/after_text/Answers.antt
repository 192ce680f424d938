use Rattle.std.proofs.Common.{sym, subst}
use Rattle.anstyle_parse.specs.Views.Texts.{BeginWithText}
use Rattle.anstyle_parse.proofs.Machine.Texts.{BeginWithText-trans}
use Rattle.anstyle_parse.proofs.parser.texts.after_text.Goals as goal

pub text-preserved : goal.text-preserved
text-preserved c =
    let further = c.in-Some-after_first.further.now in
    BeginWithText-trans c.args.bytes.now c.text.rest.now further c.text.invariant
    (subst (λ l. BeginWithText l further) (sym c.in-Some.ensures.cases.0) c.in-Some-after_first.ensures.text)
