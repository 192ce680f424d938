use Rattle.std.proofs.Common.{sym, ap, subst, ◌++◌, ◌∙◌}
use Rattle.std.specs.Str.{IsUtf8}
use Rattle.anstyle_parse.specs.Views.Texts.{BeginWithText}
use Rattle.anstyle_parse.proofs.Machine.Texts.{BeginWithText-trans, text_and_left, IsUtf8-before}
use Rattle.anstyle_parse.proofs.parser.texts.split_text.Goals as goal

pub from_utf8_unchecked-requires : goal.from_utf8_unchecked-requires
from_utf8_unchecked-requires c =
    let bytes = c.args.bytes.now in
    let middle = c.in_ok-after_first.field-0.now in
    let begun = BeginWithText-trans bytes middle c.after_text-rest.result.now
    (subst (λ l. BeginWithText l middle) (sym c.in_ok-first.ensures.cases.0) c.in_ok-after_first.ensures.text) c.after_text-rest.ensures in
    subst IsUtf8 (sym c.split_at.ensures.front) (IsUtf8-before bytes c.after_text-rest.result.now begun)

pub returns-clause-text : goal.returns-clause-text
returns-clause-text c =
    let middle = c.in_ok-after_first.field-0.now in
    BeginWithText-trans c.args.bytes.now middle c.after_text-rest.result.now
    (subst (λ l. BeginWithText l middle) (sym c.in_ok-first.ensures.cases.0) c.in_ok-after_first.ensures.text) c.after_text-rest.ensures

pub returns-clause-joined : goal.returns-clause-joined
returns-clause-joined c =
    let left = c.after_text-rest.result.now in
    text_and_left c.args.bytes.now left (returns-clause-text c) ∙ ap (λ t. t ++ left) (sym (c.from_utf8_unchecked.ensures ∙ c.split_at.ensures.front))
