-- What has no meaning in HTML, and what comes behind that.
use Rattle.std.proofs.Common.{◌≡◌, ◌-◌, false, length, take, drop, arith, sym, ap, ◌∙◌, subst, take_all, take-append-drop, length-drop}
use Rattle.std.proofs.lemmas.List.{take-take}
use Rattle.anstyle_parse.proofs.Characters.Layout.{IsUtf8-text_bytes}
use Rattle.anstyle_parse.proofs.Lists.Parts.{AllByRecursion-take}
use Rattle.ansi_html.specs.Grammar.{is_special, AreClear}
use Rattle.ansi_html.specs.Writer.{TakesBytes}
use Rattle.ansi_html.proofs.BytesLemmas.{TakesBytes-append, TakesAll-bytes}
use Rattle.ansi_html.proofs.performer.HtmlWriterPerformText.print_padded.Goals as goal

pub put_clear_padded-requires : goal.put_clear_padded-requires
put_clear_padded-requires g c =
    let text = c.args.text.now in
    let chunk = c.chunk.result.now in
    let count = c.clear_count.result in
    let clear = c.min-clear.result in
    let first : c.first.result ≡ take clear (take count chunk) =
    c.first.ensures
    ∙ ap (take clear) (sym c.chunk.ensures.text)
    ∙ take-take clear (length text) chunk (omega (arith, c.min-clear.ensures, c.len.ensures.value))
    ∙ sym (take-take clear count chunk (omega (arith, c.min-clear.ensures))) in
    record { clear = subst AreClear (sym first) (AllByRecursion-take (λ b. is_special b ≡ false) clear (take count chunk) c.clear_count.ensures.clear) }

pub returns-then-clear-len : goal.returns-then-clear-len
returns-then-clear-len g c =
    let text = c.args.text.now in
    let before = c.args.self.now in
    let middle = c.put_clear_padded.new.self in
    let after = c.put_few.new.self in
    let clear = c.min-clear.result in
    let all = c.as_bytes.result.now in
    let rest : take (length all - clear) (drop clear all) ≡ drop clear text =
    take_all (length all - clear) (drop clear all) (omega (arith, length-drop clear all)) ∙ ap (drop clear) c.as_bytes.ensures in
    let begun = subst (λ t. TakesBytes g.W.Sink before t middle) c.first.ensures c.put_clear_padded.ensures in
    let more = subst (λ t. TakesBytes g.W.Sink middle t after) rest c.put_few.ensures in
    TakesAll-bytes g.W.Sink before after text (IsUtf8-text_bytes text c.requires.text)
    (subst (λ t. TakesBytes g.W.Sink before t after) (take-append-drop clear text)
    (TakesBytes-append g.W.Sink before middle after (take clear text) (drop clear text) begun more))

pub returns-else-clear-len : goal.returns-else-clear-len
returns-else-clear-len g c =
    let text = c.args.text.now in
    let before = c.args.self.now in
    let after = c.put_clear_padded.new.self in
    let clear = c.min-clear.result in
    let whole : c.first.result ≡ text = c.first.ensures ∙ take_all clear text (omega (arith, c.if-clear-len.false, c.len-2.ensures.value)) in
    TakesAll-bytes g.W.Sink before after text (IsUtf8-text_bytes text c.requires.text)
    (subst (λ t. TakesBytes g.W.Sink before t after) whole c.put_clear_padded.ensures)
