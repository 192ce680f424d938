-- Bytes with no meaning in HTML, and one that may have one.
use Rattle.std.proofs.Common.{[], ◌∷◌, ◌++◌, length, eqb-true, refl, sym, ap, ◌∙◌, subst, append_assoc, append-nil}
use Rattle.std.proofs.lemmas.List.{nil_from_length}
use Rattle.ansi_html.specs.Writer.{TakesBytes}
use Rattle.ansi_html.proofs.HtmlLemmas.{clear_before}
use Rattle.ansi_html.proofs.BytesLemmas.{TakesBytes-none, TakesBytes-append}
use Rattle.ansi_html.proofs.performer.HtmlWriter.put_text.Goals as goal

pub rest-init : goal.rest-init
rest-init g c = ([], refl, TakesBytes-none g.W.Sink c.args.self.now)

pub rest-preserved-in-Some : goal.rest-preserved-in-Some
rest-preserved-in-Some g c =
    let first = c.args.self.now in
    let (passed, joined, taken) = c.rest.invariant in
    let rest = c.rest.rest.now in
    let special = c.after_clear-special.result.now in
    let begun = c.after_clear-special.ensures in
    let clear = begun.0 in
    let byte = c.in-Some.first.now in
    let put = subst (λ bytes. TakesBytes g.W.Sink c.rest.self bytes c.put_clear.new.self) (c.split_at.ensures.front ∙ clear_before rest special begun) c.put_clear.ensures in (
      (passed ++ clear) ++ byte ∷ [],
      joined ∙ ap (λ l. passed ++ l) (begun.2 ∙ ap (λ l. clear ++ l) c.in-Some.ensures.cases.0) ∙ sym (append_assoc passed clear (byte ∷ c.in-Some.behind.now))
          ∙ sym (append_assoc (passed ++ clear) (byte ∷ []) c.in-Some.behind.now),
      TakesBytes-append g.W.Sink first c.put_clear.new.self c.put_text_byte.new.self (passed ++ clear) (byte ∷ [])
          (TakesBytes-append g.W.Sink first c.rest.self c.put_clear.new.self passed clear taken put) c.put_text_byte.ensures,
    )

pub rest-preserved : goal.rest-preserved
rest-preserved g c =
    let (passed, joined, taken) = c.rest.invariant in
    let rest = c.rest.rest.now in
    let special = c.after_clear-special.result.now in
    let begun = c.after_clear-special.ensures in
    let clear = begun.0 in
    let put = subst (λ bytes. TakesBytes g.W.Sink c.rest.self bytes c.put_clear.new.self) (c.split_at.ensures.front ∙ clear_before rest special begun) c.put_clear.ensures in (
      passed ++ clear,
      joined ∙ ap (λ l. passed ++ l) begun.2 ∙ sym (append_assoc passed clear special),
      TakesBytes-append g.W.Sink c.args.self.now c.rest.self c.put_clear.new.self passed clear taken put,
    )

pub returns : goal.returns
returns g c =
    let (passed, joined, taken) = c.rest.invariant in
    let none = nil_from_length c.rest.rest.now (eqb-true (length c.rest.rest.now) 0 (sym c.is_empty.ensures ∙ c.rest-test.false)) in
    let all = joined ∙ ap (λ l. passed ++ l) none ∙ append-nil passed in
    subst (λ bytes. TakesBytes g.W.Sink c.args.self.now bytes c.rest.self) (sym all) taken
