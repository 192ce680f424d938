-- Bytes with no meaning in HTML, and one that may have one.
use Rattle.std.proofs.Common.{ℕ, List, [], ◌++◌, length, refl, sym, ap, ◌∙◌, subst, append_assoc, length-append, arith}
use Rattle.anstyle_parse.specs.Io.Output.{Adds}
use Rattle.anstyle_parse.proofs.Written.Output.{Adds-nil, Adds-append}
use Rattle.ansi_html.specs.Html.{escaped, escaped_text}
use Rattle.ansi_html.proofs.HtmlLemmas.{clear_before, escaped_text-begun}
use Rattle.ansi_html.proofs.performer.put_in_parts.Goals as goal

pub text-init : goal.text-init
text-init g c = record { done = []; whole = refl; added = Adds-nil g.W.Sink c.args.output.now }

pub overflow_sub-rest : goal.overflow_sub-rest
overflow_sub-rest g c =
    let begun = c.after_clear-special.ensures in
    omega (arith, ap length begun.2, length-append begun.0 c.after_clear-special.result.now)

pub text-smaller-in-Some : goal.text-smaller-in-Some
text-smaller-in-Some g c =
    let begun = c.after_clear-special.ensures in
    omega (arith, ap length begun.2, length-append begun.0 c.after_clear-special.result.now, ap length c.in-Some.ensures.cases.0)

pub text-preserved-in-Some : goal.text-preserved-in-Some
text-preserved-in-Some g c =
    let before = c.text.invariant in
    let rest = c.text.rest.now in
    let special = c.after_clear-special.result.now in
    let begun = c.after_clear-special.ensures in
    let clear = begun.0 in
    let put = subst (λ (t : List ℕ). Adds g.W.Sink t c.text.output c.put.new.self) (c.split_at.ensures.front ∙ clear_before rest special begun) c.put.ensures in
    let reference = escaped c.in-Some.first.now in
    record {
      done = (before.done ++ clear) ++ reference;
      whole =
          append_assoc (before.done ++ clear) reference (escaped_text c.in-Some.behind.now)
          ∙ ap (λ l. (before.done ++ clear) ++ l) (sym (ap escaped_text c.in-Some.ensures.cases.0))
          ∙ append_assoc before.done clear (escaped_text special) ∙ ap (λ l. before.done ++ l) (sym (escaped_text-begun rest special begun)) ∙ before.whole;
      added = Adds-append g.W.Sink (before.done ++ clear) reference c.args.output.now c.put.new.self c.put_reference.new.output
          (Adds-append g.W.Sink before.done clear c.args.output.now c.text.output c.put.new.self before.added put) c.put_reference.ensures;
    }

pub text-preserved : goal.text-preserved
text-preserved g c =
    let before = c.text.invariant in
    let rest = c.text.rest.now in
    let special = c.after_clear-special.result.now in
    let begun = c.after_clear-special.ensures in
    let clear = begun.0 in
    let put = subst (λ (t : List ℕ). Adds g.W.Sink t c.text.output c.put.new.self) (c.split_at.ensures.front ∙ clear_before rest special begun) c.put.ensures in
    record {
      done = before.done ++ clear;
      whole = append_assoc before.done clear (escaped_text special) ∙ ap (λ l. before.done ++ l) (sym (escaped_text-begun rest special begun)) ∙ before.whole;
      added = Adds-append g.W.Sink before.done clear c.args.output.now c.text.output c.put.new.self before.added put;
    }
