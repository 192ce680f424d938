use Rattle.std.proofs.Common.{List, ◌++◌, [], length, filter, eqb-true, refl, sym, ap, ◌∙◌, subst, append_assoc, append-nil}
use Rattle.std.proofs.lemmas.List.{nil_from_length}
use Rattle.anstyle_parse.specs.Stream.Call.{Call}
use Rattle.anstyle_parse.specs.Stream.Texts.{layout_calls}
use Rattle.ansi_strip.specs.Inert.{is_inert}
use Rattle.ansi_strip.specs.Passing.{performer_in}
use Rattle.ansi_strip.proofs.DrivingLemmas.{inert-parts, layout_calls-nil}
use Rattle.ansi_strip.proofs.inert.Inert.print_parts.Goals as goal

pub rest-init : goal.rest-init
rest-init g c = (c.utf8.text, [], g.met.P.PerformText.follows.none (performer_in c.args.self.now), refl)

pub rest-preserved-then-not-is_empty : goal.rest-preserved-then-not-is_empty
rest-preserved-then-not-is_empty g c =
    let (utf8, made, received, are) = c.rest.invariant in
    let inert = c.split_at_driving.result.0.now in
    let behind = c.split_at_driving.result.1.now in
    let parts = inert-parts c.rest.rest.now inert behind c.split_at_driving.ensures.characters in (
      c.split_at_driving.ensures.text,
      made ++ layout_calls inert,
      g.met.P.PerformText.follows.more (performer_in c.args.self.now) (performer_in c.rest.self) c.print_with_layout.new.self made (layout_calls inert) received c.print_with_layout.ensures,
      are ∙ ap (λ l. made ++ l) parts ∙ sym (append_assoc made (layout_calls inert) (filter is_inert (layout_calls behind))),
    )

pub rest-preserved : goal.rest-preserved
rest-preserved g c =
    let (utf8, made, received, are) = c.rest.invariant in
    let inert = c.split_at_driving.result.0.now in
    let behind = c.split_at_driving.result.1.now in
    let parts = inert-parts c.rest.rest.now inert behind c.split_at_driving.ensures.characters in
    let none = layout_calls-nil inert (nil_from_length inert (eqb-true (length inert) 0 (sym c.is_empty-in-rest.ensures ∙ c.if-not-is_empty.false))) in (
      c.split_at_driving.ensures.text,
      made,
      received,
      are ∙ ap (λ l. made ++ l) (parts ∙ ap (λ l. l ++ filter is_inert (layout_calls behind)) none),
    )

pub returns : goal.returns
returns g c =
    let (utf8, made, received, are) = c.rest.invariant in
    let none = layout_calls-nil c.rest.rest.now (nil_from_length c.rest.rest.now (eqb-true (length c.rest.rest.now) 0 (sym c.is_empty.ensures ∙ c.rest-test.false))) in
    subst (λ (l : List Call). g.P.PerformText.receives (performer_in c.args.self.now) l (performer_in c.rest.self))
    (sym (are ∙ ap (λ l. made ++ filter is_inert l) none ∙ append-nil made)) received
