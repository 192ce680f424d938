-- The first byte of what is left begins none, nor do those that are passed after it.
use Rattle.std.proofs.Common.{◌++◌, ◌∷◌, sym, ap, ◌∙◌, subst, append_assoc}
use Rattle.ansi_strip.specs.Driving.{driving_width, NoneBegins}
use Rattle.ansi_strip.proofs.DrivingLemmas.{NoneBegins-each, NoneBegins-append}
use Rattle.ansi_strip.proofs.driving.from_driving.Goals as goal

pub at-init : goal.at-init
at-init c =
    let passed = c.from_beginning-at.ensures in
    (passed.passed, passed.joined, NoneBegins-each passed.passed c.from_beginning-at.result.now passed.before)

pub at-preserved : goal.at-preserved
at-preserved c =
    let (so_far, joined, none) = c.at.invariant in
    let passed = c.from_beginning-at-in-at.ensures in
    let left = c.from_beginning-at-in-at.result.now in
    let first = c.in-Some.field-0-0.now in
    let is = c.in-Some.ensures.cases.0 ∙ ap (λ l. first ∷ l) passed.joined in (
      so_far ++ first ∷ passed.passed,
      joined ∙ ap (λ l. so_far ++ l) is ∙ sym (append_assoc so_far (first ∷ passed.passed) left),
      NoneBegins-append so_far (first ∷ passed.passed) left (subst (NoneBegins so_far) is none)
          (sym (ap driving_width is) ∙ sym c.driving_width.ensures ∙ c.at-test.true, NoneBegins-each passed.passed left passed.before),
    )
