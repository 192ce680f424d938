-- A code that begins a colour changes nothing by itself.
use Rattle.std.proofs.Common.{◌≡◌, Some, sym, ap, ap₂, ◌∙◌}
use Rattle.ansi_style.specs.Walk.{alone, target_of, expected_for, selected_from}
use Rattle.ansi_style.proofs.WalkLemmas.{with_code-color}
use Rattle.ansi_style.proofs.style.Style.take_code.Goals as goal

pub returns-in-Some-clause-style : goal.returns-in-Some-clause-style
returns-in-Some-clause-style c =
    let begins : target_of c.args.code ≡ Some c.in-Some.target = sym c.color_target.ensures ∙ c.in-Some.is in
    c.take_color.ensures.0
    ∙ sym (ap₂ (λ expected style. selected_from expected (alone c.args.behind.now) style)
    (ap expected_for begins) (with_code-color c.args.code c.in-Some.target c.args.self.now begins))
