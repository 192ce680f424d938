use Rattle.std.proofs.Common.{◌≡◌, ◌-◌, Bool, sym, ap, subst, ◌∙◌, arith}
use Rattle.std.specs.Prelude.{if◌then◌else◌}
use Rattle.ansi_html.specs.Contrast.{is_read_on_light, IsReadOnLight, darkened, light_from}
use Rattle.ansi_html.proofs.ContrastLemmas.{light_from-step, light_from-none, IsReadOnLight-shade, light_shade-stays}
use Rattle.ansi_html.proofs.contrast.Rgb.light_shade.Goals as goal

pub returns-then-is_read_on_light-clause-value : goal.returns-then-is_read_on_light-clause-value
returns-then-is_read_on_light-clause-value c =
    let color = c.args.self in
    let share = c.shares.share in
    let passes = ap is_read_on_light (sym c.darkened-shade.ensures) ∙ sym c.is_read_on_light.ensures ∙ c.if-is_read_on_light.true in
    c.darkened-shade.ensures
    ∙ sym (ap (λ (read : Bool). if read then darkened share color else light_from (share - 1) color) passes)
    ∙ sym (light_from-step share color (omega arith))
    ∙ c.shares.invariant.left

pub returns-then-is_read_on_light-clause-stays : goal.returns-then-is_read_on_light-clause-stays
returns-then-is_read_on_light-clause-stays c =
    λ is. returns-then-is_read_on_light-clause-value c ∙ light_shade-stays c.args.self is

pub shares-preserved : goal.shares-preserved
shares-preserved c =
    let color = c.args.self in
    let share = c.shares.share in
    let fails = ap is_read_on_light (sym c.darkened-shade.ensures) ∙ sym c.is_read_on_light.ensures ∙ c.if-is_read_on_light.false in
    record {
      most = omega (arith, c.shares.invariant.most);
      left =
          sym (ap (λ (read : Bool). if read then darkened share color else light_from (share - 1) color) fails)
          ∙ sym (light_from-step share color (omega arith))
          ∙ c.shares.invariant.left;
    }

pub returns-clause-value : goal.returns-clause-value
returns-clause-value c =
    let none : 0 ≡ c.shares.share = omega arith in
    sym (light_from-none c.args.self) ∙ ap (λ n. light_from n c.args.self) none ∙ c.shares.invariant.left

pub returns-clause-contrast : goal.returns-clause-contrast
returns-clause-contrast c = subst IsReadOnLight (sym (returns-clause-value c)) (IsReadOnLight-shade c.args.self)

pub returns-clause-stays : goal.returns-clause-stays
returns-clause-stays c = λ is. returns-clause-value c ∙ light_shade-stays c.args.self is
