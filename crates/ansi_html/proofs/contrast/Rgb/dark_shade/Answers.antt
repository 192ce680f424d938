use Rattle.std.proofs.Common.{◌≡◌, ◌-◌, Bool, sym, ap, subst, ◌∙◌, arith}
use Rattle.std.specs.Prelude.{if◌then◌else◌}
use Rattle.ansi_html.specs.Contrast.{is_read_on_dark, IsReadOnDark, lightened, dark_from}
use Rattle.ansi_html.proofs.ContrastLemmas.{dark_from-step, dark_from-none, IsReadOnDark-shade, dark_shade-stays}
use Rattle.ansi_html.proofs.contrast.Rgb.dark_shade.Goals as goal

pub returns-then-is_read_on_dark-clause-value : goal.returns-then-is_read_on_dark-clause-value
returns-then-is_read_on_dark-clause-value c =
    let color = c.args.self in
    let share = c.shares.share in
    let passes = ap is_read_on_dark (sym c.lightened-shade.ensures) ∙ sym c.is_read_on_dark.ensures ∙ c.if-is_read_on_dark.true in
    c.lightened-shade.ensures
    ∙ sym (ap (λ (read : Bool). if read then lightened share color else dark_from (share - 1) color) passes)
    ∙ sym (dark_from-step share color (omega arith))
    ∙ c.shares.invariant.left

pub returns-then-is_read_on_dark-clause-stays : goal.returns-then-is_read_on_dark-clause-stays
returns-then-is_read_on_dark-clause-stays c =
    λ is. returns-then-is_read_on_dark-clause-value c ∙ dark_shade-stays c.args.self (omega arith) (omega arith) (omega arith) is

pub shares-preserved : goal.shares-preserved
shares-preserved c =
    let color = c.args.self in
    let share = c.shares.share in
    let fails = ap is_read_on_dark (sym c.lightened-shade.ensures) ∙ sym c.is_read_on_dark.ensures ∙ c.if-is_read_on_dark.false in
    record {
      most = omega (arith, c.shares.invariant.most);
      left =
          sym (ap (λ (read : Bool). if read then lightened share color else dark_from (share - 1) color) fails)
          ∙ sym (dark_from-step share color (omega arith))
          ∙ c.shares.invariant.left;
    }

pub returns-clause-value : goal.returns-clause-value
returns-clause-value c =
    let none : 0 ≡ c.shares.share = omega arith in
    sym (dark_from-none c.args.self) ∙ ap (λ n. dark_from n c.args.self) none ∙ c.shares.invariant.left

pub returns-clause-contrast : goal.returns-clause-contrast
returns-clause-contrast c = subst IsReadOnDark (sym (returns-clause-value c)) (IsReadOnDark-shade c.args.self)

pub returns-clause-stays : goal.returns-clause-stays
returns-clause-stays c = λ is. returns-clause-value c ∙ dark_shade-stays c.args.self (omega arith) (omega arith) (omega arith) is
