use Rattle.std.proofs.Common.{◌≡◌, ◌≤◌, ◌<◌, ◌+◌, sym, ap, ◌∙◌, subst, arith}
use Rattle.ansi_html.specs.Nearest.{distance, fixed_at, nearer, nearest_of}
use Rattle.ansi_html.proofs.NearestLemmas.{AreBytes, IsNearest-of, nearest_of-next}
use Rattle.ansi_html.proofs.contrast.Rgb.nearest.Goals as goal

pub returns-clause-value : goal.returns-clause-value
returns-clause-value c = let all : c.loop-grey.grey ≡ 24 = omega arith in c.loop-grey.invariant ∙ ap (λ n. nearest_of n c.args.self) all

pub returns-clause-least : goal.returns-clause-least
returns-clause-least c =
    let color = c.args.self in
    let are : AreBytes color = record { red = omega arith; green = omega arith; blue = omega arith } in
    subst (λ b. (n : _) → 16 ≤ n → n < 256 → distance color (fixed_at b) ≤ distance color (fixed_at n)) (sym (returns-clause-value c)) (IsNearest-of color are 24).least

pub returns-clause-first : goal.returns-clause-first
returns-clause-first c =
    let color = c.args.self in
    let are : AreBytes color = record { red = omega arith; green = omega arith; blue = omega arith } in
    subst (λ b. (n : _) → 16 ≤ n → n < b → distance color (fixed_at b) < distance color (fixed_at n)) (sym (returns-clause-value c)) (IsNearest-of color are 24).first

pub loop-grey-init : goal.loop-grey-init
unfolding nearest_of
loop-grey-init c = c.cube_number-best.ensures

pub loop-grey-preserved : goal.loop-grey-preserved
loop-grey-preserved c =
    c.nearer-best.ensures ∙ ap (λ b. nearer c.args.self b (232 + c.loop-grey.grey)) c.loop-grey.invariant ∙ sym (nearest_of-next c.loop-grey.grey c.args.self)
