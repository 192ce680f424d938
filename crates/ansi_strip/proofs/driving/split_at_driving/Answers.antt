-- A text parted at the first such character.
use Rattle.std.proofs.Common.{◌≡◌, ◌+◌, ◌-◌, ◌<◌, ◌++◌, length, length-append, take, drop, arith, subst, sym, ap, ap₂, ◌∙◌}
use Rattle.std.specs.Prelude.{not, filter}
use Rattle.std.specs.Str.{IsCharBoundary, chars}
use Rattle.ansi_strip.specs.Driving.{driving_width}
use Rattle.ansi_strip.specs.Inert.{is_driving}
use Rattle.ansi_strip.proofs.DrivingLemmas.{at-cases, front-parted, boundary-parted, boundary_behind-parted, characters-parted, shorter-parted}
use Rattle.ansi_strip.proofs.driving.split_at_driving.Goals as goal

pub range-requires-clause-end_boundary : goal.range-requires-clause-end_boundary
range-requires-clause-end_boundary c =
    let text = c.args.text.now in
    let stops = c.from_driving-rest.ensures in
    let joined = sym c.as_bytes-bytes.ensures.value ∙ stops.joined in
    let at : length stops.passed ≡ length c.as_bytes-bytes.result.now - length c.from_driving-rest.result.now =
    omega (arith, ap length stops.joined, length-append stops.passed c.from_driving-rest.result.now) in
    subst (IsCharBoundary text) at (boundary-parted text stops.passed c.from_driving-rest.result.now c.utf8.text joined (at-cases c.from_driving-rest.result.now stops.at))

pub range_from-requires : goal.range_from-requires
range_from-requires c = λ _.
    let text = c.args.text.now in
    let stops = c.from_driving-rest.ensures in
    let left = c.from_driving-rest.result.now in
    let joined = sym c.as_bytes-bytes.ensures.value ∙ stops.joined in
    let at : length stops.passed + driving_width left ≡ length c.as_bytes-bytes.result.now - length left + c.driving_width.result =
    omega (arith, ap length stops.joined, length-append stops.passed left, c.driving_width.ensures) in
    subst (IsCharBoundary text) at (boundary_behind-parted text stops.passed left c.utf8.text joined (at-cases c.from_driving-rest.result.now stops.at))

pub returns-clause-characters : goal.returns-clause-characters
returns-clause-characters c =
    let text = c.args.text.now in
    let stops = c.from_driving-rest.ensures in
    let left = c.from_driving-rest.result.now in
    let joined = sym c.as_bytes-bytes.ensures.value ∙ stops.joined in
    let front : c.range.result.now ≡ stops.passed =
    let end : length c.as_bytes-bytes.result.now - length left ≡ length stops.passed = omega (arith, ap length stops.joined, length-append stops.passed left) in
    c.range.ensures.value ∙ ap (λ n. take n text) (omega (arith, end)) ∙ front-parted text stops.passed left c.utf8.text joined in
    let at : length stops.passed + driving_width left ≡ length c.as_bytes-bytes.result.now - length left + c.driving_width.result =
    omega (arith, ap length stops.joined, length-append stops.passed left, c.driving_width.ensures) in
    let back : drop (length stops.passed + driving_width left) text ≡ c.range_from.result.now =
    ap (λ n. drop n text) at ∙ sym c.range_from.ensures.value in
    characters-parted text stops.passed left c.utf8.text joined (at-cases left stops.at) stops.none
    ∙ ap₂ (λ xs ys. chars xs ++ filter (λ c. not (is_driving c)) (chars ys)) (sym front) back

pub returns-clause-shorter : goal.returns-clause-shorter
returns-clause-shorter c =
    let text = c.args.text.now in
    let stops = c.from_driving-rest.ensures in
    let left = c.from_driving-rest.result.now in
    let joined = sym c.as_bytes-bytes.ensures.value ∙ stops.joined in
    let at : length stops.passed + driving_width left ≡ length c.as_bytes-bytes.result.now - length left + c.driving_width.result =
    omega (arith, ap length stops.joined, length-append stops.passed left, c.driving_width.ensures) in
    λ some. subst (λ n. n < length text) (ap length (ap (λ n. drop n text) at ∙ sym c.range_from.ensures.value))
    (shorter-parted text stops.passed left c.utf8.text joined (at-cases left stops.at) some)

pub returns-clause-front : goal.returns-clause-front
returns-clause-front c = c.range.utf8

pub returns-clause-text : goal.returns-clause-text
returns-clause-text c = c.range_from.utf8
