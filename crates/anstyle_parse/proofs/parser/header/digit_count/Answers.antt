use Rattle.std.proofs.Common.{arith, ◌∙◌, ap, map, subst, sym, take_all}
use Rattle.std.specs.Prelude.{not}
use Rattle.std.specs.Simd.Lanes.{mask_l}
use Rattle.anstyle_parse.specs.Stream.Bytes.{is_within}
use Rattle.anstyle_parse.specs.Stream.Items.{EachIs}
use Rattle.anstyle_parse.proofs.Machine.Lanes.{lowest_within, each_to_lowest, each_passes}
use Rattle.anstyle_parse.proofs.parser.header.digit_count.Goals as goal

pub returns-then-others-eq0-clause-digits : goal.returns-then-others-eq0-clause-digits
returns-then-others-eq0-clause-digits c =
    let chunk = c.args.chunk.now in
    let others = c.beyond_digits-others.ensures ∙ ap (λ l. mask_l (map (λ b. not (is_within 0x30 0x39 b)) l)) c.lanes.ensures in
    subst (EachIs (λ b. is_within 0x30 0x39 b)) (sym (take_all 16 chunk (omega (arith, c.told-chunk))))
    (each_passes (λ b. is_within 0x30 0x39 b) chunk c.beyond_digits-others.result c.told-chunk others c.if-others-eq0.true)

pub returns-else-others-eq0-clause-within : goal.returns-else-others-eq0-clause-within
returns-else-others-eq0-clause-within c =
    let others = c.beyond_digits-others.ensures ∙ ap (λ l. mask_l (map (λ b. not (is_within 0x30 0x39 b)) l)) c.lanes.ensures in
    omega (arith, lowest_within (λ b. is_within 0x30 0x39 b) c.args.chunk.now c.beyond_digits-others.result c.told-chunk others c.if-others-eq0.false)

pub returns-else-others-eq0-clause-digits : goal.returns-else-others-eq0-clause-digits
returns-else-others-eq0-clause-digits c =
    let others = c.beyond_digits-others.ensures ∙ ap (λ l. mask_l (map (λ b. not (is_within 0x30 0x39 b)) l)) c.lanes.ensures in
    each_to_lowest (λ b. is_within 0x30 0x39 b) c.args.chunk.now c.beyond_digits-others.result c.told-chunk others c.if-others-eq0.false
