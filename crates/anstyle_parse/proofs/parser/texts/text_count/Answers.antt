use Rattle.std.proofs.Common.{arith, ◌-◌, ◌∙◌, ap, map, subst, sym, take_all}
use Rattle.std.specs.Simd.Lanes.{mask_l}
use Rattle.std.proofs.lemmas.Bool.{or_left}
use Rattle.anstyle_parse.specs.Stream.Bytes.{is_within}
use Rattle.anstyle_parse.specs.Stream.Items.{EachIs}
use Rattle.anstyle_parse.specs.Stream.Texts.{is_layout}
use Rattle.anstyle_parse.specs.Views.Texts.{is_text_byte}
use Rattle.anstyle_parse.proofs.Bytes.Passing.{EachIs-weaker}
use Rattle.anstyle_parse.proofs.Machine.Lanes.{is_outside, layouts-le, others-mask, lowest_within, each_to_lowest, each_passes}
use Rattle.anstyle_parse.proofs.parser.texts.text_count.Goals as goal

pub bounds-chunk-count : goal.bounds-chunk-count
bounds-chunk-count c =
    let unprinted = c.outside-unprinted.ensures ∙ ap (λ l. mask_l (map (is_outside 0x20 0x60) l)) c.lanes-bytes.ensures in
    omega (arith, lowest_within (λ b. is_within 0x20 0x7F b) c.args.chunk.now c.outside-unprinted.result c.told-chunk unprinted c.if-unprinted-eq0.false, c.told-chunk)

pub returns-then-not-is_layout-clause-within : goal.returns-then-not-is_layout-clause-within
returns-then-not-is_layout-clause-within c =
    let unprinted = c.outside-unprinted.ensures ∙ ap (λ l. mask_l (map (is_outside 0x20 0x60) l)) c.lanes-bytes.ensures in
    omega (arith, lowest_within (λ b. is_within 0x20 0x7F b) c.args.chunk.now c.outside-unprinted.result c.told-chunk unprinted c.if-unprinted-eq0.false)

pub returns-then-not-is_layout-clause-text : goal.returns-then-not-is_layout-clause-text
returns-then-not-is_layout-clause-text c =
    let unprinted = c.outside-unprinted.ensures ∙ ap (λ l. mask_l (map (is_outside 0x20 0x60) l)) c.lanes-bytes.ensures in
    EachIs-weaker (λ b. is_within 0x20 0x7F b) is_text_byte (λ b printed. or_left (is_within 0x20 0x7F b) (is_layout b) printed) _
    (each_to_lowest (λ b. is_within 0x20 0x7F b) c.args.chunk.now c.outside-unprinted.result c.told-chunk unprinted c.if-unprinted-eq0.false)

pub returns-then-unprinted-eq0-clause-text : goal.returns-then-unprinted-eq0-clause-text
returns-then-unprinted-eq0-clause-text c =
    let chunk = c.args.chunk.now in
    let unprinted = c.outside-unprinted.ensures ∙ ap (λ l. mask_l (map (is_outside 0x20 0x60) l)) c.lanes-bytes.ensures in
    let printed = each_passes (λ b. is_within 0x20 0x7F b) chunk c.outside-unprinted.result c.told-chunk unprinted c.if-unprinted-eq0.true in
    subst (EachIs is_text_byte) (sym (take_all 16 chunk (omega (arith, c.told-chunk))))
    (EachIs-weaker (λ b. is_within 0x20 0x7F b) is_text_byte (λ b is. or_left (is_within 0x20 0x7F b) (is_layout b) is) chunk printed)

pub overflow_sub-others : goal.overflow_sub-others
overflow_sub-others c =
    let unprinted = c.outside-unprinted.ensures ∙ ap (λ l. mask_l (map (is_outside 0x20 0x60) l)) c.lanes-bytes.ensures in
    layouts-le c.args.chunk.now c.outside-unprinted.result c.layouts.result unprinted (c.layouts.ensures ∙ ap (λ l. mask_l (map is_layout l)) c.lanes-bytes.ensures)

pub returns-then-others-eq0-clause-text : goal.returns-then-others-eq0-clause-text
returns-then-others-eq0-clause-text c =
    let chunk = c.args.chunk.now in
    let mask = c.outside-unprinted.result - c.layouts.result in
    let unprinted = c.outside-unprinted.ensures ∙ ap (λ l. mask_l (map (is_outside 0x20 0x60) l)) c.lanes-bytes.ensures in
    let is = others-mask chunk c.outside-unprinted.result c.layouts.result unprinted (c.layouts.ensures ∙ ap (λ l. mask_l (map is_layout l)) c.lanes-bytes.ensures) in
    subst (EachIs is_text_byte) (sym (take_all 16 chunk (omega (arith, c.told-chunk)))) (each_passes is_text_byte chunk mask c.told-chunk is c.if-others-eq0.true)

pub returns-else-others-eq0-clause-within : goal.returns-else-others-eq0-clause-within
returns-else-others-eq0-clause-within c =
    let unprinted = c.outside-unprinted.ensures ∙ ap (λ l. mask_l (map (is_outside 0x20 0x60) l)) c.lanes-bytes.ensures in
    let is = others-mask c.args.chunk.now c.outside-unprinted.result c.layouts.result unprinted (c.layouts.ensures ∙ ap (λ l. mask_l (map is_layout l)) c.lanes-bytes.ensures) in
    omega (arith, lowest_within is_text_byte c.args.chunk.now _ c.told-chunk is c.if-others-eq0.false)

pub returns-else-others-eq0-clause-text : goal.returns-else-others-eq0-clause-text
returns-else-others-eq0-clause-text c =
    let unprinted = c.outside-unprinted.ensures ∙ ap (λ l. mask_l (map (is_outside 0x20 0x60) l)) c.lanes-bytes.ensures in
    let is = others-mask c.args.chunk.now c.outside-unprinted.result c.layouts.result unprinted (c.layouts.ensures ∙ ap (λ l. mask_l (map is_layout l)) c.lanes-bytes.ensures) in
    each_to_lowest is_text_byte c.args.chunk.now _ c.told-chunk is c.if-others-eq0.false
