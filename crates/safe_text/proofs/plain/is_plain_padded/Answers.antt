-- No bit is set for a byte of the text.
use lib.Count.{count_trailing_zeros}
use Rattle.std.proofs.Common.{◌≡◌, ◌∙◌, true, leb, map, take, ap, subst}
use Rattle.std.specs.Prelude.{not}
use Rattle.std.specs.Simd.Lanes.{mask_l}
use Rattle.anstyle_parse.specs.Stream.Items.{EachIs}
use Rattle.safe_text.specs.Plain.{is_plain}
use Rattle.safe_text.proofs.MaskLemmas.{front-plain}
use Rattle.safe_text.proofs.plain.is_plain_padded.Goals as goal

pub returns : goal.returns
returns c passes =
    let chunk = c.chunk.result.now in
    let first : take c.len.result chunk ≡ c.args.text.now = ap (λ n. take n chunk) c.len.ensures.value ∙ c.chunk.ensures.text in
    let unset : leb c.len.result (count_trailing_zeros 64 (mask_l (map (λ b. not (is_plain b)) chunk))) ≡ true =
    subst (λ m. leb c.len.result (count_trailing_zeros 64 m) ≡ true) c.others-others.ensures passes in
    subst (EachIs is_plain) first (front-plain chunk c.chunk.ensures.sixteen c.len.result c.len.ensures.within unset)
