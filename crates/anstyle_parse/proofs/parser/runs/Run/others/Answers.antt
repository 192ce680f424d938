use Rattle.std.proofs.Common.{◌+◌, ap, ◌∙◌}
use Rattle.std.specs.Simd.Lanes.{mask_l}
use Rattle.anstyle_parse.specs.Stream.Bytes.{is_within}
use Rattle.anstyle_parse.specs.Views.Runs.{is_of_run}
use Rattle.anstyle_parse.proofs.Machine.Lanes.{others-as}
use Rattle.anstyle_parse.proofs.parser.runs.Run.others.Goals as goal

pub returns : goal.returns
returns c =
    c.outside.ensures
    ∙ ap mask_l (others-as (λ b. is_within 0x20 (0x1F + c.count.result) b) (λ b. is_of_run c.args.self b) c.count.ensures.of_run c.args.chunk.now)
