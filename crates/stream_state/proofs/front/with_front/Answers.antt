-- The number of a lane is below the count, or not.
use Rattle.std.proofs.Common.{◌++◌, length, take, drop, ap, ◌∙◌}
use Rattle.stream_state.proofs.Fronts.{selected}
use Rattle.stream_state.proofs.front.with_front.Goals as goal

pub returns : goal.returns
returns c =
    let chunk = c.chunk.result.now in
    selected c.len.result chunk c.args.behind.now c.chunk.ensures.sixteen c.told-behind
    ∙ ap (λ n. take n chunk ++ drop n c.args.behind.now) c.len.ensures.value
    ∙ ap (λ l. l ++ drop (length c.args.front.now) c.args.behind.now) c.chunk.ensures.text
