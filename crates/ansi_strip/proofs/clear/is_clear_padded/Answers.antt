use Rattle.std.proofs.Common.{◌≡◌, ◌∙◌, take, ap, subst}
use Rattle.ansi_strip.specs.Driving.{is_clear}
use Rattle.anstyle_parse.specs.Stream.Items.{EachIs}
use Rattle.ansi_strip.proofs.LaneLemmas.{front-clear}
use Rattle.ansi_strip.proofs.clear.is_clear_padded.Goals as goal

pub returns : goal.returns
returns c passes =
    let chunk = c.chunk.result.now in
    let first : take c.len.result chunk ≡ c.args.text.now = ap (λ n. take n chunk) c.len.ensures.value ∙ c.chunk.ensures.text in
    subst (EachIs is_clear) first (front-clear chunk c.chunk.ensures.sixteen c.len.result c.len.ensures.within passes)
