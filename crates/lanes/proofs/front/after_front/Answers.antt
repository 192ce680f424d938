-- A chunk more is passed, or the part of it before the first other byte.
use Rattle.std.proofs.Common.{ap, ◌∙◌, arith, drop}
use Rattle.std.proofs.lemmas.List.Sums.{prefix_len-le-length}
use Rattle.lanes.proofs.FrontLemmas.{prefix_len-lowest, after-chunk}
use Rattle.lanes.proofs.front.after_front.Goals as goal

pub split_at-requires : goal.split_at-requires
split_at-requires g c =
    let (front, back, room) = c.in-Some.ensures.cases in
    let at = prefix_len-lowest g.K.Kind.holds c.chunks.rest.now c.in-Some.chunk.now c.in-Some.further.now front back room
    c.others-found.result c.others-found.ensures c.if-found-ne0.true in
    omega (arith, at, prefix_len-le-length g.K.Kind.holds c.chunks.rest.now)

pub returns-then-found-ne0 : goal.returns-then-found-ne0
returns-then-found-ne0 g c =
    let (front, back, room) = c.in-Some.ensures.cases in
    let at = prefix_len-lowest g.K.Kind.holds c.chunks.rest.now c.in-Some.chunk.now c.in-Some.further.now front back room
    c.others-found.result c.others-found.ensures c.if-found-ne0.true in
    c.split_at.ensures.back ∙ (ap (λ n. drop n c.chunks.rest.now) at ∙ c.chunks.invariant)

pub chunks-preserved : goal.chunks-preserved
chunks-preserved g c =
    let (front, back, room) = c.in-Some.ensures.cases in
    after-chunk g.K.Kind.holds c.chunks.rest.now c.in-Some.chunk.now c.in-Some.further.now front back room
    c.others-found.result c.others-found.ensures c.if-found-ne0.false
    ∙ c.chunks.invariant
