use Rattle.std.proofs.Common.{arith, take, sym, ap₂, ◌++◌, ◌∙◌, take-append-drop}
use Rattle.anstyle_parse.specs.Stream.Bytes.{is_parameter}
use Rattle.anstyle_parse.proofs.Machine.Lanes.{lowest_within, each_to_lowest, each_passes}
use Rattle.anstyle_parse.proofs.Machine.Passing.{PassFields-none, PassFields-more}
use Rattle.anstyle_parse.proofs.Machine.Runs.{chunk_and_rest, front_of_chunk, length-first_chunk}
use lib.Count.{count_trailing_zeros}
use Rattle.anstyle_parse.proofs.parser.passing.after_fields.Goals as goal

pub chunks-init : goal.chunks-init
chunks-init c = PassFields-none c.args.bytes.now

pub split_at-requires : goal.split_at-requires
split_at-requires c =
    let long = length-first_chunk 16 c.chunks.rest.now c.in-Some.chunk.now c.in-Some.behind.now c.in-Some.ensures.cases.0 c.in-Some.ensures.cases.2 in
    omega (arith, long, c.in-Some.ensures.cases.2, lowest_within is_parameter c.in-Some.chunk.now c.beyond_fields-others.result long c.beyond_fields-others.ensures c.if-others-ne0.true)

pub returns-then-others-ne0 : goal.returns-then-others-ne0
returns-then-others-ne0 c =
    let rest = c.chunks.rest.now in
    let chunk = c.in-Some.chunk.now in
    let others = c.beyond_fields-others.result in
    let front = c.in-Some.ensures.cases.0 in
    let some = c.if-others-ne0.true in
    let long = length-first_chunk 16 rest chunk c.in-Some.behind.now front c.in-Some.ensures.cases.2 in
    let count = count_trailing_zeros 64 others in
    let within = lowest_within is_parameter chunk others long c.beyond_fields-others.ensures some in
    PassFields-more c.args.bytes.now rest c.split_at.result.1.now (take count chunk)
    (each_to_lowest is_parameter chunk others long c.beyond_fields-others.ensures some)
    (sym (take-append-drop count rest) ∙ ap₂ (λ x y. x ++ y) (front_of_chunk 16 count rest chunk front (omega (arith, within))) (sym c.split_at.ensures.back))
    c.chunks.invariant

pub chunks-preserved : goal.chunks-preserved
chunks-preserved c =
    let rest = c.chunks.rest.now in
    let chunk = c.in-Some.chunk.now in
    let behind = c.in-Some.behind.now in
    let long = length-first_chunk 16 rest chunk behind c.in-Some.ensures.cases.0 c.in-Some.ensures.cases.2 in
    PassFields-more c.args.bytes.now rest behind chunk
    (each_passes is_parameter chunk c.beyond_fields-others.result long c.beyond_fields-others.ensures c.if-others-ne0.false)
    (chunk_and_rest 16 rest chunk behind c.in-Some.ensures.cases.0 c.in-Some.ensures.cases.1)
    c.chunks.invariant
