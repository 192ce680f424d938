use Rattle.std.proofs.Common.{◌≡◌, [], take, refl, sym, ◌∙◌, subst, arith}
use Rattle.anstyle_parse.specs.Stream.Items.{EachIs}
use Rattle.anstyle_parse.specs.Views.Runs.{is_of_run}
use Rattle.anstyle_parse.proofs.Machine.AsReadTo.{PassBytes-all, PassBytes-trans}
use Rattle.anstyle_parse.proofs.Machine.Lanes.{lowest_within, each_to_lowest, each_passes}
use Rattle.anstyle_parse.proofs.Machine.Runs.{chunk_and_rest, front_of_chunk, length-first_chunk}
use Rattle.anstyle_parse.proofs.parser.log.after_run.Goals as goal

pub chunks-init : goal.chunks-init
chunks-init c = record { passed = []; each = tt; joined = refl }

pub split_at-requires : goal.split_at-requires
split_at-requires c =
    let long = length-first_chunk 16 c.chunks.rest.now c.in-Some.chunk.now c.in-Some.behind.now c.in-Some.ensures.cases.0 c.in-Some.ensures.cases.2 in
    omega (arith, long, c.in-Some.ensures.cases.2, lowest_within (λ b. is_of_run c.args.run b) c.in-Some.chunk.now c.others-others.result long c.others-others.ensures c.if-others-ne0.true)

pub returns-then-others-ne0 : goal.returns-then-others-ne0
returns-then-others-ne0 c =
    let rest = c.chunks.rest.now in
    let chunk = c.in-Some.chunk.now in
    let few = c.split_at.result.0.now in
    let long = length-first_chunk 16 rest chunk c.in-Some.behind.now c.in-Some.ensures.cases.0 c.in-Some.ensures.cases.2 in
    let within = lowest_within (λ b. is_of_run c.args.run b) chunk c.others-others.result long c.others-others.ensures c.if-others-ne0.true in
    let each = each_to_lowest (λ b. is_of_run c.args.run b) chunk c.others-others.result long c.others-others.ensures c.if-others-ne0.true in
    let same : few ≡ take _ chunk = c.split_at.ensures.front ∙ front_of_chunk 16 _ rest chunk c.in-Some.ensures.cases.0 (omega (arith, within)) in
    PassBytes-all (λ b. is_of_run c.args.run b) c.args.bytes.now rest few c.split_at.result.1.now
    (subst (EachIs (λ b. is_of_run c.args.run b)) (sym same) each)
    (chunk_and_rest _ rest few c.split_at.result.1.now c.split_at.ensures.front c.split_at.ensures.back) c.chunks.invariant

pub chunks-preserved : goal.chunks-preserved
chunks-preserved c =
    let rest = c.chunks.rest.now in
    let chunk = c.in-Some.chunk.now in
    let behind = c.in-Some.behind.now in
    let long = length-first_chunk 16 rest chunk behind c.in-Some.ensures.cases.0 c.in-Some.ensures.cases.2 in
    PassBytes-all (λ b. is_of_run c.args.run b) c.args.bytes.now rest chunk behind
    (each_passes (λ b. is_of_run c.args.run b) chunk c.others-others.result long c.others-others.ensures c.if-others-ne0.false)
    (chunk_and_rest 16 rest chunk behind c.in-Some.ensures.cases.0 c.in-Some.ensures.cases.1) c.chunks.invariant

pub returns : goal.returns
returns c = PassBytes-trans (λ b. is_of_run c.args.run b) c.args.bytes.now c.chunks.rest.now c.after_few.result.now c.chunks.invariant c.after_few.ensures
