use Rattle.std.proofs.Common.{arith}
use Rattle.anstyle_parse.specs.Views.Runs.{is_of_run}
use Rattle.anstyle_parse.proofs.Machine.Lanes.{lowest_within, each_to_lowest, each_passes}
use Rattle.anstyle_parse.proofs.Machine.Runs.{chunk_and_rest, length-first_chunk, LeadsTo-chunk, LeadsTo-first, LeadsTo-front, LeadsTo-trans}
use Rattle.anstyle_parse.proofs.parser.Parser.take_chunks.Goals as goal

pub split_at-requires : goal.split_at-requires
split_at-requires g c =
    let long = length-first_chunk 16 c.chunks.rest.now c.in-Some.chunk.now c.in-Some.behind.now c.in-Some.ensures.cases.0 c.in-Some.ensures.cases.2 in
    omega (arith, long, c.in-Some.ensures.cases.2, lowest_within (λ b. is_of_run c.args.run b) c.in-Some.chunk.now c.others-others.result long c.others-others.ensures c.if-others-ne0.true)

pub returns-then-others-ne0 : goal.returns-then-others-ne0
returns-then-others-ne0 g c =
    let n = g.C.CharAccumulator in
    let rest = c.chunks.rest.now in
    let chunk = c.in-Some.chunk.now in
    let long = length-first_chunk 16 rest chunk c.in-Some.behind.now c.in-Some.ensures.cases.0 c.in-Some.ensures.cases.2 in
    let within = lowest_within (λ b. is_of_run c.args.run b) chunk c.others-others.result long c.others-others.ensures c.if-others-ne0.true in
    LeadsTo-front n.takes n.taken g.P.Perform.means c.args.run c.args.self.now c.requires.keeps c.chunks.performer c.call_few.new.performer
    _ rest chunk c.split_at.result.0.now c.split_at.result.1.now c.in-Some.ensures.cases.0 (omega (arith, within))
    (each_to_lowest (λ b. is_of_run c.args.run b) chunk c.others-others.result long c.others-others.ensures c.if-others-ne0.true)
    c.split_at.ensures.front c.split_at.ensures.back c.call_few.ensures c.chunks.invariant

pub chunks-preserved : goal.chunks-preserved
chunks-preserved g c =
    let n = g.C.CharAccumulator in
    let means = g.P.Perform.means in
    let rest = c.chunks.rest.now in
    let chunk = c.in-Some.chunk.now in
    let behind = c.in-Some.behind.now in
    let long = length-first_chunk 16 rest chunk behind c.in-Some.ensures.cases.0 c.in-Some.ensures.cases.2 in
    let whole = chunk_and_rest 16 rest chunk behind c.in-Some.ensures.cases.0 c.in-Some.ensures.cases.1 in
    let each = each_passes (λ b. is_of_run c.args.run b) chunk c.others-others.result long c.others-others.ensures c.if-others-ne0.false in
    LeadsTo-first n.takes n.taken means whole c.chunks.invariant
    (λ can. LeadsTo-chunk n.takes n.taken means c.args.run c.args.self.now c.requires.keeps c.chunks.performer c.call_all.new.performer
    chunk behind can each c.call_all.ensures)

pub returns : goal.returns
returns g c = LeadsTo-trans g.C.CharAccumulator.takes g.C.CharAccumulator.taken g.P.Perform.means c.chunks.invariant c.take_others.ensures
