use Rattle.std.proofs.Common.{arith}
use Rattle.ansi_strip.specs.Driving.{is_clear}
use Rattle.ansi_strip.proofs.PassLemmas.{PassTo_none, PassTo_more, chunk_and_behind, length-chunk}
use Rattle.ansi_strip.proofs.clear.after_blocks.Goals as goal

pub many-init : goal.many-init
many-init g c = PassTo_none is_clear c.args.bytes.now

pub many-preserved : goal.many-preserved
many-preserved g c =
    let rest = c.many.rest.now in
    let block = c.in-Some.block.now in
    let behind = c.in-Some.behind.now in
    let long = length-chunk g.row.WHOLE rest block behind c.in-Some.ensures.cases.0 c.in-Some.ensures.cases.2 in
    PassTo_more is_clear c.args.bytes.now rest block behind c.many.invariant
    (chunk_and_behind g.row.WHOLE rest block behind c.in-Some.ensures.cases.0 c.in-Some.ensures.cases.1)
    (c.are_clear.ensures c.if-not-are_clear.false (omega (arith, long, c.requires.halves)))
