use Rattle.std.proofs.Common.{sym, ◌∙◌}
use Rattle.ansi_strip.specs.LineFeeds.{is_of_line}
use Rattle.ansi_strip.proofs.LaneLemmas.{each-unset}
use Rattle.ansi_strip.proofs.LineFeedLemmas.{is_return}
use Rattle.ansi_strip.proofs.PassLemmas.{PassTo_none, PassTo_more, chunk_and_behind}
use Rattle.ansi_strip.proofs.returns.after_chunks.Goals as goal

pub chunks-init : goal.chunks-init
chunks-init c = PassTo_none is_of_line c.args.bytes.now

pub chunks-preserved : goal.chunks-preserved
chunks-preserved c =
    let rest = c.chunks.rest.now in
    let chunk = c.in-Some.chunk.now in
    let behind = c.in-Some.behind.now in
    let front = c.in-Some.ensures.cases.0 in
    PassTo_more is_of_line c.args.bytes.now rest chunk behind c.chunks.invariant
    (chunk_and_behind 16 rest chunk behind front c.in-Some.ensures.cases.1)
    (each-unset is_return chunk (sym c.returns.ensures ∙ c.if-returns-ne0.false))
