-- The performer has received nothing before.
use Rattle.std.proofs.Common.{[]}
use Rattle.shown_pieces.proofs.SaysLemmas.{if-some}
use Rattle.shown_pieces.proofs.whole.of_stream.Goals as goal

pub returns-then-take : goal.returns-then-take
returns-then-take g c =
    if-some _ _ c.into_text.result (λ written writes. writes c.args.performer c.args.log.now c.requires.no_fault c.requires.empty
    (c.take.ensures c.args.performer [] c.new-following.ensures)) c.into_text.ensures
