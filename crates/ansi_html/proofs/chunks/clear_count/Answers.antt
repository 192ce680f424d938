use Rattle.std.proofs.Common.{arith, subst, sym, take_all}
use Rattle.anstyle_parse.proofs.Machine.Lanes.{lowest-lt, each_before, each_before_lowest}
use Rattle.ansi_html.specs.Grammar.{is_special, AreClear}
use Rattle.ansi_html.proofs.ChunkLemmas.{AreClear-each}
use Rattle.ansi_html.proofs.chunks.clear_count.Goals as goal

pub returns-then-found-eq0-clause-clear : goal.returns-then-found-eq0-clause-clear
returns-then-found-eq0-clause-clear c =
    let chunk = c.args.chunk.now in
    subst AreClear (sym (take_all 16 chunk (omega (arith, c.told-chunk))))
    (AreClear-each chunk (each_before is_special chunk c.specials-found.result c.told-chunk c.specials-found.ensures c.if-found-eq0.true))

pub returns-else-found-eq0-clause-within : goal.returns-else-found-eq0-clause-within
returns-else-found-eq0-clause-within c =
    omega (arith, lowest-lt is_special c.args.chunk.now c.specials-found.result c.told-chunk c.specials-found.ensures c.if-found-eq0.false)

pub returns-else-found-eq0-clause-clear : goal.returns-else-found-eq0-clause-clear
returns-else-found-eq0-clause-clear c =
    AreClear-each _ (each_before_lowest is_special c.args.chunk.now c.specials-found.result c.told-chunk c.specials-found.ensures c.if-found-eq0.false)
