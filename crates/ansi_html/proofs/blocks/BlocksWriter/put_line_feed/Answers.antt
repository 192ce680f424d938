-- A line feed is text, after which its line, and with the last line its block, has ended.
use Rattle.std.proofs.Common.{eqb, refl, ap}
use Rattle.std.proofs.lemmas.Bool.{ne_eqb}
use Rattle.ansi_html.proofs.BlockerLemmas.{TakesCall-feed, TakesCall-last}
use Rattle.ansi_html.proofs.blocks.BlocksWriter.put_line_feed.Goals as goal

pub returns-then-self-eq1 : goal.returns-then-self-eq1
returns-then-self-eq1 g c =
    let is = c.begin_text.ensures in
    let ends = c.end_block.ensures in
    TakesCall-last g.W.Sink c.args.self.now c.begin_text.new.self
    (record { numbered = is.numbered; styling = is.styling; standing = is.standing; added = is.added })
    c.execute.new.self c.execute.ensures (ap (λ n. eqb n 1) c.if-self-eq1.true) c.end_block.new.self ends.numbered ends.styling ends.standing ends.added

pub returns-else-self-eq1 : goal.returns-else-self-eq1
returns-else-self-eq1 g c =
    let is = c.begin_text.ensures in
    TakesCall-feed g.W.Sink c.args.self.now c.begin_text.new.self
    (record { numbered = is.numbered; styling = is.styling; standing = is.standing; added = is.added })
    c.execute.new.self c.execute.ensures (ne_eqb c.begin_text.new.self.left 1 c.if-self-eq1.false) _ refl
