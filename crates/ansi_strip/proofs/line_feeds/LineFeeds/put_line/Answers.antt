-- What waits is written, unless a line feed comes, and then the line.
use Rattle.ansi_strip.proofs.LineFeedLemmas.{line-taken}
use Rattle.ansi_strip.proofs.line_feeds.LineFeeds.put_line.Goals as goal

pub returns-in-Some : goal.returns-in-Some
returns-in-Some g c =
    line-taken g.W.Sink c.args.self.now c.release.new.self _ c.args.line.now c.in-Some.first.now c.in-Some.field-0-1.now c.in-Some.ensures.cases.0
    c.requires c.release.ensures.added c.put.ensures c.release.ensures.held
