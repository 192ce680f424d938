use Rattle.ansi_strip.proofs.LineFeedLemmas.{whole-text, none-stays}
use Rattle.ansi_strip.proofs.LineTextLemmas.{inert-lines}
use Rattle.ansi_strip.proofs.laws.line_feeds.Goals as goal

pub returns-clause-whole : goal.returns-clause-whole
returns-clause-whole c = whole-text

pub returns-clause-same : goal.returns-clause-same
returns-clause-same c = none-stays

pub returns-clause-inert : goal.returns-clause-inert
returns-clause-inert c = inert-lines
