-- A line feed is text, after which the line ends, and its link goes on or ends.
use Rattle.std.proofs.Common.{refl}
use Rattle.ansi_html.proofs.LinerLemmas.{TakesCall-feed}
use Rattle.ansi_html.proofs.lines.LinesWriter.put_line_feed.Goals as goal

pub returns : goal.returns
returns g c =
    let is = c.begin_text.ensures in
    let ends = c.end_line.ensures in
    let pays = c.pay_for_link.ensures in
    TakesCall-feed g.W.Sink 4 c.args.self.now c.begin_text.new.self (record { styling = is.styling; standing = is.standing; added = is.added })
    refl c.execute.new.self c.end_line.new.self c.execute.ensures ends.styling ends.standing ends.added
    c.pay_for_link.new.self (record { output = pays.output; styling = pays.styling; standing = pays.standing })
