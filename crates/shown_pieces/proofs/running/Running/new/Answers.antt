-- The screen is that of the whole log.
use Rattle.std.proofs.Common.{◌++◌}
use Rattle.shown_pieces.proofs.running.Running.new.Goals as goal

pub returns-in-Text : goal.returns-in-Text
returns-in-Text c = λ rest ways. c.as_text.ensures c.args.size c.args.form (c.args.front.now ++ rest) c.in-Text.is (c.in-Ok.ensures rest ways)

pub returns-in-Safe : goal.returns-in-Safe
returns-in-Safe c = λ rest ways. c.as_safe.ensures c.args.size c.args.form (c.args.front.now ++ rest) c.in-Safe.is (c.in-Ok.ensures rest ways)

pub returns-in-Ok-new : goal.returns-in-Ok-new
returns-in-Ok-new c = λ rest ways. c.as_html.ensures c.args.size c.args.form (c.args.front.now ++ rest) c.in-Html.is (c.in-Ok.ensures rest ways)
