-- The link is ended, the plain style selected, and the line ended.
use Rattle.std.proofs.Common.{ap₂, ◌∙◌, subst}
use Rattle.anstyle_parse.specs.Stream.Call.{execute}
use Rattle.ansi_style.specs.declared.style.Style.{Style}
use Rattle.screen_calls.specs.Calls.{pen, style_calls}
use Rattle.screen_calls.specs.Rows.{pen_in}
use Rattle.screen_calls.proofs.ReceivedLemmas.{feed-given}
use Rattle.screen_calls.proofs.rows.give_feed.Goals as goal

pub returns-clause-received : goal.returns-clause-received
returns-clause-received g c =
    let follows = g.met.P.PerformText.follows in
    let receives = g.P.PerformText.receives in
    feed-given receives follows.more (pen_in c.args.pen.now) c.args.performer.now c.end_link.new.performer c.select_style.new.performer c.execute.new.self
    c.end_link.ensures
    (subst (λ (style : Style). receives c.end_link.new.performer (style_calls c.args.pen.now.style style) c.select_style.new.performer) c.default.ensures c.select_style.ensures.received)
    (follows.one c.select_style.new.performer (execute 0x0A) c.execute.new.self c.execute.ensures)

pub returns-clause-pen : goal.returns-clause-pen
returns-clause-pen g c = ap₂ pen (c.select_style.ensures.selected ∙ c.default.ensures) c.end_line.ensures
