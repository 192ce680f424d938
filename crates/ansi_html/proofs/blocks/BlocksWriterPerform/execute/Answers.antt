-- A line feed, other layout, and a control that is no text.
use Rattle.std.proofs.Common.{[], ◌∷◌, ◌<◌, Bool, length, sym, ap, subst, ◌∙◌, arith}
use Rattle.std.specs.Prelude.{if◌then◌else◌}
use Rattle.std.proofs.lemmas.Bool.{ne_eqb}
use Rattle.anstyle_parse.specs.Stream.Call.{execute}
use Rattle.ansi_html.specs.Blocker.{TakesCall}
use Rattle.ansi_html.proofs.BlockerLemmas.{TakesCall-text, TakesCall-none}
use Rattle.ansi_html.proofs.blocks.BlocksWriterPerform.execute.Goals as goal

pub returns-then-byte-eq10 : goal.returns-then-byte-eq10
returns-then-byte-eq10 g c =
    subst (λ byte. TakesCall g.W.Sink c.args.self.now (execute byte) c.put_line_feed.new.self)
    (sym c.if-byte-eq10.true) c.put_line_feed.ensures

pub returns-then-is_layout : goal.returns-then-is_layout
returns-then-is_layout g c =
    let byte = c.args.byte in
    let is = c.begin_text.ensures in
    let layout = sym c.is_layout.ensures ∙ c.if-is_layout.true in
    TakesCall-text g.W.Sink c.args.self.now c.begin_text.new.self
    (record { numbered = is.numbered; styling = is.styling; standing = is.standing; added = is.added })
    (execute byte) (ne_eqb byte 0x0A c.if-byte-eq10.false)
    (subst (λ (text : Bool). 0 < length (if text then byte ∷ [] else [])) (sym layout) (omega arith)) c.execute.new.self c.execute.ensures

pub returns-else-is_layout : goal.returns-else-is_layout
returns-else-is_layout g c =
    let byte = c.args.byte in
    let layout = sym c.is_layout.ensures ∙ c.if-is_layout.false in
    TakesCall-none g.W.Sink c.args.self.now (execute byte) (ne_eqb byte 0x0A c.if-byte-eq10.false)
    (ap (λ (text : Bool). if text then byte ∷ [] else []) layout) c.execute-else-is_layout.new.self c.execute-else-is_layout.ensures
