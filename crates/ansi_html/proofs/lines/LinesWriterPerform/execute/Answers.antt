-- A line feed, other layout, and a control that is no text.
use Rattle.std.proofs.Common.{[], ◌∷◌, Bool, length, sym, ap, subst, ◌∙◌, arith}
use Rattle.std.specs.Prelude.{if◌then◌else◌}
use Rattle.std.proofs.lemmas.Bool.{ne_eqb}
use Rattle.anstyle_parse.specs.Stream.Call.{execute}
use Rattle.ansi_html.specs.Liner.{TakesCall}
use Rattle.ansi_html.proofs.LinerLemmas.{TakesCall-text, TakesCall-control}
use Rattle.ansi_html.proofs.lines.LinesWriterPerform.execute.Goals as goal

pub returns-then-byte-eq10 : goal.returns-then-byte-eq10
returns-then-byte-eq10 g c =
    subst (λ byte. TakesCall g.W.Sink c.args.self.now (execute byte) c.put_line_feed.new.self)
    (sym c.if-byte-eq10.true) c.put_line_feed.ensures

pub returns-then-is_layout : goal.returns-then-is_layout
returns-then-is_layout g c =
    let byte = c.args.byte in
    let is = c.begin_text.ensures in
    let layout = sym c.is_layout.ensures ∙ c.if-is_layout.true in
    let one = ap (λ (text : Bool). length (if text then byte ∷ [] else [])) layout in
    TakesCall-text g.W.Sink 1 c.args.self.now c.begin_text.new.self (record { styling = is.styling; standing = is.standing; added = is.added })
    (execute byte) (ne_eqb byte 0x0A c.if-byte-eq10.false) (omega (arith, one)) (sym one) c.execute.new.self c.execute.ensures

pub returns-else-is_layout : goal.returns-else-is_layout
returns-else-is_layout g c =
    TakesCall-control g.W.Sink c.args.self.now c.args.byte (ne_eqb c.args.byte 0x0A c.if-byte-eq10.false) (sym c.is_layout.ensures ∙ c.if-is_layout.false)
