-- A line begins where none is open, and one that is open goes on.
use Rattle.std.proofs.Common.{[], Bool, true, List, ℕ, sym, ap, ap₂, ◌∙◌, subst}
use Rattle.std.specs.Prelude.{if◌then◌else◌}
use Rattle.anstyle_parse.specs.Io.Output.{Adds}
use Rattle.anstyle_parse.proofs.Written.Output.{Adds-nil}
use Rattle.ansi_html.specs.Affordable.{earned}
use Rattle.ansi_html.specs.Html.{Standing}
use Rattle.ansi_html.specs.Lines.{lined, line_begin, next_number, text_number}
use Rattle.ansi_html.specs.Liner.{output_of, lined_of}
use Rattle.ansi_html.proofs.AffordableLemmas.{earned-counted}
use Rattle.ansi_html.proofs.lines.LinesWriter.begin_text.Goals as goal

pub returns-then-not-self-clause-standing : goal.returns-then-not-self-clause-standing
returns-then-not-self-clause-standing g c =
    let before = c.args.self.now in
    let it = lined_of before in
    let number = ap (λ (is : Bool). if is then it.number else next_number it.number) c.if-not-self.true in
    let counted = c.saturating_add-self.result in
    ap₂ (λ (at : Standing) (n : ℕ). lined at n true (earned counted before.spare)) c.begin_line.ensures.standing (c.next_number-self.ensures ∙ sym number)
    ∙ ap (lined it.at (text_number it) true) (earned-counted c.args.count before.pending before.spare counted c.saturating_add-self.ensures)

pub returns-then-not-self-clause-added : goal.returns-then-not-self-clause-added
returns-then-not-self-clause-added g c =
    let before = c.args.self.now in
    let it = lined_of before in
    let begin = ap (λ (is : Bool). if is then [] else line_begin (next_number it.number)) c.if-not-self.true in
    subst (λ (t : List ℕ). Adds g.W.Sink t (output_of before) c.begin_line.new.self.output) (ap line_begin c.next_number-self.ensures ∙ sym begin) c.begin_line.ensures.added

pub returns-else-not-self-clause-standing : goal.returns-else-not-self-clause-standing
returns-else-not-self-clause-standing g c =
    let before = c.args.self.now in
    let it = lined_of before in
    let number = ap (λ (is : Bool). if is then it.number else next_number it.number) c.if-not-self.false in
    let counted = c.saturating_add-self.result in
    ap₂ (λ (n : ℕ) (is : Bool). lined it.at n is (earned counted before.spare)) (sym number) c.if-not-self.false
    ∙ ap (lined it.at (text_number it) true) (earned-counted c.args.count before.pending before.spare counted c.saturating_add-self.ensures)

pub returns-else-not-self-clause-added : goal.returns-else-not-self-clause-added
returns-else-not-self-clause-added g c =
    let before = c.args.self.now in
    let it = lined_of before in
    let begin = ap (λ (is : Bool). if is then [] else line_begin (next_number it.number)) c.if-not-self.false in
    subst (λ (t : List ℕ). Adds g.W.Sink t (output_of before) (output_of before)) (sym begin) (Adds-nil g.W.Sink (output_of before))
