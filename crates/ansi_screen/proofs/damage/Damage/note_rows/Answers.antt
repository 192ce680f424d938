-- Where all is noted, these rows are.
use Rattle.std.proofs.Common.{◌≡◌, List, length, refl, ap, sym, ◌∙◌}
use Rattle.std.specs.Prelude.{replicate}
use Rattle.ansi_screen.specs.declared.damage.Span.{Span}
use Rattle.ansi_screen.specs.Damage.{Noted, whole_span}
use Rattle.ansi_screen.proofs.DamageLemmas.{noted-again}
use Rattle.ansi_screen.proofs.damage.Damage.note_rows.Goals as goal

pub returns-else-not-self : goal.returns-else-not-self
returns-else-not-self c =
    let n = length c.self.inside.spans.items in
    let all : c.args.self.now.spans ≡ replicate n whole_span = ap (λ (d : Noted). d.spans) (sym c.self.view_is) ∙ rw c.if-not-self.false refl in
    ap (λ (l : List Span). record c.args.self.now { spans = l })
    (noted-again n c.args.first c.args.past whole_span c.args.self.now.spans all c.requires.order c.requires.within)
