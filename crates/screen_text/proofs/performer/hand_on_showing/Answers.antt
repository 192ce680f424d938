-- The rows of the main screen, and then those of the one that shows.
use Rattle.std.proofs.Common.{◌≡◌, true, false, ap, sym, ◌∙◌, subst}
use Rattle.ansi_screen.specs.After.{State}
use Rattle.ansi_screen.specs.Text.{printed_rows}
use Rattle.ansi_screen.specs.Edits.{swapped}
use Rattle.ansi_screen.specs.Leaving.{TakesRows, taker_of, screen_of as scrolling_screen}
use Rattle.screen_text.proofs.ShownLemmas.{takes-showing}
use Rattle.screen_text.proofs.performer.hand_on_showing.Goals as goal
use Rattle.screen_text.proofs.performer.hand_on_showing.Goals.{then-is_alternate, else-is_alternate}

pub returns : goal.returns
returns g c =
    let takes = g.R.TakeRow.takes in
    let old = c.args.scrolling.now in
    let s : State = scrolling_screen old in
    let middle = c.if-is_alternate.scrolling in
    let end = taker_of c.hand_on_printed.new.self in
    let alternate : s.display.is_alternate ≡ c.is_alternate.result =
    sym (c.is_alternate.ensures ∙ ap (λ (x : State). x.display.is_alternate) c.screen.ensures) in
    let last = c.hand_on_printed.ensures.taken in
    elim c.if-is_alternate.branch [
      | then-is_alternate w ↦
          takes-showing takes s.display true (taker_of old) (taker_of middle) end (alternate ∙ w.if-is_alternate.true)
          (subst (λ x. TakesRows takes (taker_of old) (printed_rows (swapped s.display)) (taker_of x)) (sym w.scrolling-is) w.hand_on_hidden.ensures.taken)
          (subst (λ (x : State). TakesRows takes (taker_of middle) (printed_rows x.display) end)
          (ap scrolling_screen w.scrolling-is ∙ w.hand_on_hidden.ensures.screen) last)
      | else-is_alternate w ↦
          takes-showing takes s.display false (taker_of old) (taker_of middle) end (alternate ∙ w.if-is_alternate.false) (ap taker_of w.scrolling-is)
          (subst (λ (x : State). TakesRows takes (taker_of middle) (printed_rows x.display) end) (ap scrolling_screen w.scrolling-is) last)
    ]
