-- As many rows are used, whatever is kept.
use Rattle.std.proofs.Common.{ap, subst, ◌∙◌}
use Rattle.ansi_screen.specs.Text.{first_rows, printed_count}
use Rattle.ansi_screen.specs.Leaving.{Scrolled, TakesRows, screen_of, taker_of}
use Rattle.ansi_screen.proofs.leaving.Scrolling.hand_on_printed.Goals as goal

pub returns-clause-taken : goal.returns-clause-taken
returns-clause-taken g c =
    subst (λ n. TakesRows g.R.TakeRow.takes (taker_of c.args.self.now) (first_rows n (screen_of c.args.self.now).display) (taker_of c.hand_on.new.self))
    (c.used_rows-count.ensures.used ∙ ap (λ (s : Scrolled g.row.R.Denot). printed_count (screen_of s).display) c.self.view_is)
    c.hand_on.ensures.taken
