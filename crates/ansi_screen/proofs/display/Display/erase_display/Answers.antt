-- Rows leave where ED erases all of the main screen.
use Rattle.std.proofs.Common.{ap, sym, ◌∙◌}
use Rattle.ansi_screen.specs.State.{State}
use Rattle.ansi_screen.proofs.MovedLemmas.{display-out, display-hidden, display-part}
use Rattle.ansi_screen.proofs.display.Display.erase_display.Goals as goal
use Rattle.ansi_screen.proofs.display.Display.erase_display.Goals.{then-erases_all+then-not-self, else-erases_all, else-erases_all-via-then-erases_all+else-not-self, else-erases_all-via-else-erases_all}

pub returns : goal.returns
returns c =
    let kind = c.args.kind in
    let d = c.args.self.now in
    elim c.if-erases_all.branch [
      | then-erases_all+then-not-self w ↦
          display-out kind d _ w.hand_out_printed.new.self _ (sym c.erases_all.ensures ∙ w.if-erases_all.true)
          (ap (λ (f : State). f.display.is_alternate) (sym c.self.view_is) ∙ w.if-not-self.true)
          w.self-is w.hand_out_printed.ensures.left w.hand_out_printed.ensures.length c.erase_in_place.ensures
      | else-erases_all w ↦ elim w.else-erases_all.branch [
        | else-erases_all-via-then-erases_all+else-not-self w' ↦
            display-hidden kind d _ _ (ap (λ (f : State). f.display.is_alternate) (sym c.self.view_is) ∙ w'.if-not-self.false) w.self-is c.erase_in_place.ensures
        | else-erases_all-via-else-erases_all w' ↦ display-part kind d _ _ (sym c.erases_all.ensures ∙ w'.if-erases_all.false) w.self-is c.erase_in_place.ensures
      ]
    ]
