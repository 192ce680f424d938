-- ESC c leaves a new screen, a new parser stands after no bytes, and what was kept is forgotten.
use Rattle.std.proofs.Common.{[], ◌∷◌, refl, ap, ◌∙◌}
use Rattle.anstyle_parse.proofs.Canonical.Items.{AreCalls-nil}
use Rattle.ansi_screen.proofs.LawLemmas.{after-reset}
use Rattle.ansi_modes.specs.Laws.{untold}
use Rattle.ansi_screen.specs.After.{State, new_state}
use Rattle.ansi_screen.specs.Laws.{reset}
use Rattle.ansi_screen.specs.Leaving.{unkept, with_room_alone}
use Rattle.screen_pieces.proofs.FeedLemmas.{with-own, room-stays, cleared-room, cleared-left, some-stays}
use Rattle.screen_pieces.proofs.terminal.Terminal.reset.Goals as goal

pub invariant_of-self : goal.invariant_of-self
invariant_of-self c = record {
  keeps = some-stays _ _
      (cleared-room _ c.clear_history.new.self c.clear_history.ensures
      ∙ room-stays (reset ∷ []) c.args.self.now.answering.screen _ c.esc_dispatch.ensures)
      c.args.self.now.keeps;
}

pub returns : goal.returns
returns c =
    let old = c.args.self.now.answering.screen in
    let new = c.clear_history.new.self in
    let led = c.clear_history.ensures ∙ ap with_room_alone (c.esc_dispatch.ensures ∙ after-reset old) in record {
      stands = record {
        shows = (
          [],
          AreCalls-nil,
          with-own _ (new_state old.display.width old.display.height) old.shown (ap unkept led),
        );
        parser = c.new-self.ensures.stands;
        history = ([], AreCalls-nil, cleared-left _ new c.clear_history.ensures);
        links = ([], AreCalls-nil, c.clear.ensures);
        asked = ([], AreCalls-nil, ap untold c.restart.ensures);
        request = ([], AreCalls-nil, refl);
      };
      asked = c.restart.ensures;
      waiting = c.take_all.ensures.left;
      theme = refl;
      room = record { most = cleared-room _ new c.clear_history.ensures ∙ room-stays (reset ∷ []) old _ c.esc_dispatch.ensures; keeps_erased = refl };
      since = ap (λ (s : State). s.shown) led;
    }
