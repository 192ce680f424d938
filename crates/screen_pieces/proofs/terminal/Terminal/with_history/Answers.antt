-- No row has left yet, and no link has begun.
use Rattle.std.proofs.Common.{[], refl, ap, sym, ◌∙◌}
use Rattle.anstyle_parse.proofs.Canonical.Items.{AreCalls-nil}
use Rattle.ansi_modes.specs.Laws.{untold}
use Rattle.ansi_screen.specs.After.{State, new_state}
use Rattle.ansi_screen.specs.Leaving.{unkept}
use Rattle.screen_answers.specs.declared.answering.Answering.{Answering}
use Rattle.screen_pieces.specs.History.{nothing_yet}
use Rattle.screen_pieces.proofs.FeedLemmas.{with-own}
use Rattle.screen_pieces.proofs.terminal.Terminal.with_history.Goals as goal

pub returns : goal.returns
returns c =
    let new = c.new-answering.ensures in
    let screen = c.new-answering.result.screen in
    let is = ap (λ (t : Answering). t.screen) new ∙ c.in_ok-screen.ensures in
    let asked = ap (λ (t : Answering). t.asked) new in
    let room = ap (λ (s : State). s.history) is in record {
      stands = record {
        shows = ([], AreCalls-nil, with-own (unkept screen) (new_state c.args.columns c.args.rows) (new_state c.args.columns c.args.rows).shown (ap unkept is));
        parser = c.new-2.ensures.stands;
        history = ([], AreCalls-nil, room ∙ sym (ap nothing_yet room));
        links = ([], AreCalls-nil, ap (λ (t : Answering). t.links) new ∙ c.in_ok-links.ensures);
        asked = ([], AreCalls-nil, ap untold asked);
        request = ([], AreCalls-nil, ap (λ (t : Answering). t.request) new);
      };
      room = room;
      erased = refl;
      asked = asked;
      waiting = ap (λ (t : Answering). t.waiting) new;
      theme = ap (λ (t : Answering). t.theme) new ∙ c.none.ensures;
    }
