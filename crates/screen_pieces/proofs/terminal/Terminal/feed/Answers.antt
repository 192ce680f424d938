-- The calls of the piece continue those of the bytes before.
use Rattle.std.proofs.Common.{◌++◌, sym, subst}
use Rattle.anstyle_parse.specs.Views.Accumulator.{parser_after}
use Rattle.anstyle_parse.specs.Views.Parser.{calls_made}
use Rattle.ansi_screen.specs.After.{Shows}
use Rattle.ansi_screen.specs.Display.{Picture}
use Rattle.ansi_screen.specs.Laws.{with_shown}
use Rattle.ansi_screen.specs.Leaving.{unkept}
use Rattle.screen_answers.proofs.CallLemmas.{led-so}
use Rattle.screen_pieces.specs.Terminal.{screen_of, asked_of, request_of}
use Rattle.screen_pieces.proofs.FeedLemmas.{shows-more, keeps-more, room-led, unkept-led, picture-stays, some-stays}
use Rattle.screen_pieces.proofs.AskedLemmas.{asks-more, requests-more}
use Rattle.screen_pieces.proofs.LinkLemmas.{links-more}
use Rattle.screen_pieces.proofs.terminal.Terminal.feed.Goals as goal

pub invariant_of-self : goal.invariant_of-self
invariant_of-self c =
    let old = c.args.self.now.answering in
    let new = c.advance_texts.new.performer in
    let calls = calls_made parser_after c.args.self.now.parser c.args.piece.now in record {
      keeps = some-stays _ _ (room-led calls old new (led-so calls old new c.advance_texts.ensures.calls)) c.args.self.now.keeps;
    }

pub returns : goal.returns
returns c =
    let becomes = c.advance_texts.ensures.calls in
    let before_all = c.args.self.now.answering in
    let after_all = c.advance_texts.new.performer in
    let calls = calls_made parser_after c.args.self.now.parser c.args.piece.now in
    let made = led-so calls before_all after_all becomes in
    let old = screen_of c.args.self.now in
    let new = after_all.screen in
    let stays = picture-stays calls before_all after_all made in record {
      stands = λ first before stands.
          let continues = c.advance_texts.ensures.stream before stands.parser in
          record {
            shows = subst (λ (q : Picture). Shows (with_shown q (unkept first)) (before ++ c.args.piece.now) (unkept new)) (sym stays)
                (shows-more _ (unkept old) (unkept new) before _ calls continues (unkept-led calls before_all after_all made) stands.shows);
            parser = c.advance_texts.ensures.stands before stands.parser;
            history = keeps-more first old.shown before _ calls before_all after_all continues stands.shows stands.history made;
            links = links-more first old old.shown before _ calls _ _ continues stands.shows stands.links made.links;
            asked = asks-more before c.args.piece.now calls (asked_of c.args.self.now) after_all.asked continues made.asked stands.asked;
            request = requests-more before c.args.piece.now calls (request_of c.args.self.now) after_all.request continues made.request stands.request;
          };
      asked = λ before after. (calls, c.advance_texts.ensures.stream before after, made.asked);
      answers = λ before after. (calls, c.advance_texts.ensures.stream before after, becomes);
      theme = made.theme;
      room = record { most = room-led calls before_all after_all made; keeps_erased = made.keeps_erased };
      since = stays;
    }
