-- A piece more is read, and its update written.
use Rattle.std.proofs.Common.{◌≡◌, ◌<◌, [], ◌∷◌, ◌++◌, length, take, refl, sym, ap, ◌∙◌, arith, length-append, length-take, subst, inl, inr, append-nil}
use Rattle.std.proofs.KnownBytes.{Consumes-nil, Consumes-kept, Consumes-trans}
use Rattle.std.specs.Io.KnownBytes.{Consumes}
use Rattle.std.proofs.lemmas.Result.{err_from_is_err_and}
use Rattle.anstyle_parse.specs.Stream.Canon.{canon}
use Rattle.anstyle_parse.specs.Views.Accumulator.{front_of}
use Rattle.anstyle_parse.specs.Views.Parser.{IsAfter}
use Rattle.anstyle_parse.proofs.Canonical.Items.{AreCalls-nil}
use Rattle.ansi_screen.specs.After.{State, Shows}
use Rattle.screen_draw.specs.Draw.{drawn_calls}
use Rattle.screen_draw.specs.Drawing.{Draws}
use Rattle.ansi_screen.specs.Laws.{with_shown}
use Rattle.ansi_screen.specs.Leaving.{unkept}
use Rattle.screen_draw.specs.Update.{update_calls}
use Rattle.screen_draw.specs.Updates.{IsPiece, joined, last_of, LooksAlike}
use Rattle.screen_draw.proofs.UpdatesLemmas.{joined-more, last-more, pieces-more, screens-more, text-passed-on, no-updates, begins, draws-more, stops-there, follows, with-own, was-forgotten, comes-on}
use Rattle.screen_draw.proofs.updates.update_to_end.Goals as goal

pub returns-in_err-hand_on : goal.returns-in_err-hand_on
returns-in_err-hand_on g c =
    let given = err_from_is_err_and c.from_residual.result c.from_residual.ensures.1 in
    let first = c.args.wanted.now in
    let drawn : Draws g.W.Sink (drawn_calls first.display) c.args.output.now c.hand_on.new.output =
    begins g.W.Sink c.args.shown.now first _ _ _ c.requires.same c.draw.ensures.text c.draw.ensures.only c.hand_on.ensures.passed in
    rw (given.1, given.2)
    (follows g.R.Source g.W.Sink _ _ first first c.args.output.now c.hand_on.new.output c.hand_on.new.output _ [] []
    (Consumes-nil (g.R.Source.remaining c.args.reader.now)) tt tt refl drawn (no-updates g.W.Sink c.hand_on.new.output)
    (stops-there g.W.Sink (Unit {0}) _ _ _ _ _ c.args.output.now c.hand_on.new.output drawn.added c.requires.no_fault _ c.in_err-hand_on.ensures.answer refl))

pub loop-turn-init : goal.loop-turn-init
loop-turn-init g c = record {
  pieces = [];
  screens = [];
  consumed = Consumes-nil (g.R.Source.remaining c.args.reader.now);
  each = tt;
  are_screens = tt;
  is_last = refl;
  is_shown = ap unkept (c.requires.same ∙ ap (λ (s : State). with_shown s.shown c.args.wanted.now) (sym c.requires.same));
  draws = no-updates g.W.Sink c.hand_on.new.output;
  shows = ([], AreCalls-nil, refl);
  stands = c.new-parser.ensures.stands;
  stands_shown = c.new-shown_parser.ensures.stands;
  no_fault = c.in_ok-hand_on.ensures.answer;
  not_failed = refl;
  counted = omega arith;
  room = refl;
}

pub returns-in-None : goal.returns-in-None
returns-in-None g c =
    let before = c.loop-turn.invariant in
    follows g.R.Source g.W.Sink _ _ c.args.wanted.now c.loop-turn.wanted c.args.output.now c.hand_on.new.output c.loop-turn.output _ before.pieces before.screens
    (Consumes-kept _ _ _ (joined before.pieces) before.consumed c.in-None.ensures.nothing_passed)
    before.each before.are_screens before.is_last
    (begins g.W.Sink c.args.shown.now c.args.wanted.now _ _ _ c.requires.same c.draw.ensures.text c.draw.ensures.only c.hand_on.ensures.passed)
    before.draws (before.no_fault, inl c.in-None.ensures.failed)

pub returns-in-Some-eq0 : goal.returns-in-Some-eq0
returns-in-Some-eq0 g c =
    let before = c.loop-turn.invariant in
    let none : Consumes (g.R.Source.remaining c.loop-turn.reader) (g.R.Source.remaining c.read.new.self) [] =
    subst (λ n. Consumes (g.R.Source.remaining c.loop-turn.reader) (g.R.Source.remaining c.read.new.self) (take n c.read.new.into))
    c.in-Some-eq0.field-0-test c.in-Some-eq0.ensures.passed in
    let room : 0 < length c.read.new.into = omega (arith, c.read.auto.into, before.room) in
    follows g.R.Source g.W.Sink _ _ c.args.wanted.now c.loop-turn.wanted c.args.output.now c.hand_on.new.output c.loop-turn.output _ before.pieces before.screens
    (subst (Consumes (g.R.Source.remaining c.args.reader.now) (g.R.Source.remaining c.read.new.self)) (append-nil (joined before.pieces))
    (Consumes-trans _ _ _ (joined before.pieces) [] before.consumed none))
    before.each before.are_screens before.is_last
    (begins g.W.Sink c.args.shown.now c.args.wanted.now _ _ _ c.requires.same c.draw.ensures.text c.draw.ensures.only c.hand_on.ensures.passed)
    before.draws (before.no_fault, (λ zero. c.in-Some-eq0.ensures.end c.in-Some-eq0.field-0-test room zero, c.in-Some-eq0.ensures.not_failed ∙ before.not_failed))

pub update_noted-requires : goal.update_noted-requires
update_noted-requires g c =
    let before = c.loop-turn.invariant in
    let first = c.args.wanted.now in
    let last = last_of first before.screens in
    record {
      noted = (comes-on first last c.loop-turn.shown c.forget.new.self c.advance_texts.new.performer c.loop-turn.shown.shown (joined before.pieces)
          (take c.in-Some.count c.read.new.into) _ before.shows (c.advance_texts.ensures.stream (joined before.pieces) before.stands) before.is_shown
          (was-forgotten last c.loop-turn.wanted c.forget.new.self c.loop-turn.wanted.shown before.is_last c.forget.ensures)
          c.columns.ensures.sized c.advance_texts.ensures.calls).noted;
    }

pub returns-in_err-hand_on-in-Some : goal.returns-in_err-hand_on-in-Some
returns-in_err-hand_on-in-Some g c =
    let given = err_from_is_err_and c.from_residual-in_err-hand_on-in-Some.result c.from_residual-in_err-hand_on-in-Some.ensures.1 in
    let before = c.loop-turn.invariant in
    let first = c.args.wanted.now in
    let last = last_of first before.screens in
    let wanted = c.advance_texts.new.performer in
    let bytes = take c.in-Some.count c.read.new.into in
    let comes = comes-on first last c.loop-turn.shown c.forget.new.self wanted c.loop-turn.shown.shown (joined before.pieces)
    bytes _ before.shows (c.advance_texts.ensures.stream (joined before.pieces) before.stands) before.is_shown
    (was-forgotten last c.loop-turn.wanted c.forget.new.self c.loop-turn.wanted.shown before.is_last c.forget.ensures)
    c.columns.ensures.sized c.advance_texts.ensures.calls in
    let drawn : Draws g.W.Sink (drawn_calls first.display) c.args.output.now c.hand_on.new.output =
    begins g.W.Sink c.args.shown.now first _ _ _ c.requires.same c.draw.ensures.text c.draw.ensures.only c.hand_on.ensures.passed in
    let passed = text-passed-on g.W.Sink (canon (update_calls c.loop-turn.shown.display wanted.display)) _ _ _
    c.update_noted.ensures.text c.hand_on-in-Some.ensures.passed in
    let is_piece : IsPiece bytes = (
      omega (arith, length-take c.in-Some.count c.read.new.into, c.in-Some.ensures.within, c.in-Some.count-test),
      omega (arith, length-take c.in-Some.count c.read.new.into, c.read.auto.into, before.room),
    ) in
    let updated = draws-more g.W.Sink first c.loop-turn.shown wanted comes.next _ _ before.screens _ _ _ _ before.draws
    before.is_shown comes.is c.update_noted.ensures.text c.update_noted.ensures.only c.hand_on-in-Some.ensures.passed in
    let ended : last_of first (before.screens ++ comes.next ∷ []) ≡ comes.next = last-more first comes.next before.screens in
    rw (given.1, given.2)
    (follows g.R.Source g.W.Sink _ _ first wanted c.args.output.now c.hand_on.new.output c.hand_on-in-Some.new.output _
    (before.pieces ++ bytes ∷ []) (before.screens ++ comes.next ∷ [])
    (subst (Consumes (g.R.Source.remaining c.args.reader.now) (g.R.Source.remaining c.read.new.self)) (sym (joined-more before.pieces bytes))
    (Consumes-trans _ _ _ _ _ before.consumed c.in-Some.ensures.passed))
    (pieces-more IsPiece before.pieces bytes before.each is_piece)
    (screens-more first comes.next [] bytes before.pieces before.screens before.are_screens comes.shows)
    (with-own wanted comes.next _ comes.is ∙ ap (with_shown wanted.shown) (sym ended)) drawn updated
    (stops-there g.W.Sink (Unit {0}) _ _ _ _ _ c.loop-turn.output c.hand_on-in-Some.new.output passed before.no_fault _ c.in_err-hand_on-in-Some.ensures.answer
    (c.in-Some.ensures.not_failed ∙ before.not_failed)))

-- what differs was noted
pub come_after-requires : goal.come_after-requires
come_after-requires g c =
    let before = c.loop-turn.invariant in
    let first = c.args.wanted.now in
    let last = last_of first before.screens in
    record {
      noted = (comes-on first last c.loop-turn.shown c.forget.new.self c.advance_texts.new.performer c.loop-turn.shown.shown (joined before.pieces)
          (take c.in-Some.count c.read.new.into) _ before.shows (c.advance_texts.ensures.stream (joined before.pieces) before.stands) before.is_shown
          (was-forgotten last c.loop-turn.wanted c.forget.new.self c.loop-turn.wanted.shown before.is_last c.forget.ensures)
          c.columns.ensures.sized c.advance_texts.ensures.calls).noted;
    }

pub loop-turn-preserved : goal.loop-turn-preserved
loop-turn-preserved g c =
    let before = c.loop-turn.invariant in
    let first = c.args.wanted.now in
    let last = last_of first before.screens in
    let wanted = c.advance_texts.new.performer in
    let bytes = take c.in-Some.count c.read.new.into in
    let comes = comes-on first last c.loop-turn.shown c.forget.new.self wanted c.loop-turn.shown.shown (joined before.pieces)
    bytes _ before.shows (c.advance_texts.ensures.stream (joined before.pieces) before.stands) before.is_shown
    (was-forgotten last c.loop-turn.wanted c.forget.new.self c.loop-turn.wanted.shown before.is_last c.forget.ensures)
    c.columns.ensures.sized c.advance_texts.ensures.calls in
    let more = sym (joined-more before.pieces bytes) in
    let ended : last_of first (before.screens ++ comes.next ∷ []) ≡ comes.next = last-more first comes.next before.screens in
    let is_piece : IsPiece bytes = (
      omega (arith, length-take c.in-Some.count c.read.new.into, c.in-Some.ensures.within, c.in-Some.count-test),
      omega (arith, length-take c.in-Some.count c.read.new.into, c.read.auto.into, before.room),
    ) in
    let looks = with-own wanted comes.next _ comes.is in
    let stands = c.advance_texts.ensures.stands (joined before.pieces) before.stands in
    let shown : LooksAlike comes.next c.come_after.new.shown =
    c.come_after.ensures.screen first last comes.next (joined before.pieces) before.stands_shown before.shows before.is_shown comes.shows looks in
    record {
      pieces = before.pieces ++ bytes ∷ [];
      screens = before.screens ++ comes.next ∷ [];
      consumed = subst (Consumes (g.R.Source.remaining c.args.reader.now) (g.R.Source.remaining c.read.new.self)) more
          (Consumes-trans _ _ _ _ _ before.consumed c.in-Some.ensures.passed);
      each = pieces-more IsPiece before.pieces bytes before.each is_piece;
      are_screens = screens-more first comes.next [] bytes before.pieces before.screens before.are_screens comes.shows;
      is_last = looks ∙ ap (with_shown wanted.shown) (sym ended);
      is_shown = shown ∙ ap (λ (s : State). with_shown c.come_after.new.shown.shown (unkept s)) (sym ended);
      draws = draws-more g.W.Sink first c.loop-turn.shown wanted comes.next _ _ before.screens _ _ _ _ before.draws
          before.is_shown comes.is c.update_noted.ensures.text c.update_noted.ensures.only c.hand_on-in-Some.ensures.passed;
      shows = subst (λ l. Shows first l (last_of first (before.screens ++ comes.next ∷ []))) more
          (subst (Shows first (joined before.pieces ++ bytes)) (sym ended) comes.shows);
      stands = subst (IsAfter front_of c.advance_texts.new.self) more stands;
      stands_shown = subst (IsAfter front_of c.come_after.new.shown_parser) more
          (c.come_after.ensures.parser (joined before.pieces) before.stands_shown stands);
      no_fault = c.in_ok-hand_on-in-Some.ensures.answer;
      not_failed = c.in-Some.ensures.not_failed ∙ before.not_failed;
      counted = omega (arith, before.counted, is_piece.0, ap length more, length-append (joined before.pieces) bytes);
      room = c.read.auto.into ∙ before.room;
    }

pub returns : goal.returns
returns g c =
    let before = c.loop-turn.invariant in
    follows g.R.Source g.W.Sink _ _ c.args.wanted.now c.loop-turn.wanted c.args.output.now c.hand_on.new.output c.loop-turn.output _ before.pieces before.screens
    before.consumed before.each before.are_screens before.is_last
    (begins g.W.Sink c.args.shown.now c.args.wanted.now _ _ _ c.requires.same c.draw.ensures.text c.draw.ensures.only c.hand_on.ensures.passed)
    before.draws (before.no_fault, inr (omega (arith, before.counted, c.loop-turn-test.false)))
