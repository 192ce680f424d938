-- What is read so far was followed, and both screens are the last one, but for the pictures from which on they note what
-- changes. What is shown can have kept other rows that left.
use Rattle.std.proofs.Common.{◌≡◌, ◌≤◌, None, List, ℕ, [], length}
use Rattle.std.specs.List.{AllByRecursion}
use Rattle.std.specs.Io.KnownBytes.{Consumes}
use Rattle.anstyle_parse.specs.Views.Accumulator.{front_of}
use Rattle.anstyle_parse.specs.Views.Parser.{IsAfter}
use Rattle.anstyle_parse.specs.Io.Output.{fault_in}
use Rattle.ansi_screen.specs.After.{State, Shows}
use Rattle.screen_draw.specs.Drawing.{Draws}
use Rattle.screen_draw.specs.Updates.{most_piece, IsPiece, AreScreens, joined, last_of, updates_calls, LooksAs, LooksAlike}
use Rattle.screen_draw.proofs.updates.update_to_end.Given as goal

abbrev pub invariant-loop-turn : goal.invariant-loop-turn
invariant-loop-turn g l = record {
  pieces : List (List ℕ);
  screens : List State;
  consumed : Consumes (g.R.Source.remaining l.initial.reader) (g.R.Source.remaining l.reader) (joined pieces);
  each : AllByRecursion IsPiece pieces;
  are_screens : AreScreens l.initial.wanted [] pieces screens;
  is_last : LooksAs (last_of l.initial.wanted screens) l.wanted;
  is_shown : LooksAlike (last_of l.initial.wanted screens) l.shown;
  draws : Draws g.W.Sink (updates_calls l.initial.wanted screens) l.initial.output l.output;
  shows : Shows l.initial.wanted (joined pieces) (last_of l.initial.wanted screens);
  stands : IsAfter front_of l.parser (joined pieces);
  stands_shown : IsAfter front_of l.shown_parser (joined pieces);
  no_fault : fault_in l.output ≡ None;
  not_failed : g.R.Source.has_failed l.reader ≡ g.R.Source.has_failed l.initial.reader;
  counted : l.turn ≤ length (joined pieces);
  room : length l.piece ≡ most_piece;
}
