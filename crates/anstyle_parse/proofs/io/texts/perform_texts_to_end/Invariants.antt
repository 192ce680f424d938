-- The performer has received the calls of what is read so far, and nothing failed.
use Rattle.std.proofs.Common.{◌≡◌, ◌≤◌, List, ℕ, length}
use Rattle.std.specs.Io.KnownBytes.{Consumes}
use Rattle.anstyle_parse.specs.Views.Accumulator.{front_of}
use Rattle.anstyle_parse.specs.Stream.Texts.{HasReceivedTexts}
use Rattle.anstyle_parse.specs.Views.Parser.{IsAfter}
use Rattle.anstyle_parse.proofs.io.texts.perform_texts_to_end.Given as goal

abbrev pub invariant-loop-turn : goal.invariant-loop-turn
invariant-loop-turn g l = record {
  read : List ℕ;
  consumed : Consumes (g.R.Source.remaining l.initial.reader) (g.R.Source.remaining l.reader) read;
  received : HasReceivedTexts g.P.PerformText.receives l.initial.performer read l.performer;
  stands : IsAfter front_of l.parser read;
  not_failed : g.R.Source.has_failed l.reader ≡ g.R.Source.has_failed l.initial.reader;
  counted : l.turn ≤ length read;
  room : length l.piece ≡ 4096;
}
