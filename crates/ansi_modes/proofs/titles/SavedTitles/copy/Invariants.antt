-- The pairs so far were taken.
use Rattle.std.proofs.Common.{◌≡◌, ◌++◌, length, drop}
use Rattle.ansi_modes.proofs.titles.SavedTitles.copy.Given as goal

abbrev pub invariant-loop-titles : goal.invariant-loop-titles
invariant-loop-titles l = record {
  count : length l.stack.items ≡ l.titles-index;
  taken : l.stack.items ++ drop l.titles-index l.saved ≡ l.saved;
}
