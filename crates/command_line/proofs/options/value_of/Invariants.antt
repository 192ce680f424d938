-- The value so far is that of the words so far.
use Rattle.std.proofs.Common.{◌≡◌, take, map, string_bytes}
use Rattle.std.specs.Prelude.{option_copied}
use Rattle.command_line.specs.Options.{last_value}
use Rattle.command_line.proofs.options.value_of.Given as goal

abbrev pub invariant-loop-word : goal.invariant-loop-word
invariant-loop-word l = record {
  so_far : option_copied l.value ≡ last_value l.option (map string_bytes (take l.word-index l.words));
}
