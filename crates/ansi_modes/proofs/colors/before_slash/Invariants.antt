-- So many bytes came without a slash.
use Rattle.std.proofs.Common.{◌≡◌, ◌+◌, drop}
use Rattle.ansi_modes.specs.Colors.{before_slash}
use Rattle.ansi_modes.proofs.colors.before_slash.Given as goal

abbrev pub invariant-loop-byte : goal.invariant-loop-byte
invariant-loop-byte l = record {
  place : l.count ≡ l.byte-index;
  left : l.count + before_slash (drop l.byte-index l.text) ≡ before_slash l.text;
}
