-- So many are written, and the rest is as it was.
use Rattle.std.proofs.Common.{◌≡◌, length, take, drop, map}
use Rattle.ansi_style.specs.Bytes.{is_set}
use Rattle.screen_pieces.proofs.parts.put_flags.Given as goal

abbrev pub invariant-loop-place : goal.invariant-loop-place
invariant-loop-place l = record {
  written : map is_set (take l.place l.room) ≡ take l.place l.flags;
  rest : drop (length l.flags) l.room ≡ drop (length l.flags) l.initial.room;
}
