-- No line feed so far.
use Rattle.std.proofs.Common.{◌≡◌, ◌≤◌, ◌++◌, length, take, drop}
use Rattle.screen_text.specs.Recording.{first_line}
use Rattle.screen_text.proofs.recording.line_end.Given as goal

abbrev pub invariant-loop-i : goal.invariant-loop-i
invariant-loop-i l = (first_line l.bytes ≡ take l.i l.bytes ++ first_line (drop l.i l.bytes)) × (l.i ≤ length l.bytes)
