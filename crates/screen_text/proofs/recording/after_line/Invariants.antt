-- No line feed so far.
use Rattle.std.proofs.Common.{◌≡◌, ◌-◌, drop}
use Rattle.screen_text.specs.Recording.{after_line}
use Rattle.screen_text.proofs.recording.after_line.Given as goal

abbrev pub invariant-loop-i : goal.invariant-loop-i
invariant-loop-i l = after_line (4096 - l.i) (drop l.i l.bytes) ≡ after_line 4096 l.bytes
