-- What is left is less than at first by what the bytes that were counted cost.
use Rattle.std.proofs.Common.{◌≡◌, ◌+◌, length, drop}
use Rattle.ansi_html.specs.Html.{escaped_text}
use Rattle.screen_html.proofs.spare.left_of.Given as goal

abbrev pub invariant-loop-byte : goal.invariant-loop-byte
invariant-loop-byte l = length (escaped_text l.link) + l.left ≡ l.spare + length (escaped_text (drop l.byte-index l.link))
