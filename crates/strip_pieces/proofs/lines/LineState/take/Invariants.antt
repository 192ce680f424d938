-- What is left of the text so far is put.
use Rattle.std.proofs.Common.{◌≡◌, List, ℕ, ◌++◌, length}
use Rattle.ansi_strip.specs.LineFeeds.{waiting, decided}
use Rattle.strip_pieces.specs.Lines.{held_in}
use Rattle.strip_pieces.specs.SliceWriter.{Puts}
use Rattle.strip_pieces.proofs.lines.LineState.take.Given as goal

abbrev pub invariant-rest : goal.invariant-rest
invariant-rest l =
    (passed : List ℕ)
    × (l.text ≡ passed ++ l.rest)
    × Puts (decided (held_in l.initial.self ++ passed)) l.initial.lines l.lines
    × (held_in l.self ≡ waiting (held_in l.initial.self ++ passed))

abbrev pub decreases-rest : goal.decreases-rest
decreases-rest l = length l.rest
