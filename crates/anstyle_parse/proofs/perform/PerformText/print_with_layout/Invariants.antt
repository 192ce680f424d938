-- The calls of what is passed so far are received.
use Rattle.std.proofs.Common.{◌≡◌, ℕ, List, ◌++◌, length}
use Rattle.std.specs.Str.{IsUtf8}
use Rattle.anstyle_parse.specs.Stream.Texts.{layout_calls}
use Rattle.anstyle_parse.proofs.perform.PerformText.print_with_layout.Given as goal

abbrev pub invariant-rest : goal.invariant-rest
invariant-rest g l =
    (passed : List ℕ) × IsUtf8 passed × IsUtf8 l.rest × (l.text ≡ passed ++ l.rest) × g.Self.PerformText.receives l.initial.self (layout_calls passed) l.self

abbrev pub decreases-rest : goal.decreases-rest
decreases-rest g l = length l.rest
