-- The inert calls of the text are those that were handed on, and those of the rest.
use Rattle.std.proofs.Common.{◌≡◌, List, ◌++◌, length, filter}
use Rattle.std.specs.Str.{IsUtf8}
use Rattle.anstyle_parse.specs.Stream.Call.{Call}
use Rattle.anstyle_parse.specs.Stream.Texts.{layout_calls}
use Rattle.ansi_strip.specs.Inert.{is_inert}
use Rattle.ansi_strip.specs.Passing.{performer_in}
use Rattle.ansi_strip.proofs.inert.Inert.print_parts.Given as goal

abbrev pub invariant-rest : goal.invariant-rest
invariant-rest g l =
    IsUtf8 l.rest
    × (made : List Call)
    × g.P.PerformText.receives (performer_in l.initial.self) made (performer_in l.self)
    × (filter is_inert (layout_calls l.text) ≡ made ++ filter is_inert (layout_calls l.rest))

abbrev pub decreases-rest : goal.decreases-rest
decreases-rest g l = length l.rest
