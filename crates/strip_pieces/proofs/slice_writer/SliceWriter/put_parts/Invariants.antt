-- The inert text of the whole is what was put, and that of the rest.
use Rattle.std.proofs.Common.{◌≡◌, ℕ, List, ◌++◌, length}
use Rattle.std.specs.Str.{IsUtf8}
use Rattle.anstyle_parse.specs.Stream.Texts.{layout_calls}
use Rattle.ansi_strip.specs.Inert.{inert_text}
use Rattle.strip_pieces.specs.SliceWriter.{Puts}
use Rattle.strip_pieces.proofs.slice_writer.SliceWriter.put_parts.Given as goal

abbrev pub invariant-rest : goal.invariant-rest
invariant-rest l =
    IsUtf8 l.rest
    × (made : List ℕ)
    × Puts made l.initial.self l.self
    × (inert_text (layout_calls l.text) ≡ made ++ inert_text (layout_calls l.rest))

abbrev pub decreases-rest : goal.decreases-rest
decreases-rest l = length l.rest
