-- The front of a source that was read to be looked at, as far as its first line.
use Rattle.std.specs.Prelude.{◌≡◌, ℕ, Bool, true, ◌==◌, ◌||◌, nat_le, List, length, IsTrue, ◌⊎◌}
use Rattle.std.specs.List.{list_any}
use Rattle.std.specs.Io.KnownBytes.{IsAtEnd}
use Rattle.anstyle_parse.specs.declared.io.devices.Source.{Ghosts as SourceOf}
use Rattle.each_source.specs.Each.{most_front}

-- a line feed, or as many bytes as are looked at
abbrev pub has_first_line : (front : List ℕ) → Bool
has_first_line front = nat_le most_front (length front) || list_any (λ b. b == 0x0A) front

-- It has the first line; or the source is at its end, or a read has failed.
abbrev pub IsFront : {R : Type 0} → SourceOf R → (reader : R) → (front : List ℕ) → Type 0
IsFront source reader front =
    (has_first_line front ≡ true)
    ⊎ ((IsTrue source.zero_is_end → IsAtEnd (source.remaining reader)) ⊎ IsTrue (source.has_failed reader))
