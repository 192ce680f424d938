-- A stream as its terminal was given it, by the front of it.
use Rattle.std.specs.Prelude.{◌≡◌, ℕ, true, List, [], ◌++◌, Option, ◌⊎◌}
use Rattle.std.specs.Io.KnownBytes.{Consumes}
use Rattle.anstyle_parse.specs.declared.io.devices.Source.{Ghosts as SourceOf}
use Rattle.ansi_screen.specs.declared.size.Size.{Size}
use Rattle.each_source.specs.declared.begun.Begun.{Begun}
use Rattle.each_source.specs.Begun.{IsFront}
use Rattle.each_source.specs.BegunParts.{front_of, reader_of}
use Rattle.screen_text.specs.declared.recording.ShownSize.TheVariants.{Recorded}
use Rattle.screen_text.specs.Recording.{is_decided, recorded_size, without_line}

-- A source was read as far as its first line. The size is the one that the whole stream says, and what is left is what
-- its terminal was given.
pub record IsBegun {R : Type 0} (source : SourceOf R) (reader : R) (size : Option Size) (begun : Begun R) : Type 0 where
  pub front : List ℕ
  pub consumed : Consumes (source.remaining reader) (source.remaining (reader_of begun)) front
  pub is_front : IsFront source (reader_of begun) front
  pub says : (rest : List ℕ) → (is_decided Recorded front ≡ true) ⊎ (rest ≡ []) → recorded_size (front ++ rest) ≡ size
  pub given : (rest : List ℕ) → (is_decided Recorded front ≡ true) ⊎ (rest ≡ [])
      → without_line (front ++ rest) ≡ front_of begun ++ rest
