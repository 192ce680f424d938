-- What is put into a room.
use Rattle.std.specs.Prelude.{◌≡◌, ◌≤◌, ◌+◌, ℕ, List, [], ◌++◌, length, take, drop, if◌then◌else◌}
use Rattle.anstyle_parse.specs.Stream.Call.{Call}
use Rattle.ansi_strip.specs.Inert.{is_inert}
use Rattle.ansi_strip.specs.Strip.{stripped_call}
use Rattle.strip_pieces.specs.declared.slice_writer.SliceWriter.{SliceWriter}

-- the inert text of one call
abbrev pub inert_call : Call → List ℕ
inert_call call = if is_inert call then stripped_call call else []

-- the bytes with a text put over them at a place
abbrev pub with_text : ℕ → List ℕ → List ℕ → List ℕ
with_text place text bytes = take place bytes ++ text ++ drop (place + length text) bytes

-- The text is put after what is written, where there is room for it.
pub record Puts (text : List ℕ) (old new : SliceWriter) : Type 0 where
  pub same_reference : new.into.ghost_name ≡ old.into.ghost_name
  pub written : old.written + length text ≤ length old.into.now → new.written ≡ old.written + length text
  pub bytes : old.written + length text ≤ length old.into.now → new.into.now ≡ with_text old.written text old.into.now
