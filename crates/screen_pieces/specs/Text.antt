-- Text that a call writes into its caller's room.
use Rattle.std.specs.Prelude.{◌≡◌, ◌≤◌, ◌<◌, ◌+◌, ◌-◌, ◌^◌, ◌⊎◌, ℕ, min, List, ◌++◌, length, take, drop}
use Rattle.std.specs.List.{flat_map}
use Rattle.ansi_screen.specs.Display.{Display, row_cells}
use Rattle.ansi_screen.specs.Text.{cell_text, row_text}
use Rattle.screen_pieces.specs.declared.text.TextWriter.{TextWriter}

-- the greatest number that a length is told by
abbrev pub most_length : ℕ
most_length = 2 ^ 64 - 1

-- the bytes with a text put over them at a place
abbrev pub with_text : ℕ → List ℕ → List ℕ → List ℕ
with_text place text bytes = take place bytes ++ text ++ drop (place + length text) bytes

-- The text comes after what came before: it is counted, and put into the room where all of it fits.
pub record Puts (text : List ℕ) (old new : TextWriter) : Type 0 where
  pub same_reference : new.into.ghost_name ≡ old.into.ghost_name
  pub same_length : length new.into.now ≡ length old.into.now
  pub counted : old.needed ≤ most_length → new.needed ≡ min (old.needed + length text) most_length
  pub bytes : old.needed + length text < most_length → old.needed + length text ≤ length old.into.now
      → new.into.now ≡ with_text old.needed text old.into.now

-- The text stands at the front of the room, and past it the room is as it was.
pub record HasText (text room room_after : List ℕ) (written : ℕ) : Type 0 where
  pub fits : written ≤ length room
  pub front : take written room_after ≡ text
  pub untouched : drop written room_after ≡ drop written room

-- The room has fewer bytes than the text, and it is told how many that has.
pub record LacksRoom (text room : List ℕ) (needed : ℕ) : Type 0 where
  pub little_room : (length room < needed) ⊎ (most_length ≤ needed)
  pub told : needed ≡ min (length text) most_length

-- the text of a row without the blanks at its end; that of its cells from a column on up to another
abbrev pub text_of_row : ℕ → Display → List ℕ
text_of_row row d = row_text (row_cells row d)

abbrev pub text_of_part : (row start end : ℕ) → Display → List ℕ
text_of_part row start end d = flat_map cell_text (take (end - start) (drop start (row_cells row d)))

-- No text is read: 0 is told where what is asked for is lacking, and else the room has fewer bytes.
abbrev pub IsNotRead : (lacking : Type 0) → (text room : List ℕ) (needed : ℕ) → Type 0
IsNotRead lacking text room needed = ((needed ≡ 0) × lacking) ⊎ LacksRoom text room needed

-- There is no such row; or there are no such columns of it.
abbrev pub LacksRow : ℕ → Display → Type 0
LacksRow row d = d.height ≤ row

abbrev pub LacksPart : (row start end : ℕ) → Display → Type 0
LacksPart row start end d = LacksRow row d ⊎ ((end < start) ⊎ (d.width < end))

abbrev pub LacksCell : (row column : ℕ) → Display → Type 0
LacksCell row column d = LacksRow row d ⊎ (d.width ≤ column)
