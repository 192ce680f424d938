-- A stream that is taken only as far as the rows that leave find room.
use Rattle.std.specs.Prelude.{ℕ, ◌+◌, ◌*◌, ◌-◌, ◌≤◌, List, length, take}
use Rattle.ansi_screen.specs.After.{new_state}
use Rattle.ansi_screen.specs.History.{Kept}
use Rattle.screen_pieces.specs.declared.terminal.Terminal.{Terminal}
use Rattle.screen_pieces.specs.Terminal.{display_of, history_of, StandsAfter, Feeds}

-- how many rows left after the first so many, of those that left in all
abbrev pub left_since : ℕ → Kept → ℕ
left_since seen kept = kept.left - seen

-- They are all kept.
abbrev pub AreKeptSince : ℕ → Kept → Type 0
AreKeptSince seen kept = left_since seen kept ≤ length kept.rows

-- There is room for them, and for so many more.
abbrev pub HasRoomSince : (seen more : ℕ) → Kept → Type 0
HasRoomSince seen more kept = left_since seen kept + more ≤ kept.most

-- The rows at most that leave a screen of so many by a number of bytes: a byte makes two calls at most, and by a call no
-- more rows leave than the screen has.
abbrev pub most_leaving : (rows bytes : ℕ) → ℕ
most_leaving rows bytes = bytes * (2 * rows)

-- Bytes are taken from the front of a piece: all that surely find room for the rows that leave by them. So on a screen that
-- began as a new one no row is lost of those that left after the first so many.
pub record FeedsKeeping (piece : List ℕ) (seen taken : ℕ) (old new : Terminal) : Type 0 where
  pub within : taken ≤ length piece
  pub fed : Feeds (take taken piece) old new
  pub all : (count : ℕ) → count ≤ length piece
      → HasRoomSince seen (most_leaving (display_of old).height count) (history_of old) → count ≤ taken
  pub kept : (bytes : List ℕ) → StandsAfter (new_state (display_of old).width (display_of old).height) bytes old
      → AreKeptSince seen (history_of old) → AreKeptSince seen (history_of new)
