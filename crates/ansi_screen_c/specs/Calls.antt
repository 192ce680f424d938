-- What the calls from C do.
use Rattle.std.specs.Prelude.{◌≡◌, ◌⊎◌, ⊤, ℕ, Bool, List, [], Option, None, Some, IsUtf8}
use Rattle.ansi_screen.specs.After.{new_state}
use Rattle.ansi_screen.specs.Display.{Display}
use Rattle.screen_pieces.specs.declared.terminal.Terminal.{Terminal}
use Rattle.screen_pieces.specs.Drawing.{update_of}
use Rattle.screen_pieces.specs.Terminal.{display_of, history_of, StandsAfter, IsNew}
use Rattle.ansi_screen.specs.History.{Kept}
use Rattle.screen_pieces.specs.Same.{ShowSame}
use Rattle.screen_pieces.specs.Telling.{paste_told}
use Rattle.screen_pieces.specs.Text.{HasText, LacksRoom, IsNotRead}

-- A screen is held, of which this holds.
abbrev pub Holds : (Terminal → Type 0) → Option Terminal → Type 0
Holds P None = ⊥
Holds P (Some terminal) = P terminal

-- None is held, or one of which this holds.
abbrev pub IsNoneOr : (Terminal → Type 0) → Option Terminal → Type 0
IsNoneOr P None = ⊤
IsNoneOr P (Some terminal) = P terminal

-- It is a new one, at the beginning of a stream.
abbrev pub Opens : (columns rows : ℕ) → Option Terminal → Type 0
Opens columns rows held = Holds (StandsAfter (new_state columns rows) []) held

-- The same, and so many of the rows that leave it are kept: of all, or of those that ED and RIS do not take away.
abbrev pub OpensWith : (columns rows history : ℕ) (keeps_erased : Bool) → Option Terminal → Type 0
OpensWith columns rows history keeps_erased held = Holds (IsNew columns rows history keeps_erased) held

-- A screen was held, and one is held now: they are related so.
abbrev pub Both : (Terminal → Terminal → Type 0) → Option Terminal → Option Terminal → Type 0
Both R None held = ⊥
Both R (Some old) held = Holds (R old) held

-- The text that is read of the screen stands at the front of the room.
abbrev pub Reads : (Display → List ℕ) → (room room_after : List ℕ) (written : ℕ) → Terminal → Type 0
Reads read room room_after written terminal = HasText (read (display_of terminal)) room room_after written

-- It is not: no screen is held, and the number is 0; or the room has fewer bytes than the text, whose length is told; or
-- the number is 0 where the screen lacks what is asked for.
abbrev pub IsRefused : (lacking : Display → Type 0) → (Display → List ℕ) → (room : List ℕ) (needed : ℕ)
    → Option Terminal → Type 0
IsRefused lacking read room needed None = needed ≡ 0
IsRefused lacking read room needed (Some terminal) =
    IsNotRead (lacking (display_of terminal)) (read (display_of terminal)) room needed

-- It is not, where memory is taken: so the number can be 0 of any screen, since no clause sees that memory is wanting.
abbrev pub IsRefusedOf : (Terminal → List ℕ) → (room : List ℕ) (needed : ℕ) → Option Terminal → Type 0
IsRefusedOf read room needed None = needed ≡ 0
IsRefusedOf read room needed (Some terminal) = (needed ≡ 0) ⊎ LacksRoom (read terminal) room needed

-- It is not, where nothing can be lacking: no screen is held, or the room has fewer bytes.
abbrev pub HasNoRoomOf : (Terminal → List ℕ) → (room : List ℕ) (needed : ℕ) → Option Terminal → Type 0
HasNoRoomOf read room needed None = needed ≡ 0
HasNoRoomOf read room needed (Some terminal) = LacksRoom (read terminal) room needed

-- A text is not pasted: it is no UTF-8, and the number is 0; or the room has fewer bytes than a program reads.
abbrev pub IsNotPasted : (text room : List ℕ) (needed : ℕ) → Option Terminal → Type 0
IsNotPasted text room needed held = ((IsUtf8 text → ⊥) × (needed ≡ 0)) ⊎ HasNoRoomOf (paste_told text) room needed held

-- the same as the first two of what is kept of the rows that left
abbrev pub ReadsKept : (Kept → List ℕ) → (room room_after : List ℕ) (written : ℕ) → Terminal → Type 0
ReadsKept read room room_after written terminal = HasText (read (history_of terminal)) room room_after written

abbrev pub IsRefusedKept : (lacking : Kept → Type 0) → (Kept → List ℕ) → (room : List ℕ) (needed : ℕ)
    → Option Terminal → Type 0
IsRefusedKept lacking read room needed None = needed ≡ 0
IsRefusedKept lacking read room needed (Some terminal) =
    IsNotRead (lacking (history_of terminal)) (read (history_of terminal)) room needed

-- The bytes of an update stand at the front of the room; or not: the number is 0, or the room has fewer bytes.
abbrev pub ReadsUpdate : (room room_after : List ℕ) (written : ℕ) → Terminal → Terminal → Type 0
ReadsUpdate room room_after written shown wanted =
    HasText (update_of (display_of shown) (display_of wanted)) room room_after written

abbrev pub LacksUpdate : (room : List ℕ) (needed : ℕ) → Terminal → Terminal → Type 0
LacksUpdate room needed shown wanted = LacksRoom (update_of (display_of shown) (display_of wanted)) room needed

abbrev pub IsRefusedUpdate : (room : List ℕ) (needed : ℕ) → Option Terminal → Option Terminal → Type 0
IsRefusedUpdate room needed shown wanted = (needed ≡ 0) ⊎ Both (LacksUpdate room needed) shown wanted

-- Both show the same.
abbrev pub ShowSameOf : Terminal → Terminal → Type 0
ShowSameOf one other = ShowSame (display_of one) (display_of other)

-- Bytes of a screen stand at the front of the room.
abbrev pub ReadsOf : (Terminal → List ℕ) → (room room_after : List ℕ) (written : ℕ) → Terminal → Type 0
ReadsOf read room room_after written terminal = HasText (read terminal) room room_after written
