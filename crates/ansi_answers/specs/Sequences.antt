-- Which control sequences are answered, and how.
--
-- Sources: as of `Text`. What is asked for by other numbers, as the titles by CSI 20 t and 21 t, is never told.
use Rattle.std.specs.Prelude.{ℕ, ◌-◌, Bool, ◌&&◌, ◌||◌, ◌==◌, Option, None, Some, List, [], ◌∷◌, if◌then◌else◌}
use Rattle.ansi_modes.specs.declared.asked.Asked.{Asked}
use Rattle.ansi_modes.specs.declared.modes.Modes.{Modes}
use Rattle.ansi_modes.specs.declared.modes.Field.{Field}
use Rattle.ansi_modes.specs.declared.modes.Field.TheVariants.{Declined}
use Rattle.ansi_modes.specs.Asked.{flags_in_force}
use Rattle.ansi_modes.specs.Fields.{first_of}
use Rattle.ansi_modes.specs.Modes.{field_of, has_field}
use Rattle.ansi_answers.specs.declared.facts.Facts.{Facts}
use Rattle.ansi_answers.specs.declared.answer.ModeState.{ModeState}
use Rattle.ansi_answers.specs.declared.answer.ModeState.TheVariants.{Unknown, NeverSet}
use Rattle.ansi_answers.specs.declared.answer.Answer.{Answer}
use Rattle.ansi_answers.specs.declared.answer.Answer.TheVariants.{AllIsWell, CursorPosition, ExtendedPosition, PrimaryAttributes, SecondaryAttributes, TertiaryAttributes, Version, Mode, PrivateMode, Size, KeyFlags}
use Rattle.ansi_answers.specs.Text.{state_of}

-- the final bytes of all that is answered
unfoldable pub may_be_answered : ℕ → Bool
may_be_answered final =
    final == 0x63 || final == 0x6E || final == 0x70 || final == 0x71 || final == 0x74 || final == 0x75

-- the cursor's row; in origin mode the first of the margins is 1
abbrev pub row_told : Facts → ℕ
row_told f = if f.is_relative then f.row - (f.top - 1) else f.row

-- IRM; LNM, which is never set
unfoldable pub plain_state : ℕ → Facts → ModeState
plain_state n f = if n == 4 then state_of f.inserts else if n == 20 then NeverSet else Unknown

-- DECOM, DECAWM, DECTCEM
unfoldable pub screen_state : ℕ → Facts → ModeState
screen_state n f =
    if n == 6 then state_of f.is_relative
    else if n == 7 then state_of f.wraps
    else if n == 25 then state_of f.is_visible
    else Unknown

-- the modes that are known beside the screen
abbrev pub field_state : Option Field → ℕ → Facts → Modes → ModeState
field_state None n f m = screen_state n f
field_state (Some Declined) n f m = NeverSet
field_state (Some field) n f m = state_of (has_field field m)

abbrev pub private_state : ℕ → Facts → Asked → ModeState
private_state n f a = field_state (field_of n) n f a.modes

-- CSI 5 n, 6 n: DSR; CSI c: DA1; CSI 18 t
unfoldable pub plain_answer : (final n : ℕ) → Facts → Option Answer
plain_answer final n f =
    if final == 0x6E && n == 5 then Some AllIsWell
    else if final == 0x6E && n == 6 then Some (CursorPosition (row_told f) f.column)
    else if final == 0x63 && n == 0 then Some PrimaryAttributes
    else if final == 0x74 && n == 18 then Some (Size f.rows f.columns)
    else None

-- CSI ? 6 n: DECXCPR; CSI ? u, kitty's; CSI > c, = c: DA2, DA3; CSI > q: XTVERSION; CSI n $ p: DECRQM
unfoldable pub marked_answer : (mark final n : ℕ) → Facts → Asked → Option Answer
marked_answer mark final n f a =
    if mark == 0x3F && final == 0x6E && n == 6 then Some (ExtendedPosition (row_told f) f.column)
    else if mark == 0x3F && final == 0x75 then Some (KeyFlags (flags_in_force a))
    else if mark == 0x3E && final == 0x63 && n == 0 then Some SecondaryAttributes
    else if mark == 0x3E && final == 0x71 && n == 0 then Some Version
    else if mark == 0x3D && final == 0x63 && n == 0 then Some TertiaryAttributes
    else if mark == 0x24 && final == 0x70 then Some (Mode n (plain_state n f))
    else None

-- CSI ? n $ p: DECRQM of a private mode
unfoldable pub sequence_answer : (marks : List ℕ) (final n : ℕ) → Facts → Asked → Option Answer
sequence_answer [] final n f a = plain_answer final n f
sequence_answer (mark ∷ []) final n f a = marked_answer mark final n f a
sequence_answer (mark ∷ other ∷ []) final n f a =
    if mark == 0x3F && other == 0x24 && final == 0x70 then Some (PrivateMode n (private_state n f a)) else None
sequence_answer (mark ∷ other ∷ another ∷ marks) final n f a = None

-- The answer to a control sequence, by its first number, which is 0 where there is none. Of which more came than a call
-- shows, is not known.
abbrev pub answer_to_sequence : List (List ℕ) → List ℕ → (ignore : Bool) → ℕ → Facts → Asked → Option Answer
answer_to_sequence groups marks ignore final f a =
    if ignore then None else sequence_answer marks final (first_of groups) f a
