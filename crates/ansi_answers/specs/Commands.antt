-- Which commands are answered, and how.
--
-- Source: xterm's ctlseqs, "Operating System Commands", 4, 10 to 12: "If a "?" is given rather than a name or RGB
-- specification, xterm replies with a control sequence of the same form".
use Rattle.std.specs.Prelude.{ℕ, Bool, false, ◌==◌, nat_lt, Option, None, Some, List, [], ◌∷◌, slice_index_or, if◌then◌else◌}
use Rattle.ansi_modes.specs.declared.asked.Asked.{Asked}
use Rattle.ansi_modes.specs.declared.colors.Rgb.{Rgb}
use Rattle.ansi_modes.specs.Fields.{number_of}
use Rattle.ansi_modes.specs.Colors.{if_some, no_palette}
use Rattle.ansi_answers.specs.declared.color.Theme.{Theme}
use Rattle.ansi_answers.specs.declared.answer.Paint.{Paint}
use Rattle.ansi_answers.specs.declared.answer.Paint.TheVariants.{Foreground, Background, Cursor}
use Rattle.ansi_answers.specs.declared.answer.Answer.{Answer}
use Rattle.ansi_answers.specs.declared.answer.Answer.TheVariants.{PaletteColor, PaintColor}

-- no colour is told
abbrev pub no_theme : Theme
no_theme = record { foreground = None; background = None; cursor = None; palette = no_palette }

-- a part that is ? alone
unfoldable pub is_question : List ℕ → Bool
is_question [] = false
is_question (byte ∷ []) = byte == 0x3F
is_question (byte ∷ other ∷ bytes) = false

-- a colour of the palette, as a program set it, or else the terminal's own
abbrev pub palette_color : (index : ℕ) → Asked → Theme → Option Rgb
palette_color index a t = if_some (slice_index_or a.colors.palette index None) (slice_index_or t.palette index None)

-- a colour that is not known is not answered
abbrev pub palette_answer : (index : ℕ) → Option Rgb → (bell : Bool) → Option Answer
palette_answer index None bell = None
palette_answer index (Some color) bell = Some (PaletteColor index color bell)

unfoldable pub index_answer : Option ℕ → (bell : Bool) → Asked → Theme → Option Answer
index_answer None bell a t = None
index_answer (Some index) bell a t =
    if nat_lt index 256 then palette_answer index (palette_color index a t) bell else None

-- OSC 4 ; INDEX ; ?: of several the first pair is answered
abbrev pub palette_question : List (List ℕ) → (bell : Bool) → Asked → Theme → Option Answer
palette_question [] bell a t = None
palette_question (index ∷ []) bell a t = None
palette_question (index ∷ text ∷ parts) bell a t =
    if is_question text then index_answer (number_of index) bell a t else None

unfoldable pub paint_of : ℕ → Option Paint
paint_of n = if n == 10 then Some Foreground else if n == 11 then Some Background else if n == 12 then Some Cursor else None

abbrev pub paint_color : Paint → Asked → Theme → Option Rgb
paint_color Foreground a t = if_some a.colors.foreground t.foreground
paint_color Background a t = if_some a.colors.background t.background
paint_color Cursor a t = if_some a.colors.cursor t.cursor

abbrev pub paint_answer : Paint → Option Rgb → (bell : Bool) → Option Answer
paint_answer paint None bell = None
paint_answer paint (Some color) bell = Some (PaintColor paint color bell)

-- OSC 10, 11, 12 ; ?: of several parts the first is answered
abbrev pub paint_question : Option Paint → List (List ℕ) → (bell : Bool) → Asked → Theme → Option Answer
paint_question None parts bell a t = None
paint_question (Some paint) [] bell a t = None
paint_question (Some paint) (text ∷ parts) bell a t =
    if is_question text then paint_answer paint (paint_color paint a t) bell else None

unfoldable pub numbered_answer : Option ℕ → List (List ℕ) → (bell : Bool) → Asked → Theme → Option Answer
numbered_answer None parts bell a t = None
numbered_answer (Some number) parts bell a t =
    if number == 4 then palette_question parts bell a t else paint_question (paint_of number) parts bell a t

abbrev pub answer_to_command : List (List ℕ) → (bell : Bool) → Asked → Theme → Option Answer
answer_to_command [] bell a t = None
answer_to_command (number ∷ parts) bell a t = numbered_answer (number_of number) parts bell a t
