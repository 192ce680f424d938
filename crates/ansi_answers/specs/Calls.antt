-- What our own parser makes of an answer: one control sequence, one device control string or one command.
use Rattle.std.specs.Prelude.{ℕ, ◌≤◌, ◌<◌, Bool, false, ◌||◌, ◌==◌, List, [], ◌∷◌, ◌++◌, map, decimal, ⊤, if◌then◌else◌}
use Rattle.anstyle_parse.specs.Stream.Bytes.{is_within}
use Rattle.anstyle_parse.specs.Stream.Arguments.{max_field}
use Rattle.anstyle_parse.specs.Stream.Call.{Call, hook, put, unhook, osc_dispatch, csi_dispatch, esc_dispatch}
use Rattle.ansi_style.specs.Style.{HasBytes}
use Rattle.ansi_modes.specs.declared.colors.Rgb.{Rgb}
use Rattle.ansi_answers.specs.declared.answer.Answer.{Answer}
use Rattle.ansi_answers.specs.declared.answer.Answer.TheVariants.{AllIsWell, CursorPosition, ExtendedPosition, PrimaryAttributes, SecondaryAttributes, TertiaryAttributes, Version, Mode, PrivateMode, Rendition, Margins, CursorShape, NoSetting, Size, KeyFlags, PaletteColor, PaintColor}
use Rattle.ansi_answers.specs.Text.{state_number, paint_number, color_text, selection_text}

-- a byte of an answer: ESC, BEL, and ASCII that is printed
unfoldable pub is_answer_byte : ℕ → Bool
is_answer_byte b = b == 0x1B || b == 0x07 || is_within 0x20 0x7E b

-- a group of one field
abbrev pub one : ℕ → List ℕ
one field = field ∷ []

abbrev pub sequence : (groups : List (List ℕ)) (marks : List ℕ) (final : ℕ) → List Call
sequence groups marks final = csi_dispatch groups marks false final ∷ []

-- ST, as ESC \, which breaks a string off
abbrev pub terminator : List Call
terminator = esc_dispatch [] false 0x5C ∷ []

abbrev pub string : (groups : List (List ℕ)) (marks : List ℕ) (final : ℕ) (text : List ℕ) → List Call
string groups marks final text = hook groups marks false final ∷ (map put text ++ unhook ∷ terminator)

abbrev pub command : (parts : List (List ℕ)) (bell : Bool) → List Call
command parts bell = osc_dispatch parts bell ∷ (if bell then [] else terminator)

-- a setting, as DECRPSS has it
abbrev pub setting : (text : List ℕ) → List Call
setting text = string (one 1 ∷ []) (0x24 ∷ []) 0x72 text

abbrev pub answer_calls : Answer → List Call
answer_calls AllIsWell = sequence (one 0 ∷ []) [] 0x6E
answer_calls (CursorPosition row column) = sequence (one row ∷ one column ∷ []) [] 0x52
answer_calls (ExtendedPosition row column) = sequence (one row ∷ one column ∷ one 1 ∷ []) (0x3F ∷ []) 0x52
answer_calls PrimaryAttributes = sequence (one 62 ∷ one 22 ∷ []) (0x3F ∷ []) 0x63
answer_calls SecondaryAttributes = sequence (one 1 ∷ one 10 ∷ one 0 ∷ []) (0x3E ∷ []) 0x63
answer_calls TertiaryAttributes =
    string (one 0 ∷ []) (0x21 ∷ []) 0x7C (0x30 ∷ 0x30 ∷ 0x30 ∷ 0x30 ∷ 0x30 ∷ 0x30 ∷ 0x30 ∷ 0x30 ∷ [])
answer_calls Version =
    string (one 0 ∷ []) (0x3E ∷ []) 0x7C
    (0x61 ∷ 0x6E ∷ 0x73 ∷ 0x69 ∷ 0x2D ∷ 0x70 ∷ 0x72 ∷ 0x6F ∷ 0x76 ∷ 0x65 ∷ 0x64 ∷ 0x28 ∷ 0x31 ∷ 0x29 ∷ [])
answer_calls (Mode number state) = sequence (one number ∷ one (state_number state) ∷ []) (0x24 ∷ []) 0x79
answer_calls (PrivateMode number state) =
    sequence (one number ∷ one (state_number state) ∷ []) (0x3F ∷ 0x24 ∷ []) 0x79
answer_calls (Rendition style) = setting (selection_text style)
answer_calls (Margins top bottom) = setting (decimal top ++ ((0x3B ∷ []) ++ (decimal bottom ++ 0x72 ∷ [])))
answer_calls (CursorShape number) = setting (decimal number ++ 0x20 ∷ 0x71 ∷ [])
answer_calls NoSetting = string (one 0 ∷ []) (0x24 ∷ []) 0x72 []
answer_calls (Size rows columns) = sequence (one 8 ∷ one rows ∷ one columns ∷ []) [] 0x74
answer_calls (KeyFlags flags) = sequence (one flags ∷ []) (0x3F ∷ []) 0x75
answer_calls (PaletteColor index color bell) = command ((0x34 ∷ []) ∷ decimal index ∷ color_text color ∷ []) bell
answer_calls (PaintColor paint color bell) = command (decimal (paint_number paint) ∷ color_text color ∷ []) bell

-- the bounds of its numbers, which all values of the type have
abbrev pub AreBytes : Rgb → Type 0
AreBytes color = (color.red < 256) × (color.green < 256) × (color.blue < 256)

abbrev pub IsBounded : Answer → Type 0
IsBounded (CursorPosition row column) = (row ≤ max_field) × (column ≤ max_field)
IsBounded (ExtendedPosition row column) = (row ≤ max_field) × (column ≤ max_field)
IsBounded (Mode number state) = number ≤ max_field
IsBounded (PrivateMode number state) = number ≤ max_field
IsBounded (Rendition style) = HasBytes style.foreground × HasBytes style.background
IsBounded (Margins top bottom) = (top ≤ max_field) × (bottom ≤ max_field)
IsBounded (CursorShape number) = number ≤ max_field
IsBounded (Size rows columns) = (rows ≤ max_field) × (columns ≤ max_field)
IsBounded (KeyFlags flags) = flags ≤ max_field
IsBounded (PaletteColor index color bell) = (index < 256) × AreBytes color
IsBounded (PaintColor paint color bell) = AreBytes color
IsBounded answer = ⊤
