-- The bytes of an answer: fixed ones, and numbers.
--
-- Sources: xterm's ctlseqs, "Functions using CSI" (DSR, DA, DECRQM, XTVERSION, XTWINOPS), "Device-Control functions"
-- (DECRQSS) and "Operating System Commands" (4, 10 to 12); ECMA-48, 8.3.14 (CPR), 8.3.35 (DSR); the VT510 manual
-- (DECXCPR, DA1 to DA3, DECRPM, DECRPSS); XParseColor(3), "RGB Device String Specification"; kitty's page on keys.
-- Eight bits of a colour are told as sixteen, the same twice, as xterm tells them.
use Rattle.std.specs.Prelude.{ℕ, ◌+◌, ◌-◌, ◌/◌, ◌%◌, nat_lt, Bool, List, [], ◌∷◌, ◌++◌, decimal, if◌then◌else◌}
use Rattle.anstyle_parse.specs.Stream.Groups.{groups_text}
use Rattle.ansi_style.specs.declared.style.Style.{Style}
use Rattle.ansi_style.specs.Codes.{codes_of}
use Rattle.ansi_modes.specs.declared.colors.Rgb.{Rgb}
use Rattle.ansi_answers.specs.declared.answer.ModeState.{ModeState}
use Rattle.ansi_answers.specs.declared.answer.ModeState.TheVariants.{Unknown, Set, Reset, NeverSet}
use Rattle.ansi_answers.specs.declared.answer.Paint.{Paint}
use Rattle.ansi_answers.specs.declared.answer.Paint.TheVariants.{Foreground, Background, Cursor}
use Rattle.ansi_answers.specs.declared.answer.Answer.{Answer}
use Rattle.ansi_answers.specs.declared.answer.Answer.TheVariants.{AllIsWell, CursorPosition, ExtendedPosition, PrimaryAttributes, SecondaryAttributes, TertiaryAttributes, Version, Mode, PrivateMode, Rendition, Margins, CursorShape, NoSetting, Size, KeyFlags, PaletteColor, PaintColor}

-- so many bytes an answer has at most
abbrev pub max_answer : ℕ
max_answer = 64

-- DECRPM's numbers
abbrev pub state_number : ModeState → ℕ
state_number Unknown = 0
state_number Set = 1
state_number Reset = 2
state_number NeverSet = 4

abbrev pub state_of : Bool → ModeState
state_of on = if on then Set else Reset

-- the command that sets such a colour
abbrev pub paint_number : Paint → ℕ
paint_number Foreground = 10
paint_number Background = 11
paint_number Cursor = 12

-- a number between bytes, and two numbers
abbrev pub with_one : (before : List ℕ) (n : ℕ) (after : List ℕ) → List ℕ
with_one before n after = before ++ (decimal n ++ after)

abbrev pub with_two : (before : List ℕ) (n m : ℕ) (after : List ℕ) → List ℕ
with_two before n m after = before ++ (decimal n ++ ((0x3B ∷ []) ++ (decimal m ++ after)))

-- digits of base 16, in small letters
unfoldable pub hex_digit : ℕ → ℕ
hex_digit n = if nat_lt n 10 then 0x30 + n else 0x61 + (n - 10)

abbrev pub channel_text : ℕ → List ℕ
channel_text n = hex_digit (n / 16) ∷ hex_digit (n % 16) ∷ hex_digit (n / 16) ∷ hex_digit (n % 16) ∷ []

-- rgb : RRRR / GGGG / BBBB
abbrev pub color_text : Rgb → List ℕ
color_text color =
    (0x72 ∷ 0x67 ∷ 0x62 ∷ 0x3A ∷ []) ++ (channel_text color.red ++ ((0x2F ∷ [])
    ++ (channel_text color.green ++ ((0x2F ∷ []) ++ channel_text color.blue))))

-- BEL or ST
abbrev pub end_text : (bell : Bool) → List ℕ
end_text bell = if bell then 0x07 ∷ [] else 0x1B ∷ 0x5C ∷ []

abbrev pub colored_text : (before : List ℕ) (n : ℕ) → Rgb → (bell : Bool) → List ℕ
colored_text before n color bell = before ++ (decimal n ++ ((0x3B ∷ []) ++ (color_text color ++ end_text bell)))

-- the numbers that select a style, 0 first, and m
abbrev pub selection_text : Style → List ℕ
selection_text style = groups_text (codes_of style) ++ 0x6D ∷ []

abbrev pub rendition_text : Style → List ℕ
rendition_text style = (0x1B ∷ 0x50 ∷ 0x31 ∷ 0x24 ∷ 0x72 ∷ []) ++ (selection_text style ++ 0x1B ∷ 0x5C ∷ [])

abbrev pub answer_text : Answer → List ℕ
-- ESC [ 0 n
answer_text AllIsWell = 0x1B ∷ 0x5B ∷ 0x30 ∷ 0x6E ∷ []
-- ESC [ ROW ; COLUMN R
answer_text (CursorPosition row column) = with_two (0x1B ∷ 0x5B ∷ []) row column (0x52 ∷ [])
-- ESC [ ? ROW ; COLUMN ; 1 R
answer_text (ExtendedPosition row column) =
    with_two (0x1B ∷ 0x5B ∷ 0x3F ∷ []) row column (0x3B ∷ 0x31 ∷ 0x52 ∷ [])
-- ESC [ ? 6 2 ; 2 2 c
answer_text PrimaryAttributes =
    0x1B ∷ 0x5B ∷ 0x3F ∷ 0x36 ∷ 0x32 ∷ 0x3B ∷ 0x32 ∷ 0x32 ∷ 0x63 ∷ []
-- ESC [ > 1 ; 1 0 ; 0 c
answer_text SecondaryAttributes =
    0x1B ∷ 0x5B ∷ 0x3E ∷ 0x31 ∷ 0x3B ∷ 0x31 ∷ 0x30 ∷ 0x3B ∷ 0x30 ∷ 0x63 ∷ []
-- ESC P ! | 0 0 0 0 0 0 0 0 ESC \
answer_text TertiaryAttributes =
    0x1B ∷ 0x50 ∷ 0x21 ∷ 0x7C
    ∷ 0x30 ∷ 0x30 ∷ 0x30 ∷ 0x30 ∷ 0x30 ∷ 0x30 ∷ 0x30 ∷ 0x30 ∷ 0x1B ∷ 0x5C ∷ []
-- ESC P > | ansi-proved(1) ESC \
answer_text Version =
    0x1B ∷ 0x50 ∷ 0x3E ∷ 0x7C
    ∷ 0x61 ∷ 0x6E ∷ 0x73 ∷ 0x69 ∷ 0x2D ∷ 0x70 ∷ 0x72 ∷ 0x6F ∷ 0x76 ∷ 0x65 ∷ 0x64 ∷ 0x28 ∷ 0x31 ∷ 0x29
    ∷ 0x1B ∷ 0x5C ∷ []
-- ESC [ MODE ; STATE $ y, ESC [ ? MODE ; STATE $ y
answer_text (Mode number state) = with_two (0x1B ∷ 0x5B ∷ []) number (state_number state) (0x24 ∷ 0x79 ∷ [])
answer_text (PrivateMode number state) =
    with_two (0x1B ∷ 0x5B ∷ 0x3F ∷ []) number (state_number state) (0x24 ∷ 0x79 ∷ [])
-- ESC P 1 $ r, the setting, ESC \
answer_text (Rendition style) = rendition_text style
answer_text (Margins top bottom) =
    with_two (0x1B ∷ 0x50 ∷ 0x31 ∷ 0x24 ∷ 0x72 ∷ []) top bottom (0x72 ∷ 0x1B ∷ 0x5C ∷ [])
answer_text (CursorShape number) =
    with_one (0x1B ∷ 0x50 ∷ 0x31 ∷ 0x24 ∷ 0x72 ∷ []) number (0x20 ∷ 0x71 ∷ 0x1B ∷ 0x5C ∷ [])
-- ESC P 0 $ r ESC \
answer_text NoSetting = 0x1B ∷ 0x50 ∷ 0x30 ∷ 0x24 ∷ 0x72 ∷ 0x1B ∷ 0x5C ∷ []
-- ESC [ 8 ; ROWS ; COLUMNS t
answer_text (Size rows columns) = with_two (0x1B ∷ 0x5B ∷ 0x38 ∷ 0x3B ∷ []) rows columns (0x74 ∷ [])
-- ESC [ ? FLAGS u
answer_text (KeyFlags flags) = with_one (0x1B ∷ 0x5B ∷ 0x3F ∷ []) flags (0x75 ∷ [])
-- ESC ] 4 ; INDEX ; COLOUR, ESC ] NUMBER ; COLOUR
answer_text (PaletteColor index color bell) = colored_text (0x1B ∷ 0x5D ∷ 0x34 ∷ 0x3B ∷ []) index color bell
answer_text (PaintColor paint color bell) = colored_text (0x1B ∷ 0x5D ∷ []) (paint_number paint) color bell
