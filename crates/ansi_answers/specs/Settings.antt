-- DECRQSS: a device control string asks for a setting by the bytes that end its sequence.
--
-- Sources: xterm's ctlseqs, "Device-Control functions", DECRQSS; the VT510 manual, DECRQSS, DECRPSS. A setting that is not
-- known is answered with 0, and nothing of what was sent comes back. The terminal's own shape is told as a block, which
-- it is in xterm.
use Rattle.std.specs.Prelude.{ℕ, ◌-◌, Bool, false, ◌&&◌, not, ◌==◌, Option, None, Some, List, [], ◌∷◌, if◌then◌else◌}
use Rattle.ansi_modes.specs.declared.asked.Asked.{Asked}
use Rattle.ansi_modes.specs.declared.cursor.Shape.{Shape as CursorForm}
use Rattle.ansi_modes.specs.declared.cursor.Shape.TheVariants.{Own, Block, Underline, Bar}
use Rattle.ansi_answers.specs.declared.facts.Facts.{Facts}
use Rattle.ansi_answers.specs.declared.request.Request.{Request}
use Rattle.ansi_answers.specs.declared.request.Request.TheVariants.{Nothing, Begun, Rendition as AsksRendition, Margins as AsksMargins, Space, Shape, Other}
use Rattle.ansi_answers.specs.declared.answer.Answer.{Answer}
use Rattle.ansi_answers.specs.declared.answer.Answer.TheVariants.{Rendition, Margins, CursorShape, NoSetting}

-- ESC P $ q
unfoldable pub asks_setting : (marks : List ℕ) → Bool
asks_setting [] = false
asks_setting (mark ∷ []) = mark == 0x24
asks_setting (mark ∷ other ∷ marks) = false

abbrev pub hooked : (marks : List ℕ) → (ignore : Bool) → (final : ℕ) → Request
hooked marks ignore final = if not ignore && asks_setting marks && final == 0x71 then Begun else Nothing

-- m is SGR, r is DECSTBM, a space and q DECSCUSR
unfoldable pub with_byte : ℕ → Request → Request
with_byte byte Nothing = Nothing
with_byte byte Begun =
    if byte == 0x6D then AsksRendition
    else if byte == 0x72 then AsksMargins
    else if byte == 0x20 then Space
    else Other
with_byte byte Space = if byte == 0x71 then Shape else Other
with_byte byte request = Other

-- DECSCUSR's numbers: a steady one, and before it the one that blinks
abbrev pub steady_number : CursorForm → ℕ
steady_number Own = 2
steady_number Block = 2
steady_number Underline = 4
steady_number Bar = 6

abbrev pub shape_number : CursorForm → (blinks : Bool) → ℕ
shape_number shape blinks = if blinks then steady_number shape - 1 else steady_number shape

abbrev pub setting_answer : Request → Facts → Asked → Option Answer
setting_answer Nothing f a = None
setting_answer AsksRendition f a = Some (Rendition f.style)
setting_answer AsksMargins f a = Some (Margins f.top f.bottom)
setting_answer Shape f a = Some (CursorShape (shape_number a.shape a.modes.blink))
setting_answer request f a = Some NoSetting
