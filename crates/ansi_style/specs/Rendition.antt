-- Select Graphic Rendition: what a control sequence with the final byte 6D (m) does to the
-- style of the text that follows. Its parameters are groups of fields: 3B separates groups,
-- and 3A the fields of a group.
--
-- Sources: ECMA-48 (5th edition), 8.3.117 SGR, for the codes up to 65; ITU-T T.416, 13.1.8,
-- for 38 and 48 with a colour; xterm's ctlseqs, "Character Attributes (SGR)", for the colours
-- with 3B and for 90 to 107; kitty's "Colored and styled underlines" for 4:3 to 4:5 and for 58
-- and 59.
use Rattle.std.specs.Prelude.{◌≡◌, ℕ, ◌+◌, ◌-◌, Bool, true, false, ◌&&◌, ◌||◌, not, nat_lt, ◌==◌, List, [], ◌∷◌, length, if◌then◌else◌, Option, None, Some}
use Rattle.ansi_style.specs.declared.style.Style.{Style}
use Rattle.ansi_style.specs.declared.style.Color.{Color}
use Rattle.ansi_style.specs.declared.style.Color.TheVariants.{Default, Named, Bright, Indexed, Direct}
use Rattle.ansi_style.specs.declared.style.Underline.TheVariants.{Off, Single, Double, Curly, Dotted, Dashed}
use Rattle.ansi_style.specs.declared.style.Hue.{Hue}
use Rattle.anstyle_parse.specs.Stream.Bytes.{is_within}
use Rattle.anstyle_parse.specs.Stream.Call.{Call, csi_dispatch}
use Rattle.ansi_style.specs.Style.{plain, hue_at}

-- A row of the table: the codes from first to last, and what each does, by its place among
-- them.
pub record Row : Type 0 where
  pub first : ℕ
  pub last : ℕ
  pub selects : ℕ → Style → Style

infix 50 ◌⇒◌
-- one code
abbrev pub ◌⇒◌ : ℕ → (Style → Style) → Row
code ⇒ change = record { first = code; last = code; selects = λ place. change }

infix 50 ◌⇉◌
-- eight codes, one for each hue
abbrev pub ◌⇉◌ : ℕ → (Hue → Style → Style) → Row
first ⇉ change = record { first = first; last = first + 7; selects = λ place. change (hue_at place) }

-- What a code says alone, row by row, in the standard's words.
abbrev pub rows : List Row
rows =
    -- default rendition, cancels the effect of any preceding SGR
    (0 ⇒ (λ style. plain)) ∷
    -- bold or increased intensity; faint
    (1 ⇒ (λ style. record style { bold = true })) ∷
    (2 ⇒ (λ style. record style { dim = true })) ∷
    -- italicized
    (3 ⇒ (λ style. record style { italic = true })) ∷
    -- singly underlined
    (4 ⇒ (λ style. record style { underline = Single })) ∷
    -- slowly blinking; rapidly blinking
    (5 ⇒ (λ style. record style { blink = true })) ∷
    (6 ⇒ (λ style. record style { blink = true })) ∷
    -- negative image
    (7 ⇒ (λ style. record style { reverse = true })) ∷
    -- concealed characters
    (8 ⇒ (λ style. record style { hidden = true })) ∷
    -- crossed-out
    (9 ⇒ (λ style. record style { struck_out = true })) ∷
    -- doubly underlined
    (21 ⇒ (λ style. record style { underline = Double })) ∷
    -- neither bold nor faint
    (22 ⇒ (λ style. record style { bold = false; dim = false })) ∷
    -- not italicized
    (23 ⇒ (λ style. record style { italic = false })) ∷
    -- not underlined
    (24 ⇒ (λ style. record style { underline = Off })) ∷
    -- steady (not blinking)
    (25 ⇒ (λ style. record style { blink = false })) ∷
    -- positive image
    (27 ⇒ (λ style. record style { reverse = false })) ∷
    -- revealed characters
    (28 ⇒ (λ style. record style { hidden = false })) ∷
    -- not crossed out
    (29 ⇒ (λ style. record style { struck_out = false })) ∷
    -- black display to white display; default display colour
    (30 ⇉ (λ hue style. record style { foreground = Named hue })) ∷
    (39 ⇒ (λ style. record style { foreground = Default })) ∷
    -- black background to white background; default background colour
    (40 ⇉ (λ hue style. record style { background = Named hue })) ∷
    (49 ⇒ (λ style. record style { background = Default })) ∷
    -- overlined; not overlined
    (53 ⇒ (λ style. record style { overlined = true })) ∷
    (55 ⇒ (λ style. record style { overlined = false })) ∷
    -- xterm: the bright colours, of the text and of the background
    (90 ⇉ (λ hue style. record style { foreground = Bright hue })) ∷
    (100 ⇉ (λ hue style. record style { background = Bright hue })) ∷ []

-- the row that has the code decides; a code in no row changes nothing
abbrev pub look_up : List Row → ℕ → Style → Style
look_up [] code style = style
look_up (row ∷ rows) code style =
    if is_within row.first row.last code then row.selects (code - row.first) style
    else look_up rows code style

unfoldable pub with_code : ℕ → Style → Style
with_code code style = look_up rows code style

-- 4:0 to 4:5; any other kind changes nothing
unfoldable pub with_underline : ℕ → Style → Style
with_underline kind style =
    if kind == 0 then record style { underline = Off }
    else if kind == 1 then record style { underline = Single }
    else if kind == 2 then record style { underline = Double }
    else if kind == 3 then record style { underline = Curly }
    else if kind == 4 then record style { underline = Dotted }
    else if kind == 5 then record style { underline = Dashed }
    else style

-- the codes that begin a colour: of the text, of its background, of its underline
abbrev pub is_color_code : ℕ → Bool
is_color_code code = code == 38 || code == 48 || code == 58

-- one of 256; red, green and blue; a number above 255 makes no colour
abbrev pub indexed : ℕ → Option Color
indexed n = if nat_lt n 256 then Some (Indexed n) else None

abbrev pub mixed : ℕ → ℕ → ℕ → Option Color
mixed red green blue =
    if nat_lt red 256 && (nat_lt green 256 && nat_lt blue 256) then Some (Direct red green blue) else None

-- The colour that a group says after its first field: 5:n; 2:red:green:blue, as xterm takes it
-- too; 2:space:red:green:blue, as T.416 writes it, with whatever follows (its tolerances).
abbrev pub color_in : List ℕ → Option Color
color_in (kind ∷ n ∷ []) = if kind == 5 then indexed n else None
color_in (kind ∷ red ∷ green ∷ blue ∷ []) = if kind == 2 then mixed red green blue else None
color_in (kind ∷ space ∷ red ∷ green ∷ blue ∷ more) = if kind == 2 then mixed red green blue else None
color_in _ = None

-- a colour after its code; none changes nothing, and the underline's is read and not kept
abbrev pub with_color : ℕ → Option Color → Style → Style
with_color code None style = style
with_color code (Some color) style =
    if code == 38 then record style { foreground = color }
    else if code == 48 then record style { background = color }
    else style

-- What a group says by itself: a code; 4 and the kind of underline; a colour with 3A. What is
-- none of these changes nothing.
abbrev pub with_group : List ℕ → Style → Style
with_group [] style = style
with_group (code ∷ []) style = with_code code style
with_group (code ∷ kind ∷ []) style = if code == 4 then with_underline kind style else style
with_group (code ∷ fields) style = if is_color_code code then with_color code (color_in fields) style else style

-- What a sequence says, one after another: changes of the style; and at its end perhaps a
-- colour that it begins and does not end.
pub data Selection : Type 0 where
  change : (Style → Style) → Selection
  unended : Selection

abbrev mutual
  -- Each group by itself, but for a colour with 3B.
  pub selections : List (List ℕ) → List Selection
  selections [] = []
  selections ((code ∷ []) ∷ groups) =
      if is_color_code code then color_selections code groups
      else change (with_group (code ∷ [])) ∷ selections groups
  selections (group ∷ groups) = change (with_group group) ∷ selections groups

  -- After the code of a colour: 5;n or 2;red;green;blue. Another kind is no colour and is
  -- dropped; so is a group of several fields, here and in place of each number below, and the
  -- colour with it.
  pub color_selections : ℕ → List (List ℕ) → List Selection
  color_selections code [] = unended ∷ []
  color_selections code ((kind ∷ []) ∷ groups) =
      if kind == 5 then index_selections code groups
      else if kind == 2 then direct_selections code groups
      else selections groups
  color_selections code (several ∷ groups) = selections groups

  -- n
  pub index_selections : ℕ → List (List ℕ) → List Selection
  index_selections code [] = unended ∷ []
  index_selections code ((n ∷ []) ∷ groups) = change (with_color code (indexed n)) ∷ selections groups
  index_selections code (several ∷ groups) = selections groups

  -- red;green;blue
  pub direct_selections : ℕ → List (List ℕ) → List Selection
  direct_selections code [] = unended ∷ []
  direct_selections code ((red ∷ []) ∷ []) = unended ∷ []
  direct_selections code ((red ∷ []) ∷ (green ∷ []) ∷ []) = unended ∷ []
  direct_selections code ((red ∷ []) ∷ (green ∷ []) ∷ (blue ∷ []) ∷ groups) =
      change (with_color code (mixed red green blue)) ∷ selections groups
  direct_selections code ((red ∷ []) ∷ (green ∷ []) ∷ several ∷ groups) = selections groups
  direct_selections code ((red ∷ []) ∷ several ∷ groups) = selections groups
  direct_selections code (several ∷ groups) = selections groups

-- each change in turn
abbrev pub style_by : List Selection → Style → Style
style_by [] style = style
style_by (change made ∷ more) style = style_by more (made style)
style_by (unended ∷ more) style = style_by more style

-- The style that these groups make of a style.
abbrev pub selected : List (List ℕ) → Style → Style
selected groups style = style_by (selections groups) style

abbrev pub are_ended : List Selection → Bool
are_ended [] = true
are_ended (change made ∷ more) = are_ended more
are_ended (unended ∷ more) = false

-- no colour is begun that is not ended
abbrev pub AreWhole : List (List ℕ) → Type 0
AreWhole groups = are_ended (selections groups) ≡ true

-- a control sequence that selects: final byte 6D, no intermediates, and no more than is shown
unfoldable pub is_selection : List ℕ → Bool → ℕ → Bool
is_selection intermediates ignore final = length intermediates == 0 && (not ignore && final == 0x6D)

-- The style after a call.
abbrev pub style_after : Call → Style → Style
style_after (csi_dispatch groups intermediates ignore final) style =
    if is_selection intermediates ignore final then selected groups style else style
style_after call style = style
