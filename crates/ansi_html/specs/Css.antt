-- A style as a list of CSS declarations.
use Rattle.std.specs.Prelude.{ℕ, Bool, true, false, ◌||◌, ◌&&◌, List, [], ◌++◌, codes, if◌then◌else◌}
use Rattle.ansi_style.specs.declared.style.Style.{Style}
use Rattle.ansi_style.specs.declared.style.Color.{Color}
use Rattle.ansi_style.specs.declared.style.Color.TheVariants.{Default, Named, Bright, Indexed, Direct}
use Rattle.ansi_style.specs.declared.style.Underline.{Underline}
use Rattle.ansi_style.specs.declared.style.Underline.TheVariants.{Off, Single, Double, Curly, Dotted, Dashed}
use Rattle.ansi_html.specs.declared.contrast.Rgb.{Rgb}
use Rattle.ansi_html.specs.declared.palette.Shades.{Shades}
use Rattle.ansi_html.specs.declared.scheme.Scheme.{Scheme}
use Rattle.ansi_html.specs.declared.scheme.Scheme.TheVariants.{Light, Dark, Both}
use Rattle.ansi_html.specs.Contrast.{black, white, light_shade, dark_shade, mixture, ink, dim_on}
use Rattle.ansi_html.specs.Palette.{hex, shades_of}

abbrev pub declared : (property : List ℕ) → Rgb → List ℕ
declared property color = property ++ (hex color ++ codes ";")

-- the first on light pages, the second on dark ones (CSS Color 5, 10.1)
abbrev pub light_dark : (property : List ℕ) → (light dark : Rgb) → List ℕ
light_dark property light dark =
    property ++ (codes "light-dark(" ++ (hex light ++ (codes "," ++ (hex dark ++ codes ");"))))

-- A colour for light pages and one for dark ones. For both the light one stands first, alone: a
-- reader that does not know light-dark() keeps it (CSS Syntax, 2.2).
abbrev pub themed : Scheme → (property : List ℕ) → (light dark : Rgb) → List ℕ
themed Light property light dark = declared property light
themed Dark property light dark = declared property dark
themed Both property light dark = declared property light ++ light_dark property light dark

abbrev pub is_chosen : Color → Bool
is_chosen Default = false
is_chosen (Named hue) = true
is_chosen (Bright hue) = true
is_chosen (Indexed n) = true
is_chosen (Direct red green blue) = true

-- the stream has selected the colour of the text and that of the ground
abbrev pub selects_both : Style → Bool
selects_both style = is_chosen style.foreground && is_chosen style.background

-- the colour of a style's text, and the one behind it: reversed, each is in the other's place
abbrev pub text_of : Style → Color
text_of style = if style.reverse then style.background else style.foreground

abbrev pub behind_of : Style → Color
behind_of style = if style.reverse then style.foreground else style.background

-- the shade of a text for light pages and for dark ones; a dim one is mixed with the page
abbrev pub light_text : (dim : Bool) → Shades → Rgb
light_text dim shades = light_shade (if dim then mixture shades.light white else shades.light)

abbrev pub dark_text : (dim : Bool) → Shades → Rgb
dark_text dim shades = dark_shade (if dim then mixture shades.dark black else shades.dark)

-- a text on the page's ground
abbrev pub on_page : Scheme → (dim : Bool) → (text : Color) → List ℕ
on_page scheme dim text =
    themed scheme (codes "color:") (light_text dim (shades_of text)) (dark_text dim (shades_of text))

-- a text on a ground of the page's own text, and that ground: black on light pages, white on dark ones
abbrev pub reversed_text : Scheme → (dim : Bool) → (text : Color) → List ℕ
reversed_text scheme dim text =
    themed scheme (codes "color:") (dark_text dim (shades_of text)) (light_text dim (shades_of text))

abbrev pub reversed_ground : Scheme → List ℕ
reversed_ground scheme = themed scheme (codes "background-color:") black white

abbrev pub on_reversed : Scheme → (dim : Bool) → (text : Color) → List ℕ
on_reversed scheme dim text = reversed_text scheme dim text ++ reversed_ground scheme

-- what is written on a ground that is chosen: white or black where no colour is chosen for it
abbrev pub color_on : (text : Color) → (behind : Rgb) → Rgb
color_on text behind = if is_chosen text then (shades_of text).fixed else ink behind

abbrev pub text_on : (dim : Bool) → (text : Color) → (behind : Rgb) → Rgb
text_on dim text behind = if dim then dim_on (color_on text behind) behind else color_on text behind

abbrev pub on_chosen : (dim : Bool) → (text : Color) → (behind : Rgb) → List ℕ
on_chosen dim text behind =
    declared (codes "color:") (text_on dim text behind) ++ declared (codes "background-color:") behind

-- The colours of a style. Where none is selected the page's own stay.
unfoldable pub colors_css : Scheme → Style → List ℕ
colors_css scheme style =
    if is_chosen (behind_of style) then on_chosen style.dim (text_of style) (shades_of (behind_of style)).fixed
    else if style.reverse then on_reversed scheme style.dim (text_of style)
    else if is_chosen (text_of style) || style.dim then on_page scheme style.dim (text_of style)
    else []

-- the text, where it is wanted
abbrev pub text_if : Bool → List ℕ → List ℕ
text_if wanted text = if wanted then text else []

abbrev pub is_underlined : Underline → Bool
is_underlined Off = false
is_underlined Single = true
is_underlined Double = true
is_underlined Curly = true
is_underlined Dotted = true
is_underlined Dashed = true

-- The lines (CSS Text Decoration, 2.1, which lists blinking among them), and how an underline
-- is drawn (2.2).
abbrev pub lines_css : Bool → Bool → Bool → Bool → List ℕ
lines_css underlined overlined struck_out blink =
    text_if (underlined || (overlined || (struck_out || blink)))
    (codes "text-decoration-line:" ++ (text_if underlined (codes " underline") ++ (text_if overlined (codes " overline")
    ++ (text_if struck_out (codes " line-through") ++ (text_if blink (codes " blink") ++ codes ";")))))

abbrev pub underline_css : Underline → List ℕ
underline_css Off = []
underline_css Single = []
underline_css Double = codes "text-decoration-style:double;"
underline_css Curly = codes "text-decoration-style:wavy;"
underline_css Dotted = codes "text-decoration-style:dotted;"
underline_css Dashed = codes "text-decoration-style:dashed;"

-- what is not a colour; dim is one
abbrev pub others_css : Style → List ℕ
others_css style =
    text_if style.bold (codes "font-weight:bold;") ++ (text_if style.italic (codes "font-style:italic;")
    ++ (lines_css (is_underlined style.underline) style.overlined style.struck_out style.blink
    ++ (underline_css style.underline ++ text_if style.hidden (codes "visibility:hidden;"))))

-- the declarations of a style; of the plain one there are none
abbrev pub css : Scheme → Style → List ℕ
css scheme style = colors_css scheme style ++ others_css style

-- Whether a style has a ground of its own; and that ground as the colour of a shape that is drawn behind its text: the
-- one that is selected, or else the colour of the page's text.
abbrev pub has_ground : Style → Bool
has_ground style = is_chosen (behind_of style) || style.reverse

abbrev pub ground_css : Style → List ℕ
ground_css style =
    if is_chosen (behind_of style) then declared (codes "color:") (shades_of (behind_of style)).fixed
    else codes "color:inherit;"
