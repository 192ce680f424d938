-- The control sequence that leads from any style to a given one.
use Rattle.std.specs.Prelude.{ℕ, ◌+◌, Bool, false, List, [], ◌∷◌, ◌++◌, if◌then◌else◌}
use Rattle.std.specs.List.{flat_map}
use Rattle.anstyle_parse.specs.Stream.Bytes.{semicolon}
use Rattle.anstyle_parse.specs.Stream.Call.{Call, csi_dispatch}
use Rattle.anstyle_parse.specs.Stream.Canon.{canon}
use Rattle.anstyle_parse.specs.Stream.Groups.{fields_text}
use Rattle.ansi_style.specs.declared.style.Style.{Style}
use Rattle.ansi_style.specs.declared.style.Color.{Color}
use Rattle.ansi_style.specs.declared.style.Color.TheVariants.{Default, Named, Bright, Indexed, Direct}
use Rattle.ansi_style.specs.declared.style.Underline.{Underline}
use Rattle.ansi_style.specs.declared.style.Underline.TheVariants.{Off, Single, Double, Curly, Dotted, Dashed}
use Rattle.ansi_style.specs.Style.{hue_number}

-- a group of one field
abbrev pub one : ℕ → List ℕ
one field = field ∷ []

-- the code, where it is wanted
abbrev pub code_if : Bool → ℕ → List (List ℕ)
code_if wanted code = if wanted then one code ∷ [] else []

-- a colour, from 30 on for the text and from 40 on for the background
abbrev pub color_codes : ℕ → Color → List (List ℕ)
color_codes base Default = []
color_codes base (Named hue) = one (base + hue_number hue) ∷ []
color_codes base (Bright hue) = one (base + 60 + hue_number hue) ∷ []
color_codes base (Indexed n) = one (base + 8) ∷ one 5 ∷ one n ∷ []
color_codes base (Direct red green blue) = one (base + 8) ∷ one 2 ∷ one red ∷ one green ∷ one blue ∷ []

abbrev pub underline_codes : Underline → List (List ℕ)
underline_codes Off = []
underline_codes Single = one 4 ∷ []
underline_codes Double = one 21 ∷ []
underline_codes Curly = (4 ∷ 3 ∷ []) ∷ []
underline_codes Dotted = (4 ∷ 4 ∷ []) ∷ []
underline_codes Dashed = (4 ∷ 5 ∷ []) ∷ []

-- what is not plain
abbrev pub other_codes : Style → List (List ℕ)
other_codes style =
    code_if style.bold 1 ++ (code_if style.dim 2 ++ (code_if style.italic 3
    ++ (underline_codes style.underline ++ (code_if style.blink 5 ++ (code_if style.reverse 7
    ++ (code_if style.hidden 8 ++ (code_if style.struck_out 9 ++ (code_if style.overlined 53
    ++ (color_codes 30 style.foreground ++ color_codes 40 style.background)))))))))

-- 0, which resets, and then what is not plain
abbrev pub codes_of : Style → List (List ℕ)
codes_of style = one 0 ∷ other_codes style

-- the call that selects these groups
abbrev pub selection : List (List ℕ) → Call
selection groups = csi_dispatch groups [] false 0x6D

-- The sequence in bytes: the canonical text of the call that selects the style.
unfoldable pub codes_text : Style → List ℕ
codes_text style = canon (selection (codes_of style) ∷ [])

-- groups after the first, each with 3B before it
abbrev pub more_text : List (List ℕ) → List ℕ
more_text groups = flat_map (λ group. semicolon ∷ fields_text group) groups
