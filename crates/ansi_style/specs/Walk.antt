-- What the code that walks over the groups alone speaks of: what it expects at each, and what a
-- group does by that. No public clause cites it; that the walk makes the style of
-- specs/Rendition is the contract of Style.select.
use Rattle.std.specs.Prelude.{◌≡◌, ◌≤◌, ℕ, ◌==◌, List, [], ◌∷◌, length, map, if◌then◌else◌, Option, None, Some}
use Rattle.ansi_style.specs.declared.style.Style.{Style}
use Rattle.ansi_style.specs.declared.style.Color.{Color}
use Rattle.ansi_style.specs.declared.select.Target.{Target}
use Rattle.ansi_style.specs.declared.select.Target.TheVariants.{Foreground, Background, Line}
use Rattle.ansi_style.specs.declared.select.Expected.{Expected}
use Rattle.ansi_style.specs.declared.select.Expected.TheVariants.{Code, Kind, Index, RedValue, GreenValue, BlueValue}
use Rattle.ansi_style.specs.Rendition.{with_code, with_underline, indexed, mixed, color_in}

-- what the colour is for that a code begins
unfoldable pub target_of : ℕ → Option Target
target_of code =
    if code == 38 then Some Foreground
    else if code == 48 then Some Background
    else if code == 58 then Some Line
    else None

-- a colour in its place; one that is none changes nothing
abbrev pub with_target_color : Target → Option Color → Style → Style
with_target_color target None style = style
with_target_color Foreground (Some color) style = record style { foreground = color }
with_target_color Background (Some color) style = record style { background = color }
with_target_color Line (Some color) style = style

-- a group of several fields
abbrev pub with_target : Option Target → ℕ → List ℕ → Style → Style
with_target (Some target) code fields style = with_target_color target (color_in fields) style
with_target None code (kind ∷ []) style = if code == 4 then with_underline kind style else style
with_target None code fields style = style

-- a group where something is expected
abbrev pub with_expected : Expected → List ℕ → Style → Style
with_expected Code (code ∷ []) style = with_code code style
with_expected Code (code ∷ field ∷ fields) style = with_target (target_of code) code (field ∷ fields) style
with_expected (Index target) (n ∷ []) style = with_target_color target (indexed n) style
with_expected (BlueValue target red green) (blue ∷ []) style = with_target_color target (mixed red green blue) style
with_expected expected group style = style

abbrev pub expected_for : Option Target → Expected
expected_for (Some target) = Kind target
expected_for None = Code

abbrev pub expected_for_kind : Target → ℕ → Expected
expected_for_kind target kind = if kind == 5 then Index target else if kind == 2 then RedValue target else Code

-- what is expected after a group
abbrev pub expected_after : Expected → List ℕ → Expected
expected_after Code (code ∷ []) = expected_for (target_of code)
expected_after (Kind target) (kind ∷ []) = expected_for_kind target kind
expected_after (RedValue target) (red ∷ []) = GreenValue target red
expected_after (GreenValue target red) (green ∷ []) = BlueValue target red green
expected_after expected group = Code

-- the groups, one after another, from what is expected at the first
abbrev pub selected_from : Expected → List (List ℕ) → Style → Style
selected_from expected [] style = style
selected_from expected (group ∷ groups) style =
    selected_from (expected_after expected group) groups (with_expected expected group style)

-- fields that are each a group of its own
abbrev pub alone : List ℕ → List (List ℕ)
alone fields = map (λ field. field ∷ []) fields

-- Fields at the front are taken, of which this is expected first: what is left makes of the style then what all make of
-- the one before. No more are left.
abbrev pub TakesFront : Expected → (fields left : List ℕ) → (old new : Style) → Type 0
TakesFront expected fields left old new =
    (selected_from Code (alone left) new ≡ selected_from expected (alone fields) old) × (length left ≤ length fields)
