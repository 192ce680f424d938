-- The codes of a style: how they are written, that they are lawful, and where they lead.
use Rattle.std.proofs.Common.{◌≡◌, ℕ, ◌+◌, ◌<◌, ◌≤◌, Bool, true, false, ◌&&◌, nat_lt, List, [], ◌∷◌, ◌++◌, length, take, map, get_or, Some, None, refl, sym, ap, ap₂, ◌∙◌, append_assoc, append-nil, length-append, arith}
use Rattle.std.specs.Prelude.{decimal, if◌then◌else◌}
use Rattle.std.specs.Fmt.{digits}
use Rattle.std.specs.List.{concat, AllByRecursion}
use Rattle.std.proofs.lemmas.Bool.{lt-ltb}
use Rattle.std.proofs.lemmas.Grind.{flat_map-append}
use Rattle.std.proofs.lemmas.List.{map_more}
use Rattle.anstyle_parse.specs.Stream.Bytes.{semicolon, escape_byte, is_within}
use Rattle.anstyle_parse.specs.Stream.Calls.{AreCalls}
use Rattle.anstyle_parse.specs.Stream.Groups.{fields_text, groups_text}
use Rattle.anstyle_parse.specs.Laws.Lawful.{IsGroup, AreLawful}
use Rattle.anstyle_parse.specs.Laws.TextLaw.{AreSent}
use Rattle.anstyle_parse.proofs.Canonical.Replay.{replay}
use Rattle.anstyle_parse.proofs.Arguments.Lengths.{concat-append}
use Rattle.anstyle_parse.proofs.Canonical.DebugText.{canon-csi_dispatch, IsHeaderCall-sent}
use Rattle.ansi_style.specs.declared.style.Style.{Style}
use Rattle.ansi_style.specs.declared.style.Color.{Color}
use Rattle.ansi_style.specs.declared.style.Color.TheVariants.{Default, Named, Bright, Indexed, Direct}
use Rattle.ansi_style.specs.declared.style.Underline.{Underline}
use Rattle.ansi_style.specs.declared.style.Underline.TheVariants.{Off, Single, Double, Curly, Dotted, Dashed}
use Rattle.ansi_style.specs.declared.style.Hue.{Hue}
use Rattle.ansi_style.specs.declared.style.Hue.TheVariants.{Black, Red, Green, Yellow, Blue, Magenta, Cyan, White}
use Rattle.ansi_style.specs.Style.{plain, hue_number, HasBytes}
use Rattle.ansi_style.specs.Rendition.{with_code, with_underline, with_color, selected, AreWhole}
use Rattle.ansi_style.specs.Codes.{one, code_if, color_codes, underline_codes, other_codes, codes_of, codes_text, selection, more_text}
use Rattle.ansi_style.proofs.RenditionLemmas.{selected-append, selected-reset_first}

pub more_text-append : (first second : List (List ℕ)) → more_text (first ++ second) ≡ more_text first ++ more_text second
more_text-append first second = flat_map-append (λ group. semicolon ∷ fields_text group) first second

-- one number more
pub more_text-number : (numbers : List ℕ) (i : ℕ) → i < length numbers
    → more_text (map one (take (i + 1) numbers)) ≡ (more_text (map one (take i numbers)) ++ (semicolon ∷ [])) ++ decimal (get_or numbers i 0)
more_text-number numbers i within =
    let before = map one (take i numbers) in
    let number = get_or numbers i 0 in
    ap more_text (map_more one numbers i 0 within)
    ∙ more_text-append before (one number ∷ [])
    ∙ ap (λ text. more_text before ++ (semicolon ∷ text)) (append-nil (decimal number))
    ∙ sym (append_assoc (more_text before) (semicolon ∷ []) (decimal number))

-- groups are written as the first, and then the others, each with 3B before it
pub groups_text-more : (group : List ℕ) (groups : List (List ℕ)) → groups_text (group ∷ groups) ≡ fields_text group ++ more_text groups
groups_text-more group [] = sym (append-nil (fields_text group))
groups_text-more group (next ∷ groups) = ap (λ text. fields_text group ++ (semicolon ∷ text)) (groups_text-more next groups)

-- a part of the codes, and what is written after it
before : (part others : List (List ℕ)) (end text : List ℕ) → more_text others ++ end ≡ text → more_text (part ++ others) ++ end ≡ more_text part ++ text
before part others end text e =
    ap (λ l. l ++ end) (more_text-append part others)
    ∙ append_assoc (more_text part) (more_text others) end
    ∙ ap (λ l. more_text part ++ l) e

-- the sequence, part by part
pub codes_text-parts : (style : Style)
    → codes_text style ≡ (escape_byte ∷ 0x5B ∷ 0x30 ∷ []) ++ (more_text (code_if style.bold 1) ++ (more_text (code_if style.dim 2) ++ (more_text (code_if style.italic 3)
    ++ (more_text (underline_codes style.underline) ++ (more_text (code_if style.blink 5) ++ (more_text (code_if style.reverse 7) ++ (more_text (code_if style.hidden 8)
    ++ (more_text (code_if style.struck_out 9) ++ (more_text (code_if style.overlined 53) ++ (more_text (color_codes 30 style.foreground)
    ++ (more_text (color_codes 40 style.background) ++ (0x6D ∷ []))))))))))))
unfolding codes_text digits
codes_text-parts style =
    canon-csi_dispatch (codes_of style)
    ∙ ap (λ text. escape_byte ∷ 0x5B ∷ (text ++ 0x6D ∷ [])) (groups_text-more (one 0) (other_codes style))
    ∙ ap (λ text. escape_byte ∷ 0x5B ∷ 0x30 ∷ text)
    (before (code_if style.bold 1) _ _ _ (before (code_if style.dim 2) _ _ _ (before (code_if style.italic 3) _ _ _
    (before (underline_codes style.underline) _ _ _ (before (code_if style.blink 5) _ _ _ (before (code_if style.reverse 7) _ _ _
    (before (code_if style.hidden 8) _ _ _ (before (code_if style.struck_out 9) _ _ _ (before (code_if style.overlined 53) _ _ _
    (before (color_codes 30 style.foreground) (color_codes 40 style.background) (0x6D ∷ []) _ refl))))))))))

-- groups that a parser can hand out, of at most so many fields
record FitIn (n : ℕ) (groups : List (List ℕ)) : Type 0 where
  each : AllByRecursion IsGroup groups
  few : length (concat groups) ≤ n

All-append : (first second : List (List ℕ)) → AllByRecursion IsGroup first → AllByRecursion IsGroup second → AllByRecursion IsGroup (first ++ second)
All-append [] second a b = b
All-append (group ∷ first) second a b = (a.0, All-append first second a.1 b)

FitIn-append : (m n : ℕ) (first second : List (List ℕ)) → FitIn m first → FitIn n second → FitIn (m + n) (first ++ second)
FitIn-append m n first second a b = record {
  each = All-append first second a.each b.each;
  few = omega (arith, ap length (concat-append first second), length-append (concat first) (concat second), a.few, b.few);
}

FitIn-code_if : (wanted : Bool) (code : ℕ) → code ≤ 65535 → FitIn 1 (code_if wanted code)
FitIn-code_if true code small = record { each = ((omega arith, (small, tt)), tt); few = omega arith }
FitIn-code_if false code small = record { each = tt; few = omega arith }

FitIn-underline : (kind : Underline) → FitIn 2 (underline_codes kind)
FitIn-underline Off = record { each = tt; few = omega arith }
FitIn-underline Single = record { each = ((omega arith, (omega arith, tt)), tt); few = omega arith }
FitIn-underline Double = record { each = ((omega arith, (omega arith, tt)), tt); few = omega arith }
FitIn-underline Curly = record { each = ((omega arith, (omega arith, (omega arith, tt))), tt); few = omega arith }
FitIn-underline Dotted = record { each = ((omega arith, (omega arith, (omega arith, tt))), tt); few = omega arith }
FitIn-underline Dashed = record { each = ((omega arith, (omega arith, (omega arith, tt))), tt); few = omega arith }

hue_number-lt : (hue : Hue) → hue_number hue < 8
hue_number-lt Black = omega arith
hue_number-lt Red = omega arith
hue_number-lt Green = omega arith
hue_number-lt Yellow = omega arith
hue_number-lt Blue = omega arith
hue_number-lt Magenta = omega arith
hue_number-lt Cyan = omega arith
hue_number-lt White = omega arith

IsGroup-one : (n : ℕ) → n ≤ 65535 → IsGroup (one n)
IsGroup-one n small = (omega arith, (small, tt))

FitIn-color : (base : ℕ) (color : Color) → base ≤ 40 → HasBytes color → FitIn 5 (color_codes base color)
FitIn-color base Default small bytes = record { each = tt; few = omega arith }
FitIn-color base (Named hue) small bytes = record { each = (IsGroup-one _ (omega (arith, hue_number-lt hue)), tt); few = omega arith }
FitIn-color base (Bright hue) small bytes = record { each = (IsGroup-one _ (omega (arith, hue_number-lt hue)), tt); few = omega arith }
FitIn-color base (Indexed n) small bytes = record {
  each = (IsGroup-one _ (omega arith), (IsGroup-one _ (omega arith), (IsGroup-one _ (omega arith), tt)));
  few = omega arith;
}
FitIn-color base (Direct red green blue) small bytes = record {
  each = (IsGroup-one _ (omega arith), (IsGroup-one _ (omega arith), (IsGroup-one _ (omega (arith, bytes.0)), (IsGroup-one _ (omega (arith, bytes.1)), (IsGroup-one _ (omega (arith, bytes.2)), tt)))));
  few = omega arith;
}

module _ (style : Style) (foreground_bytes : HasBytes style.foreground) (background_bytes : HasBytes style.background) where
  FitIn-other_codes : FitIn 20 (other_codes style)
  FitIn-other_codes =
      FitIn-append 1 19 _ _ (FitIn-code_if style.bold 1 (omega arith)) (FitIn-append 1 18 _ _ (FitIn-code_if style.dim 2 (omega arith))
      (FitIn-append 1 17 _ _ (FitIn-code_if style.italic 3 (omega arith)) (FitIn-append 2 15 _ _ (FitIn-underline style.underline)
      (FitIn-append 1 14 _ _ (FitIn-code_if style.blink 5 (omega arith)) (FitIn-append 1 13 _ _ (FitIn-code_if style.reverse 7 (omega arith))
      (FitIn-append 1 12 _ _ (FitIn-code_if style.hidden 8 (omega arith)) (FitIn-append 1 11 _ _ (FitIn-code_if style.struck_out 9 (omega arith))
      (FitIn-append 1 10 _ _ (FitIn-code_if style.overlined 53 (omega arith))
      (FitIn-append 5 5 _ _ (FitIn-color 30 style.foreground (omega arith) foreground_bytes) (FitIn-color 40 style.background (omega arith) background_bytes))))))))))

  -- they are groups that a parser can hand out
  pub AreSent-codes_of : AreSent (codes_of style)
  AreSent-codes_of = record {
    each = (IsGroup-one 0 (omega arith), FitIn-other_codes.each);
    some_group = omega arith;
    fields_fit = omega (arith, FitIn-other_codes.few);
  }

  -- so the call is lawful, and its text makes it
  pub AreLawful-selection : AreLawful (selection (codes_of style) ∷ [])
  AreLawful-selection = (IsHeaderCall-sent (codes_of style) AreSent-codes_of, tt)

  pub AreCalls-codes_text : AreCalls (codes_text style) (selection (codes_of style) ∷ [])
  unfolding codes_text
  AreCalls-codes_text = replay (selection (codes_of style) ∷ []) AreLawful-selection

-- a code that is wanted sets, and one that is not leaves
flag : (wanted : Bool) (code : ℕ) (others : List (List ℕ)) (style : Style) (set : Bool → Style) → AreWhole (one code ∷ [])
    → selected (one code ∷ []) style ≡ set true → style ≡ set false → selected (code_if wanted code ++ others) style ≡ selected others (set wanted)
flag true code others style set whole on off = selected-append (one code ∷ []) others style whole ∙ ap (selected others) on
flag false code others style set whole on off = ap (selected others) off

underlined : (kind : Underline) (others : List (List ℕ)) (style : Style) → style ≡ record style { underline = Off }
    → selected (underline_codes kind ++ others) style ≡ selected others (record style { underline = kind })
unfolding with_code with_underline is_within
underlined Off others style off = ap (selected others) off
underlined Single others style off = refl
underlined Double others style off = refl
underlined Curly others style off = refl
underlined Dotted others style off = refl
underlined Dashed others style off = refl

all_below : (red green blue : ℕ) → red < 256 → green < 256 → blue < 256 → (nat_lt red 256 && (nat_lt green 256 && nat_lt blue 256)) ≡ true
all_below red green blue r g b = ap₂ (λ x y. x && y) (lt-ltb red 256 r) (ap₂ (λ x y. x && y) (lt-ltb green 256 g) (lt-ltb blue 256 b))

coloured : (color : Color) (others : List (List ℕ)) (style : Style) → HasBytes color → style ≡ record style { foreground = Default }
    → selected (color_codes 30 color ++ others) style ≡ selected others (record style { foreground = color })
unfolding with_code is_within
coloured Default others style bytes off = ap (selected others) off
coloured (Named Black) others style bytes off = refl
coloured (Named Red) others style bytes off = refl
coloured (Named Green) others style bytes off = refl
coloured (Named Yellow) others style bytes off = refl
coloured (Named Blue) others style bytes off = refl
coloured (Named Magenta) others style bytes off = refl
coloured (Named Cyan) others style bytes off = refl
coloured (Named White) others style bytes off = refl
coloured (Bright Black) others style bytes off = refl
coloured (Bright Red) others style bytes off = refl
coloured (Bright Green) others style bytes off = refl
coloured (Bright Yellow) others style bytes off = refl
coloured (Bright Blue) others style bytes off = refl
coloured (Bright Magenta) others style bytes off = refl
coloured (Bright Cyan) others style bytes off = refl
coloured (Bright White) others style bytes off = refl
coloured (Indexed n) others style bytes off =
    ap (λ t. selected others (with_color 38 (if t then Some (Indexed n) else None) style)) (lt-ltb n 256 bytes)
coloured (Direct red green blue) others style bytes off =
    ap (λ t. selected others (with_color 38 (if t then Some (Direct red green blue) else None) style)) (all_below red green blue bytes.0 bytes.1 bytes.2)

coloured_after : (color : Color) (style : Style) → HasBytes color → style ≡ record style { background = Default }
    → selected (color_codes 40 color) style ≡ record style { background = color }
unfolding with_code is_within
coloured_after Default style bytes off = off
coloured_after (Named Black) style bytes off = refl
coloured_after (Named Red) style bytes off = refl
coloured_after (Named Green) style bytes off = refl
coloured_after (Named Yellow) style bytes off = refl
coloured_after (Named Blue) style bytes off = refl
coloured_after (Named Magenta) style bytes off = refl
coloured_after (Named Cyan) style bytes off = refl
coloured_after (Named White) style bytes off = refl
coloured_after (Bright Black) style bytes off = refl
coloured_after (Bright Red) style bytes off = refl
coloured_after (Bright Green) style bytes off = refl
coloured_after (Bright Yellow) style bytes off = refl
coloured_after (Bright Blue) style bytes off = refl
coloured_after (Bright Magenta) style bytes off = refl
coloured_after (Bright Cyan) style bytes off = refl
coloured_after (Bright White) style bytes off = refl
coloured_after (Indexed n) style bytes off =
    ap (λ t. with_color 48 (if t then Some (Indexed n) else None) style) (lt-ltb n 256 bytes)
coloured_after (Direct red green blue) style bytes off =
    ap (λ t. with_color 48 (if t then Some (Direct red green blue) else None) style) (all_below red green blue bytes.0 bytes.1 bytes.2)

-- From any style the codes lead to theirs.
pub selected-codes_of : (style old : Style) → HasBytes style.foreground → HasBytes style.background → selected (codes_of style) old ≡ style
unfolding with_code is_within
selected-codes_of style old foreground_bytes background_bytes =
    let s0 = plain in
    let s1 : Style = record s0 { bold = style.bold } in
    let s2 : Style = record s1 { dim = style.dim } in
    let s3 : Style = record s2 { italic = style.italic } in
    let s4 : Style = record s3 { underline = style.underline } in
    let s5 : Style = record s4 { blink = style.blink } in
    let s6 : Style = record s5 { reverse = style.reverse } in
    let s7 : Style = record s6 { hidden = style.hidden } in
    let s8 : Style = record s7 { struck_out = style.struck_out } in
    let s9 : Style = record s8 { overlined = style.overlined } in
    let s10 : Style = record s9 { foreground = style.foreground } in
    selected-reset_first (other_codes style) old
    ∙ flag style.bold 1 _ s0 (λ b. record s0 { bold = b }) refl refl refl
    ∙ flag style.dim 2 _ s1 (λ b. record s1 { dim = b }) refl refl refl
    ∙ flag style.italic 3 _ s2 (λ b. record s2 { italic = b }) refl refl refl
    ∙ underlined style.underline _ s3 refl
    ∙ flag style.blink 5 _ s4 (λ b. record s4 { blink = b }) refl refl refl
    ∙ flag style.reverse 7 _ s5 (λ b. record s5 { reverse = b }) refl refl refl
    ∙ flag style.hidden 8 _ s6 (λ b. record s6 { hidden = b }) refl refl refl
    ∙ flag style.struck_out 9 _ s7 (λ b. record s7 { struck_out = b }) refl refl refl
    ∙ flag style.overlined 53 _ s8 (λ b. record s8 { overlined = b }) refl refl refl
    ∙ coloured style.foreground _ s9 foreground_bytes refl
    ∙ coloured_after style.background s10 background_bytes refl
