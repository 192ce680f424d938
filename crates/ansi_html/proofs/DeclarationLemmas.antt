-- A style's declarations stand in the grammar, and so hold no quote, no reference and only ASCII.
use Rattle.std.proofs.Common.{◌≡◌, ◌<◌, ◌≤◌, ℕ, ◌+◌, ◌%◌, ◌/◌, Bool, true, false, ◌&&◌, eqb, List, [], ◌∷◌, ◌++◌, codes, refl, sym, ap, subst, append_assoc, append-nil, arith}
use Rattle.std.specs.Prelude.{not, nat_lt, nat_le, if◌then◌else◌}
use Rattle.std.specs.List.{list_all}
use Rattle.std.proofs.lemmas.Bool.{lt-ltb, le-leb, and_from, and_parts, ne_eqb, ltb-true, leb-true}
use Rattle.ansi_style.specs.declared.style.Style.{Style}
use Rattle.ansi_style.specs.declared.style.Underline.{Underline}
use Rattle.ansi_style.specs.declared.style.Underline.TheVariants.{Off, Single, Double, Curly, Dotted, Dashed}
use Rattle.ansi_html.specs.declared.contrast.Rgb.{Rgb}
use Rattle.ansi_html.specs.declared.scheme.Scheme.{Scheme}
use Rattle.ansi_html.specs.declared.scheme.Scheme.TheVariants.{Light, Dark, Both}
use Rattle.ansi_html.specs.Contrast.{black, white}
use Rattle.ansi_html.specs.Palette.{hex_digit, hex_byte, hex, shades_of}
use Rattle.ansi_html.specs.Css.{declared, light_dark, themed, colors_css, text_if, is_underlined, lines_css, underline_css, others_css, css, is_chosen, behind_of, ground_css}
use Rattle.ansi_html.specs.Html.{escaped_text}
use Rattle.ansi_html.specs.Grammar.{is_special, AreClear, AreReadable, of_page, on_page, on_reversed, on_color, AreColors, readable, chosen, AreLines, no_line, underline, overline, line_through, blink, IsDeclaration, bold, italic, hidden, lines, double, wavy, dotted, dashed, AreDeclarations, no_declaration, declaration}
use Rattle.ansi_html.proofs.ColorLemmas.{choose, AreColors-css}
use Rattle.ansi_html.proofs.HtmlLemmas.{escaped_text-clear, false-from_not}

-- one declaration
single : (first : List ℕ) → IsDeclaration first → AreDeclarations first
single first is = subst AreDeclarations (append-nil first) (declaration first [] is no_declaration)

AreDeclarations-append : {first : List ℕ} (second : List ℕ) → AreDeclarations first → AreDeclarations second → AreDeclarations (first ++ second)
AreDeclarations-append second no_declaration more = more
AreDeclarations-append second (declaration first rest is others) more =
    subst AreDeclarations (sym (append_assoc first rest second)) (declaration first (rest ++ second) is (AreDeclarations-append second others more))

AreDeclarations-if : (wanted : Bool) (text : List ℕ) → AreDeclarations text → AreDeclarations (text_if wanted text)
AreDeclarations-if wanted text are = choose AreDeclarations wanted text [] are no_declaration

lines_if : (wanted : Bool) (name rest : List ℕ) → AreLines (name ++ rest) → AreLines rest → AreLines (text_if wanted name ++ rest)
lines_if true name rest more none = more
lines_if false name rest more none = none

AreDeclarations-lines : (underlined overlined struck_out blinking : Bool) → AreDeclarations (lines_css underlined overlined struck_out blinking)
AreDeclarations-lines underlined overlined struck_out blinking =
    let l3 : AreLines (text_if blinking (codes " blink")) = choose AreLines blinking _ _ (blink [] no_line) no_line in
    let l2 = lines_if struck_out (codes " line-through") (text_if blinking (codes " blink")) (line_through _ l3) l3 in
    let l1 = lines_if overlined (codes " overline") (text_if struck_out (codes " line-through") ++ text_if blinking (codes " blink")) (overline _ l2) l2 in
    let l0 = lines_if underlined (codes " underline") (text_if overlined (codes " overline") ++ (text_if struck_out (codes " line-through") ++ text_if blinking (codes " blink"))) (underline _ l1) l1 in
    AreDeclarations-if _ _ (subst AreDeclarations (ap (λ l. codes "text-decoration-line:" ++ l) (simp append_assoc)) (single _ (lines _ l0)))

AreDeclarations-underline : (kind : Underline) → AreDeclarations (underline_css kind)
AreDeclarations-underline Off = no_declaration
AreDeclarations-underline Single = no_declaration
AreDeclarations-underline Double = single _ double
AreDeclarations-underline Curly = single _ wavy
AreDeclarations-underline Dotted = single _ dotted
AreDeclarations-underline Dashed = single _ dashed

-- what is not a colour is a list of declarations
pub AreDeclarations-others : (style : Style) → AreDeclarations (others_css style)
AreDeclarations-others style =
    AreDeclarations-append _ (AreDeclarations-if style.bold _ (single _ bold))
    (AreDeclarations-append _ (AreDeclarations-if style.italic _ (single _ italic))
    (AreDeclarations-append _ (AreDeclarations-lines (is_underlined style.underline) style.overlined style.struck_out style.blink)
    (AreDeclarations-append _ (AreDeclarations-underline style.underline) (AreDeclarations-if style.hidden _ (single _ hidden)))))

-- a byte that may stand in an attribute as it is: of ASCII, no control, and none with a meaning in HTML
unfoldable pub is_safe : ℕ → Bool
is_safe b =
    nat_le 0x20 b && (nat_lt b 0x80 && (not (eqb b 0x22) && (not (eqb b 0x26) && (not (eqb b 0x27) && (not (eqb b 0x3C) && not (eqb b 0x3E))))))

abbrev pub AreSafe : List ℕ → Type 0
AreSafe bytes = list_all is_safe bytes ≡ true

pub AreSafe-append : (first second : List ℕ) → AreSafe first → AreSafe second → AreSafe (first ++ second)
AreSafe-append [] second a b = b
AreSafe-append (x ∷ first) second a b =
    let parts = and_parts (is_safe x) (list_all is_safe first) a in
    and_from (is_safe x) (list_all is_safe (first ++ second)) parts.0 (AreSafe-append first second parts.1 b)

not_eqb : (b other : ℕ) → (b ≡ other → ⊥) → not (eqb b other) ≡ true
not_eqb b other differ = ap not (ne_eqb b other differ)

pub safe_between : (b : ℕ) → 0x28 ≤ b → b < 0x80 → (b ≡ 0x3C → ⊥) → (b ≡ 0x3E → ⊥) → is_safe b ≡ true
unfolding is_safe
safe_between b low high no_less no_greater =
    and_from (nat_le 0x20 b) _ (le-leb 0x20 b (omega (arith, low)))
    (and_from (nat_lt b 0x80) _ (lt-ltb b 0x80 high)
    (and_from (not (eqb b 0x22)) _ (not_eqb b 0x22 (λ e. omega arith))
    (and_from (not (eqb b 0x26)) _ (not_eqb b 0x26 (λ e. omega arith))
    (and_from (not (eqb b 0x27)) _ (not_eqb b 0x27 (λ e. omega arith))
    (and_from (not (eqb b 0x3C)) (not (eqb b 0x3E)) (not_eqb b 0x3C no_less) (not_eqb b 0x3E no_greater))))))

-- a digit below ten, and a letter for a higher one
pub safe_decimal : (n : ℕ) → n < 10 → is_safe (0x30 + n) ≡ true
safe_decimal n low = safe_between (0x30 + n) (omega arith) (omega arith) (λ e. omega arith) (λ e. omega arith)

pub safe_letter : (n : ℕ) → n < 16 → is_safe (0x57 + n) ≡ true
safe_letter n low = safe_between (0x57 + n) (omega arith) (omega arith) (λ e. omega arith) (λ e. omega arith)

safe_digit : (n : ℕ) → is_safe (hex_digit n) ≡ true
safe_digit n = by_case (nat_lt (n % 16) 10) refl
  where
    by_case : (low : Bool) → nat_lt (n % 16) 10 ≡ low → is_safe (if low then 0x30 + n % 16 else 0x57 + n % 16) ≡ true
    by_case true e = safe_decimal (n % 16) (ltb-true (n % 16) 10 e)
    by_case false e = safe_letter (n % 16) (omega arith)

AreSafe-byte : (n : ℕ) → AreSafe (hex_byte n)
AreSafe-byte n =
    and_from (is_safe (hex_digit (n / 16))) (is_safe (hex_digit n) && true) (safe_digit (n / 16)) (and_from (is_safe (hex_digit n)) true (safe_digit n) refl)

AreSafe-hex : (color : Rgb) → AreSafe (hex color)
unfolding is_safe
AreSafe-hex color =
    AreSafe-append (codes "#") (hex_byte color.red ++ (hex_byte color.green ++ hex_byte color.blue)) refl
    (AreSafe-append (hex_byte color.red) (hex_byte color.green ++ hex_byte color.blue) (AreSafe-byte color.red)
    (AreSafe-append (hex_byte color.green) (hex_byte color.blue) (AreSafe-byte color.green) (AreSafe-byte color.blue)))

AreSafe-declared : (property : List ℕ) (color : Rgb) → AreSafe property → AreSafe (declared property color)
unfolding is_safe
AreSafe-declared property color safe =
    AreSafe-append property (hex color ++ codes ";") safe (AreSafe-append (hex color) (codes ";") (AreSafe-hex color) refl)

AreSafe-light_dark : (property : List ℕ) (light dark : Rgb) → AreSafe property → AreSafe (light_dark property light dark)
unfolding is_safe
AreSafe-light_dark property light dark safe =
    AreSafe-append property (codes "light-dark(" ++ (hex light ++ (codes "," ++ (hex dark ++ codes ");")))) safe
    (AreSafe-append (codes "light-dark(") (hex light ++ (codes "," ++ (hex dark ++ codes ");"))) refl
    (AreSafe-append (hex light) (codes "," ++ (hex dark ++ codes ");")) (AreSafe-hex light)
    (AreSafe-append (codes ",") (hex dark ++ codes ");") refl (AreSafe-append (hex dark) (codes ");") (AreSafe-hex dark) refl))))

AreSafe-themed : (scheme : Scheme) (property : List ℕ) (light dark : Rgb) → AreSafe property → AreSafe (themed scheme property light dark)
AreSafe-themed Light property light dark safe = AreSafe-declared property light safe
AreSafe-themed Dark property light dark safe = AreSafe-declared property dark safe
AreSafe-themed Both property light dark safe =
    AreSafe-append (declared property light) (light_dark property light dark) (AreSafe-declared property light safe) (AreSafe-light_dark property light dark safe)

AreSafe-pair : (text behind : Rgb) → AreSafe (declared (codes "color:") text ++ declared (codes "background-color:") behind)
unfolding is_safe
AreSafe-pair text behind =
    AreSafe-append (declared (codes "color:") text) (declared (codes "background-color:") behind)
    (AreSafe-declared (codes "color:") text refl) (AreSafe-declared (codes "background-color:") behind refl)

AreSafe-readable : (scheme : Scheme) {colors : List ℕ} → AreReadable scheme colors → AreSafe colors
unfolding is_safe
AreSafe-readable scheme of_page = refl
AreSafe-readable scheme (on_page light dark l d) = AreSafe-themed scheme (codes "color:") light dark refl
AreSafe-readable scheme (on_reversed light dark l d) =
    AreSafe-append (themed scheme (codes "color:") dark light) (themed scheme (codes "background-color:") black white)
    (AreSafe-themed scheme (codes "color:") dark light refl) (AreSafe-themed scheme (codes "background-color:") black white refl)
AreSafe-readable scheme (on_color text behind is) = AreSafe-pair text behind

AreSafe-colors : (scheme : Scheme) {colors : List ℕ} → AreColors scheme colors → AreSafe colors
AreSafe-colors scheme (readable colors are) = AreSafe-readable scheme are
AreSafe-colors scheme (chosen text behind) = AreSafe-pair text behind

AreSafe-lines : {names : List ℕ} → AreLines names → AreSafe names
unfolding is_safe
AreSafe-lines no_line = refl
AreSafe-lines (underline rest are) = AreSafe-append (codes " underline") rest refl (AreSafe-lines are)
AreSafe-lines (overline rest are) = AreSafe-append (codes " overline") rest refl (AreSafe-lines are)
AreSafe-lines (line_through rest are) = AreSafe-append (codes " line-through") rest refl (AreSafe-lines are)
AreSafe-lines (blink rest are) = AreSafe-append (codes " blink") rest refl (AreSafe-lines are)

AreSafe-declaration : {first : List ℕ} → IsDeclaration first → AreSafe first
unfolding is_safe
AreSafe-declaration bold = refl
AreSafe-declaration italic = refl
AreSafe-declaration hidden = refl
AreSafe-declaration (lines names are) = AreSafe-append (codes "text-decoration-line:") (names ++ codes ";") refl (AreSafe-append names (codes ";") (AreSafe-lines are) refl)
AreSafe-declaration double = refl
AreSafe-declaration wavy = refl
AreSafe-declaration dotted = refl
AreSafe-declaration dashed = refl

AreSafe-declarations : {attribute : List ℕ} → AreDeclarations attribute → AreSafe attribute
AreSafe-declarations no_declaration = refl
AreSafe-declarations (declaration first rest is others) = AreSafe-append first rest (AreSafe-declaration is) (AreSafe-declarations others)

pub AreSafe-style : (scheme : Scheme) {colors others : List ℕ} → AreColors scheme colors → AreDeclarations others → AreSafe (colors ++ others)
AreSafe-style scheme {colors} {others} are more = AreSafe-append colors others (AreSafe-colors scheme are) (AreSafe-declarations more)

pub AreSafe-css : (scheme : Scheme) (style : Style) → AreSafe (css scheme style)
AreSafe-css scheme style = AreSafe-style scheme (AreColors-css scheme style) (AreDeclarations-others style)

pub AreSafe-selected : (color : Rgb) → AreSafe (declared (codes "color:") color)
unfolding is_safe
AreSafe-selected color = AreSafe-declared (codes "color:") color refl

-- and the ground of a style as the colour of a shape
pub AreSafe-ground : (style : Style) → AreSafe (ground_css style)
unfolding is_safe
AreSafe-ground style =
    choose AreSafe (is_chosen (behind_of style)) _ _ (AreSafe-selected (shades_of (behind_of style)).fixed) refl

module _ (b : ℕ) (safe : is_safe b ≡ true) where
  pub safe_parts : (0x20 ≤ b) × (b < 0x80) × (eqb b 0x22 ≡ false) × (eqb b 0x26 ≡ false) × (eqb b 0x27 ≡ false) × (eqb b 0x3C ≡ false) × (eqb b 0x3E ≡ false)
  unfolding is_safe
  safe_parts =
      let above = and_parts (nat_le 0x20 b) _ safe in
      let below = and_parts (nat_lt b 0x80) _ above.1 in
      let quote = and_parts (not (eqb b 0x22)) _ below.1 in
      let ampersand = and_parts (not (eqb b 0x26)) _ quote.1 in
      let apostrophe = and_parts (not (eqb b 0x27)) _ ampersand.1 in
      let angles = and_parts (not (eqb b 0x3C)) (not (eqb b 0x3E)) apostrophe.1 in (
        leb-true 0x20 b above.0,
        ltb-true b 0x80 below.0,
        false-from_not (eqb b 0x22) quote.0,
        false-from_not (eqb b 0x26) ampersand.0,
        false-from_not (eqb b 0x27) apostrophe.0,
        false-from_not (eqb b 0x3C) angles.0,
        false-from_not (eqb b 0x3E) angles.1,
      )

  pub not_quote-safe : eqb b 0x22 ≡ false
  not_quote-safe = let (above, below, quote, ampersand, apostrophe, less, greater) = safe_parts in quote

  pub not_ampersand-safe : eqb b 0x26 ≡ false
  not_ampersand-safe = let (above, below, quote, ampersand, apostrophe, less, greater) = safe_parts in ampersand

  pub ascii-safe : b < 0x80
  ascii-safe = let (above, below, quote, ampersand, apostrophe, less, greater) = safe_parts in below

  pub not_return-safe : eqb b 0x0D ≡ false
  not_return-safe = let (above, below, quote, ampersand, apostrophe, less, greater) = safe_parts in ne_eqb b 0x0D (λ e. omega (arith, above))

  -- it has no meaning in HTML
  pub clear-safe : is_special b ≡ false
  unfolding is_special
  clear-safe =
      let (above, below, quote, ampersand, apostrophe, less, greater) = safe_parts in
      rw (ampersand, less, greater, quote, apostrophe) not_return-safe

-- such bytes are written as they are
pub AreClear-safe : (bytes : List ℕ) → AreSafe bytes → AreClear bytes
AreClear-safe [] safe = tt
AreClear-safe (b ∷ bytes) safe =
    let parts = and_parts (is_safe b) (list_all is_safe bytes) safe in (clear-safe b parts.0, AreClear-safe bytes parts.1)

pub escaped_text-safe : (bytes : List ℕ) → AreSafe bytes → escaped_text bytes ≡ bytes
escaped_text-safe bytes safe = escaped_text-clear bytes (AreClear-safe bytes safe)
