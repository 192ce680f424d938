-- The numbers of a style, part by part; what they are made of, and how many bytes they have.
use Rattle.std.proofs.Common.{◌≡◌, ℕ, ◌+◌, ◌≤◌, ◌<◌, Bool, true, false, List, [], ◌∷◌, ◌++◌, length, drop, refl, sym, ap, ◌∙◌, subst, arith, length-append, decimal}
use Rattle.std.specs.Fmt.{digits}
use Rattle.std.proofs.lemmas.Fmt.{length-decimal-le}
use Rattle.anstyle_parse.specs.Stream.Bytes.{is_within, is_control, is_parameter}
use Rattle.anstyle_parse.specs.Stream.Items.{EachIs}
use Rattle.anstyle_parse.specs.Stream.Calls.{is_put}
use Rattle.anstyle_parse.specs.Stream.Groups.{groups_text}
use Rattle.anstyle_parse.proofs.Arguments.Decimals.{groups_text-parameters}
use Rattle.anstyle_parse.proofs.Bytes.Passing.{EachIs-append, EachIs-weaker}
use Rattle.anstyle_parse.proofs.Canonical.DebugText.{canon-csi_dispatch}
use Rattle.anstyle_parse.proofs.Characters.Encoding.{within_parts}
use Rattle.anstyle_parse.proofs.Lists.Passing.{implied}
use Rattle.anstyle_parse.proofs.Resume.Fields.{length-field}
use Rattle.ansi_style.specs.declared.style.Style.{Style}
use Rattle.ansi_style.specs.declared.style.Color.{Color}
use Rattle.ansi_style.specs.declared.style.Color.TheVariants.{Default, Named, Bright, Indexed, Direct}
use Rattle.ansi_style.specs.declared.style.Hue.{Hue}
use Rattle.ansi_style.specs.declared.style.Hue.TheVariants.{Black, Red, Green, Yellow, Blue, Magenta, Cyan, White}
use Rattle.ansi_style.specs.declared.style.Underline.{Underline}
use Rattle.ansi_style.specs.declared.style.Underline.TheVariants.{Off, Single, Double, Curly, Dotted, Dashed}
use Rattle.ansi_style.specs.Style.{hue_number, HasBytes}
use Rattle.ansi_style.specs.Codes.{code_if, color_codes, underline_codes, codes_of, codes_text, more_text}
use Rattle.ansi_style.proofs.CodesLemmas.{codes_text-parts, AreSent-codes_of}
use Rattle.ansi_answers.specs.Text.{selection_text}
use Rattle.ansi_answers.specs.Calls.{is_answer_byte}

-- they are those of the sequence that selects the style, without its first two bytes
pub selection-parts : (style : Style)
    → selection_text style ≡ (0x30 ∷ []) ++ (more_text (code_if style.bold 1) ++ (more_text (code_if style.dim 2) ++ (more_text (code_if style.italic 3)
    ++ (more_text (underline_codes style.underline) ++ (more_text (code_if style.blink 5) ++ (more_text (code_if style.reverse 7) ++ (more_text (code_if style.hidden 8)
    ++ (more_text (code_if style.struck_out 9) ++ (more_text (code_if style.overlined 53) ++ (more_text (color_codes 30 style.foreground)
    ++ (more_text (color_codes 40 style.background) ++ (0x6D ∷ []))))))))))))
unfolding codes_text
selection-parts style = ap (drop 2) (sym (canon-csi_dispatch (codes_of style)) ∙ codes_text-parts style)

-- a byte of parameters may be passed on, and is one of an answer
parameter-both : (test : ℕ → Bool) → (b : ℕ) → (b < 256 → test b ≡ true) → is_parameter b ≡ true → test b ≡ true
unfolding is_parameter
parameter-both test b holds e = holds (omega (arith, (within_parts 0x30 0x3B b e).1))

parameter-put : (b : ℕ) → is_parameter b ≡ true → is_put b ≡ true
unfolding is_parameter is_put is_control is_within
parameter-put b e = parameter-both is_put b (λ few. implied is_parameter is_put 256 b refl few e) e

parameter-answer : (b : ℕ) → is_parameter b ≡ true → is_answer_byte b ≡ true
unfolding is_parameter is_answer_byte is_within
parameter-answer b e = parameter-both is_answer_byte b (λ few. implied is_parameter is_answer_byte 256 b refl few e) e

module _ (style : Style) (foreground : HasBytes style.foreground) (background : HasBytes style.background) where
  parameters : EachIs is_parameter (groups_text (codes_of style))
  parameters = groups_text-parameters (codes_of style) (AreSent-codes_of style foreground background).each

  pub selection-put : EachIs is_put (selection_text style)
  unfolding is_put is_control is_within
  selection-put = EachIs-append is_put (groups_text (codes_of style)) (0x6D ∷ []) (EachIs-weaker is_parameter is_put parameter-put _ parameters) (refl, tt)

  pub selection-bytes : EachIs is_answer_byte (selection_text style)
  unfolding is_answer_byte is_within
  selection-bytes =
      EachIs-append is_answer_byte (groups_text (codes_of style)) (0x6D ∷ []) (EachIs-weaker is_parameter is_answer_byte parameter-answer _ parameters) (refl, tt)

code-few : (wanted : Bool) (code : ℕ) → length (decimal code) ≤ 1 → length (more_text (code_if wanted code)) ≤ 2
code-few true code few = omega (arith, few, length-append (decimal code) [])
code-few false code few = omega arith

last_code-few : (wanted : Bool) → length (more_text (code_if wanted 53)) ≤ 3
unfolding digits
last_code-few true = omega arith
last_code-few false = omega arith

underline-few : (underline : Underline) → length (more_text (underline_codes underline)) ≤ 4
unfolding digits
underline-few Off = omega arith
underline-few Single = omega arith
underline-few Double = omega arith
underline-few Curly = omega arith
underline-few Dotted = omega arith
underline-few Dashed = omega arith

byte-few : (n : ℕ) → n < 256 → length (decimal n) ≤ 3
byte-few n h = length-decimal-le 3 n (omega arith) (omega arith) (omega arith)

hue-few : (hue : Hue) → hue_number hue < 8
hue-few Black = omega arith
hue-few Red = omega arith
hue-few Green = omega arith
hue-few Yellow = omega arith
hue-few Blue = omega arith
hue-few Magenta = omega arith
hue-few Cyan = omega arith
hue-few White = omega arith

-- a colour, counted from 30 or 40
module _ (base : ℕ) (small : base ≤ 40) (two : length (decimal (base + 8)) ≤ 2) where
  color-few : (color : Color) → HasBytes color → length (more_text (color_codes base color)) ≤ 17
  unfolding digits
  color-few Default few = omega arith
  color-few (Named hue) few =
      omega (arith, length-field (base + hue_number hue) (omega (arith, hue-few hue)), length-append (decimal (base + hue_number hue)) [])
  color-few (Bright hue) few =
      omega (arith, length-field (base + 60 + hue_number hue) (omega (arith, hue-few hue)), length-append (decimal (base + 60 + hue_number hue)) [])
  color-few (Indexed n) few =
      omega (
        arith,
        two,
        byte-few n few,
        length-append (decimal (base + 8)) (0x3B ∷ 0x35 ∷ 0x3B ∷ (decimal n ++ [])),
        length-append (decimal n) [],
      )
  color-few (Direct red green blue) few =
      omega (
        arith,
        two,
        byte-few red few.0,
        byte-few green few.1,
        byte-few blue few.2,
        length-append (decimal (base + 8)) (0x3B ∷ 0x32 ∷ 0x3B ∷ (decimal red ++ 0x3B ∷ (decimal green ++ 0x3B ∷ (decimal blue ++ [])))),
        length-append (decimal red) (0x3B ∷ (decimal green ++ 0x3B ∷ (decimal blue ++ []))),
        length-append (decimal green) (0x3B ∷ (decimal blue ++ [])),
        length-append (decimal blue) [],
      )

add : (m n : ℕ) (a b : List ℕ) → length a ≤ m → length b ≤ n → length (a ++ b) ≤ m + n
add m n a b first second = omega (arith, first, second, length-append a b)

foreground-few : (color : Color) → HasBytes color → length (more_text (color_codes 30 color)) ≤ 17
unfolding digits
foreground-few color few = color-few 30 (omega arith) (omega arith) color few

background-few : (color : Color) → HasBytes color → length (more_text (color_codes 40 color)) ≤ 17
unfolding digits
background-few color few = color-few 40 (omega arith) (omega arith) color few

flag-few : (wanted : Bool) (code : ℕ) → code < 10 → length (more_text (code_if wanted code)) ≤ 2
flag-few wanted code small = code-few wanted code (length-decimal-le 1 code (omega arith) (omega arith) (omega arith))

-- the longest has 57 bytes
pub selection-few : (style : Style) → HasBytes style.foreground → HasBytes style.background → length (selection_text style) ≤ 57
selection-few style foreground background =
    subst (λ text. length text ≤ 57) (sym (selection-parts style))
    (add 1 56 (0x30 ∷ []) _ (omega arith) (add 2 54 _ _ (flag-few style.bold 1 (omega arith)) (add 2 52 _ _ (flag-few style.dim 2 (omega arith))
    (add 2 50 _ _ (flag-few style.italic 3 (omega arith)) (add 4 46 _ _ (underline-few style.underline) (add 2 44 _ _ (flag-few style.blink 5 (omega arith))
    (add 2 42 _ _ (flag-few style.reverse 7 (omega arith)) (add 2 40 _ _ (flag-few style.hidden 8 (omega arith)) (add 2 38 _ _ (flag-few style.struck_out 9 (omega arith))
    (add 3 35 _ _ (last_code-few style.overlined) (add 17 18 _ _ (foreground-few style.foreground foreground)
    (add 17 1 _ (0x6D ∷ []) (background-few style.background background) (omega arith)))))))))))))
