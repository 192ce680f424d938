-- The bytes of an answer, and how many they are.
use Rattle.std.proofs.Common.{◌≡◌, ℕ, ◌+◌, ◌/◌, ◌%◌, ◌≤◌, ◌<◌, Bool, true, false, not, ◌||◌, List, [], ◌∷◌, ◌++◌, length, refl, arith, length-append, decimal}
use Rattle.std.proofs.lemmas.Bool.{agree_below}
use Rattle.std.proofs.lemmas.Bool.Decides.{nat_tests}
use Rattle.anstyle_parse.specs.Stream.Bytes.{is_within}
use Rattle.anstyle_parse.specs.Stream.Arguments.{max_field}
use Rattle.anstyle_parse.specs.Stream.Items.{EachIs}
use Rattle.anstyle_parse.proofs.Arguments.Decimals.{is_digit, decimal-digits}
use Rattle.anstyle_parse.proofs.Bytes.Passing.{EachIs-append, EachIs-weaker}
use Rattle.anstyle_parse.proofs.Characters.Encoding.{within_parts}
use Rattle.anstyle_parse.proofs.Lists.Passing.{implied}
use Rattle.anstyle_parse.proofs.Resume.Fields.{length-field}
use Rattle.ansi_modes.specs.declared.colors.Rgb.{Rgb}
use Rattle.ansi_modes.specs.Colors.{is_hex}
use Rattle.ansi_answers.specs.declared.answer.ModeState.{ModeState}
use Rattle.ansi_answers.specs.declared.answer.ModeState.TheVariants.{Unknown, Set, Reset, NeverSet}
use Rattle.ansi_answers.specs.declared.answer.Paint.{Paint}
use Rattle.ansi_answers.specs.declared.answer.Paint.TheVariants.{Foreground, Background, Cursor}
use Rattle.ansi_answers.specs.declared.answer.Answer.{Answer}
use Rattle.ansi_answers.specs.declared.answer.Answer.TheVariants.{AllIsWell, CursorPosition, ExtendedPosition, PrimaryAttributes, SecondaryAttributes, TertiaryAttributes, Version, Mode, PrivateMode, Rendition, Margins, CursorShape, NoSetting, Size, KeyFlags, PaletteColor, PaintColor}
use Rattle.ansi_answers.specs.Text.{state_number, paint_number, with_one, with_two, hex_digit, channel_text, color_text, end_text, colored_text, selection_text, answer_text, max_answer}
use Rattle.ansi_answers.specs.Calls.{is_answer_byte, AreBytes, IsBounded}
use Rattle.ansi_answers.proofs.RenditionLemmas.{selection-bytes, selection-few}

digit-byte : (b : ℕ) → is_digit b ≡ true → is_answer_byte b ≡ true
unfolding is_digit is_answer_byte is_within
digit-byte b e = implied is_digit is_answer_byte 256 b refl (omega (arith, (within_parts 0x30 0x39 b e).1)) e

decimal-bytes : (n : ℕ) → n ≤ max_field → EachIs is_answer_byte (decimal n)
decimal-bytes n h = EachIs-weaker is_digit is_answer_byte digit-byte (decimal n) (decimal-digits n h)

-- a digit of base 16
hex-is : (n : ℕ) → n < 16 → is_hex (hex_digit n) ≡ true
unfolding hex_digit is_hex is_within
hex-is n h = grind (arith, nat_tests)

high-few : (n : ℕ) → n < 256 → n / 16 < 16
high-few n h = omega arith

low-few : (n : ℕ) → n % 16 < 16
low-few n = omega arith

-- a colour, byte by byte
module _ (test : ℕ → Bool) (of_hex : (b : ℕ) → is_hex b ≡ true → test b ≡ true) (slash : test 0x2F ≡ true) (name : EachIs test (0x72 ∷ 0x67 ∷ 0x62 ∷ 0x3A ∷ [])) where
  channel-each : (n : ℕ) → n < 256 → EachIs test (channel_text n)
  channel-each n h =
      let high = of_hex (hex_digit (n / 16)) (hex-is (n / 16) (high-few n h)) in
      let low = of_hex (hex_digit (n % 16)) (hex-is (n % 16) (low-few n)) in
      (high, (low, (high, (low, tt))))

  pub color-each : (color : Rgb) → AreBytes color → EachIs test (color_text color)
  color-each color few =
      let slash_is : EachIs test (0x2F ∷ []) = (slash, tt) in
      let red = channel_text color.red in
      let green = channel_text color.green in
      let blue = channel_text color.blue in
      EachIs-append test (0x72 ∷ 0x67 ∷ 0x62 ∷ 0x3A ∷ []) (red ++ ((0x2F ∷ []) ++ (green ++ ((0x2F ∷ []) ++ blue)))) name
      (EachIs-append test red ((0x2F ∷ []) ++ (green ++ ((0x2F ∷ []) ++ blue))) (channel-each color.red few.0)
      (EachIs-append test (0x2F ∷ []) (green ++ ((0x2F ∷ []) ++ blue)) slash_is
      (EachIs-append test green ((0x2F ∷ []) ++ blue) (channel-each color.green few.1)
      (EachIs-append test (0x2F ∷ []) blue slash_is (channel-each color.blue few.2)))))

hex-below : (b : ℕ) → is_hex b ≡ true → b < 256
unfolding is_hex is_within
hex-below b e = grind (arith, nat_tests)

-- what holds of all such digits
pub hex-implies : (test : ℕ → Bool) → agree_below (λ x. not (is_hex x) || test x) (λ x. true) 256 ≡ true → (b : ℕ) → is_hex b ≡ true → test b ≡ true
hex-implies test agree b e = implied is_hex test 256 b agree (hex-below b e) e

hex-byte : (b : ℕ) → is_hex b ≡ true → is_answer_byte b ≡ true
unfolding is_hex is_answer_byte is_within
hex-byte b e = hex-implies is_answer_byte refl b e

color-bytes : (color : Rgb) → AreBytes color → EachIs is_answer_byte (color_text color)
unfolding is_answer_byte is_within
color-bytes color few = color-each is_answer_byte hex-byte refl (refl, (refl, (refl, (refl, tt)))) color few

join : (a b : List ℕ) → EachIs is_answer_byte a → EachIs is_answer_byte b → EachIs is_answer_byte (a ++ b)
join a b first second = EachIs-append is_answer_byte a b first second

one-bytes : (before : List ℕ) (n : ℕ) (after : List ℕ) → n ≤ max_field → EachIs is_answer_byte before → EachIs is_answer_byte after
    → EachIs is_answer_byte (with_one before n after)
one-bytes before n after few first last = join before _ first (join (decimal n) after (decimal-bytes n few) last)

semicolon-byte : EachIs is_answer_byte (0x3B ∷ [])
unfolding is_answer_byte is_within
semicolon-byte = (refl, tt)

two-bytes : (before : List ℕ) (n m : ℕ) (after : List ℕ) → n ≤ max_field → m ≤ max_field → EachIs is_answer_byte before
    → EachIs is_answer_byte after → EachIs is_answer_byte (with_two before n m after)
two-bytes before n m after few small first last =
    join before _ first (join (decimal n) _ (decimal-bytes n few) (join (0x3B ∷ []) _ semicolon-byte (join (decimal m) after (decimal-bytes m small) last)))

end-bytes : (bell : Bool) → EachIs is_answer_byte (end_text bell)
unfolding is_answer_byte is_within
end-bytes true = (refl, tt)
end-bytes false = (refl, (refl, tt))

colored-bytes : (before : List ℕ) (n : ℕ) (color : Rgb) (bell : Bool) → n ≤ max_field → AreBytes color → EachIs is_answer_byte before
    → EachIs is_answer_byte (colored_text before n color bell)
colored-bytes before n color bell few small first =
    let told = color_text color ++ end_text bell in
    join before (decimal n ++ ((0x3B ∷ []) ++ told)) first (join (decimal n) ((0x3B ∷ []) ++ told) (decimal-bytes n few)
    (join (0x3B ∷ []) told semicolon-byte (join (color_text color) (end_text bell) (color-bytes color small) (end-bytes bell))))

pub state-few : (state : ModeState) → state_number state ≤ 4
state-few Unknown = omega arith
state-few Set = omega arith
state-few Reset = omega arith
state-few NeverSet = omega arith

pub paint-few : (paint : Paint) → paint_number paint ≤ 12
paint-few Foreground = omega arith
paint-few Background = omega arith
paint-few Cursor = omega arith

-- each byte of an answer is one that answers have
pub answer-bytes : (answer : Answer) → IsBounded answer → EachIs is_answer_byte (answer_text answer)
unfolding is_answer_byte is_within
answer-bytes AllIsWell few = (refl, (refl, (refl, (refl, tt))))
answer-bytes (CursorPosition row column) few = two-bytes (0x1B ∷ 0x5B ∷ []) row column (0x52 ∷ []) few.0 few.1 (refl, (refl, tt)) (refl, tt)
answer-bytes (ExtendedPosition row column) few =
    two-bytes (0x1B ∷ 0x5B ∷ 0x3F ∷ []) row column (0x3B ∷ 0x31 ∷ 0x52 ∷ []) few.0 few.1 (refl, (refl, (refl, tt))) (refl, (refl, (refl, tt)))
answer-bytes PrimaryAttributes few = (refl, (refl, (refl, (refl, (refl, (refl, (refl, (refl, (refl, tt)))))))))
answer-bytes SecondaryAttributes few = (refl, (refl, (refl, (refl, (refl, (refl, (refl, (refl, (refl, (refl, tt))))))))))
answer-bytes TertiaryAttributes few =
    (refl, (refl, (refl, (refl, (refl, (refl, (refl, (refl, (refl, (refl, (refl, (refl, (refl, (refl, tt))))))))))))))
answer-bytes Version few =
    (refl, (refl, (refl, (refl, (refl, (refl, (refl, (refl, (refl, (refl, (refl, (refl, (refl, (refl, (refl, (refl, (refl, (refl, (refl, (refl, tt))))))))))))))))))))
answer-bytes (Mode number state) few =
    two-bytes (0x1B ∷ 0x5B ∷ []) number (state_number state) (0x24 ∷ 0x79 ∷ []) few (omega (arith, state-few state)) (refl, (refl, tt)) (refl, (refl, tt))
answer-bytes (PrivateMode number state) few =
    two-bytes (0x1B ∷ 0x5B ∷ 0x3F ∷ []) number (state_number state) (0x24 ∷ 0x79 ∷ []) few (omega (arith, state-few state))
    (refl, (refl, (refl, tt))) (refl, (refl, tt))
answer-bytes (Rendition style) few =
    join (0x1B ∷ 0x50 ∷ 0x31 ∷ 0x24 ∷ 0x72 ∷ []) _ (refl, (refl, (refl, (refl, (refl, tt)))))
    (join (selection_text style) (0x1B ∷ 0x5C ∷ []) (selection-bytes style few.0 few.1) (refl, (refl, tt)))
answer-bytes (Margins top bottom) few =
    two-bytes (0x1B ∷ 0x50 ∷ 0x31 ∷ 0x24 ∷ 0x72 ∷ []) top bottom (0x72 ∷ 0x1B ∷ 0x5C ∷ []) few.0 few.1
    (refl, (refl, (refl, (refl, (refl, tt))))) (refl, (refl, (refl, tt)))
answer-bytes (CursorShape number) few =
    one-bytes (0x1B ∷ 0x50 ∷ 0x31 ∷ 0x24 ∷ 0x72 ∷ []) number (0x20 ∷ 0x71 ∷ 0x1B ∷ 0x5C ∷ []) few
    (refl, (refl, (refl, (refl, (refl, tt))))) (refl, (refl, (refl, (refl, tt))))
answer-bytes NoSetting few = (refl, (refl, (refl, (refl, (refl, (refl, (refl, tt)))))))
answer-bytes (Size rows columns) few =
    two-bytes (0x1B ∷ 0x5B ∷ 0x38 ∷ 0x3B ∷ []) rows columns (0x74 ∷ []) few.0 few.1 (refl, (refl, (refl, (refl, tt)))) (refl, tt)
answer-bytes (KeyFlags flags) few = one-bytes (0x1B ∷ 0x5B ∷ 0x3F ∷ []) flags (0x75 ∷ []) few (refl, (refl, (refl, tt))) (refl, tt)
answer-bytes (PaletteColor index color bell) few =
    colored-bytes (0x1B ∷ 0x5D ∷ 0x34 ∷ 0x3B ∷ []) index color bell (omega (arith, few.0)) few.1 (refl, (refl, (refl, (refl, tt))))
answer-bytes (PaintColor paint color bell) few =
    colored-bytes (0x1B ∷ 0x5D ∷ []) (paint_number paint) color bell (omega (arith, paint-few paint)) few (refl, (refl, tt))

one-few : (before : List ℕ) (n : ℕ) (after : List ℕ) → n ≤ max_field → length before + length after ≤ 59 → length (with_one before n after) ≤ max_answer
one-few before n after few rest = omega (arith, rest, length-field n few, length-append before (decimal n ++ after), length-append (decimal n) after)

two-few : (before : List ℕ) (n m : ℕ) (after : List ℕ) → n ≤ max_field → m ≤ max_field → length before + length after ≤ 53
    → length (with_two before n m after) ≤ max_answer
two-few before n m after few small rest =
    omega (
      arith,
      rest,
      length-field n few,
      length-field m small,
      length-append before (decimal n ++ ((0x3B ∷ []) ++ (decimal m ++ after))),
      length-append (decimal n) ((0x3B ∷ []) ++ (decimal m ++ after)),
      length-append (decimal m) after,
    )

pub length-color : (color : Rgb) → length (color_text color) ≡ 18
length-color color = refl

end-few : (bell : Bool) → length (end_text bell) ≤ 2
end-few true = omega arith
end-few false = omega arith

colored-few : (before : List ℕ) (n : ℕ) (color : Rgb) (bell : Bool) → n ≤ max_field → length before ≤ 4
    → length (colored_text before n color bell) ≤ max_answer
colored-few before n color bell few rest =
    omega (
      arith,
      rest,
      length-field n few,
      length-color color,
      end-few bell,
      length-append before (decimal n ++ ((0x3B ∷ []) ++ (color_text color ++ end_text bell))),
      length-append (decimal n) ((0x3B ∷ []) ++ (color_text color ++ end_text bell)),
      length-append (color_text color) (end_text bell),
    )

-- so many bytes an answer has at most
pub answer-few : (answer : Answer) → IsBounded answer → length (answer_text answer) ≤ max_answer
answer-few AllIsWell few = omega arith
answer-few (CursorPosition row column) few = two-few (0x1B ∷ 0x5B ∷ []) row column (0x52 ∷ []) few.0 few.1 (omega arith)
answer-few (ExtendedPosition row column) few =
    two-few (0x1B ∷ 0x5B ∷ 0x3F ∷ []) row column (0x3B ∷ 0x31 ∷ 0x52 ∷ []) few.0 few.1 (omega arith)
answer-few PrimaryAttributes few = omega arith
answer-few SecondaryAttributes few = omega arith
answer-few TertiaryAttributes few = omega arith
answer-few Version few = omega arith
answer-few (Mode number state) few =
    two-few (0x1B ∷ 0x5B ∷ []) number (state_number state) (0x24 ∷ 0x79 ∷ []) few (omega (arith, state-few state)) (omega arith)
answer-few (PrivateMode number state) few =
    two-few (0x1B ∷ 0x5B ∷ 0x3F ∷ []) number (state_number state) (0x24 ∷ 0x79 ∷ []) few (omega (arith, state-few state)) (omega arith)
answer-few (Rendition style) few =
    omega (arith, selection-few style few.0 few.1, length-append (selection_text style) (0x1B ∷ 0x5C ∷ []))
answer-few (Margins top bottom) few =
    two-few (0x1B ∷ 0x50 ∷ 0x31 ∷ 0x24 ∷ 0x72 ∷ []) top bottom (0x72 ∷ 0x1B ∷ 0x5C ∷ []) few.0 few.1 (omega arith)
answer-few (CursorShape number) few =
    one-few (0x1B ∷ 0x50 ∷ 0x31 ∷ 0x24 ∷ 0x72 ∷ []) number (0x20 ∷ 0x71 ∷ 0x1B ∷ 0x5C ∷ []) few (omega arith)
answer-few NoSetting few = omega arith
answer-few (Size rows columns) few = two-few (0x1B ∷ 0x5B ∷ 0x38 ∷ 0x3B ∷ []) rows columns (0x74 ∷ []) few.0 few.1 (omega arith)
answer-few (KeyFlags flags) few = one-few (0x1B ∷ 0x5B ∷ 0x3F ∷ []) flags (0x75 ∷ []) few (omega arith)
answer-few (PaletteColor index color bell) few =
    colored-few (0x1B ∷ 0x5D ∷ 0x34 ∷ 0x3B ∷ []) index color bell (omega (arith, few.0)) (omega arith)
answer-few (PaintColor paint color bell) few =
    colored-few (0x1B ∷ 0x5D ∷ []) (paint_number paint) color bell (omega (arith, paint-few paint)) (omega arith)
