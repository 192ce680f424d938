-- An answer is read as its calls.
use Rattle.std.proofs.Common.{◌≡◌, ℕ, ◌≤◌, true, false, List, [], ◌∷◌, ◌++◌, length, refl, ap, ◌∙◌, subst, arith, append_assoc, length-append, decimal}
use Rattle.std.specs.Fmt.{digits}
use Rattle.std.proofs.lemmas.Bool.{false≢true}
use Rattle.anstyle_parse.specs.Stream.Bytes.{is_within, is_control, is_marker, is_intermediate, is_parameter, is_significant, is_final, escape_byte}
use Rattle.anstyle_parse.specs.Stream.Arguments.{after_marker, groups_of, collected_of, ignore_of, max_field, is_kept}
use Rattle.anstyle_parse.specs.Stream.Items.{EachIs, is_header_byte}
use Rattle.anstyle_parse.specs.Stream.Calls.{is_put, AreCalls}
use Rattle.anstyle_parse.specs.Stream.Canon.{leading_marker}
use Rattle.anstyle_parse.specs.Laws.Lawful.{IsHeaderCall, IsGroup, AreParts, is_stored}
use Rattle.anstyle_parse.proofs.Arguments.Decimals.{is_digit, decimal-digits}
use Rattle.anstyle_parse.proofs.Bytes.Passing.{EachIs-append, EachIs-weaker}
use Rattle.anstyle_parse.proofs.Canonical.Shown.{Shows}
use Rattle.anstyle_parse.proofs.Characters.Encoding.{within_parts}
use Rattle.anstyle_parse.proofs.Lists.Passing.{implied}
use Rattle.anstyle_parse.proofs.Resume.Fields.{length-field}
use Rattle.ansi_modes.specs.declared.colors.Rgb.{Rgb}
use Rattle.ansi_modes.specs.Colors.{is_hex}
use Rattle.ansi_answers.specs.declared.answer.Answer.{Answer}
use Rattle.ansi_answers.specs.declared.answer.Answer.TheVariants.{AllIsWell, CursorPosition, ExtendedPosition, PrimaryAttributes, SecondaryAttributes, TertiaryAttributes, Version, Mode, PrivateMode, Rendition, Margins, CursorShape, NoSetting, Size, KeyFlags, PaletteColor, PaintColor}
use Rattle.ansi_answers.specs.Text.{state_number, paint_number, color_text, end_text, selection_text, answer_text}
use Rattle.ansi_answers.specs.Calls.{one, sequence, setting, answer_calls, AreBytes, IsBounded}
use Rattle.ansi_answers.proofs.RenditionLemmas.{selection-put}
use Rattle.ansi_answers.proofs.CallLemmas.{AreCalls-sequence, AreCalls-string, AreCalls-command}
use Rattle.ansi_answers.proofs.ByteLemmas.{state-few, paint-few, color-each, hex-implies, length-color}

-- fields of a control sequence
is_one : (n : ℕ) → n ≤ max_field → IsGroup (one n)
is_one n few = (omega arith, (few, tt))

-- up to three fields, and a mark, an intermediate, or both
module _ (marks : List ℕ) (final : ℕ) (few : length marks ≤ 2) (collected : EachIs is_intermediate (after_marker marks)) (ends : is_final final ≡ true) where
  IsHeaderCall-one : (n : ℕ) → n ≤ max_field → IsHeaderCall (one n ∷ []) marks false final
  IsHeaderCall-one n h = record {
    groups_fit = (is_one n h, tt);
    some_field = omega arith;
    fields_fit = omega arith;
    collected_fit = few;
    collected_are = collected;
    ignores = λ e. absurd (false≢true e);
    is_finished = ends;
  }

  IsHeaderCall-two : (n m : ℕ) → n ≤ max_field → m ≤ max_field → IsHeaderCall (one n ∷ one m ∷ []) marks false final
  IsHeaderCall-two n m h k = record {
    groups_fit = (is_one n h, (is_one m k, tt));
    some_field = omega arith;
    fields_fit = omega arith;
    collected_fit = few;
    collected_are = collected;
    ignores = λ e. absurd (false≢true e);
    is_finished = ends;
  }

  IsHeaderCall-three : (n m k : ℕ) → n ≤ max_field → m ≤ max_field → k ≤ max_field → IsHeaderCall (one n ∷ one m ∷ one k ∷ []) marks false final
  IsHeaderCall-three n m k h i j = record {
    groups_fit = (is_one n h, (is_one m i, (is_one k j, tt)));
    some_field = omega arith;
    fields_fit = omega arith;
    collected_fit = few;
    collected_are = collected;
    ignores = λ e. absurd (false≢true e);
    is_finished = ends;
  }

-- two numbers as groups, and as they are written
two-text : (n m : ℕ) (after : List ℕ) → (decimal n ++ 0x3B ∷ decimal m) ++ after ≡ decimal n ++ ((0x3B ∷ []) ++ (decimal m ++ after))
two-text n m after = append_assoc (decimal n) (0x3B ∷ decimal m) after

-- what may be passed on
digit-put : (b : ℕ) → is_digit b ≡ true → is_put b ≡ true
unfolding is_digit is_put is_control is_within
digit-put b e = implied is_digit is_put 256 b refl (omega (arith, (within_parts 0x30 0x39 b e).1)) e

decimal-put : (n : ℕ) → n ≤ max_field → EachIs is_put (decimal n)
decimal-put n few = EachIs-weaker is_digit is_put digit-put (decimal n) (decimal-digits n few)

put-append : (a b : List ℕ) → EachIs is_put a → EachIs is_put b → EachIs is_put (a ++ b)
put-append a b first second = EachIs-append is_put a b first second

-- the headers of the device control strings
shows-unit : Shows (0x21 ∷ []) (one 0 ∷ []) (0x21 ∷ []) false
unfolding is_header_byte is_significant is_within is_intermediate is_parameter is_marker groups_of collected_of ignore_of
shows-unit = record { bytes_are = (refl, tt); all_significant = refl; shaped = refl; shows_groups = refl; shows_collected = refl; shows_ignore = refl }

shows-version : Shows (0x3E ∷ []) (one 0 ∷ []) (0x3E ∷ []) false
unfolding is_header_byte is_significant is_within is_intermediate is_parameter is_marker groups_of collected_of ignore_of
shows-version = record { bytes_are = (refl, tt); all_significant = refl; shaped = refl; shows_groups = refl; shows_collected = refl; shows_ignore = refl }

shows-known : Shows (0x31 ∷ 0x24 ∷ []) (one 1 ∷ []) (0x24 ∷ []) false
unfolding is_header_byte is_significant is_within is_intermediate is_parameter is_marker groups_of collected_of ignore_of
shows-known = record { bytes_are = (refl, (refl, tt)); all_significant = refl; shaped = refl; shows_groups = refl; shows_collected = refl; shows_ignore = refl }

shows-unknown : Shows (0x30 ∷ 0x24 ∷ []) (one 0 ∷ []) (0x24 ∷ []) false
unfolding is_header_byte is_significant is_within is_intermediate is_parameter is_marker groups_of collected_of ignore_of
shows-unknown = record { bytes_are = (refl, (refl, tt)); all_significant = refl; shaped = refl; shows_groups = refl; shows_collected = refl; shows_ignore = refl }

-- a setting
setting-read : (text : List ℕ) → EachIs is_put text → AreCalls ((0x1B ∷ 0x50 ∷ 0x31 ∷ 0x24 ∷ 0x72 ∷ []) ++ (text ++ 0x1B ∷ 0x5C ∷ [])) (setting text)
unfolding is_final is_within
setting-read text each = AreCalls-string (0x31 ∷ 0x24 ∷ []) (one 1 ∷ []) (0x24 ∷ []) 0x72 shows-known refl text each

margins-put : (top bottom : ℕ) → top ≤ max_field → bottom ≤ max_field → EachIs is_put (decimal top ++ ((0x3B ∷ []) ++ (decimal bottom ++ 0x72 ∷ [])))
unfolding is_put is_control is_within
margins-put top bottom few small =
    put-append (decimal top) _ (decimal-put top few) (put-append (0x3B ∷ []) _ (refl, tt) (put-append (decimal bottom) (0x72 ∷ []) (decimal-put bottom small) (refl, tt)))

margins-text : (top bottom : ℕ) → (decimal top ++ ((0x3B ∷ []) ++ (decimal bottom ++ 0x72 ∷ []))) ++ 0x1B ∷ 0x5C ∷ []
    ≡ decimal top ++ ((0x3B ∷ []) ++ (decimal bottom ++ 0x72 ∷ 0x1B ∷ 0x5C ∷ []))
margins-text top bottom =
    append_assoc (decimal top) ((0x3B ∷ []) ++ (decimal bottom ++ 0x72 ∷ [])) (0x1B ∷ 0x5C ∷ [])
    ∙ ap (λ l. decimal top ++ 0x3B ∷ l) (append_assoc (decimal bottom) (0x72 ∷ []) (0x1B ∷ 0x5C ∷ []))

shape-put : (number : ℕ) → number ≤ max_field → EachIs is_put (decimal number ++ 0x20 ∷ 0x71 ∷ [])
unfolding is_put is_control is_within
shape-put number few = put-append (decimal number) (0x20 ∷ 0x71 ∷ []) (decimal-put number few) (refl, (refl, tt))

-- what may be stored of a command
digit-stored : (b : ℕ) → is_digit b ≡ true → is_stored b ≡ true
unfolding is_digit is_stored is_kept is_within
digit-stored b e = implied is_digit is_stored 256 b refl (omega (arith, (within_parts 0x30 0x39 b e).1)) e

decimal-stored : (n : ℕ) → n ≤ max_field → EachIs is_stored (decimal n)
decimal-stored n few = EachIs-weaker is_digit is_stored digit-stored (decimal n) (decimal-digits n few)

hex-stored : (b : ℕ) → is_hex b ≡ true → is_stored b ≡ true
unfolding is_hex is_stored is_kept is_within
hex-stored b e = hex-implies is_stored refl b e

color-stored : (color : Rgb) → AreBytes color → EachIs is_stored (color_text color)
unfolding is_stored is_kept is_within
color-stored color few = color-each is_stored hex-stored refl (refl, (refl, (refl, (refl, tt)))) color few

-- the parts of a colour's command
AreParts-two : (number : ℕ) (color : Rgb) → number ≤ max_field → AreBytes color → AreParts (decimal number ∷ color_text color ∷ [])
AreParts-two number color few small = record {
  some_part = omega arith;
  parts_fit = omega arith;
  bytes_are = (decimal-stored number few, (color-stored color small, tt));
  bytes_fit = omega (arith, length-field number few, length-color color, length-append (decimal number) (color_text color ++ []), length-append (color_text color) []);
  last_used = λ e. omega (arith, length-color color);
}

four-stored : EachIs is_stored (0x34 ∷ [])
unfolding is_stored is_kept is_within
four-stored = (refl, tt)

AreParts-three : (number : ℕ) (color : Rgb) → number ≤ max_field → AreBytes color → AreParts ((0x34 ∷ []) ∷ decimal number ∷ color_text color ∷ [])
AreParts-three number color few small = record {
  some_part = omega arith;
  parts_fit = omega arith;
  bytes_are = (four-stored, (decimal-stored number few, (color-stored color small, tt)));
  bytes_fit = omega (arith, length-field number few, length-color color, length-append (decimal number) (color_text color ++ []), length-append (color_text color) []);
  last_used = λ e. omega (arith, length-color color);
}

-- a control sequence of two numbers, and one of a third
pair-read : (marks : List ℕ) (final n m : ℕ) (text : List ℕ) → IsHeaderCall (one n ∷ one m ∷ []) marks false final
    → escape_byte ∷ 0x5B ∷ (leading_marker marks ++ (decimal n ++ ((0x3B ∷ []) ++ (decimal m ++ (after_marker marks ++ final ∷ []))))) ≡ text
    → AreCalls text (sequence (one n ∷ one m ∷ []) marks final)
pair-read marks final n m text is same =
    AreCalls-sequence (one n ∷ one m ∷ []) marks final text is
    (ap (λ l. escape_byte ∷ 0x5B ∷ (leading_marker marks ++ l)) (two-text n m (after_marker marks ++ final ∷ [])) ∙ same)

extended-text : (n m : ℕ) → (decimal n ++ 0x3B ∷ (decimal m ++ 0x3B ∷ 0x31 ∷ [])) ++ 0x52 ∷ [] ≡ decimal n ++ ((0x3B ∷ []) ++ (decimal m ++ 0x3B ∷ 0x31 ∷ 0x52 ∷ []))
extended-text n m =
    append_assoc (decimal n) (0x3B ∷ (decimal m ++ 0x3B ∷ 0x31 ∷ [])) (0x52 ∷ [])
    ∙ ap (λ l. decimal n ++ 0x3B ∷ l) (append_assoc (decimal m) (0x3B ∷ 0x31 ∷ []) (0x52 ∷ []))

pub answer-read : (answer : Answer) → IsBounded answer → AreCalls (answer_text answer) (answer_calls answer)
unfolding is_marker is_intermediate is_final is_within is_put is_control digits
answer-read AllIsWell few = AreCalls-sequence (one 0 ∷ []) [] 0x6E _ (IsHeaderCall-one [] 0x6E (omega arith) tt refl 0 (omega arith)) refl
answer-read (CursorPosition row column) few =
    pair-read [] 0x52 row column _ (IsHeaderCall-two [] 0x52 (omega arith) tt refl row column few.0 few.1) refl
answer-read (ExtendedPosition row column) few =
    AreCalls-sequence (one row ∷ one column ∷ one 1 ∷ []) (0x3F ∷ []) 0x52 _
    (IsHeaderCall-three (0x3F ∷ []) 0x52 (omega arith) tt refl row column 1 few.0 few.1 (omega arith))
    (ap (λ l. escape_byte ∷ 0x5B ∷ 0x3F ∷ l) (extended-text row column))
answer-read PrimaryAttributes few =
    AreCalls-sequence (one 62 ∷ one 22 ∷ []) (0x3F ∷ []) 0x63 _ (IsHeaderCall-two (0x3F ∷ []) 0x63 (omega arith) tt refl 62 22 (omega arith) (omega arith)) refl
answer-read SecondaryAttributes few =
    AreCalls-sequence (one 1 ∷ one 10 ∷ one 0 ∷ []) (0x3E ∷ []) 0x63 _
    (IsHeaderCall-three (0x3E ∷ []) 0x63 (omega arith) tt refl 1 10 0 (omega arith) (omega arith) (omega arith)) refl
answer-read TertiaryAttributes few =
    AreCalls-string (0x21 ∷ []) (one 0 ∷ []) (0x21 ∷ []) 0x7C shows-unit refl (0x30 ∷ 0x30 ∷ 0x30 ∷ 0x30 ∷ 0x30 ∷ 0x30 ∷ 0x30 ∷ 0x30 ∷ [])
    (refl, (refl, (refl, (refl, (refl, (refl, (refl, (refl, tt))))))))
answer-read Version few =
    AreCalls-string (0x3E ∷ []) (one 0 ∷ []) (0x3E ∷ []) 0x7C shows-version refl
    (0x61 ∷ 0x6E ∷ 0x73 ∷ 0x69 ∷ 0x2D ∷ 0x70 ∷ 0x72 ∷ 0x6F ∷ 0x76 ∷ 0x65 ∷ 0x64 ∷ 0x28 ∷ 0x31 ∷ 0x29 ∷ [])
    (refl, (refl, (refl, (refl, (refl, (refl, (refl, (refl, (refl, (refl, (refl, (refl, (refl, (refl, tt))))))))))))))
answer-read (Mode number state) few =
    pair-read (0x24 ∷ []) 0x79 number (state_number state) _
    (IsHeaderCall-two (0x24 ∷ []) 0x79 (omega arith) (refl, tt) refl number (state_number state) few (omega (arith, state-few state))) refl
answer-read (PrivateMode number state) few =
    pair-read (0x3F ∷ 0x24 ∷ []) 0x79 number (state_number state) _
    (IsHeaderCall-two (0x3F ∷ 0x24 ∷ []) 0x79 (omega arith) (refl, tt) refl number (state_number state) few (omega (arith, state-few state))) refl
answer-read (Rendition style) few = setting-read (selection_text style) (selection-put style few.0 few.1)
answer-read (Margins top bottom) few =
    subst (λ l. AreCalls (0x1B ∷ 0x50 ∷ 0x31 ∷ 0x24 ∷ 0x72 ∷ l) (answer_calls (Margins top bottom))) (margins-text top bottom)
    (setting-read (decimal top ++ ((0x3B ∷ []) ++ (decimal bottom ++ 0x72 ∷ []))) (margins-put top bottom few.0 few.1))
answer-read (CursorShape number) few =
    subst (λ l. AreCalls (0x1B ∷ 0x50 ∷ 0x31 ∷ 0x24 ∷ 0x72 ∷ l) (answer_calls (CursorShape number))) (append_assoc (decimal number) (0x20 ∷ 0x71 ∷ []) (0x1B ∷ 0x5C ∷ []))
    (setting-read (decimal number ++ 0x20 ∷ 0x71 ∷ []) (shape-put number few))
answer-read NoSetting few = AreCalls-string (0x30 ∷ 0x24 ∷ []) (one 0 ∷ []) (0x24 ∷ []) 0x72 shows-unknown refl [] tt
answer-read (Size rows columns) few =
    AreCalls-sequence (one 8 ∷ one rows ∷ one columns ∷ []) [] 0x74 _
    (IsHeaderCall-three [] 0x74 (omega arith) tt refl 8 rows columns (omega arith) few.0 few.1)
    (ap (λ l. escape_byte ∷ 0x5B ∷ 0x38 ∷ 0x3B ∷ l) (two-text rows columns (0x74 ∷ [])))
answer-read (KeyFlags flags) few =
    AreCalls-sequence (one flags ∷ []) (0x3F ∷ []) 0x75 _ (IsHeaderCall-one (0x3F ∷ []) 0x75 (omega arith) tt refl flags few) refl
answer-read (PaletteColor index color bell) few =
    subst (λ l. AreCalls (0x1B ∷ 0x5D ∷ 0x34 ∷ 0x3B ∷ l) (answer_calls (PaletteColor index color bell)))
    (append_assoc (decimal index) (0x3B ∷ color_text color) (end_text bell))
    (AreCalls-command ((0x34 ∷ []) ∷ decimal index ∷ color_text color ∷ []) bell (AreParts-three index color (omega (arith, few.0)) few.1))
answer-read (PaintColor paint color bell) few =
    subst (λ l. AreCalls (0x1B ∷ 0x5D ∷ l) (answer_calls (PaintColor paint color bell)))
    (append_assoc (decimal (paint_number paint)) (0x3B ∷ color_text color) (end_text bell))
    (AreCalls-command (decimal (paint_number paint) ∷ color_text color ∷ []) bell (AreParts-two (paint_number paint) color (omega (arith, paint-few paint)) few))
