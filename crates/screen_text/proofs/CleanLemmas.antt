-- What a screen showed is clean text.
use Rattle.std.proofs.Common.{◌≡◌, ℕ, ◌+◌, ◌/◌, ◌%◌, ◌≤◌, Bool, true, false, List, [], ◌∷◌, ◌++◌, take, refl, sym, subst, le-leb, ⊎_elim, arith}
use Rattle.std.specs.Prelude.{IsTrue, encode_utf8, nat_lt, ◌==◌, if◌then◌else◌}
use Rattle.std.specs.List.{AllByRecursion, flat_map}
use Rattle.std.proofs.lemmas.Str.{IsUtf8-append, IsUtf8-nil, IsUtf8-encode}
use Rattle.std.proofs.lemmas.Bool.{or_cases}
use borrow.Author.Tests.{ltb-true, ltb-false}
use Rattle.anstyle_parse.specs.Stream.Bytes.{is_within}
use Rattle.anstyle_parse.specs.Stream.Call.{Call, print, execute, hook, put, unhook, osc_dispatch, csi_dispatch, esc_dispatch}
use Rattle.anstyle_parse.specs.Stream.Calls.{AreCalls}
use Rattle.anstyle_parse.specs.Laws.Lawful.{is_character}
use Rattle.anstyle_parse.proofs.Characters.Encoding.{within_parts, encode_one, encode_two, encode_three, encode_four}
use Rattle.anstyle_parse.proofs.Characters.Layout.{IsUtf8-layout}
use Rattle.anstyle_parse.proofs.Lists.Parts.{AllByRecursion-take}
use Rattle.anstyle_parse.proofs.Lawful.Calls.{lawful}
use Rattle.ansi_strip.specs.Strip.{is_clean, IsClean}
use Rattle.ansi_strip.proofs.Showable.{AreShowable, IsShowable, AreShowable-lawful, IsScalar-character}
use Rattle.ansi_screen.specs.declared.cell.Cell.{Cell}
use Rattle.ansi_screen.specs.declared.cell.Marks.{Marks}
use Rattle.ansi_screen.specs.declared.cell.Marks.TheVariants.{Unmarked, One, Two}
use Rattle.ansi_screen.specs.Cells.{is_right}
use Rattle.ansi_screen.specs.After.{State, new_state, after_all}
use Rattle.ansi_screen.specs.Text.{marks_text, cell_text, used, is_unprinted, goes_on, printed_count, printed_rows}
use Rattle.ansi_screen.specs.Display.{Display}
use Rattle.ansi_screen.specs.Edits.{swapped}
use Rattle.ansi_screen.specs.Leaving.{all_left}
use Rattle.screen_text.specs.Lines.{row_text, rows_text, open_after, closing, showing}
use Rattle.screen_text.specs.Shown.{given, given_all, shown_text}
use Rattle.ansi_screen.proofs.CharacterLemmas.{PrintsCharacter, IsGood, AreGoodMarks, IsGoodCell, AreGood, HasGood, IsGoodState, all-append, good-new, good-after_all, good-left, good-first_rows}

abbrev AreClean : List ℕ → Type 0
AreClean bytes = AllByRecursion (λ b. IsTrue (is_clean b)) bytes

-- texts, one after another
bytes-append : (xs ys : List ℕ) → AreClean xs → AreClean ys → AreClean (xs ++ ys)
bytes-append [] ys are others = others
bytes-append (x ∷ xs) ys are others = (are.0, bytes-append xs ys are.1 others)

clean-append : (xs ys : List ℕ) → IsClean xs → IsClean ys → IsClean (xs ++ ys)
clean-append xs ys first second = (IsUtf8-append xs ys first.0 second.0, bytes-append xs ys first.1 second.1)

clean-nil : IsClean []
clean-nil = (IsUtf8-nil, tt)

feed-byte : IsTrue (is_clean 0x0A)
unfolding is_clean
feed-byte = refl

clean-feed : IsClean (0x0A ∷ [])
clean-feed = (IsUtf8-layout 0x0A refl, (feed-byte, tt))

clean-if : (t : Bool) (xs ys : List ℕ) → IsClean xs → IsClean ys → IsClean (if t then xs else ys)
clean-if true xs ys first second = first
clean-if false xs ys first second = second

-- a character
high-byte : (b : ℕ) → 0x20 ≤ b → IsTrue (is_clean b)
unfolding is_clean
high-byte b high = rw (le-leb 0x20 b high) refl

least : (c : ℕ) → is_character c ≡ true → 0x20 ≤ c
unfolding is_character
least c is =
    ⊎_elim (λ h. (within_parts 0x20 0xD7FF c h).0) (λ h. let range = within_parts 0xE000 0x10FFFF c h in omega (arith, range.0))
    (or_cases (is_within 0x20 0xD7FF c) (is_within 0xE000 0x10FFFF c) is)

encoded-clean : (c : ℕ) (a b d : Bool) → nat_lt c 0x80 ≡ a → nat_lt c 0x800 ≡ b → nat_lt c 0x10000 ≡ d → 0x20 ≤ c → AreClean (encode_utf8 c)
encoded-clean c true b d one two three some =
    subst (λ l. AreClean l) (sym (encode_one c (ltb-true c 0x80 one))) (high-byte c some, tt)
encoded-clean c false true d one two three some =
    subst (λ l. AreClean l) (sym (encode_two c (ltb-false c 0x80 one) (ltb-true c 0x800 two)))
    (high-byte (192 + c / 64) (omega arith), (high-byte (128 + c % 64) (omega arith), tt))
encoded-clean c false false true one two three some =
    subst (λ l. AreClean l) (sym (encode_three c (ltb-false c 0x800 two) (ltb-true c 0x10000 three)))
    (high-byte (224 + c / 4096) (omega arith), (high-byte (128 + c / 64 % 64) (omega arith), (high-byte (128 + c % 64) (omega arith), tt)))
encoded-clean c false false false one two three some =
    subst (λ l. AreClean l) (sym (encode_four c (ltb-false c 0x10000 three))) (
      high-byte (240 + c / 262144) (omega arith),
      (high-byte (128 + c / 4096 % 64) (omega arith), (high-byte (128 + c / 64 % 64) (omega arith), (high-byte (128 + c % 64) (omega arith), tt))),
    )

clean-character : (c : ℕ) → IsGood c → IsClean (encode_utf8 c)
clean-character c good =
    (IsUtf8-encode c (IsScalar-character c good.0), encoded-clean c _ _ _ refl refl refl (least c good.0))

clean-marks : (marks : Marks) → AreGoodMarks marks → IsClean (marks_text marks)
clean-marks Unmarked are = clean-nil
clean-marks (One first) are = clean-character first are
clean-marks (Two first second) are =
    clean-append (encode_utf8 first) (encode_utf8 second) (clean-character first are.0) (clean-character second are.1)

clean-cell : (cell : Cell) → IsGoodCell cell → IsClean (cell_text cell)
unfolding cell_text
clean-cell cell good =
    clean-if (is_right cell.part) [] (encode_utf8 cell.character ++ marks_text cell.marks) clean-nil
    (clean-append (encode_utf8 cell.character) (marks_text cell.marks) (clean-character cell.character good.0) (clean-marks cell.marks good.1))

clean-cells : (cells : List Cell) → AreGood cells → IsClean (flat_map cell_text cells)
clean-cells [] are = clean-nil
clean-cells (cell ∷ cells) are = clean-append (cell_text cell) (flat_map cell_text cells) (clean-cell cell are.0) (clean-cells cells are.1)

clean-row : (row : List Cell) → AreGood row → IsClean (row_text row)
clean-row row are =
    let cells : List Cell = take (used is_unprinted row) row in
    clean-append (flat_map cell_text cells) (if goes_on row then [] else 0x0A ∷ [])
    (clean-cells cells (AllByRecursion-take IsGoodCell (used is_unprinted row) row are))
    (clean-if (goes_on row) [] (0x0A ∷ []) clean-nil clean-feed)

clean-rows : (rows : List (List Cell)) → AllByRecursion AreGood rows → IsClean (rows_text rows)
clean-rows [] are = clean-nil
clean-rows (row ∷ rows) are = clean-append (row_text row) (rows_text rows) (clean-row row are.0) (clean-rows rows are.1)

-- the calls of a parser print characters, and so do those that are given to the screen
control-prints : (byte : ℕ) (t : Bool) → (byte == 0x0A) ≡ t → AllByRecursion PrintsCharacter (given (execute byte))
control-prints byte true is = rw is (tt, (tt, tt))
control-prints byte false is = rw is (tt, tt)

given-prints : (call : Call) → IsShowable call → AllByRecursion PrintsCharacter (given call)
given-prints (print c) is = (is, tt)
given-prints (execute byte) is = control-prints byte _ refl
given-prints (hook groups intermediates ignore final) is = (tt, tt)
given-prints (put byte) is = (tt, tt)
given-prints unhook is = (tt, tt)
given-prints (osc_dispatch parts bell) is = (tt, tt)
given-prints (csi_dispatch groups intermediates ignore final) is = (tt, tt)
given-prints (esc_dispatch intermediates ignore final) is = (tt, tt)

prints-append : (calls more : List Call) → AllByRecursion PrintsCharacter calls → AllByRecursion PrintsCharacter more
    → AllByRecursion PrintsCharacter (calls ++ more)
prints-append [] more are others = others
prints-append (call ∷ calls) more are others = (are.0, prints-append calls more are.1 others)

pub all-print : (calls : List Call) → AreShowable calls → AllByRecursion PrintsCharacter (given_all calls)
all-print [] are = tt
all-print (call ∷ calls) are = prints-append (given call) (given_all calls) (given-prints call are.0) (all-print calls are.1)

-- the rows that still show
good-hidden : (t : Bool) (d : Display) → HasGood d → AllByRecursion AreGood (if t then printed_rows (swapped d) else [])
good-hidden true d good = good-first_rows (printed_count (swapped d)) (swapped d) (good.1, good.0)
good-hidden false d good = tt

pub good-showing : (d : Display) → HasGood d → AllByRecursion AreGood (showing d)
good-showing d good =
    all-append AreGood (if d.is_alternate then printed_rows (swapped d) else []) (printed_rows d) (good-hidden d.is_alternate d good)
    (good-first_rows (printed_count d) d good)

pub clean-shown : (columns rows : ℕ) (bytes : List ℕ) (calls : List Call) → AreCalls bytes calls
    → IsClean (shown_text (new_state columns rows) calls)
clean-shown columns rows bytes calls are =
    let s : State = new_state columns rows in
    let prints : AllByRecursion PrintsCharacter (given_all calls) = all-print calls (AreShowable-lawful false calls (lawful bytes calls are)) in
    let new : IsGoodState s = record { display = good-new columns rows; last = tt } in
    let left : List (List Cell) = all_left (given_all calls) s in
    let end : State = after_all (given_all calls) s in
    let rows_then : List (List Cell) = showing end.display in
    let good : IsGoodState end = good-after_all (given_all calls) s prints new in
    clean-append (rows_text left) (rows_text rows_then ++ closing (open_after (open_after false left) rows_then))
    (clean-rows left (good-left (given_all calls) s prints new))
    (clean-append (rows_text rows_then) (closing (open_after (open_after false left) rows_then))
    (clean-rows rows_then (good-showing end.display good.display))
    (clean-if (open_after (open_after false left) rows_then) (0x0A ∷ []) [] clean-feed clean-nil))
