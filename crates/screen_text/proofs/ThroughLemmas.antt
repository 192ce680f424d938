-- Plain text comes through: what a new screen showed of its bytes is these bytes.
use Rattle.std.proofs.Common.{◌≡◌, ℕ, zero, suc, ◌+◌, ◌-◌, ◌≤◌, true, List, [], ◌∷◌, ◌++◌, refl, ap, sym, ◌∙◌, subst, inl, inr, arith}
use Rattle.std.specs.Prelude.{◌≢◌, replicate, encode_utf8}
use Rattle.std.specs.List.{AllByRecursion, flat_map}
use Rattle.std.proofs.lemmas.List.{append-nil, append_assoc}
use Rattle.std.proofs.lemmas.Grind.{flat_map-append}
use Rattle.anstyle_parse.specs.Stream.Call.{Call}
use Rattle.anstyle_parse.specs.Stream.Calls.{AreCalls}
use Rattle.anstyle_parse.specs.Stream.Canon.{call_text, canon}
use Rattle.anstyle_parse.specs.Laws.Lawful.{is_character, AreLawful}
use Rattle.anstyle_parse.proofs.Canonical.Twice.{replay-only}
use Rattle.ansi_strip.specs.Strip.{stripped_call, stripped}
use Rattle.ansi_screen.specs.declared.cell.Cell.{Cell}
use Rattle.ansi_screen.specs.Display.{Display}
use Rattle.ansi_screen.specs.After.{State, new_state, after_all}
use Rattle.ansi_screen.specs.Leaving.{all_left}
use Rattle.ansi_screen.specs.Laws.{carriage_return, line_feed, printing}
use Rattle.ansi_screen.specs.TextsProof.{all_left-append}
use Rattle.ansi_screen.proofs.LawLemmas.{after_all-append}
use Rattle.ansi_screen.proofs.PlainLemmas.{canon-line, executed-both}
use Rattle.screen_text.specs.Lines.{showing}
use Rattle.screen_text.specs.Shown.{given, given_all, shown_text}
use Rattle.screen_text.specs.Laws.{IsPlain, ArePlain, LastIsNotEmpty, line_bytes, lines_bytes, recorded_line, recorded_bytes, empty_lines}
use Rattle.screen_text.proofs.RewrittenLemmas.{given-printing, returned-shown}
use Rattle.screen_text.proofs.RowTextLemmas.{ArePlainRows}
use Rattle.screen_text.proofs.KeptRowsLemmas.{blank_rows, ended-showing}
use Rattle.screen_text.proofs.TextLemmas.{IsMarkedLine, AreMarkedLines, plain-marked, plain-marked_lines, line_calls, lines_calls, Line, Ended, ended-same, line-same, print-lines, print-some, end-lines, feed-blanks, new-typed, shown-line, shown-ended}

blank-bytes : (n : ℕ) → lines_bytes (empty_lines n) ≡ replicate n 0x0A
blank-bytes zero = refl
blank-bytes (suc n) = ap (λ l. 0x0A ∷ l) (blank-bytes n)

-- lines of which the last is not empty, if there is one
through-lines : (width height : ℕ) (lines : List (List ℕ)) → 2 ≤ width → 1 ≤ height → AreMarkedLines lines → LastIsNotEmpty lines
    → (let s : State = new_state width height in
    Ended width height 0 (all_left (given_all (lines_calls lines)) s) (lines_bytes lines) (after_all (given_all (lines_calls lines)) s).display)
through-lines width height [] wide some are last =
    record { base = []; typed = new-typed width height some; end = inl refl; shows = refl }
through-lines width height (line ∷ lines) wide some are last =
    end-lines width height wide lines line [] [] (new_state width height) are last
    (record { all = []; current = []; typed = new-typed width height some; shows = refl; some = omega arith })

-- and empty lines after them
pub through : (width height n : ℕ) (lines : List (List ℕ)) → 2 ≤ width → 1 ≤ height → AreMarkedLines lines → LastIsNotEmpty lines
    → shown_text (new_state width height) (lines_calls (lines ++ empty_lines n)) ≡ lines_bytes (lines ++ empty_lines (n - (height - 1)))
through width height n lines wide some are last =
    let s : State = new_state width height in
    let first : List Call = lines_calls lines in
    let blank : List Call = lines_calls (empty_lines n) in
    let there : State = after_all (given_all first) s in
    let k : ℕ = n - (height - 1) in
    let none : 0 + n ≡ n = omega arith in
    let calls : given_all (first ++ blank) ≡ given_all first ++ given_all blank = flat_map-append given first blank in
    let rows : all_left (given_all first) s ++ all_left (given_all blank) there ≡ all_left (given_all (first ++ blank)) s =
    sym (ap (λ l. all_left l s) calls ∙ all_left-append (given_all first) (given_all blank) s) in
    let end : (after_all (given_all blank) there).display ≡ (after_all (given_all (first ++ blank)) s).display =
    ap (λ (e : State). e.display) (sym (ap (λ l. after_all l s) calls ∙ after_all-append (given_all first) (given_all blank) s)) in
    ap (shown_text s) (flat_map-append line_calls lines (empty_lines n))
    ∙ (shown-ended width height n (first ++ blank) s (lines_bytes lines)
    (ended-same width height (0 + n) n (all_left (given_all first) s ++ all_left (given_all blank) there) (all_left (given_all (first ++ blank)) s)
    (lines_bytes lines) (lines_bytes lines) (after_all (given_all blank) there).display (after_all (given_all (first ++ blank)) s).display none rows refl end
    (feed-blanks width height wide n 0 (all_left (given_all first) s) (lines_bytes lines) there (through-lines width height lines wide some are last)))
    ∙ (ap (λ l. lines_bytes lines ++ l) (sym (blank-bytes k)) ∙ sym (flat_map-append line_bytes lines (empty_lines k))))

pub through-ended : (width height : ℕ) (lines : List (List ℕ)) → 2 ≤ width → 1 ≤ height → AreMarkedLines lines → LastIsNotEmpty lines
    → shown_text (new_state width height) (lines_calls lines) ≡ lines_bytes lines
through-ended width height lines wide some are last =
    let none : 0 - (height - 1) ≡ 0 = omega arith in
    ap (λ l. shown_text (new_state width height) (lines_calls l)) (sym (append-nil lines))
    ∙ (through width height 0 lines wide some are last
    ∙ (ap (λ k. lines_bytes (lines ++ empty_lines k)) none ∙ ap lines_bytes (append-nil lines)))

-- The rows that leave and those that show then are plain.
pub through-plain : (width height : ℕ) (lines : List (List ℕ)) → 2 ≤ width → 1 ≤ height → AreMarkedLines lines → LastIsNotEmpty lines
    → (let s : State = new_state width height in
    ArePlainRows (all_left (given_all (lines_calls lines)) s ++ showing (after_all (given_all (lines_calls lines)) s).display))
through-plain width height lines wide some are last =
    let s : State = new_state width height in
    let left : List (List Cell) = all_left (given_all (lines_calls lines)) s in
    let d : Display = (after_all (given_all (lines_calls lines)) s).display in
    let ended : Ended width height 0 left (lines_bytes lines) d = through-lines width height lines wide some are last in
    let none : 0 - (height - 1) ≡ 0 = omega arith in
    subst (λ l. ArePlainRows l)
    (sym (ended-showing width height 0 left ended.base d ended.typed ended.end ∙ ap (λ k. ended.base ++ blank_rows width k) none)) ended.typed.even

-- a last line without its line feed
unended : (width height : ℕ) (lines : List (List ℕ)) (line : List ℕ) → 2 ≤ width → 1 ≤ height → AreMarkedLines lines
    → IsMarkedLine 0 line → line ≢ []
    → shown_text (new_state width height) (lines_calls lines ++ printing line) ≡ lines_bytes (lines ++ line ∷ [])
unended width height lines [] wide some are plain_line other = absurd (other refl)
unended width height lines (c ∷ rest) wide some are plain_line other =
    let s : State = new_state width height in
    let line : List ℕ = c ∷ rest in
    let first : List Call = lines_calls lines in
    let there : State = after_all (given_all first) s in
    let calls : given_all (first ++ printing line) ≡ given_all first ++ printing line =
    flat_map-append given first (printing line) ∙ ap (λ l. given_all first ++ l) (given-printing line) in
    let rows : all_left (given_all first) s ++ all_left (printing line) there ≡ all_left (given_all (first ++ printing line)) s =
    sym (ap (λ l. all_left l s) calls ∙ all_left-append (given_all first) (printing line) s) in
    let end : (after_all (printing line) there).display ≡ (after_all (given_all (first ++ printing line)) s).display =
    ap (λ (e : State). e.display) (sym (ap (λ l. after_all l s) calls ∙ after_all-append (given_all first) (printing line) s)) in
    let new : Line width height 0 [] [] s.display =
    record { all = []; current = []; typed = new-typed width height some; shows = refl; some = omega arith } in
    shown-line width height (first ++ printing line) s (lines_bytes lines ++ flat_map encode_utf8 line)
    (line-same width height 1 (all_left (given_all first) s ++ all_left (printing line) there) (all_left (given_all (first ++ printing line)) s)
    (lines_bytes lines ++ flat_map encode_utf8 line) (lines_bytes lines ++ flat_map encode_utf8 line) (after_all (printing line) there).display
    (after_all (given_all (first ++ printing line)) s).display rows refl end
    (print-some width height wide c rest (all_left (given_all first) s) (lines_bytes lines) there plain_line (print-lines width height wide lines [] [] s are new)))
    ∙ (append_assoc (lines_bytes lines) (flat_map encode_utf8 line) (0x0A ∷ [])
    ∙ (ap (λ l. lines_bytes lines ++ l) (sym (append-nil (line_bytes line))) ∙ sym (flat_map-append line_bytes lines (line ∷ []))))

-- A parser makes these calls of the bytes, and no others, since the bytes are the calls' canonical text.
canon-lines : (lines : List (List ℕ)) → canon (lines_calls lines) ≡ lines_bytes lines
canon-lines [] = refl
canon-lines (line ∷ lines) =
    flat_map-append call_text (line_calls line) (lines_calls lines)
    ∙ (ap (λ l. l ++ canon (lines_calls lines)) (flat_map-append call_text (printing line) (line_feed ∷ []) ∙ ap (λ l. l ++ 0x0A ∷ []) (canon-line line))
    ∙ ap (λ l. line_bytes line ++ l) (canon-lines lines))

abbrev AreCharacters : List ℕ → Type 0
AreCharacters line = AllByRecursion (λ c. is_character c ≡ true) line

characters-marked : (room : ℕ) (line : List ℕ) → IsMarkedLine room line → AreCharacters line
characters-marked room [] are = tt
characters-marked room (c ∷ line) (good, is, inl (other, are)) = (good, characters-marked 2 line are)
characters-marked room (c ∷ line) (good, is, inr (none, some, are)) = (good, characters-marked (room - 1) line are)

lawful-line : (line : List ℕ) (calls : List Call) → AreCharacters line → AreLawful calls → AreLawful (printing line ++ calls)
lawful-line [] calls are lawful = lawful
lawful-line (c ∷ line) calls are lawful = (are.0, lawful-line line calls are.1 lawful)

lawful-lines : (lines : List (List ℕ)) (calls : List Call) → AreMarkedLines lines → AreLawful calls → AreLawful (lines_calls lines ++ calls)
lawful-lines [] calls are lawful = lawful
lawful-lines (line ∷ lines) calls are lawful =
    subst (λ l. AreLawful l) (sym (append_assoc (line_calls line) (lines_calls lines) calls ∙ append_assoc (printing line) (line_feed ∷ []) (lines_calls lines ++ calls)))
    (lawful-line line (line_feed ∷ (lines_calls lines ++ calls)) (characters-marked 0 line are.0) (executed-both.1, lawful-lines lines calls are.1 lawful))

only-calls : (bytes : List ℕ) (calls made : List Call) → canon calls ≡ bytes → AreLawful calls → AreCalls bytes made → made ≡ calls
only-calls bytes calls made text lawful are = replay-only calls made lawful (subst (λ b. AreCalls b made) (sym text) are)

pub lines-only : (lines : List (List ℕ)) (calls : List Call) → AreMarkedLines lines → AreCalls (lines_bytes lines) calls → calls ≡ lines_calls lines
lines-only lines calls plain_lines are =
    only-calls (lines_bytes lines) (lines_calls lines) calls (canon-lines lines)
    (subst (λ l. AreLawful l) (append-nil (lines_calls lines)) (lawful-lines lines [] plain_lines tt)) are

marked-append : (lines more : List (List ℕ)) → AreMarkedLines lines → AreMarkedLines more → AreMarkedLines (lines ++ more)
marked-append [] more are others = others
marked-append (line ∷ lines) more are others = (are.0, marked-append lines more are.1 others)

marked-empty : (n : ℕ) → AreMarkedLines (empty_lines n)
marked-empty zero = tt
marked-empty (suc n) = (tt, marked-empty n)

-- lines with marks
pub marked-through : (width height : ℕ) (lines : List (List ℕ)) (calls : List Call) → 2 ≤ width → 1 ≤ height → AreMarkedLines lines → LastIsNotEmpty lines
    → AreCalls (lines_bytes lines) calls → shown_text (new_state width height) calls ≡ lines_bytes lines
marked-through width height lines calls wide some are last made =
    ap (shown_text (new_state width height)) (lines-only lines calls are made) ∙ through-ended width height lines wide some are last

-- and plain ones
pub bytes-through : (width height : ℕ) (lines : List (List ℕ)) (calls : List Call) → 2 ≤ width → 1 ≤ height → ArePlain lines → LastIsNotEmpty lines
    → AreCalls (lines_bytes lines) calls → shown_text (new_state width height) calls ≡ lines_bytes lines
bytes-through width height lines calls wide some are last made =
    marked-through width height lines calls wide some (plain-marked_lines lines are) last made

pub blank-through : (width height n : ℕ) (lines : List (List ℕ)) (calls : List Call) → 2 ≤ width → 1 ≤ height → ArePlain lines → LastIsNotEmpty lines
    → AreCalls (lines_bytes (lines ++ empty_lines n)) calls
    → shown_text (new_state width height) calls ≡ lines_bytes (lines ++ empty_lines (n - (height - 1)))
blank-through width height n lines calls wide some are last made =
    let marked : AreMarkedLines lines = plain-marked_lines lines are in
    ap (shown_text (new_state width height)) (lines-only (lines ++ empty_lines n) calls (marked-append lines (empty_lines n) marked (marked-empty n)) made)
    ∙ through width height n lines wide some marked last

pub unended-through : (width height : ℕ) (lines : List (List ℕ)) (line : List ℕ) (calls : List Call) → 2 ≤ width → 1 ≤ height → ArePlain lines
    → AllByRecursion IsPlain line → line ≢ [] → AreCalls (lines_bytes lines ++ flat_map encode_utf8 line) calls
    → shown_text (new_state width height) calls ≡ lines_bytes (lines ++ line ∷ [])
unended-through width height lines line calls wide some are plain_line other made =
    let marked : AreMarkedLines lines = plain-marked_lines lines are in
    let last : IsMarkedLine 0 line = plain-marked 0 line plain_line in
    let text : canon (lines_calls lines ++ printing line) ≡ lines_bytes lines ++ flat_map encode_utf8 line =
    flat_map-append call_text (lines_calls lines) (printing line)
    ∙ (ap (λ l. l ++ canon (printing line)) (canon-lines lines) ∙ ap (λ l. lines_bytes lines ++ l) (canon-line line)) in
    let lawful : AreLawful (lines_calls lines ++ printing line) =
    lawful-lines lines (printing line) marked (subst (λ l. AreLawful l) (append-nil (printing line)) (lawful-line line [] (characters-marked 0 line last) tt)) in
    ap (shown_text (new_state width height))
    (only-calls (lines_bytes lines ++ flat_map encode_utf8 line) (lines_calls lines ++ printing line) calls text lawful made)
    ∙ unended width height lines line wide some marked last other

-- what a stripper writes
stripped-line : (line : List ℕ) → stripped (printing line) ≡ flat_map encode_utf8 line
stripped-line [] = refl
stripped-line (c ∷ line) = ap (λ l. encode_utf8 c ++ l) (stripped-line line)

stripped-feed : stripped (line_feed ∷ []) ≡ 0x0A ∷ []
stripped-feed = refl

stripped-lines : (lines : List (List ℕ)) → stripped (lines_calls lines) ≡ lines_bytes lines
stripped-lines [] = refl
stripped-lines (line ∷ lines) =
    flat_map-append stripped_call (line_calls line) (lines_calls lines)
    ∙ (ap (λ l. l ++ stripped (lines_calls lines))
    (flat_map-append stripped_call (printing line) (line_feed ∷ [])
    ∙ (ap (λ l. l ++ stripped (line_feed ∷ [])) (stripped-line line) ∙ ap (λ l. flat_map encode_utf8 line ++ l) stripped-feed))
    ∙ ap (λ l. line_bytes line ++ l) (stripped-lines lines))

pub stripped-through : (width height : ℕ) (lines : List (List ℕ)) (calls : List Call) → 2 ≤ width → 1 ≤ height → ArePlain lines
    → LastIsNotEmpty lines → AreCalls (lines_bytes lines) calls → shown_text (new_state width height) calls ≡ stripped calls
stripped-through width height lines calls wide some are last made =
    bytes-through width height lines calls wide some are last made
    ∙ (sym (stripped-lines lines) ∙ ap stripped (sym (lines-only lines calls (plain-marked_lines lines are) made)))

-- The same, as it is recorded on a terminal.
abbrev recorded_line_calls : List ℕ → List Call
recorded_line_calls line = printing line ++ carriage_return ∷ line_feed ∷ []

abbrev recorded_calls : List (List ℕ) → List Call
recorded_calls lines = flat_map recorded_line_calls lines

canon-recorded : (lines : List (List ℕ)) → canon (recorded_calls lines) ≡ recorded_bytes lines
canon-recorded [] = refl
canon-recorded (line ∷ lines) =
    flat_map-append call_text (recorded_line_calls line) (recorded_calls lines)
    ∙ (ap (λ l. l ++ canon (recorded_calls lines))
    (flat_map-append call_text (printing line) (carriage_return ∷ line_feed ∷ []) ∙ ap (λ l. l ++ 0x0D ∷ 0x0A ∷ []) (canon-line line))
    ∙ ap (λ l. recorded_line line ++ l) (canon-recorded lines))

lawful-recorded : (lines : List (List ℕ)) → ArePlain lines → AreLawful (recorded_calls lines)
lawful-recorded [] are = tt
lawful-recorded (line ∷ lines) are =
    subst (λ l. AreLawful l) (sym (append_assoc (printing line) (carriage_return ∷ line_feed ∷ []) (recorded_calls lines)))
    (lawful-line line (carriage_return ∷ line_feed ∷ recorded_calls lines) (characters-marked 0 line (plain-marked 0 line are.0)) (executed-both.0, (executed-both.1, lawful-recorded lines are.1)))

recorded-shown : (lines : List (List ℕ)) (earlier : List Call) (s : State)
    → shown_text s (earlier ++ recorded_calls lines) ≡ shown_text s (earlier ++ lines_calls lines)
recorded-shown [] earlier s = refl
recorded-shown (line ∷ lines) earlier s =
    let typed : List Call = earlier ++ printing line in
    let rest : List Call = recorded_calls lines in
    let more : List Call = lines_calls lines in
    ap (shown_text s)
    (ap (λ l. earlier ++ l) (append_assoc (printing line) (carriage_return ∷ line_feed ∷ []) rest)
    ∙ sym (append_assoc earlier (printing line) (carriage_return ∷ line_feed ∷ rest)))
    ∙ (returned-shown s typed rest
    ∙ (ap (shown_text s) (sym (append_assoc typed (line_feed ∷ []) rest))
    ∙ (recorded-shown lines (typed ++ line_feed ∷ []) s
    ∙ ap (shown_text s)
    (append_assoc typed (line_feed ∷ []) more
    ∙ (append_assoc earlier (printing line) (line_feed ∷ more)
    ∙ ap (λ l. earlier ++ l) (sym (append_assoc (printing line) (line_feed ∷ []) more)))))))

pub recorded-through : (width height : ℕ) (lines : List (List ℕ)) (calls : List Call) → 2 ≤ width → 1 ≤ height → ArePlain lines
    → LastIsNotEmpty lines → AreCalls (recorded_bytes lines) calls → shown_text (new_state width height) calls ≡ lines_bytes lines
recorded-through width height lines calls wide some are last made =
    ap (shown_text (new_state width height))
    (only-calls (recorded_bytes lines) (recorded_calls lines) calls (canon-recorded lines) (lawful-recorded lines are) made)
    ∙ (recorded-shown lines [] (new_state width height) ∙ through-ended width height lines wide some (plain-marked_lines lines are) last)
