-- Texts that come into their cells at once.
use Rattle.std.proofs.Common.{◌≡◌, ◌≢◌, ℕ, zero, suc, ◌+◌, ◌-◌, ◌<◌, ◌≤◌, Bool, true, false, ◌&&◌, List, [], ◌∷◌, ◌++◌, length, get_or, take, drop, refl, ap, ap₂, sym, ◌∙◌, subst, arith}
use Rattle.std.specs.Prelude.{nat_lt, nat_le, ◌==◌, Option}
use Rattle.std.proofs.lemmas.Bool.{le-ltb, lt-leb, ne_eqb, and_parts, leb-true, leb-false}
use Rattle.std.specs.Prelude.{min}
use Rattle.std.proofs.lemmas.List.{length-take-le, map-append}
use Rattle.anstyle_parse.proofs.Lists.Parts.{AllByRecursion-take}
use Rattle.anstyle_parse.specs.Stream.Bytes.{is_within}
use Rattle.anstyle_parse.specs.Stream.Call.{print}
use Rattle.anstyle_parse.specs.Stream.Items.{EachIs}
use Rattle.ansi_screen.specs.declared.cell.Cell.{Cell}
use Rattle.ansi_style.specs.declared.style.Style.{Style}
use Rattle.ansi_screen.specs.Cells.{cut, change, going_on}
use Rattle.ansi_screen.specs.Display.{Display, here, row_end}
use Rattle.ansi_screen.specs.Edits.{row_goes_on, row_going_on}
use Rattle.ansi_screen.specs.Widths.{is_shown, columns}
use Rattle.ansi_screen.specs.Print.{glyph, wrapped, with_room, with_cells_of, with_glyph, put, shown, draws, printed}
use Rattle.ansi_screen.specs.Runs.{is_printed_ascii, with_glyphs, with_run, printed_all, HasRoom}
use Rattle.ansi_screen.specs.State.{State, Step, stays, changed, stepped}
use Rattle.ansi_screen.specs.History.{with_left}
use Rattle.ansi_screen.specs.After.{repeatable, after, after_all}
use Rattle.ansi_screen.specs.Leaving.{all_left}
use Rattle.ansi_screen.specs.Laws.{printing}
use Rattle.ansi_screen.specs.TextsProof.{after_all-append}
use Rattle.ansi_screen.proofs.RunLemmas.{length-cut, drop-past}
use Rattle.ansi_screen.proofs.WholeLemmas.{length-glyph, length-put, length-going_on}
use Rattle.ansi_screen.proofs.GoingLemmas.{going-same, going-read, going-glyphs, going-far, glyph-none, none-change, none-glyphs}
use Rattle.ansi_screen.proofs.RowLemmas.{same-within}
use Rattle.ansi_screen.proofs.RangeLemmas.{no_column-below, two_columns-below}

-- printed ASCII is shown in one column
within-parts : (c : ℕ) → is_printed_ascii c ≡ true → (0x20 ≤ c) × (c ≤ 0x7E)
unfolding is_within
within-parts c is = let both = and_parts (nat_le 0x20 c) (nat_le c 0x7E) is in (leb-true 0x20 c both.0, leb-true c 0x7E both.1)

shown-ascii : (c : ℕ) → 0x20 ≤ c → c ≤ 0x7E → is_shown c ≡ true
unfolding is_shown is_within
shown-ascii c low high =
    let above : nat_lt c 0x20 ≡ false = le-ltb c 0x20 low in
    let below : nat_le 0x7F c ≡ false = lt-leb 0x7F c (omega arith) in
    rw (above, below) refl

columns-ascii : (c : ℕ) → c ≤ 0x7E → columns c ≡ 1
unfolding columns
columns-ascii c high = rw (no_column-below c (omega arith), two_columns-below c (omega arith)) refl

-- a character of one column, where the row has room
one-printed : (c : ℕ) (d : Display) → is_shown c ≡ true → columns c ≡ 1 → d.inserts ≡ false → draws d.cursor.charsets ≡ false
    → d.cursor.column + 1 ≤ d.width → printed c d ≡ stays (λ e. row_going_on (row_goes_on e) (with_run (c ∷ []) e)) d
unfolding printed shown put wrapped with_room with_glyph with_cells_of
one-printed c d is one stays letters room =
    let fits : nat_lt d.width (d.cursor.column + 1) ≡ false = le-ltb d.width (d.cursor.column + 1) room in
    rw (is, letters, one, fits, fits, stays) refl

-- any character that takes columns for which the row has room, out of insert mode
pub shown-at-once : (n c : ℕ) (d : Display) → n ≡ columns c → n ≢ 0 → d.cursor.column + n ≤ d.width → d.inserts ≡ false → stays (with_glyph n c) d ≡ shown c d
unfolding shown put wrapped with_room
shown-at-once n c d is some room stays =
    let none : (columns c == 0) ≡ false = ne_eqb (columns c) 0 (λ e. some (is ∙ e)) in
    let fits : nat_lt d.width (d.cursor.column + columns c) ≡ false = le-ltb d.width (d.cursor.column + columns c) (omega (arith, is, room)) in
    rw (is, none, fits, fits, stays) refl

pub shown-there : (n m c : ℕ) (v s new : State) → v ≡ s → n ≡ columns c → m ≡ n → n ≢ 0 → v.display.cursor.column + m ≤ v.display.width
    → v.display.inserts ≡ false → new ≡ changed (with_glyph n c) s → new ≡ stepped (shown c) s
shown-there n m c v s new same is from some room stays_put put =
    let fits : v.display.cursor.column + n ≤ v.display.width = omega (arith, from, room) in
    put
    ∙ ap (λ (x : Step). stepped (λ d. x) s)
    (shown-at-once n c s.display is some (subst (λ (x : State). x.display.cursor.column + n ≤ x.display.width) same fits)
    (subst (λ (x : State). x.display.inserts ≡ false) same stays_put))

module _ (c : ℕ) (text : List ℕ) (d : Display) (ascii : is_printed_ascii c ≡ true) (room : HasRoom (length (c ∷ text)) d) where
  first-step : printed c d ≡ stays (λ e. row_going_on (row_goes_on e) (with_run (c ∷ []) e)) d
  first-step =
      let parts = within-parts c ascii in
      one-printed c d (shown-ascii c parts.0 parts.1) (columns-ascii c parts.1) room.stays room.letters (omega (arith, room.fits))

  first-printed : (printed c d).display ≡ row_going_on (row_goes_on d) (with_run (c ∷ []) d)
  first-printed = ap (λ (x : Step). x.display) first-step

  first-room : HasRoom (length text) (printed c d).display
  first-room =
      subst (HasRoom (length text)) (sym first-printed) (record { fits = omega (arith, room.fits); stays = room.stays; letters = room.letters })

-- and a text of them
pub run-printed : (text : List ℕ) (d : Display) → EachIs is_printed_ascii text → HasRoom (length text) d → row_end d ≤ length d.cells
    → printed_all text d ≡ row_going_on (row_goes_on d) (with_run text d)
run-printed [] d are room inside =
    let none : d.cursor.column ≡ d.cursor.column + length {A = ℕ} [] = omega arith in
    ap (λ k. record d { cursor = record d.cursor { column = k } }) none
    ∙ ap (λ l. record (with_run [] d) { cells = l }) (going-same (row_goes_on d) (row_end d) d.cells refl)
run-printed (c ∷ text) d are room inside =
    let on : Bool = row_goes_on d in
    let end : ℕ = row_end d in
    let one : List Cell = change (here d) (here d + 1) (λ run. glyph 1 c d.cursor.style d.link) d.cells in
    let x : Display = row_going_on on (with_run (c ∷ []) d) in
    let below : here d + 1 ≤ end = omega (arith, room.fits) in
    let one_long : length one ≡ length d.cells = length-put (here d) 1 c d.cursor.style d.link d.cells (omega arith) (omega arith) (omega (arith, below, inside)) in
    let x_long : length x.cells ≡ length d.cells = length-going_on on end one ∙ one_long in
    let place : here x ≡ here d + 1 = omega arith in
    let columns_then : x.cursor.column + length text ≡ d.cursor.column + length (c ∷ text) = omega arith in
    let then_inside : row_end x ≤ length x.cells = omega (arith, inside, x_long) in
    let first : (printed c d).display ≡ x = first-printed c text d are.0 room in
    let says : row_goes_on x ≡ on = going-read on end one (omega (arith, below)) (omega (arith, inside, one_long)) in
    run-printed text (printed c d).display are.1 (first-room c text d are.0 room) (subst (λ (e : Display). row_end e ≤ length e.cells) (sym first) then_inside)
    ∙ (ap (λ (e : Display). row_going_on (row_goes_on e) (with_run text e)) first
    ∙ (ap (λ t. row_going_on t (with_run text x)) says
    ∙ (ap₂ (λ n k. record d {
      cells = going_on on end (with_glyphs n text d.cursor.style d.link (going_on on end one));
      cursor = record d.cursor { column = k };
    }) place columns_then
    ∙ ap (λ l. record d { cells = l; cursor = record d.cursor { column = d.cursor.column + length (c ∷ text) } })
    (going-glyphs on on end (here d + 1) text d.cursor.style d.link one (omega (arith, room.fits)) (omega (arith, inside, one_long))))))

-- Far from the end of its row a character changes nothing of what the row says.
drop-change : (n from to : ℕ) (how : List Cell → List Cell) (cells : List Cell) → from ≤ to → to < n → to ≤ length cells
    → length (how (take (to - from) (drop from (cut from (cut to cells))))) ≡ to - from → drop n (change from to how cells) ≡ drop n cells
drop-change n from to how cells order past inside long =
    let both : List Cell = cut from (cut to cells) in
    (same-within from n from to how both (omega arith) order (omega arith) (omega (arith, inside, length-cut from (cut to cells), length-cut to cells)) long).behind
    ∙ (drop-past n from (cut to cells) (omega arith) ∙ drop-past n to cells past)

drop-glyphs : (n place : ℕ) (text : List ℕ) (style : Style) (link : ℕ) (cells : List Cell) → place + length text < n → place + length text ≤ length cells
    → drop n (with_glyphs place text style link cells) ≡ drop n cells
drop-glyphs n place [] style link cells past inside = refl
drop-glyphs n place (c ∷ text) style link cells past inside =
    let one : List Cell = change place (place + 1) (λ run. glyph 1 c style link) cells in
    let one_long : length one ≡ length cells = length-put place 1 c style link cells (omega arith) (omega arith) (omega (arith, inside)) in
    drop-glyphs n (place + 1) text style link one (omega (arith, past)) (omega (arith, inside, one_long))
    ∙ drop-change n place (place + 1) (λ run. glyph 1 c style link) cells (omega arith) (omega (arith, past)) (omega (arith, inside)) (omega arith)

pub glyph-far : (n c : ℕ) (d : Display) → 1 ≤ n → n ≤ 2 → d.cursor.column + n + 1 < d.width → row_end d ≤ length d.cells
    → with_cells_of n c d ≡ with_glyph n c d
unfolding with_glyph with_cells_of
glyph-far n c d some few far inside =
    let new : List Cell = change (here d) (here d + n) (λ run. glyph n c d.cursor.style d.link) d.cells in
    ap (λ l. record d { cells = l; cursor = record d.cursor { column = d.cursor.column + n } })
    (going-far (row_end d) (here d + n + 1) d.cells new
    (drop-change (here d + n + 1) (here d) (here d + n) (λ run. glyph n c d.cursor.style d.link) d.cells (omega arith) (omega arith) (omega (arith, far, inside))
    (length-glyph n c d.cursor.style d.link _ refl some few ∙ omega arith)) (omega (arith, far)))

pub run-far : (text : List ℕ) (d : Display) → d.cursor.column + length text + 1 < d.width → row_end d ≤ length d.cells
    → with_run text d ≡ row_going_on (row_goes_on d) (with_run text d)
run-far text d far inside =
    ap (λ l. record d { cells = l; cursor = record d.cursor { column = d.cursor.column + length text } })
    (going-far (row_end d) (here d + length text + 1) d.cells (with_glyphs (here d) text d.cursor.style d.link d.cells)
    (drop-glyphs (here d + length text + 1) (here d) text d.cursor.style d.link d.cells (omega arith) (omega (arith, far, inside))) (omega (arith, far)))

-- Where it did not go on before, it does not either.
pub glyph-ends : (n c : ℕ) (d : Display) → 1 ≤ n → n ≤ 2 → here d + n ≤ length d.cells → row_goes_on d ≡ false → with_cells_of n c d ≡ with_glyph n c d
unfolding with_glyph with_cells_of
glyph-ends n c d some few inside ends =
    let run : List Cell = glyph n c d.cursor.style d.link in
    let new : List Cell = change (here d) (here d + n) (λ old. run) d.cells in
    ap (λ l. record d { cells = l; cursor = record d.cursor { column = d.cursor.column + n } })
    (going-same (row_goes_on d) (row_end d) new
    (none-change (row_end d - 1) (here d) (here d + n) run d.cells (omega arith) inside (length-glyph n c d.cursor.style d.link _ refl some few ∙ omega arith)
    (glyph-none n c d.cursor.style d.link _ refl) ends ∙ sym ends))

pub run-ends : (text : List ℕ) (d : Display) → here d + length text ≤ length d.cells → row_goes_on d ≡ false
    → with_run text d ≡ row_going_on (row_goes_on d) (with_run text d)
run-ends text d inside ends =
    ap (λ l. record d { cells = l; cursor = record d.cursor { column = d.cursor.column + length text } })
    (going-same (row_goes_on d) (row_end d) (with_glyphs (here d) text d.cursor.style d.link d.cells)
    (none-glyphs (row_end d - 1) (here d) text d.cursor.style d.link d.cells inside ends ∙ sym ends))

-- Where a run comes to the end of its row and that does not go on, or does not come there, the row says what it said.
pub run-kept : (near : Bool) (text : List ℕ) (d : Display) → nat_le d.width (d.cursor.column + length text + 1) ≡ near → (near && row_goes_on d) ≡ false
    → d.cursor.column + length text ≤ d.width → row_end d ≤ length d.cells → with_run text d ≡ row_going_on (row_goes_on d) (with_run text d)
run-kept true text d is ends fits inside = run-ends text d (omega (arith, fits, inside)) ends
run-kept false text d is ends fits inside = run-far text d (leb-false d.width (d.cursor.column + length text + 1) is) inside

-- of which no row leaves
pub run-stays : (text : List ℕ) (s : State) → EachIs is_printed_ascii text → HasRoom (length text) s.display → all_left (printing text) s ≡ []
run-stays [] s are room = refl
run-stays (c ∷ text) s are room =
    ap₂ (λ (l m : List (List Cell)). l ++ m) (ap (λ (x : Step). x.left) (first-step c text s.display are.0 room))
    (run-stays text (after (print c) s) are.1 (first-room c text s.display are.0 room))

-- what REP repeats after a text
abbrev pub last_after : List ℕ → Option ℕ → Option ℕ
last_after [] last = last
last_after (c ∷ text) last = last_after text (repeatable c)

pub after-printing : (text : List ℕ) (s : State) → EachIs is_printed_ascii text → HasRoom (length text) s.display
    → after_all (printing text) s ≡ record s { display = printed_all text s.display; last = last_after text s.last }
after-printing [] s are room = refl
after-printing (c ∷ text) s are room =
    after-printing text (after (print c) s) are.1 (first-room c text s.display are.0 room)
    ∙ ap (λ (x : Step). record s { display = printed_all text (printed c s.display).display; last = last_after text (repeatable c); history = with_left x.left s.history })
    (first-step c text s.display are.0 room)

pub last_after-at : (text : List ℕ) (n : ℕ) (last : Option ℕ) → n < length text → last_after (take (suc n) text) last ≡ repeatable (get_or text n 0)
last_after-at [] n last inside = absurd (omega arith)
last_after-at (c ∷ text) zero last inside = refl
last_after-at (c ∷ text) (suc n) last inside = last_after-at text n (repeatable c) (omega arith)

-- what a display and a screen are once a run is put
pub put-cells : (text : List ℕ) (v s : State) (place : ℕ) (cells : List Cell) → v ≡ s
    → place ≡ here s.display → cells ≡ with_glyphs place text v.display.cursor.style v.display.link v.display.cells
    → changed (λ d. record d { cells = cells; cursor = record d.cursor { column = d.cursor.column + length text } }) v ≡ changed (with_run text) s
put-cells text v s place cells same there put =
    let at : place ≡ here v.display = there ∙ ap (λ (x : State). here x.display) (sym same) in
    ap (λ l. changed (λ d. record d { cells = l; cursor = record d.cursor { column = d.cursor.column + length text } }) v)
    (put ∙ ap (λ n. with_glyphs n text v.display.cursor.style v.display.link v.display.cells) at)
    ∙ ap (changed (with_run text)) same

pub put-state : (run : List ℕ) (n : ℕ) (v s put new : State) (last : Option ℕ) (x : ℕ) → v ≡ s → 0 < n → n ≤ length run
    → EachIs is_printed_ascii (take n run) → HasRoom (length (take n run)) v.display
    → put ≡ changed (printed_all (take n run)) v → new ≡ record put { last = last } → last ≡ repeatable x → x ≡ get_or run (n - 1) 0
    → new ≡ after_all (printing (take n run)) s
put-state run n v s put new last x same some inside are room printed then_is repeats from =
    let back : n ≡ suc (n - 1) = omega arith in
    let is : last_after (take n run) v.last ≡ repeatable (get_or run (n - 1) 0) =
    ap (λ k. last_after (take k run) v.last) back ∙ last_after-at run (n - 1) v.last (omega arith) in
    then_is
    ∙ (ap (λ (t : State). record t { last = last }) printed
    ∙ (ap (λ l. record v { display = printed_all (take n run) v.display; last = l }) (repeats ∙ (ap repeatable from ∙ sym is))
    ∙ (sym (after-printing (take n run) v are room) ∙ ap (after_all (printing (take n run))) same)))

-- for less than there is room for, there is room
pub put-stays : (run : List ℕ) (n room : ℕ) (v s : State) → v ≡ s → EachIs is_printed_ascii run → n ≡ min room (length run) → 0 < n
    → (0 < room → HasRoom room v.display) → all_left (printing (take n run)) s ≡ []
put-stays run n room v s same are least some has =
    let there : HasRoom room v.display = has (omega arith) in
    let long : length (take n run) ≡ n = length-take-le n run (omega arith) in
    let less : HasRoom (length (take n run)) v.display =
    record { fits = omega (arith, there.fits, long, least); stays = there.stays; letters = there.letters } in
    ap (all_left (printing (take n run))) (sym same)
    ∙ run-stays (take n run) v (AllByRecursion-take _ n run are) less

pub put-room : (run : List ℕ) (n room : ℕ) (d : Display) → n ≡ min room (length run) → 0 < n → (0 < room → HasRoom room d) → HasRoom (length (take n run)) d
put-room run n room d least some has =
    let there : HasRoom room d = has (omega arith) in
    let long : length (take n run) ≡ n = length-take-le n run (omega arith) in
    record { fits = omega (arith, there.fits, long, least); stays = there.stays; letters = there.letters }

-- texts, one after another
pub printing-append : (a b : List ℕ) → printing (a ++ b) ≡ printing a ++ printing b
printing-append a b = map-append print a b

pub after-more : (passed more : List ℕ) (first middle last : State) → middle ≡ after_all (printing passed) first → last ≡ after_all (printing more) middle
    → last ≡ after_all (printing (passed ++ more)) first
after-more passed more first middle last before then_more =
    then_more
    ∙ (ap (after_all (printing more)) before
    ∙ (sym (after_all-append (printing passed) (printing more) first)
    ∙ ap (λ calls. after_all calls first) (sym (printing-append passed more))))
