-- Rows as safe text, one after another: together the safe text of all their characters.
use Rattle.std.proofs.Common.{◌≡◌, ℕ, Bool, true, false, List, [], ◌∷◌, ◌++◌, map, take, refl, sym, ap, ap₂, ◌∙◌, append_assoc, append-nil, lit<}
use Rattle.std.specs.Prelude.{encode_utf8, if◌then◌else◌}
use Rattle.std.specs.List.{flat_map}
use Rattle.std.specs.Str.{encode_utf8_all}
use Rattle.std.proofs.lemmas.Grind.{flat_map-append}
use Rattle.std.proofs.lemmas.Str.{encodes-append}
use Rattle.anstyle_parse.proofs.Characters.Encoding.{encode_one}
use Rattle.anstyle_parse.specs.Stream.Call.{Call, print, execute, hook, put, unhook, osc_dispatch, csi_dispatch, esc_dispatch}
use Rattle.ansi_screen.specs.declared.cell.Cell.{Cell}
use Rattle.ansi_screen.specs.declared.cell.Marks.{Marks}
use Rattle.ansi_screen.specs.declared.cell.Marks.TheVariants.{Unmarked, One, Two}
use Rattle.ansi_screen.specs.After.{State, after, after_all}
use Rattle.ansi_screen.specs.Cells.{is_right}
use Rattle.ansi_screen.specs.Leaving.{all_left, rows_left}
use Rattle.ansi_screen.specs.Text.{cell_text, marks_text, is_unprinted, goes_on, used}
use Rattle.safe_text.specs.Safe.{safe_from}
use Rattle.safe_text.specs.Decided.{decided_from, waiting, last_from}
use Rattle.safe_text.specs.TakingProof.{decided_from-append, waiting-append, last_from-append}
use Rattle.safe_text.proofs.WholeLemmas.{encoded-then-safe}
use Rattle.screen_text.specs.declared.performer.ShownWriter.{ShownWriter}
use Rattle.screen_text.specs.Lines.{row_text, rows_text, open_after, closing, showing}
use Rattle.screen_text.specs.Rows.{Handed, leaving, commands, all_handed, rows_from, after_rows, last_rows_from}
use Rattle.screen_text.specs.Shown.{given_all, shown_text}
use Rattle.screen_text.specs.Writer.{rows_of, screen_of, text_from, ending_from}
use Rattle.screen_safe.specs.Characters.{marks_of, cell_characters, row_characters, rows_characters, row_marked, rows_marked}
use Rattle.screen_safe.specs.Shown.{shown_characters, left_marked, ending_marked, safe_left, safe_ending, safe_shown}
use Rattle.screen_safe.specs.Writer.{Between, standing_after, row_safe, after_row, after_command, closing_safe}

pub safe-joined : (s : State) (calls : List Call) → safe_left s calls ++ safe_ending s calls ≡ safe_shown s calls
safe-joined s calls = encoded-then-safe 0 (left_marked s calls) (ending_marked s calls)

-- the text of all characters so far
abbrev so_far : List ℕ → List ℕ
so_far cs = encode_utf8_all (decided_from 0 cs)

-- and one row more
grown : (cs more : List ℕ) → so_far cs ++ encode_utf8_all (decided_from (last_from 0 cs) (waiting cs ++ more)) ≡ so_far (cs ++ more)
grown cs more =
    sym (ap encode_utf8_all (decided_from-append 0 cs more) ∙ encodes-append (decided_from 0 cs) (decided_from (last_from 0 cs) (waiting cs ++ more)))

stands : (cs more : List ℕ) (on : Bool) → record { before = last_from (last_from 0 cs) (waiting cs ++ more); held = waiting (waiting cs ++ more); is_open = on } ≡ standing_after (cs ++ more) on
stands cs more on =
    let made : ℕ → List ℕ → Between = λ b h. record { before = b; held = h; is_open = on } in
    ap₂ made (sym (last_from-append 0 cs more)) (sym (waiting-append cs more))

rows-safe : (cs : List ℕ) (on : Bool) (rows : List (List Cell)) (others : List Handed)
    → so_far cs ++ rows_from row_safe after_row after_command (standing_after cs on) (map leaving rows ++ others)
    ≡ so_far (cs ++ rows_marked rows) ++ rows_from row_safe after_row after_command (standing_after (cs ++ rows_marked rows) (open_after on rows)) others
rows-safe cs on [] others =
    ap (λ l. so_far l ++ rows_from row_safe after_row after_command (standing_after l on) others) (sym (append-nil cs))
rows-safe cs on (row ∷ rows) others =
    let one : List ℕ = row_marked row in
    let text : List ℕ = row_safe (standing_after cs on) row in
    let rest : Between → List ℕ = λ at. rows_from row_safe after_row after_command at (map leaving rows ++ others) in
    sym (append_assoc (so_far cs) text (rest (after_row (standing_after cs on) row)))
    ∙ ap₂ (λ l at. l ++ rest at) (grown cs one) (stands cs one (goes_on row))
    ∙ rows-safe (cs ++ one) (goes_on row) rows others
    ∙ ap (λ l. so_far l ++ rows_from row_safe after_row after_command (standing_after l (open_after (goes_on row) rows)) others) (append_assoc cs one (rows_marked rows))

rows-stand : (cs : List ℕ) (on : Bool) (rows : List (List Cell)) (others : List Handed)
    → after_rows after_row after_command (standing_after cs on) (map leaving rows ++ others)
    ≡ after_rows after_row after_command (standing_after (cs ++ rows_marked rows) (open_after on rows)) others
rows-stand cs on [] others = ap (λ l. after_rows after_row after_command (standing_after l on) others) (sym (append-nil cs))
rows-stand cs on (row ∷ rows) others =
    let one : List ℕ = row_marked row in
    ap (λ at. after_rows after_row after_command at (map leaving rows ++ others)) (stands cs one (goes_on row))
    ∙ rows-stand (cs ++ one) (goes_on row) rows others
    ∙ ap (λ l. after_rows after_row after_command (standing_after l (open_after (goes_on row) rows)) others) (append_assoc cs one (rows_marked rows))

-- commands are no text
commands_text : (call : Call) (s : State) (at : Between) (others : List Handed)
    → rows_from row_safe after_row after_command at (commands call s ++ others) ≡ rows_from row_safe after_row after_command at others
commands_text (osc_dispatch parts bell) s at others = refl
commands_text (print c) s at others = refl
commands_text (execute byte) s at others = refl
commands_text (hook groups intermediates ignore final) s at others = refl
commands_text (put byte) s at others = refl
commands_text unhook s at others = refl
commands_text (csi_dispatch groups intermediates ignore final) s at others = refl
commands_text (esc_dispatch intermediates ignore final) s at others = refl

commands_stand : (call : Call) (s : State) (at : Between) (others : List Handed)
    → after_rows after_row after_command at (commands call s ++ others) ≡ after_rows after_row after_command at others
commands_stand (osc_dispatch parts bell) s at others = refl
commands_stand (print c) s at others = refl
commands_stand (execute byte) s at others = refl
commands_stand (hook groups intermediates ignore final) s at others = refl
commands_stand (put byte) s at others = refl
commands_stand unhook s at others = refl
commands_stand (csi_dispatch groups intermediates ignore final) s at others = refl
commands_stand (esc_dispatch intermediates ignore final) s at others = refl

open_after-append : (on : Bool) (rows more : List (List Cell)) → open_after on (rows ++ more) ≡ open_after (open_after on rows) more
open_after-append on [] more = refl
open_after-append on (row ∷ rows) more = open_after-append (goes_on row) rows more

-- the rows that leave by calls
later-marked : (cs : List ℕ) (rows more : List (List Cell)) → (cs ++ rows_marked rows) ++ rows_marked more ≡ cs ++ rows_marked (rows ++ more)
later-marked cs rows more =
    append_assoc cs (rows_marked rows) (rows_marked more) ∙ ap (λ l. cs ++ l) (sym (flat_map-append row_marked rows more))

handed-safe : (calls : List Call) (s : State) (cs : List ℕ) (on : Bool)
    → so_far cs ++ rows_from row_safe after_row after_command (standing_after cs on) (all_handed calls s) ≡ so_far (cs ++ rows_marked (all_left calls s))
handed-safe [] s cs on = append-nil (so_far cs) ∙ ap so_far (sym (append-nil cs))
handed-safe (call ∷ calls) s cs on =
    let rows = rows_left call s in
    let later = all_handed calls (after call s) in
    let reached = cs ++ rows_marked rows in
    ap (λ l. so_far cs ++ rows_from row_safe after_row after_command (standing_after cs on) l) (append_assoc (map leaving rows) (commands call s) later)
    ∙ rows-safe cs on rows (commands call s ++ later)
    ∙ ap (λ l. so_far reached ++ l) (commands_text call s (standing_after reached (open_after on rows)) later)
    ∙ handed-safe calls (after call s) reached (open_after on rows)
    ∙ ap so_far (later-marked cs rows (all_left calls (after call s)))

handed-stand : (calls : List Call) (s : State) (cs : List ℕ) (on : Bool)
    → after_rows after_row after_command (standing_after cs on) (all_handed calls s)
    ≡ standing_after (cs ++ rows_marked (all_left calls s)) (open_after on (all_left calls s))
handed-stand [] s cs on = ap (λ l. standing_after l on) (sym (append-nil cs))
handed-stand (call ∷ calls) s cs on =
    let rows = rows_left call s in
    let later = all_handed calls (after call s) in
    let reached = cs ++ rows_marked rows in
    ap (after_rows after_row after_command (standing_after cs on)) (append_assoc (map leaving rows) (commands call s) later)
    ∙ rows-stand cs on rows (commands call s ++ later)
    ∙ commands_stand call s (standing_after reached (open_after on rows)) later
    ∙ handed-stand calls (after call s) reached (open_after on rows)
    ∙ ap₂ standing_after (later-marked cs rows (all_left calls (after call s))) (sym (open_after-append on rows (all_left calls (after call s))))

-- the rows that still show, and the end of the last
last-safe : (cs : List ℕ) (on : Bool) (rows : List (List Cell))
    → last_rows_from row_safe after_row after_command closing_safe (standing_after cs on) (map leaving rows)
    ≡ encode_utf8_all (safe_from (last_from 0 cs) (waiting cs ++ (rows_marked rows ++ closing (open_after on rows))))
last-safe cs on [] = refl
last-safe cs on (row ∷ rows) =
    let one : List ℕ = row_marked row in
    let at : Between = standing_after cs on in
    let behind : List ℕ = rows_marked rows ++ closing (open_after (goes_on row) rows) in
    let rest : Between → List ℕ = λ b. last_rows_from row_safe after_row after_command closing_safe b (map leaving rows) in
    append_assoc (row_safe at row) (rows_from row_safe after_row after_command (after_row at row) (map leaving rows))
    (closing_safe (after_rows after_row after_command (after_row at row) (map leaving rows)))
    ∙ ap (λ b. row_safe at row ++ rest b) (stands cs one (goes_on row))
    ∙ ap (λ l. row_safe at row ++ l) (last-safe (cs ++ one) (goes_on row) rows)
    ∙ ap₂ (λ b h. row_safe at row ++ encode_utf8_all (safe_from b (h ++ behind))) (last_from-append 0 cs one) (waiting-append cs one)
    ∙ encoded-then-safe (last_from 0 cs) (waiting cs ++ one) behind
    ∙ ap (λ l. encode_utf8_all (safe_from (last_from 0 cs) l))
    (append_assoc (waiting cs) one behind ∙ ap (λ l. waiting cs ++ l) (sym (append_assoc one (rows_marked rows) (closing (open_after (goes_on row) rows)))))

-- what a new writer writes
module _ {R : Type 0} (standing_in : R → Between) (s : State) (performer : ShownWriter R) (is : screen_of performer ≡ s)
    (new : standing_in (rows_of performer) ≡ standing_after [] false) (calls : List Call) where
  pub left-new : text_from standing_in row_safe after_row after_command performer calls ≡ safe_left s calls
  left-new =
      ap₂ (λ at (x : State). rows_from row_safe after_row after_command at (all_handed (given_all calls) x)) new is
      ∙ handed-safe (given_all calls) s [] false

  pub ending-new : ending_from standing_in row_safe after_row after_command closing_safe performer calls ≡ safe_ending s calls
  ending-new =
      ap₂ (λ at (x : State). last_rows_from row_safe after_row after_command closing_safe
      (after_rows after_row after_command at (all_handed (given_all calls) x)) (map leaving (showing (after_all (given_all calls) x).display))) new is
      ∙ ap (λ at. last_rows_from row_safe after_row after_command closing_safe at (map leaving (showing (after_all (given_all calls) s).display)))
      (handed-stand (given_all calls) s [] false)
      ∙ last-safe (left_marked s calls) (open_after false (all_left (given_all calls) s)) (showing (after_all (given_all calls) s).display)

-- The characters are those of the text.
encoded-marks : (marks : Marks) → encode_utf8_all (marks_of marks) ≡ marks_text marks
encoded-marks Unmarked = refl
encoded-marks (One first) = append-nil (encode_utf8 first)
encoded-marks (Two first second) = ap (λ l. encode_utf8 first ++ l) (append-nil (encode_utf8 second))

encoded-cell : (cell : Cell) → encode_utf8_all (cell_characters cell) ≡ cell_text cell
unfolding cell_characters cell_text
encoded-cell cell = by (is_right cell.part)
  where
    by : (t : Bool) → encode_utf8_all (if t then [] else cell.character ∷ marks_of cell.marks) ≡ (if t then [] else encode_utf8 cell.character ++ marks_text cell.marks)
    by true = refl
    by false = ap (λ l. encode_utf8 cell.character ++ l) (encoded-marks cell.marks)

encoded-cells : (cells : List Cell) → encode_utf8_all (flat_map cell_characters cells) ≡ flat_map cell_text cells
encoded-cells [] = refl
encoded-cells (cell ∷ cells) =
    encodes-append (cell_characters cell) (flat_map cell_characters cells) ∙ ap₂ (λ x y. x ++ y) (encoded-cell cell) (encoded-cells cells)

encoded-feed : encode_utf8_all (0x0A ∷ []) ≡ 0x0A ∷ []
encoded-feed = ap (λ (l : List ℕ). l ++ []) (encode_one 0x0A (lit< tt))

encoded-end : (on : Bool) → encode_utf8_all (if on then [] else 0x0A ∷ []) ≡ (if on then [] else 0x0A ∷ [])
encoded-end true = refl
encoded-end false = encoded-feed

encoded-closing : (on : Bool) → encode_utf8_all (closing on) ≡ closing on
encoded-closing true = encoded-feed
encoded-closing false = refl

encoded-row : (row : List Cell) → encode_utf8_all (row_characters row) ≡ row_text row
encoded-row row =
    let cells = take (used is_unprinted row) row in
    encodes-append (flat_map cell_characters cells) (if goes_on row then [] else 0x0A ∷ [])
    ∙ ap₂ (λ x y. x ++ y) (encoded-cells cells) (encoded-end (goes_on row))

encoded-rows : (rows : List (List Cell)) → encode_utf8_all (rows_characters rows) ≡ rows_text rows
encoded-rows [] = refl
encoded-rows (row ∷ rows) =
    encodes-append (row_characters row) (rows_characters rows) ∙ ap₂ (λ x y. x ++ y) (encoded-row row) (encoded-rows rows)

pub encoded-shown : (s : State) (calls : List Call) → encode_utf8_all (shown_characters s calls) ≡ shown_text s calls
encoded-shown s calls =
    let left = all_left (given_all calls) s in
    let shows = showing (after_all (given_all calls) s).display in
    let end = closing (open_after (open_after false left) shows) in
    encodes-append (rows_characters left) (rows_characters shows ++ end)
    ∙ ap₂ (λ x y. x ++ y) (encoded-rows left)
    (encodes-append (rows_characters shows) end ∙ ap₂ (λ x y. x ++ y) (encoded-rows shows) (encoded-closing (open_after (open_after false left) shows)))
