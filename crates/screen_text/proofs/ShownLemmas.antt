-- Rows that are taken are written, so that calls which the screen receives are shown.
use Rattle.std.specs.Prelude.{◌==◌, if◌then◌else◌}
use Rattle.std.specs.List.{flat_map}
use Rattle.std.proofs.Common.{◌≡◌, ℕ, Bool, true, false, List, [], ◌∷◌, ◌++◌, take, map, refl, sym, ap, ap₂, ◌∙◌, subst, append-nil, append_assoc}
use Rattle.std.proofs.lemmas.Bool.{ne_eqb}
use Rattle.std.proofs.lemmas.List.{map-append}
use Rattle.std.proofs.lemmas.Grind.{flat_map-append}
use Rattle.anstyle_parse.specs.declared.io.devices.Sink.{Ghosts as SinkOf}
use Rattle.anstyle_parse.specs.declared.io.output.Output.{Output}
use Rattle.anstyle_parse.specs.Stream.Call.{Call, print, execute, hook, put, unhook, osc_dispatch, csi_dispatch, esc_dispatch}
use Rattle.anstyle_parse.specs.Io.Output.{Adds}
use Rattle.anstyle_parse.specs.Io.AddingProof.{Adds-append}
use Rattle.ansi_screen.specs.declared.cell.Cell.{Cell}
use Rattle.ansi_screen.specs.Display.{Display}
use Rattle.ansi_screen.specs.After.{State, after, after_all}
use Rattle.ansi_screen.specs.Text.{cell_text, used, is_unprinted, goes_on, printed_rows}
use Rattle.ansi_screen.specs.Edits.{swapped}
use Rattle.ansi_screen.specs.Leaving.{all_left, rows_left, TakesRows, Scrolls, ScrollsAll}
use Rattle.ansi_screen.proofs.LeavingLemmas.{takes-append}
use Rattle.screen_text.specs.declared.performer.ShownWriter.{ShownWriter}
use Rattle.screen_text.specs.Lines.{row_text, rows_text, open_after, closing, showing, row_text_at, after_row as after_line, after_command}
use Rattle.screen_text.specs.Rows.{Handed, leaving, commands, handed, all_handed, rows_from, after_rows, last_rows_from, WritesRow, WritesCommand, WritesNothing, Took, none, row, told, passed}
use Rattle.screen_text.specs.Shown.{given, given_all, left_text, still_text, ending_text}
use Rattle.screen_text.specs.Writer.{rows_of, screen_of, text_from, ending_from, Shows}
use Rattle.screen_text.specs.ShowingProof.{Shows-append, took-standing, took-added}

module _ {R : Type 0} (takes : R → List Cell → R → Type 0) (takes_command : R → ℕ → List (List ℕ) → R → Type 0) (passes_on : R → R → Type 0) where
  took-rows : (rows : List (List Cell)) (a b : R) → TakesRows takes a rows b → Took takes takes_command passes_on a (map leaving rows) b
  took-rows [] a b same = subst (λ x. Took takes takes_command passes_on a [] x) (sym same) none
  took-rows (one ∷ rows) a b (middle, first, others) = row first (took-rows rows middle b others)

  -- one call that is no command
  pub scrolls-shows : (call : Call) (old new : ShownWriter R) → commands call (screen_of old) ≡ [] → Scrolls takes old.scrolling call new.scrolling
      → Shows takes takes_command passes_on old (call ∷ []) new
  scrolls-shows call old new other scrolls =
      let rows : List (List Cell) = rows_left call (screen_of old) in
      let all : map leaving rows ≡ all_handed (call ∷ []) (screen_of old) =
      sym (append-nil (map leaving rows)) ∙ (ap (λ l. map leaving rows ++ l) (sym other) ∙ sym (append-nil (handed call (screen_of old)))) in
      record {
        screen = scrolls.screen;
        taken = subst (λ l. Took takes takes_command passes_on (rows_of old) l (rows_of new)) all
            (took-rows rows (rows_of old) (rows_of new) scrolls.taken);
      }

  -- a text
  printing-given : (text : List ℕ) → given_all (map print text) ≡ map print text
  printing-given [] = refl
  printing-given (c ∷ text) = ap (λ l. print c ∷ l) (printing-given text)

  printing-handed : (text : List ℕ) (s : State) → all_handed (map print text) s ≡ map leaving (all_left (map print text) s)
  printing-handed [] s = refl
  printing-handed (c ∷ text) s =
      let rows : List (List Cell) = rows_left (print c) s in
      ap₂ (λ a b. a ++ b) (append-nil (map leaving rows)) (printing-handed text (after (print c) s))
      ∙ sym (map-append leaving rows (all_left (map print text) (after (print c) s)))

  pub text-shows : (text : List ℕ) (old new : ShownWriter R) → ScrollsAll takes old.scrolling (map print text) new.scrolling
      → Shows takes takes_command passes_on old (given_all (map print text)) new
  text-shows text old new scrolls =
      subst (λ l. Shows takes takes_command passes_on old l new) (sym (printing-given text)) (record {
        screen = scrolls.screen;
        taken = subst (λ l. Took takes takes_command passes_on (rows_of old) l (rows_of new)) (sym (printing-handed text (screen_of old)))
            (took-rows (all_left (map print text) (screen_of old)) (rows_of old) (rows_of new) scrolls.taken);
      })

  -- a command, of which what takes the rows is told
  pub tells-shows : (parts : List (List ℕ)) (bell : Bool) (old middle new : ShownWriter R)
      → Scrolls takes old.scrolling (osc_dispatch parts bell) middle.scrolling → screen_of new ≡ screen_of middle
      → takes_command (rows_of middle) (screen_of middle).display.link parts (rows_of new)
      → Shows takes takes_command passes_on old (osc_dispatch parts bell ∷ []) new
  tells-shows parts bell old middle new scrolls stays told_it =
      let s : State = screen_of old in
      let behind : State = after (osc_dispatch parts bell) s in
      let from : takes_command (rows_of old) (screen_of middle).display.link parts (rows_of new) =
      subst (λ r. takes_command r (screen_of middle).display.link parts (rows_of new)) scrolls.taken told_it in
      let number : takes_command (rows_of old) behind.display.link parts (rows_of new) =
      subst (λ (x : State). takes_command (rows_of old) x.display.link parts (rows_of new)) scrolls.screen from in
      record { screen = stays ∙ scrolls.screen; taken = told number none }

  -- a control, and a carriage return before it where it is a line feed
  pub shows-feed : (byte : ℕ) (old middle new : ShownWriter R) → byte ≡ 0x0A
      → Scrolls takes old.scrolling (execute 0x0D) middle.scrolling
      → Scrolls takes middle.scrolling (execute byte) new.scrolling → Shows takes takes_command passes_on old (given (execute byte)) new
  shows-feed byte old middle new is first second =
      let feed : Scrolls takes middle.scrolling (execute 0x0A) new.scrolling =
      subst (λ b. Scrolls takes middle.scrolling (execute b) new.scrolling) is second in
      let feeds : (byte == 0x0A) ≡ true = ap (λ b. b == 0x0A) is in
      rw feeds (Shows-append takes takes_command passes_on old middle new (execute 0x0D ∷ []) (execute 0x0A ∷ [])
      (scrolls-shows (execute 0x0D) old middle refl first) (scrolls-shows (execute 0x0A) middle new refl feed))

  pub shows-control : (byte : ℕ) (old new : ShownWriter R) → (byte ≡ 0x0A → ⊥)
      → Scrolls takes old.scrolling (execute byte) new.scrolling → Shows takes takes_command passes_on old (given (execute byte)) new
  shows-control byte old new other scrolls = rw (ne_eqb byte 0x0A other) (scrolls-shows (execute byte) old new refl scrolls)

  -- what is held back is handed on
  pub shows-passed : (old new : ShownWriter R) → screen_of new ≡ screen_of old → passes_on (rows_of old) (rows_of new)
      → Shows takes takes_command passes_on old (given_all []) new
  shows-passed old new same held = record { screen = same; taken = passed held none }

-- the rows that still show: those of the main screen, where it is hidden, and then those of the one that shows
pub takes-showing : {R : Type 0} (takes : R → List Cell → R → Type 0) (d : Display) (t : Bool) (a b c : R) → d.is_alternate ≡ t
    → TakesRows takes a (if t then printed_rows (swapped d) else []) b → TakesRows takes b (printed_rows d) c → TakesRows takes a (showing d) c
takes-showing takes d t a b c is first second =
    takes-append takes (if d.is_alternate then printed_rows (swapped d) else []) (printed_rows d) a b c
    (subst (λ u. TakesRows takes a (if u then printed_rows (swapped d) else []) b) (sym is) first) second

-- the rows that still show, and the end of the last
pub adds-ending : {R W S : Type 0} (sink : SinkOf W) (takes : R → List Cell → R → Type 0) (takes_command : R → ℕ → List (List ℕ) → R → Type 0) (passes_on : R → R → Type 0) (output_in : R → Output W)
    (standing_in : R → S) (row_text_of : S → List Cell → List ℕ) (after_row : S → List Cell → S) (after_command : S → ℕ → List (List ℕ) → S) (closing_of : S → List ℕ)
    (writes_row : (old : R) (one : List Cell) (new : R) → takes old one new → WritesRow sink output_in standing_in row_text_of after_row old one new)
    (writes_command : (old : R) (link : ℕ) (parts : List (List ℕ)) (new : R) → takes_command old link parts new
    → WritesCommand sink output_in standing_in after_command old link parts new)
    (writes_nothing : (old new : R) → passes_on old new → WritesNothing sink output_in standing_in old new)
    (s : State) (a b c : R) (end : Output W)
    → TakesRows takes a (showing s.display) b → c ≡ b → Adds sink (closing_of (standing_in c)) (output_in c) end
    → Adds sink (last_rows_from row_text_of after_row after_command closing_of (standing_in a) (map leaving (showing s.display))) (output_in a) end
adds-ending {R} {W} {S} sink takes takes_command passes_on output_in standing_in row_text_of after_row after_command closing_of writes_row writes_command writes_nothing s a b c end taken same closed =
    let d : Display = s.display in
    let took : Took takes takes_command passes_on a (map leaving (showing d)) b = took-rows takes takes_command passes_on (showing d) a b taken in
    let ended : Adds sink (closing_of (standing_in b)) (output_in b) end = subst (λ (x : R). Adds sink (closing_of (standing_in x)) (output_in x) end) same closed in
    Adds-append sink (rows_from row_text_of after_row after_command (standing_in a) (map leaving (showing d))) (closing_of (after_rows after_row after_command (standing_in a) (map leaving (showing d))))
    (output_in a) (output_in b) end
    (took-added sink takes takes_command passes_on output_in standing_in row_text_of after_row after_command writes_row writes_command writes_nothing took)
    (subst (λ at. Adds sink (closing_of at) (output_in b) end)
    (took-standing sink takes takes_command passes_on output_in standing_in row_text_of after_row after_command writes_row writes_command writes_nothing took) ended)

-- a row's cells, and a line feed
pub adds-row : {W : Type 0} (sink : SinkOf W) (one : List Cell) (count : ℕ) (a b end : Output W) → count ≡ used is_unprinted one → goes_on one ≡ false
    → Adds sink (flat_map cell_text (take count one)) a b → Adds sink (0x0A ∷ []) b end → Adds sink (row_text one) a end
adds-row sink one count a b end same ends first second =
    let cells : Adds sink (flat_map cell_text (take (used is_unprinted one) one)) a b =
    subst (λ k. Adds sink (flat_map cell_text (take k one)) a b) same first in
    rw ends (Adds-append sink (flat_map cell_text (take (used is_unprinted one) one)) (0x0A ∷ []) a b end cells second)

-- Rows as text: one after another, whether a line is open or not.
rows_text-from : (on : Bool) (rows : List (List Cell)) (others : List Handed)
    → rows_from row_text_at after_line after_command on (map leaving rows ++ others)
    ≡ rows_text rows ++ rows_from row_text_at after_line after_command (open_after on rows) others
rows_text-from on [] others = refl
rows_text-from on (one ∷ rows) others =
    ap (λ l. row_text one ++ l) (rows_text-from (goes_on one) rows others)
    ∙ sym (append_assoc (row_text one) (rows_text rows) (rows_from row_text_at after_line after_command (open_after (goes_on one) rows) others))

open_after-rows : (on : Bool) (rows : List (List Cell)) (others : List Handed)
    → after_rows after_line after_command on (map leaving rows ++ others) ≡ after_rows after_line after_command (open_after on rows) others
open_after-rows on [] others = refl
open_after-rows on (one ∷ rows) others = open_after-rows (goes_on one) rows others

-- commands are no text
commands_text : (call : Call) (s : State) (on : Bool) (others : List Handed)
    → rows_from row_text_at after_line after_command on (commands call s ++ others) ≡ rows_from row_text_at after_line after_command on others
commands_text (osc_dispatch parts bell) s on others = refl
commands_text (print c) s on others = refl
commands_text (execute byte) s on others = refl
commands_text (hook groups intermediates ignore final) s on others = refl
commands_text (put byte) s on others = refl
commands_text unhook s on others = refl
commands_text (csi_dispatch groups intermediates ignore final) s on others = refl
commands_text (esc_dispatch intermediates ignore final) s on others = refl

commands_open : (call : Call) (s : State) (on : Bool) (others : List Handed)
    → after_rows after_line after_command on (commands call s ++ others) ≡ after_rows after_line after_command on others
commands_open (osc_dispatch parts bell) s on others = refl
commands_open (print c) s on others = refl
commands_open (execute byte) s on others = refl
commands_open (hook groups intermediates ignore final) s on others = refl
commands_open (put byte) s on others = refl
commands_open unhook s on others = refl
commands_open (csi_dispatch groups intermediates ignore final) s on others = refl
commands_open (esc_dispatch intermediates ignore final) s on others = refl

open_after-append : (on : Bool) (rows more : List (List Cell)) → open_after on (rows ++ more) ≡ open_after (open_after on rows) more
open_after-append on [] more = refl
open_after-append on (one ∷ rows) more = open_after-append (goes_on one) rows more

pub handed_text : (calls : List Call) (s : State) (on : Bool)
    → rows_from row_text_at after_line after_command on (all_handed calls s) ≡ rows_text (all_left calls s)
handed_text [] s on = refl
handed_text (call ∷ calls) s on =
    let rows = rows_left call s in
    let later = all_handed calls (after call s) in
    ap (rows_from row_text_at after_line after_command on) (append_assoc (map leaving rows) (commands call s) later)
    ∙ rows_text-from on rows (commands call s ++ later)
    ∙ ap (λ l. rows_text rows ++ l) (commands_text call s (open_after on rows) later ∙ handed_text calls (after call s) (open_after on rows))
    ∙ sym (flat_map-append row_text rows (all_left calls (after call s)))

pub handed_open : (calls : List Call) (s : State) (on : Bool)
    → after_rows after_line after_command on (all_handed calls s) ≡ open_after on (all_left calls s)
handed_open [] s on = refl
handed_open (call ∷ calls) s on =
    let rows = rows_left call s in
    let later = all_handed calls (after call s) in
    ap (after_rows after_line after_command on) (append_assoc (map leaving rows) (commands call s) later)
    ∙ open_after-rows on rows (commands call s ++ later)
    ∙ commands_open call s (open_after on rows) later
    ∙ handed_open calls (after call s) (open_after on rows)
    ∙ sym (open_after-append on rows (all_left calls (after call s)))

still_text-rows : (on : Bool) (d : Display) → last_rows_from row_text_at after_line after_command closing on (map leaving (showing d)) ≡ still_text on d
still_text-rows on d =
    let rows = showing d in
    let none : map leaving rows ≡ map leaving rows ++ [] = sym (append-nil (map leaving rows)) in
    ap (last_rows_from row_text_at after_line after_command closing on) none
    ∙ ap₂ (λ l t. l ++ closing t) (rows_text-from on rows [] ∙ append-nil (rows_text rows)) (open_after-rows on rows [])

-- what a new writer writes
module _ {R : Type 0} (is_open : R → Bool) (s : State) (performer : ShownWriter R) (is : screen_of performer ≡ s)
    (closed : is_open (rows_of performer) ≡ false) (calls : List Call) where
  pub text_from-new : text_from is_open row_text_at after_line after_command performer calls ≡ left_text s calls
  text_from-new =
      handed_text (given_all calls) (screen_of performer) (is_open (rows_of performer))
      ∙ ap (λ x. left_text x calls) is

  pub ending_from-new : ending_from is_open row_text_at after_line after_command closing performer calls ++ [] ≡ ending_text s calls
  ending_from-new =
      append-nil (ending_from is_open row_text_at after_line after_command closing performer calls)
      ∙ ap (λ t. last_rows_from row_text_at after_line after_command closing t (map leaving (showing (after_all (given_all calls) (screen_of performer)).display)))
      (handed_open (given_all calls) (screen_of performer) (is_open (rows_of performer)))
      ∙ still_text-rows (open_after (is_open (rows_of performer)) (all_left (given_all calls) (screen_of performer))) (after_all (given_all calls) (screen_of performer)).display
      ∙ ap₂ (λ t (x : State). still_text (open_after t (all_left (given_all calls) x)) (after_all (given_all calls) x).display) closed is
