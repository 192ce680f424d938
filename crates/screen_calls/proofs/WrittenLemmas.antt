-- What is written as rows are given on is what is written of their calls.
use Rattle.std.proofs.Common.{◌≡◌, ◌&&◌, ℕ, Bool, List, [], ◌∷◌, ◌++◌, length, drop, map, refl, sym, ap, ap₂, ◌∙◌, ⊎_elim, inl, inr, append_assoc, append-nil}
use Rattle.std.proofs.Math.Path.{fun_ext}
use Rattle.std.proofs.Math.Seq.{drop-append_seam}
use Rattle.std.proofs.lemmas.Bool.{and_parts}
use Rattle.std.proofs.lemmas.List.{append_cancel_left}
use Rattle.each_source.specs.Each.{Given, BeginsWith}
use Rattle.anstyle_parse.specs.Stream.Call.{Call}
use Rattle.ansi_screen.specs.After.{State, after_all}
use Rattle.html_urls.specs.Resumed.{Resumes}
use Rattle.screen_text.specs.declared.performer.ShownWriter.{ShownWriter}
use Rattle.screen_text.specs.Lines.{showing}
use Rattle.screen_text.specs.Rows.{Handed, leaving, command, all_handed, rows_from, after_rows, last_rows_from}
use Rattle.screen_text.specs.Shown.{given_all}
use Rattle.screen_text.specs.Writer.{rows_of, screen_of, text_from, ending_from}
use Rattle.screen_calls.specs.declared.rows.CallRows.{CallRows}
use Rattle.screen_calls.specs.Calls.{Hand, row_calls, hand_after, hand_told, handed_calls, hand_behind, closing_calls, at_start, left_calls, ending_calls, shown_calls}
use Rattle.screen_calls.specs.Rows.{performer_in, hand_of}
use Rattle.screen_calls.specs.Writer.{Standing, standing, standing_in, text_behind, after_calls, row_text, after_row, after_command, closing}
use Rattle.screen_calls.specs.WriterProof.{same-standing, text-none}

module _ (text ending : List Call → List ℕ) (none : text [] ≡ [])
    (joined : (calls more : List Call) → text calls ++ text_behind text calls more ≡ text (calls ++ more)) where
  -- where calls lead
  abbrev went : List Call → Hand → Standing
  went calls hand = after_calls (standing text ending hand) calls hand

  rest-parts : (calls more others : List Call) → text_behind text calls (more ++ others) ≡ text_behind text calls more ++ text_behind text (calls ++ more) others
  rest-parts calls more others =
      let first = text calls in
      let second = text_behind text calls more in
      let third = text_behind text (calls ++ more) others in
      append_cancel_left first (text_behind text calls (more ++ others)) (second ++ third)
      (joined calls (more ++ others)
      ∙ ap text (sym (append_assoc calls more others))
      ∙ sym (joined (calls ++ more) others)
      ∙ ap (λ l. l ++ third) (sym (joined calls more))
      ∙ append_assoc first second third)

  rest-behind : (calls more others : List Call) → text_behind (λ m. text_behind text calls m) more others ≡ text_behind text (calls ++ more) others
  rest-behind calls more others =
      ap (drop (length (text_behind text calls more))) (rest-parts calls more others)
      ∙ drop-append_seam (text_behind text calls more) (text_behind text (calls ++ more) others)

  steps : (calls more : List Call) (hand then : Hand) → after_calls (went calls hand) more then ≡ went (calls ++ more) then
  steps calls more hand then =
      same-standing (fun_ext (λ others. rest-behind calls more others)) (fun_ext (λ others. ap ending (sym (append_assoc calls more others)))) refl

  written : (calls : List Call) (hand : Hand) (all : List Handed)
      → text calls ++ rows_from row_text after_row after_command (went calls hand) all ≡ text (calls ++ handed_calls hand all)
  written calls hand [] = append-nil (text calls) ∙ ap text (sym (append-nil calls))
  written calls hand (leaving row ∷ others) =
      let more = row_calls hand row in
      let then = hand_after hand row in
      let rest = rows_from row_text after_row after_command (after_calls (went calls hand) more then) others in
      sym (append_assoc (text calls) (text_behind text calls more) rest)
      ∙ ap (λ l. l ++ rest) (joined calls more)
      ∙ ap (λ at. text (calls ++ more) ++ rows_from row_text after_row after_command at others) (steps calls more hand then)
      ∙ written (calls ++ more) then others
      ∙ ap text (append_assoc calls more (handed_calls then others))
  written calls hand (command number parts ∷ others) = written calls (hand_told hand number parts) others

  leads : (calls : List Call) (hand : Hand) (all : List Handed)
      → after_rows after_row after_command (went calls hand) all ≡ went (calls ++ handed_calls hand all) (hand_behind hand all)
  leads calls hand [] = ap (λ l. went l hand) (sym (append-nil calls))
  leads calls hand (leaving row ∷ others) =
      let more = row_calls hand row in
      let then = hand_after hand row in
      ap (λ at. after_rows after_row after_command at others) (steps calls more hand then)
      ∙ leads (calls ++ more) then others
      ∙ ap (λ l. went l (hand_behind then others)) (append_assoc calls more (handed_calls then others))
  leads calls hand (command number parts ∷ others) = leads calls (hand_told hand number parts) others

  closed : (calls : List Call) (hand : Hand)
      → text calls ++ closing (went calls hand) ≡ text (calls ++ closing_calls hand) ++ ending (calls ++ closing_calls hand)
  closed calls hand =
      let last = closing_calls hand in
      sym (append_assoc (text calls) (text_behind text calls last) (ending (calls ++ last)))
      ∙ ap (λ l. l ++ ending (calls ++ last)) (joined calls last)

  start : (hand : Hand) → standing text ending hand ≡ went [] hand
  start hand = same-standing (fun_ext (λ more. sym (ap (λ (l : List ℕ). drop (length l) (text more)) none))) refl refl

  -- from the start on: as rows leave,
  pub written-left : (hand : Hand) (all : List Handed) → rows_from row_text after_row after_command (standing text ending hand) all ≡ text (handed_calls hand all)
  written-left hand all =
      ap (λ at. rows_from row_text after_row after_command at all) (start hand)
      ∙ ap (λ l. l ++ rows_from row_text after_row after_command (went [] hand) all) (sym none)
      ∙ written [] hand all

  -- and at the end
  pub written-ending : (hand : Hand) (gone still : List Handed) →
      let left = handed_calls hand gone in
      let then = hand_behind hand gone in
      let all = left ++ (handed_calls then still ++ closing_calls (hand_behind then still)) in
      last_rows_from row_text after_row after_command closing (after_rows after_row after_command (standing text ending hand) gone) still
      ≡ drop (length (text left)) (text all ++ ending all)
  written-ending hand gone still =
      let left = handed_calls hand gone in
      let then = hand_behind hand gone in
      let shown = handed_calls then still in
      let behind = hand_behind then still in
      let last = closing_calls behind in
      let rows = rows_from row_text after_row after_command (went left then) still in
      let end = closing (after_rows after_row after_command (went left then) still) in
      ap (λ at. last_rows_from row_text after_row after_command closing at still) (ap (λ at. after_rows after_row after_command at gone) (start hand) ∙ leads [] hand gone)
      ∙ sym (drop-append_seam (text left) (rows ++ end))
      ∙ ap (drop (length (text left)))
      (sym (append_assoc (text left) rows end)
      ∙ ap (λ l. l ++ end) (written left then still)
      ∙ ap (λ at. text (left ++ shown) ++ closing at) (leads left then still)
      ∙ closed (left ++ shown) behind
      ∙ ap (λ l. text l ++ ending l) (append_assoc left shown last))

-- A new one writes what its performer writes of the calls of what was shown.
module _ {P W : Type 0} {receives : P → List Call → P → Type 0} {text : P → List Call → List ℕ} {after : P → (calls more : List Call) → List ℕ}
    {ending : P → List Call → List ℕ} (goes_on : Resumes receives text after ending) (none : (performer : P) → receives performer [] performer)
    (shown : ShownWriter (CallRows P W)) (rows : CallRows P W) (performer : P) (s : State) (rows_are : rows_of shown ≡ rows)
    (performer_is : performer_in rows ≡ performer) (hand_is : hand_of rows ≡ at_start) (screen_is : screen_of shown ≡ s) (calls : List Call) where
  nothing : text performer [] ≡ []
  nothing = text-none goes_on none performer

  joined : (first second : List Call) → text performer first ++ text_behind (text performer) first second ≡ text performer (first ++ second)
  joined first second =
      ap (λ l. text performer first ++ drop (length (text performer first)) l) (sym (goes_on.joined performer first second))
      ∙ ap (λ l. text performer first ++ l) (drop-append_seam (text performer first) (after performer first second))
      ∙ goes_on.joined performer first second

  begun : standing_in text ending (rows_of shown) ≡ standing (text performer) (ending performer) at_start
  begun =
      ap (standing_in text ending) rows_are
      ∙ ap (λ it. standing (text it) (ending it) (hand_of rows)) performer_is
      ∙ ap (standing (text performer) (ending performer)) hand_is

  pub left-new : text_from (standing_in text ending) row_text after_row after_command shown calls ≡ text performer (left_calls s calls)
  left-new =
      ap₂ (λ at it. rows_from row_text after_row after_command at (all_handed (given_all calls) it)) begun screen_is
      ∙ written-left (text performer) (ending performer) nothing joined at_start (all_handed (given_all calls) s)

  pub ending-new : ending_from (standing_in text ending) row_text after_row after_command closing shown calls
      ≡ drop (length (text performer (left_calls s calls))) (text performer (shown_calls s calls) ++ ending performer (shown_calls s calls))
  ending-new =
      ap₂ (λ at (it : State). last_rows_from row_text after_row after_command closing (after_rows after_row after_command at (all_handed (given_all calls) it))
      (map leaving (showing (after_all (given_all calls) it).display))) begun screen_is
      ∙ written-ending (text performer) (ending performer) nothing joined at_start (all_handed (given_all calls) s) (map leaving (showing (after_all (given_all calls) s).display))

  -- what is written of all of it goes on from there
  pub whole-new : text performer (left_calls s calls)
      ++ drop (length (text performer (left_calls s calls))) (text performer (shown_calls s calls) ++ ending performer (shown_calls s calls))
      ≡ text performer (shown_calls s calls) ++ ending performer (shown_calls s calls)
  whole-new =
      let left = left_calls s calls in
      let still = ending_calls s calls in
      let front = text performer left in
      let end = ending performer (shown_calls s calls) in
      let rest = text_behind (text performer) left still ++ end in
      let is = sym (append_assoc front (text_behind (text performer) left still) end) ∙ ap (λ l. l ++ end) (joined left still) in
      ap (λ l. front ++ drop (length front) l) (sym is) ∙ ap (λ l. front ++ l) (drop-append_seam front rest) ∙ is

-- Bytes that say two things say each.
pub begins-first : (one other : List ℕ → Bool) (front : List ℕ) (given : Given) → BeginsWith (λ bytes. one bytes && other bytes) front given → BeginsWith one front given
begins-first one other front given begins =
    let (rest, read, enough) = begins in
    (rest, read, ⊎_elim (λ both. inl (and_parts (one front) (other front) both).0) inr enough)

pub begins-second : (one other : List ℕ → Bool) (front : List ℕ) (given : Given) → BeginsWith (λ bytes. one bytes && other bytes) front given → BeginsWith other front given
begins-second one other front given begins =
    let (rest, read, enough) = begins in
    (rest, read, ⊎_elim (λ both. inl (and_parts (one front) (other front) both).1) inr enough)
