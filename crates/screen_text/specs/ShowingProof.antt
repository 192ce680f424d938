-- No definition, but proofs: the language wants those of a trait's laws among the specs.
-- Calls that a writer of what a screen showed receives one after another are one list of calls.
use Rattle.std.proofs.Common.{◌≡◌, ℕ, List, [], ◌∷◌, ◌++◌, map, refl, sym, ap, ◌∙◌, subst, append_assoc, append-nil}
use Rattle.std.proofs.lemmas.Grind.{flat_map-append}
use Rattle.anstyle_parse.specs.declared.io.devices.Sink.{Ghosts as SinkOf}
use Rattle.anstyle_parse.specs.declared.io.output.Output.{Output}
use Rattle.anstyle_parse.specs.Stream.Call.{Call}
use Rattle.anstyle_parse.specs.Stream.Texts.{FollowsCalls}
use Rattle.anstyle_parse.specs.Io.Output.{Adds}
use Rattle.anstyle_parse.specs.Io.AddingProof.{Adds-nil, Adds-append}
use Rattle.ansi_screen.specs.declared.cell.Cell.{Cell}
use Rattle.ansi_screen.specs.After.{State, after, after_all}
use Rattle.ansi_screen.specs.TextsProof.{after_all-append}
use Rattle.screen_text.specs.declared.performer.ShownWriter.{ShownWriter}
use Rattle.screen_text.specs.Lines.{showing}
use Rattle.screen_text.specs.Rows.{Handed, leaving, handed, all_handed, rows_from, after_rows, last_rows_from, WritesRow, WritesCommand, WritesNothing, Took, none, row, told, passed}
use Rattle.screen_text.specs.Shown.{given, given_all}
use Rattle.screen_text.specs.Writer.{rows_of, screen_of, text_from, ending_from, Shows}

pub all_handed-append : (calls more : List Call) (s : State) → all_handed (calls ++ more) s ≡ all_handed calls s ++ all_handed more (after_all calls s)
all_handed-append [] more s = refl
all_handed-append (call ∷ calls) more s =
    ap (λ l. handed call s ++ l) (all_handed-append calls more (after call s))
    ∙ sym (append_assoc (handed call s) (all_handed calls (after call s)) (all_handed more (after_all calls (after call s))))

module _ {R : Type 0} (takes : R → List Cell → R → Type 0) (takes_command : R → ℕ → List (List ℕ) → R → Type 0) (passes_on : R → R → Type 0) where
  -- rows that are taken one after another
  pub Took-append : {old middle new : R} {rows more : List Handed} → Took takes takes_command passes_on old rows middle
      → Took takes takes_command passes_on middle more new → Took takes takes_command passes_on old (rows ++ more) new
  Took-append none second = second
  Took-append (row taken first) second = row taken (Took-append first second)
  Took-append (told taken first) second = told taken (Took-append first second)
  Took-append (passed held first) second = passed held (Took-append first second)

  pub Shows-none : (performer : ShownWriter R) → Shows takes takes_command passes_on performer [] performer
  Shows-none performer = record { screen = refl; taken = none }

  pub Shows-append : (old middle new : ShownWriter R) (calls more : List Call) → Shows takes takes_command passes_on old calls middle
      → Shows takes takes_command passes_on middle more new → Shows takes takes_command passes_on old (calls ++ more) new
  Shows-append old middle new calls more first second =
      let s : State = screen_of old in
      let there : all_handed more (screen_of middle) ≡ all_handed more (after_all calls s) = ap (all_handed more) first.screen in
      record {
        screen = second.screen ∙ (ap (after_all more) first.screen ∙ sym (after_all-append calls more s));
        taken = subst (λ l. Took takes takes_command passes_on (rows_of old) l (rows_of new)) (sym (all_handed-append calls more s))
            (Took-append first.taken (subst (λ l. Took takes takes_command passes_on (rows_of middle) l (rows_of new)) there second.taken));
      }

  pub receives-none : (performer : ShownWriter R) → Shows takes takes_command passes_on performer (given_all []) performer
  receives-none performer = Shows-none performer

  pub receives-one : (old : ShownWriter R) (call : Call) (new : ShownWriter R) → Shows takes takes_command passes_on old (given call) new
      → Shows takes takes_command passes_on old (given_all (call ∷ [])) new
  receives-one old call new shows = subst (λ l. Shows takes takes_command passes_on old l new) (sym (append-nil (given call))) shows

  pub receives-more : (old middle new : ShownWriter R) (calls more : List Call) → Shows takes takes_command passes_on old (given_all calls) middle
      → Shows takes takes_command passes_on middle (given_all more) new → Shows takes takes_command passes_on old (given_all (calls ++ more)) new
  receives-more old middle new calls more first second =
      subst (λ l. Shows takes takes_command passes_on old l new) (sym (flat_map-append given calls more))
      (Shows-append old middle new (given_all calls) (given_all more) first second)

  -- what lists of calls do to it agrees with what each call means
  pub receives-follows : FollowsCalls (λ (old : ShownWriter R) call new. Shows takes takes_command passes_on old (given call) new)
      (λ old calls new. Shows takes takes_command passes_on old (given_all calls) new)
  receives-follows = record { none = receives-none; one = receives-one; more = receives-more }

-- What a writer of rows writes of these.
module _ {R W S : Type 0} (sink : SinkOf W) (takes : R → List Cell → R → Type 0) (takes_command : R → ℕ → List (List ℕ) → R → Type 0)
    (passes_on : R → R → Type 0) (output_in : R → Output W)
    (standing_in : R → S) (row_text : S → List Cell → List ℕ) (after_row : S → List Cell → S)
    (after_command : S → ℕ → List (List ℕ) → S)
    (writes_row : (old : R) (one : List Cell) (new : R) → takes old one new → WritesRow sink output_in standing_in row_text after_row old one new)
    (writes_command : (old : R) (link : ℕ) (parts : List (List ℕ)) (new : R) → takes_command old link parts new
    → WritesCommand sink output_in standing_in after_command old link parts new)
    (writes_nothing : (old new : R) → passes_on old new → WritesNothing sink output_in standing_in old new) where
  pub took-standing : {old new : R} {rows : List Handed} → Took takes takes_command passes_on old rows new
      → standing_in new ≡ after_rows after_row after_command (standing_in old) rows
  took-standing none = refl
  took-standing {old} {new} (row {middle = middle} {one = one} {others = rows} taken others) =
      took-standing others ∙ ap (λ at. after_rows after_row after_command at rows) (writes_row old one middle taken).standing
  took-standing {old} {new} (told {middle = middle} {link = link} {parts = parts} {others = rows} taken others) =
      took-standing others ∙ ap (λ at. after_rows after_row after_command at rows) (writes_command old link parts middle taken).standing
  took-standing {old} {new} {rows} (passed {middle = middle} held others) =
      took-standing others ∙ ap (λ at. after_rows after_row after_command at rows) (writes_nothing old middle held).standing

  pub took-added : {old new : R} {rows : List Handed} → Took takes takes_command passes_on old rows new
      → Adds sink (rows_from row_text after_row after_command (standing_in old) rows) (output_in old) (output_in new)
  took-added {old} none = Adds-nil sink (output_in old)
  took-added {old} {new} (row {middle = middle} {one = one} {others = rows} taken others) =
      let written = writes_row old one middle taken in
      Adds-append sink (row_text (standing_in old) one) (rows_from row_text after_row after_command (after_row (standing_in old) one) rows)
      (output_in old) (output_in middle) (output_in new) written.added
      (subst (λ at. Adds sink (rows_from row_text after_row after_command at rows) (output_in middle) (output_in new)) written.standing (took-added others))
  took-added {old} {new} (told {middle = middle} {link = link} {parts = parts} {others = rows} taken others) =
      let written = writes_command old link parts middle taken in
      Adds-append sink [] (rows_from row_text after_row after_command (after_command (standing_in old) link parts) rows) (output_in old) (output_in middle) (output_in new) written.added
      (subst (λ at. Adds sink (rows_from row_text after_row after_command at rows) (output_in middle) (output_in new)) written.standing (took-added others))
  took-added {old} {new} {rows} (passed {middle = middle} held others) =
      let handed = writes_nothing old middle held in
      Adds-append sink [] (rows_from row_text after_row after_command (standing_in old) rows) (output_in old) (output_in middle) (output_in new) handed.added
      (subst (λ at. Adds sink (rows_from row_text after_row after_command at rows) (output_in middle) (output_in new)) handed.standing (took-added others))

  pub adds-shown : (old : ShownWriter R) (calls : List Call) (new : ShownWriter R) → Shows takes takes_command passes_on old (given_all calls) new
      → Adds sink (text_from standing_in row_text after_row after_command old calls) (output_in (rows_of old)) (output_in (rows_of new))
  adds-shown old calls new shows = took-added shows.taken

  pub ends-shown : (closing : S → List ℕ) (old : ShownWriter R) (calls : List Call) (new : ShownWriter R)
      → Shows takes takes_command passes_on old (given_all calls) new
      → ending_from standing_in row_text after_row after_command closing new [] ≡ ending_from standing_in row_text after_row after_command closing old calls
  ends-shown closing old calls new shows =
      ap (λ at. last_rows_from row_text after_row after_command closing at (map leaving (showing (screen_of new).display))) (took-standing shows.taken)
      ∙ ap (λ (s : State). last_rows_from row_text after_row after_command closing (after_rows after_row after_command (standing_in (rows_of old)) (all_handed (given_all calls) (screen_of old)))
      (map leaving (showing s.display))) shows.screen
