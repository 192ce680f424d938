-- No definition, but proofs: the language wants those of a trait's laws among the specs.
-- What a performer writes by the calls of a row is what the row writes.
use Rattle.std.proofs.Common.{◌≡◌, ℕ, List, [], length, drop, sym, ap, ap₂, ◌∙◌, subst, arith, length-append}
use Rattle.std.proofs.Math.Path.{fun_ext}
use Rattle.std.proofs.Math.Seq.{drop-append_seam}
use Rattle.std.proofs.lemmas.List.{nil_from_length}
use Rattle.anstyle_parse.specs.declared.io.devices.Sink.{Ghosts as SinkOf}
use Rattle.anstyle_parse.specs.declared.io.output.Output.{Output}
use Rattle.anstyle_parse.specs.Stream.Call.{Call}
use Rattle.anstyle_parse.specs.Io.Output.{Adds}
use Rattle.anstyle_parse.specs.Io.AddingProof.{Adds-nil}
use Rattle.ansi_screen.specs.declared.cell.Cell.{Cell}
use Rattle.html_urls.specs.Resumed.{Resumes}
use Rattle.screen_text.specs.Rows.{WritesRow, WritesCommand, WritesNothing}
use Rattle.screen_calls.specs.declared.rows.CallRows.{CallRows}
use Rattle.screen_calls.specs.Calls.{Hand, row_calls}
use Rattle.screen_calls.specs.Rows.{performer_in, hand_of, TakesRow, TakesCommand, PassesOn}
use Rattle.screen_calls.specs.Writer.{standing, standing_in, text_behind, row_text, after_row, after_command}

pub same-standing : {text text′ ending ending′ : List Call → List ℕ} {hand hand′ : Hand} → text ≡ text′ → ending ≡ ending′ → hand ≡ hand′
    → standing text ending hand ≡ standing text′ ending′ hand′
same-standing {text′} {ending′} {hand} same_text same_ending same_hand =
    ap₂ (λ t e. standing t e hand) same_text same_ending ∙ ap (λ h. standing text′ ending′ h) same_hand

module _ {P : Type 0} {receives : P → List Call → P → Type 0} {written : P → List Call → List ℕ} {after : P → (calls more : List Call) → List ℕ}
    {ending : P → List Call → List ℕ} (goes_on : Resumes receives written after ending) where
  -- what is written by more calls is the rest of what is written by all
  pub text-behind : (old : P) (calls : List Call) (new : P) → receives old calls new → (more : List Call) → written new more ≡ text_behind (written old) calls more
  text-behind old calls new received more =
      goes_on.same_text old calls new received more
      ∙ sym (drop-append_seam (written old calls) (after old calls more))
      ∙ ap (drop (length (written old calls))) (goes_on.joined old calls more)

  -- and by none nothing is
  pub text-none : (none : (performer : P) → receives performer [] performer) (performer : P) → written performer [] ≡ []
  text-none none performer =
      nil_from_length (written performer [])
      (omega (
        arith,
        ap length (goes_on.joined performer [] []),
        ap length (goes_on.same_text performer [] performer (none performer) []),
        length-append (written performer []) (after performer [] []),
      ))

module _ {P W : Type 0} (sink : SinkOf W) {receives : P → List Call → P → Type 0} {written : P → List Call → List ℕ}
    {after : P → (calls more : List Call) → List ℕ} {ending : P → List Call → List ℕ} (goes_on : Resumes receives written after ending)
    (output_in : P → Output W)
    (adds : (old : P) (calls : List Call) (new : P) → receives old calls new → Adds sink (written old calls) (output_in old) (output_in new)) where
  pub row-written : (old : CallRows P W) (row : List Cell) (new : CallRows P W) → TakesRow receives old row new
      → WritesRow sink (λ rows. output_in (performer_in rows)) (standing_in written ending) row_text after_row old row new
  row-written old row new taken =
      let calls = row_calls (hand_of old) row in
      let here = performer_in old in
      let then = performer_in new in
      record {
        added = adds here calls then taken.received;
        standing = same-standing (fun_ext (λ more. text-behind goes_on here calls then taken.received more))
            (fun_ext (λ more. goes_on.same_ending here calls then taken.received more)) taken.hand;
      }

  pub nothing-written : ((performer : P) → receives performer [] performer) → (old new : CallRows P W) → PassesOn receives old new
      → WritesNothing sink (λ rows. output_in (performer_in rows)) (standing_in written ending) old new
  nothing-written none old new passed =
      let here = performer_in old in
      let then = performer_in new in
      record {
        added = subst (λ (t : List ℕ). Adds sink t (output_in here) (output_in then)) (text-none goes_on none here) (adds here [] then passed.received);
        standing = same-standing
            (fun_ext (λ more. goes_on.same_text here [] then passed.received more ∙ sym (goes_on.same_text here [] here (none here) more)))
            (fun_ext (λ more. goes_on.same_ending here [] then passed.received more)) passed.hand;
      }

pub command-written : {P W : Type 0} (sink : SinkOf W) (output_in : P → Output W) (written ending : P → List Call → List ℕ)
    → (old : CallRows P W) (number : ℕ) (parts : List (List ℕ)) (new : CallRows P W) → TakesCommand old number parts new
    → WritesCommand sink (λ rows. output_in (performer_in rows)) (standing_in written ending) after_command old number parts new
command-written sink output_in written ending old number parts new taken = record {
  added = subst (λ p. Adds sink [] (output_in (performer_in old)) (output_in p)) (sym taken.performer) (Adds-nil sink (output_in (performer_in old)));
  standing = same-standing (ap written taken.performer) (ap ending taken.performer) taken.hand;
}
