-- No definition, but proofs: the language wants those of a trait's laws among the specs.
-- Writers of text and of safe text go on as their text of all calls does.
use Rattle.std.specs.Str.{encode_utf8_all}
use Rattle.std.proofs.Common.{◌≡◌, ℕ, List, [], ◌++◌, filter, refl, sym, ap, ap₂, ◌∙◌, append_assoc}
use Rattle.std.proofs.lemmas.Grind.{flat_map-append}
use Rattle.std.proofs.lemmas.List.Elements.{filter-append}
use Rattle.std.proofs.lemmas.Str.{encodes-append}
use Rattle.anstyle_parse.specs.declared.io.devices.Sink.{Ghosts as SinkOf}
use Rattle.anstyle_parse.specs.Io.Output.{AddsTexts}
use Rattle.anstyle_parse.specs.Stream.Call.{Call}
use Rattle.ansi_strip.specs.declared.inert.Inert.{Inert}
use Rattle.ansi_strip.specs.declared.performer.Stripper.{Stripper}
use Rattle.ansi_strip.specs.Inert.{is_inert}
use Rattle.ansi_strip.specs.Passing.{performer_in, ReceivesInert}
use Rattle.ansi_strip.specs.Strip.{stripped_call, stripped}
use Rattle.ansi_strip.specs.Stripper.{output_of}
use Rattle.safe_text.specs.declared.marking.MarkingWriter.{MarkingWriter}
use Rattle.safe_text.specs.Safe.{safe_from}
use Rattle.safe_text.specs.Decided.{decided_from, waiting, last_from}
use Rattle.safe_text.specs.Marks.{Hiding, marked_from, hiding_from, closing}
use Rattle.safe_text.specs.Writer.{before_in, held_in}
use Rattle.safe_text.specs.TakingProof.{decided_from-append, waiting-append, last_from-append}
use Rattle.safe_text.specs.MarkingWriter.{writer_in, hiding_in, text_from, all_from, ending_from, TakesMarked}
use Rattle.safe_text.specs.MarkingProof.{marked-append, hiding-append}
use Rattle.html_urls.specs.Resumed.{Resumes, stripped_after, inert_after, marked_after}

-- stripped text is that of each call
pub stripped-goes_on : {W : Type 0} (sink : SinkOf W) → Resumes (AddsTexts sink output_of stripped_call) (λ (it : Stripper W). stripped) stripped_after (λ _ _. [])
stripped-goes_on sink = record {
  same_text = λ _ _ _ _ _. refl;
  same_ending = λ _ _ _ _ _. refl;
  joined = λ _ calls more. sym (flat_map-append stripped_call calls more);
}

-- One before which what drives a terminal is left out goes on as it does.
module _ {P : Type 0} {receives : P → List Call → P → Type 0} {written : P → List Call → List ℕ} {after : P → (calls more : List Call) → List ℕ}
    {ending : P → List Call → List ℕ} (goes_on : Resumes receives written after ending) where
  inert-text : (old : Inert P) (calls : List Call) (new : Inert P) → ReceivesInert receives old calls new → (more : List Call)
      → written (performer_in new) (filter is_inert more) ≡ inert_after after old calls more
  inert-text old calls new received more =
      goes_on.same_text (performer_in old) (filter is_inert calls) (performer_in new) received (filter is_inert more)

  inert-ending : (old : Inert P) (calls : List Call) (new : Inert P) → ReceivesInert receives old calls new → (more : List Call)
      → ending (performer_in new) (filter is_inert more) ≡ ending (performer_in old) (filter is_inert (calls ++ more))
  inert-ending old calls new received more =
      goes_on.same_ending (performer_in old) (filter is_inert calls) (performer_in new) received (filter is_inert more)
      ∙ ap (ending (performer_in old)) (sym (filter-append is_inert calls more))

  inert-joined : (it : Inert P) (calls more : List Call)
      → written (performer_in it) (filter is_inert calls) ++ inert_after after it calls more ≡ written (performer_in it) (filter is_inert (calls ++ more))
  inert-joined it calls more =
      goes_on.joined (performer_in it) (filter is_inert calls) (filter is_inert more)
      ∙ ap (written (performer_in it)) (sym (filter-append is_inert calls more))

  pub inert-goes_on : Resumes (ReceivesInert receives) (λ it calls. written (performer_in it) (filter is_inert calls)) (inert_after after)
      (λ it calls. ending (performer_in it) (filter is_inert calls))
  inert-goes_on = record { same_text = inert-text; same_ending = inert-ending; joined = inert-joined }

-- the characters of calls and of more
all-append : {W : Type 0} (performer : MarkingWriter W) (calls more : List Call)
    → all_from performer (calls ++ more) ≡ all_from performer calls ++ marked_from (hiding_from (hiding_in performer) calls) more
all-append performer calls more =
    let at = hiding_in performer in
    let held = held_in (writer_in performer) in
    ap (λ l. held ++ l) (marked-append at calls more) ∙ sym (append_assoc held (marked_from at calls) (marked_from (hiding_from at calls) more))

module _ {W : Type 0} (sink : SinkOf W) (old : MarkingWriter W) (calls : List Call) (new : MarkingWriter W) (taken : TakesMarked sink old calls new)
    (more : List Call) where
  abbrev text_by : ℕ → List ℕ → Hiding → List ℕ
  text_by before held at = encode_utf8_all (decided_from before (held ++ marked_from at more))

  abbrev ending_by : ℕ → List ℕ → Hiding → List ℕ
  ending_by before held at =
      encode_utf8_all (safe_from (last_from before (held ++ marked_from at more)) (waiting (held ++ marked_from at more) ++ closing (hiding_from at more)))

  marked-text : text_from new more ≡ marked_after old calls more
  marked-text =
      ap₂ (λ b h. text_by b h (hiding_in new)) taken.taken.before taken.taken.held
      ∙ ap (text_by (last_from (before_in (writer_in old)) (all_from old calls)) (waiting (all_from old calls))) taken.hiding

  marked-ending : ending_from new more ≡ ending_from old (calls ++ more)
  marked-ending =
      let b = before_in (writer_in old) in
      let cs = all_from old calls in
      let at = hiding_from (hiding_in old) calls in
      let ms = marked_from at more in
      ap₂ (λ b h. ending_by b h (hiding_in new)) taken.taken.before taken.taken.held
      ∙ ap (ending_by (last_from b cs) (waiting cs)) taken.hiding
      ∙ ap₂ (λ l w. encode_utf8_all (safe_from l (w ++ closing (hiding_from at more)))) (sym (last_from-append b cs ms)) (sym (waiting-append cs ms))
      ∙ ap₂ (λ l h. encode_utf8_all (safe_from (last_from b l) (waiting l ++ closing h))) (sym (all-append old calls more)) (sym (hiding-append (hiding_in old) calls more))

marked-joined : {W : Type 0} (performer : MarkingWriter W) (calls more : List Call)
    → text_from performer calls ++ marked_after performer calls more ≡ text_from performer (calls ++ more)
marked-joined performer calls more =
    let b = before_in (writer_in performer) in
    let cs = all_from performer calls in
    let ms = marked_from (hiding_from (hiding_in performer) calls) more in
    sym (encodes-append (decided_from b cs) (decided_from (last_from b cs) (waiting cs ++ ms)))
    ∙ ap encode_utf8_all (sym (decided_from-append b cs ms) ∙ ap (decided_from b) (sym (all-append performer calls more)))

pub marked-goes_on : {W : Type 0} (sink : SinkOf W) → Resumes (TakesMarked sink) text_from marked_after ending_from
marked-goes_on sink = record {
  same_text = marked-text sink;
  same_ending = marked-ending sink;
  joined = marked-joined;
}
