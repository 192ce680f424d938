-- The text of an operating system command, stored at once.
use Rattle.std.proofs.Common.{◌≡◌, ℕ, ◌+◌, ◌<◌, ◌≤◌, IsTrue, List, [], ◌∷◌, ◌++◌, length, take, drop, ⊎_elim, inl, inr, ap, sym, ◌∙◌, arith, append_assoc, length-append}
use Rattle.std.specs.Prelude.{nat_le, not, ◌==◌, Result, Ok, Err}
use Rattle.std.specs.Result.{IsOk, OnOk}
use Rattle.std.proofs.lemmas.Bool.{and_parts, leb-true, eqb-false, not-true}
use Rattle.std.proofs.lemmas.List.{append-nil, take-append-le, drop-append-le}
use Rattle.anstyle_parse.specs.declared.state.definitions.State.TheVariants.{OscString}
use Rattle.anstyle_parse.specs.Stream.Bytes.{is_within, semicolon, is_plain_text}
use Rattle.anstyle_parse.specs.Stream.Arguments.{max_osc_bytes}
use Rattle.anstyle_parse.specs.Stream.Groups.{cut, total}
use Rattle.anstyle_parse.specs.Machine.Step.{Machine, AccumulatorStep, stored_count, step, step_calls, machine_after, machine_calls}
use Rattle.anstyle_parse.specs.declared.parser.Parser.{Parser}
use Rattle.anstyle_parse.specs.Views.Parser.{CanTakeAll, AreBelow}
use Rattle.anstyle_parse.specs.Stream.Items.{EachIs}
use Rattle.anstyle_parse.proofs.Arguments.Lengths.{cut_same}
use Rattle.anstyle_parse.proofs.Machine.Steps.{storing-other}
use Rattle.anstyle_parse.specs.Views.Runs.{is_of_command}
use Rattle.anstyle_parse.proofs.Machine.Runs.{step-stored}

-- what holds with an Ok holds where there is one
pub on_ok : {T E : Type 0} (P : Type 0) (result : Result T E) → IsOk result → OnOk result P → P
on_ok P (Ok x) ok holds = holds
on_ok P (Err e) ok holds = absurd (cc)

-- a text with more after it is cut as before
module _ (text lengths more : List ℕ) (parts closed : ℕ) (summed : total (take parts lengths) ≡ closed) (within : closed ≤ length text) where
  pub cut_longer : cut (take parts lengths) (text ++ more) ≡ cut (take parts lengths) text
  cut_longer = cut_same (take parts lengths) (text ++ more) text (take-append-le (total (take parts lengths)) text more (omega arith))

  pub drop_longer : drop closed (text ++ more) ≡ drop closed text ++ more
  drop_longer = drop-append-le closed text more within

pub AreBelow-later : (limit : ℕ) (text left : List ℕ) → AreBelow limit (text ++ left) → AreBelow limit left
AreBelow-later limit [] left below = below
AreBelow-later limit (b ∷ text) left below = AreBelow-later limit text left below.1

-- what stands after some bytes can be taken in the same state, if all can
pub CanTakeAll-later : {C : Type 0} (takes : C → ℕ → Type 0) (parser : Parser C) (text left : List ℕ)
    → CanTakeAll takes parser (text ++ left) → CanTakeAll takes parser left
CanTakeAll-later takes parser text left can =
    ⊎_elim (λ all. inl all) (λ ascii. inr (ascii.0, AreBelow-later 0x80 text left ascii.1)) can

not_separator : (b : ℕ) → IsTrue (not (b == semicolon)) → b ≡ semicolon → ⊥
not_separator b plain = eqb-false b semicolon (not-true (b == semicolon) plain)

-- plain text is text of a command
pub plain_of_command : (text : List ℕ) → EachIs is_plain_text text → EachIs is_of_command text
plain_of_command [] plain = tt
plain_of_command (b ∷ text) plain = ((and_parts (is_within 0x20 0xFF b) (not (b == semicolon)) plain.0).0, plain_of_command text plain.1)

module _ {A : Type 0} (adds : AccumulatorStep A) where
  -- the machine with more text in its open part
  longer : List ℕ → Machine A → Machine A
  longer text m = record m { open_part = m.open_part ++ text }

  step-plain : (b : ℕ) (m : Machine A) → m.state ≡ OscString → IsTrue (is_plain_text b) → stored_count m < max_osc_bytes
      → (step adds b m ≡ longer (b ∷ []) m) × (step_calls adds b m ≡ [])
  unfolding longer is_within
  step-plain b m is plain room =
      let parts = and_parts (is_within 0x20 0xFF b) (not (b == semicolon)) plain in
      let ends = and_parts (nat_le 0x20 b) (nat_le b 0xFF) parts.0 in
      let high : b ≤ 0xFF = leb-true b 0xFF ends.1 in
      let stepped = step-stored adds b m is (leb-true 0x20 b ends.0) (omega arith) in
      (stepped.0 ∙ storing-other m b (λ full. omega (arith, full)) (not_separator b parts.1), stepped.1)

  pub stored_run : (text left : List ℕ) (m : Machine A) → m.state ≡ OscString → EachIs is_plain_text text → stored_count m + length text ≤ max_osc_bytes
      → (machine_after adds left (record m { open_part = m.open_part ++ text }) ≡ machine_after adds (text ++ left) m)
      × (machine_calls adds left (record m { open_part = m.open_part ++ text }) ≡ machine_calls adds (text ++ left) m)
  unfolding longer
  stored_run [] left m is plain room =
      let same : longer [] m ≡ m = ap (λ (x : List ℕ). let r : Machine A = record m { open_part = x } in r) (append-nil m.open_part) in
      (ap (λ x. machine_after adds left x) same, ap (λ x. machine_calls adds left x) same)
  stored_run (b ∷ text) left m is plain room =
      let stepped = step-plain b m is plain.0 (omega arith) in
      let count : stored_count (longer (b ∷ []) m) ≡ stored_count m + 1 = omega (arith, length-append m.open_part (b ∷ [])) in
      let further = stored_run text left (longer (b ∷ []) m) is plain.1 (omega (arith, count)) in
      let same : longer (b ∷ text) m ≡ longer text (longer (b ∷ []) m) =
      ap (λ (x : List ℕ). let r : Machine A = record m { open_part = x } in r) (sym (append_assoc m.open_part (b ∷ []) text)) in (
        ap (λ x. machine_after adds left x) same ∙ further.0 ∙ ap (λ x. machine_after adds (text ++ left) x) (sym stepped.0),
        ap (λ x. machine_calls adds left x) same ∙ further.1 ∙ ap (λ x. machine_calls adds (text ++ left) x) (sym stepped.0)
            ∙ sym (ap (λ calls. calls ++ machine_calls adds (text ++ left) (step adds b m)) stepped.1),
      )
