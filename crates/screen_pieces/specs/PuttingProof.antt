-- No definition, but proofs: the language wants those of a trait's laws among the specs.
-- Texts that are put one after another are one text.
use Rattle.std.proofs.Common.{◌≡◌, ◌≤◌, ◌<◌, ◌+◌, ℕ, List, [], ◌++◌, length, take, drop, refl, sym, ap, ◌∙◌, append_assoc, append-nil, take-append-drop, length-append, length-take, length-drop, arith}
use Rattle.std.proofs.lemmas.List.{take_at}
use Rattle.std.proofs.lemmas.Slice.{drop-append-drop}
use Rattle.screen_pieces.specs.declared.text.TextWriter.{TextWriter}
use Rattle.screen_pieces.specs.Text.{most_length, with_text, Puts}

-- no text
with_text-nil : (place : ℕ) (bytes : List ℕ) → with_text place [] bytes ≡ bytes
with_text-nil place bytes =
    let none : place + 0 ≡ place = omega arith in
    ap (λ n. take place bytes ++ [] ++ drop n bytes) none ∙ ap (λ l. l ++ drop place bytes) (append-nil (take place bytes)) ∙ take-append-drop place bytes

front-length : (place : ℕ) (text bytes : List ℕ) → place + length text ≤ length bytes → length (take place bytes ++ text) ≡ place + length text
front-length place text bytes fits = omega (arith, length-append (take place bytes) text, length-take place bytes)

-- a text is put over as many bytes
pub with_text-length : (place : ℕ) (text bytes : List ℕ) → place + length text ≤ length bytes → length (with_text place text bytes) ≡ length bytes
with_text-length place text bytes fits =
    omega (arith, front-length place text bytes fits, length-append (take place bytes ++ text) (drop (place + length text) bytes), length-drop (place + length text) bytes)

-- one text and then another
with_text-twice : (place : ℕ) (first second bytes : List ℕ) → place + length (first ++ second) ≤ length bytes
    → with_text (place + length first) second (with_text place first bytes) ≡ with_text place (first ++ second) bytes
with_text-twice place first second bytes fits =
    let joined = length-append first second in
    let long = front-length place first bytes (omega arith) in
    let between = place + length first in
    let front = take place bytes ++ first in
    let sums : between + length second ≡ place + length (first ++ second) = omega arith in
    ap (λ l. l ++ second ++ drop (between + length second) (front ++ drop between bytes)) (take_at front (drop between bytes) between long)
    ∙ ap (λ l. front ++ second ++ l) (drop-append-drop between bytes front (between + length second) (omega arith) long)
    ∙ ap (λ n. front ++ second ++ drop n bytes) sums
    ∙ ap (λ l. l ++ drop (place + length (first ++ second)) bytes) (append_assoc (take place bytes) first second)

pub Puts-nil : (writer : TextWriter) → Puts [] writer writer
Puts-nil writer = record {
  same_reference = refl;
  same_length = refl;
  counted = λ within. omega (arith, within);
  bytes = λ _ _. sym (with_text-nil writer.needed writer.into.now);
}

pub Puts-append : (first second : List ℕ) (a b c : TextWriter) → Puts first a b → Puts second b c → Puts (first ++ second) a c
Puts-append first second a b c one two =
    let joined = length-append first second in
    let then : a.needed + length (first ++ second) < most_length → b.needed ≡ a.needed + length first =
    λ low. omega (arith, joined, low, one.counted (omega (arith, low))) in
    record {
      same_reference = two.same_reference ∙ one.same_reference;
      same_length = two.same_length ∙ one.same_length;
      counted = λ within. omega (arith, joined, one.counted within, two.counted (omega (arith, one.counted within)));
      bytes = λ low fits.
          two.bytes (omega (arith, joined, low, then low)) (omega (arith, joined, fits, then low, one.same_length))
          ∙ ap (λ l. with_text b.needed second l) (one.bytes (omega (arith, joined, low)) (omega (arith, joined, fits)))
          ∙ ap (λ n. with_text n second (with_text a.needed first a.into.now)) (then low)
          ∙ with_text-twice a.needed first second a.into.now fits;
    }
