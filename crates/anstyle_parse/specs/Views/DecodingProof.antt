-- No definition, but a proof: the language wants that of a trait's law among the specs.
-- The steps of a Utf8Parser go over the fronts that it holds as the decoder's do.
use Rattle.anstyle_parse.specs.Stream.Bytes.{Span}
use Rattle.std.proofs.Common.{◌≡◌, ◌<◌, ℕ, true, List, [], ◌∷◌, ◌++◌, length, refl, ap, sym, ⊎_elim, arith}
use Rattle.std.specs.Prelude.{◌&&◌, nat_lt, nat_le, ⊤}
use Rattle.std.specs.List.{list_any, list_all}
use Rattle.std.proofs.lemmas.Bool.{and_parts, or_cases, cond_both, ltb-true, leb-true}
use Rattle.anstyle_parse.specs.declared.utf8.Taken.{Taken}
use Rattle.anstyle_parse.specs.declared.accumulator.Utf8Parser.{Utf8Parser}
use Rattle.anstyle_parse.specs.Stream.Characters.{rows, begins, is_well_formed, is_proper_front, is_lead}
use Rattle.anstyle_parse.specs.Machine.Decoder.{started, continued, decoded}
use Rattle.anstyle_parse.specs.Views.Front.{bytes_of, front_with}
use Rattle.anstyle_parse.specs.Views.Accumulator.{front_of, parser_after, parser_added}
use Rattle.anstyle_parse.specs.Machine.Stands.{Decodes}

-- a list that is shorter than some row is shorter than the longest
shorter_than_row : (bytes : List ℕ) (size : ℕ) (rs : List (List Span))
    → list_all (λ row. nat_le (length row) size) rs ≡ true
    → list_any (λ row. begins row bytes && nat_lt (length bytes) (length row)) rs ≡ true
    → length bytes < size
shorter_than_row bytes size [] most some = cc
shorter_than_row bytes size (row ∷ rs) most some =
    let both = and_parts (nat_le (length row) size) (list_all (λ row. nat_le (length row) size) rs) most in
    ⊎_elim
    (λ here. omega (arith, ltb-true _ _ (and_parts (begins row bytes) _ here).1, leb-true _ _ both.0))
    (λ later. shorter_than_row bytes size rs both.1 later)
    (or_cases (begins row bytes && nat_lt (length bytes) (length row)) _ some)

-- no row has more than four places
pub length-proper_front-lt : (bytes : List ℕ) → is_proper_front bytes ≡ true → length bytes < 4
unfolding is_proper_front
length-proper_front-lt bytes h =
    shorter_than_row bytes 4 rows refl (and_parts (nat_lt 0 (length bytes)) _ h).1

-- the decoder never holds more than three bytes
abbrev IsShort : List ℕ × Taken → Type 0
IsShort step = length step.0 < 4

pub length-started-lt : (b : ℕ) → length (started b).0 < 4
length-started-lt b =
    cond_both {A = List ℕ × Taken} (nat_lt b 0x80) _ _ IsShort (λ _. omega arith)
    (λ _. cond_both {A = List ℕ × Taken} (is_lead b) _ _ IsShort (λ _. omega arith) (λ _. omega arith))

pub length-continued-lt : (bytes : List ℕ) → length (continued bytes).0 < 4
length-continued-lt bytes =
    cond_both {A = List ℕ × Taken} (is_well_formed bytes) _ _ IsShort (λ _. omega arith)
    (λ _. cond_both {A = List ℕ × Taken} (is_proper_front bytes) _ _ IsShort
    (length-proper_front-lt bytes) (λ _. omega arith))

pub length-decoded-lt : (front : List ℕ) (b : ℕ) → length (decoded front b).0 < 4
length-decoded-lt [] b = length-started-lt b
length-decoded-lt (a ∷ front) b = length-continued-lt (a ∷ (front ++ b ∷ []))

pub bytes_of-front_with : (bytes : List ℕ) → length bytes < 4 → bytes_of (front_with bytes) ≡ bytes
bytes_of-front_with [] short = refl
bytes_of-front_with (a ∷ []) short = refl
bytes_of-front_with (a ∷ b ∷ []) short = refl
bytes_of-front_with (a ∷ b ∷ c ∷ []) short = refl
bytes_of-front_with (a ∷ b ∷ c ∷ d ∷ bytes) short = absurd (omega arith)

-- what a Utf8Parser holds after a byte is what the decoder holds
pub front_of-parser_after : (parser : Utf8Parser) (b : ℕ)
    → front_of (parser_after parser b).0 ≡ (decoded (front_of parser) b).0
front_of-parser_after parser b =
    bytes_of-front_with (decoded (front_of parser) b).0 (length-decoded-lt (front_of parser) b)

pub Decodes-parser_after : Decodes Utf8Parser front_of (λ _ _. ⊤) parser_added parser_after
Decodes-parser_after = record {
  takes_bytes = λ parser b small. tt;
  steps = λ parser b small.
      ap (λ front. (front, (decoded (front_of parser) b).1)) (sym (front_of-parser_after parser b));
  characters = λ parser b small. (front_of-parser_after parser b, refl);
}
