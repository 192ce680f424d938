-- Sources whose front was read before.
use Rattle.std.proofs.Common.{◌≡◌, ℕ, ◌+◌, ◌-◌, ◌≤◌, Bool, true, false, List, [], ◌++◌, length, take, drop, inl, inr, refl, sym, ap, ◌∙◌, subst, arith, append-nil, length-append}
use Rattle.std.proofs.Math.Seq.{take-append-add}
use Rattle.std.proofs.lemmas.List.{length-take-le, length-drop, nil_from_length}
use borrow.Rule.Slice.PartMut.{put_mid}
use Rattle.anstyle_parse.specs.declared.accumulator.Utf8Parser.{Utf8Parser}
use Rattle.anstyle_parse.specs.declared.parser.Parser.{Parser}
use Rattle.anstyle_parse.specs.Machine.AsRead.{as_read}
use Rattle.anstyle_parse.specs.Stream.Calls.{AreCalls}
use Rattle.anstyle_parse.specs.Stream.Texts.{HasReceivedTexts}
use Rattle.anstyle_parse.specs.Views.Accumulator.{front_of}
use Rattle.anstyle_parse.specs.Views.Parser.{IsAfter}
use Rattle.anstyle_parse.proofs.Canonical.Items.{AreCalls-nil}
use Rattle.std.specs.Prelude.{IsTrue}
use Rattle.std.specs.Io.KnownBytes.{IsAtEnd}
use Rattle.anstyle_parse.specs.declared.io.devices.Source.{Ghosts as SourceOf}
use Rattle.anstyle_parse.specs.Stream.Call.{Call}
use Rattle.each_source.specs.declared.one_source.Reached.{Reached}
use Rattle.each_source.specs.declared.one_source.Reached.TheVariants.{Middle, End, Failure}
use Rattle.each_source.specs.Each.{BeginsWith, HasEnded}
use Rattle.each_source.specs.Ended.{IsUpTo, is_over}

module _ {R : Type 0} (source : SourceOf R) (enough : List ℕ → Bool) where
  -- the front is enough, or nothing came after it
  pub enough-front : (reader : R) (front rest : List ℕ) (calls : List Call) (reached : Reached) → IsUpTo source enough reader front reached
      → (is_over reached ≡ true → rest ≡ []) → BeginsWith enough front (record { read = front ++ rest; calls = calls })
  enough-front reader front rest calls Middle up_to untouched = (rest, refl, inl up_to)
  enough-front reader front rest calls End up_to untouched = (rest, refl, inr (untouched refl))
  enough-front reader front rest calls Failure up_to untouched = (rest, refl, inr (untouched refl))

  -- it has ended, before or after its front was read
  pub has-ended : (reader after : R) (front rest : List ℕ) (reached : Reached) → IsUpTo source enough reader front reached
      → (is_over reached ≡ true → after ≡ reader) → (is_over reached ≡ false → HasEnded source after (length (front ++ rest)))
      → HasEnded source after (length (front ++ rest))
  has-ended reader after front rest Middle up_to same ends = ends refl
  has-ended reader after front rest End up_to same ends =
      inl (subst (λ r. IsTrue source.zero_is_end → IsAtEnd (source.remaining r)) (sym (same refl)) up_to)
  has-ended reader after front rest Failure up_to same ends = inr (inl (subst (λ r. IsTrue (source.has_failed r)) (sym (same refl)) up_to))

-- A new parser stands after what is read of nothing, which has no calls.
pub stands-new : (parser : Parser Utf8Parser) → IsAfter front_of parser [] → IsAfter front_of parser (as_read [])
unfolding as_read
stands-new parser stands = stands

pub received-none : {P : Type 0} (receives : P → List Call → P → Type 0) (performer : P) → receives performer [] performer
    → HasReceivedTexts receives performer (as_read []) performer
unfolding as_read
received-none receives performer none = ([], AreCalls-nil, none)

-- it is over, or more comes
pub not-over : (reached : Reached) → reached ≡ Middle → is_over reached ≡ true → ⊥
not-over reached is over = let clash : false ≡ true = subst (λ r. is_over r ≡ true) is over in cc

pub over-at : (reached other : Reached) → reached ≡ other → is_over other ≡ true → is_over reached ≡ false → ⊥
over-at reached other is over more = let clash : true ≡ false = sym over ∙ subst (λ r. is_over r ≡ false) is more in cc

module _ {P : Type 0} (receives : P → List Call → P → Type 0)
    (receives_more : (old middle new : P) (calls more : List Call) → receives old calls middle → receives middle more new → receives old (calls ++ more) new) where
  -- what was received stays so where what was written is passed on
  pub passed-on : (first middle new : P) (bytes : List ℕ) → HasReceivedTexts receives first bytes middle → receives middle [] new
      → HasReceivedTexts receives first bytes new
  passed-on first middle new bytes (calls, are, received) held =
      (calls ++ [], subst (AreCalls bytes) (sym (append-nil calls)) are, receives_more first middle new calls [] received held)

-- Bytes that are read into a piece stand after those that were read before.
module _ (size filled : ℕ) (piece bytes : List ℕ) (long : length piece ≡ size) (inside : filled ≤ size) where
  put-after : put_mid filled (size - filled) piece bytes ≡ take filled piece ++ bytes
  put-after =
      let none = nil_from_length (drop (size - filled) (drop filled piece))
      (omega (arith, long, length-drop (size - filled) (drop filled piece), length-drop filled piece)) in
      ap (λ l. take filled piece ++ (bytes ++ l)) none ∙ ap (λ l. take filled piece ++ l) (append-nil bytes)

  front-long : length (take filled piece) ≡ filled
  front-long = length-take-le filled piece (omega (arith, long, inside))

  pub length-put : length bytes ≡ size - filled → length (put_mid filled (size - filled) piece bytes) ≡ size
  length-put rest = ap length put-after ∙ omega (arith, length-append (take filled piece) bytes, front-long, rest, inside)

  pub front-more : (n : ℕ) → take (filled + n) (put_mid filled (size - filled) piece bytes) ≡ take filled piece ++ take n bytes
  front-more n =
      ap (take (filled + n)) put-after
      ∙ (ap (λ k. take (k + n) (take filled piece ++ bytes)) (sym front-long) ∙ take-append-add (take filled piece) bytes n)
