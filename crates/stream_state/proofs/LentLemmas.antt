-- What was added to lent memory, and what is put at the start of a room.
use Rattle.std.proofs.Common.{true, false, ◌≡◌, ◌≢◌, ◌<◌, ◌≤◌, ◌+◌, ◌-◌, ℕ, List, [], ◌∷◌, ◌++◌, length, take, drop, refl, sym, ap, ap₂, ◌∙◌, subst, arith, ⊎_elim, append-nil, length-append, length-take, length-drop}
use Rattle.std.specs.Prelude.{Option, None, Some, Result, Err, MatchOption, ◌⊎◌}
use Rattle.std.specs.Io.KnownBytes.{Keeps}
use Rattle.std.specs.Option.{is_some}
use Rattle.std.proofs.Math.Seq.{take-add, take-append_seam, drop-append_seam}
use Rattle.std.proofs.lemmas.List.{drop-drop, nil_from_length}
use borrow.Rule.Slice.PartMut.{put_mid}
use Rattle.anstyle_parse.specs.declared.io.Fault.{Fault}
use Rattle.anstyle_parse.specs.declared.io.Fault.TheVariants.{Write}
use Rattle.anstyle_parse.specs.declared.io.output.Output.{Output}
use Rattle.anstyle_parse.specs.Io.Output.{writer_in, fault_in, Adds, AddsAll, AddsPrefix, Flushes, Finishes}
use Rattle.stream_state.specs.declared.bounded_sink.LentBytes.{LentBytes}
use Rattle.stream_state.specs.contracts.bounded_sink.LentBytesSink.TheImpl.{ghosts}
use Rattle.stream_state.specs.Lent.{limit_of, held_in, contents_of}

-- by the test whether there is a fault
pub no_fault-of : (fault : Option Fault) → is_some fault ≡ false → fault ≡ None
no_fault-of None test = refl
no_fault-of (Some fault) test = cc

pub some_fault-of : (fault : Option Fault) → is_some fault ≡ true → (it : Fault) × (fault ≡ Some it)
some_fault-of None test = cc
some_fault-of (Some fault) test = (fault, refl)

-- the limit and what is held, by the contents
contents-parts : (n m : ℕ) (xs ys : List ℕ) → n ∷ xs ≡ m ∷ ys → (n ≡ m) × (xs ≡ ys)
contents-parts n m xs ys same = (cc, cc)

-- a list that is not empty has an element
some-of : (l : List ℕ) → l ≢ [] → 0 < length l
some-of [] some = absurd (some refl)
some-of (x ∷ l) some = omega arith

module _ (text : List ℕ) (start : LentBytes) (old new : Output LentBytes) (writer : writer_in old ≡ start) (empty : held_in start ≡ []) (no_fault : fault_in old ≡ None) (adds : Adds ghosts text old new) where
  added : AddsAll ghosts text old new ⊎ AddsPrefix ghosts text old new
  added = subst (λ (fault : Option Fault). MatchOption fault (AddsAll ghosts text old new ⊎ AddsPrefix ghosts text old new) (λ _. new ≡ old)) no_fault adds

  -- its contents after something was added
  grown : (more : List ℕ) → contents_of (writer_in new) ≡ contents_of (writer_in old) ++ more → contents_of (writer_in new) ≡ limit_of start ∷ more
  grown more joined = joined ∙ ap (λ (it : LentBytes). contents_of it ++ more) writer ∙ ap (λ l. limit_of start ∷ (l ++ more)) empty

  -- where no fault stopped it, it holds all of the text, and a flush leaves it so
  pub held-all : {T : Type 0} (buffer : LentBytes) (answer : Result T Fault) → fault_in new ≡ None → Finishes ghosts new buffer answer → (limit_of buffer ≡ limit_of start) × (held_in buffer ≡ text)
  held-all buffer answer none finishes =
      let kept = subst (λ (fault : Option Fault). MatchOption fault (Keeps (Some (contents_of (writer_in new))) (Some (contents_of buffer)) × Flushes ghosts answer (writer_in new) buffer) (λ f. (buffer ≡ writer_in new) × (answer ≡ Err f))) none finishes in
      ⊎_elim
      (λ (all : AddsAll ghosts text old new). contents-parts _ _ _ _ (kept.0 ∙ grown text all.written))
      (λ (part : AddsPrefix ghosts text old new). absurd (let differ = sym none ∙ part.fault in cc))
      added

  -- where a fault did, its limit is less than the text
  pub longer : (fault : Fault) → fault_in new ≡ Some fault → limit_of start < length text
  longer fault some =
      ⊎_elim
      (λ (all : AddsAll ghosts text old new). absurd (let differ = sym some ∙ all.no_fault in cc))
      (λ (part : AddsPrefix ghosts text old new).
      let whole = contents-parts _ _ _ _ (grown part.prefix part.written) in
      omega (
        arith,
        ap length part.joined,
        length-append part.prefix part.rest,
        whole.0,
        ap length whole.1,
        part.was_a_write,
        some-of part.rest part.proper,
      ))
      added

  -- a text within its limit fits
  pub no_fault-within : length text ≤ limit_of start → fault_in new ≡ None
  no_fault-within fits =
      ⊎_elim
      (λ (all : AddsAll ghosts text old new). all.no_fault)
      (λ (part : AddsPrefix ghosts text old new). absurd (omega (arith, longer Write part.fault)))
      added

-- what a write to the rest of a slice leaves
pub put_rest : (from : ℕ) (all rest : List ℕ) → put_mid from (length all - from) all rest ≡ take from all ++ rest
put_rest from all rest =
    let behind = drop (length all - from) (drop from all) in
    ap (λ l. take from all ++ (rest ++ l)) (nil_from_length behind (omega (arith, length-drop (length all - from) (drop from all), length-drop from all)))
    ∙ ap (λ l. take from all ++ l) (append-nil rest)

-- bytes that are put at the start of a room
module _ (bytes room after : List ℕ) (written : ℕ) (counted : written ≡ length bytes) (put : after ≡ bytes ++ drop (length bytes) room) where
  pub put-start : take written after ≡ bytes
  put-start = ap₂ (λ n (l : List ℕ). take n l) counted put ∙ take-append_seam bytes (drop (length bytes) room)

  pub put-behind : drop written after ≡ drop written room
  put-behind = ap₂ (λ n (l : List ℕ). drop n l) counted put ∙ drop-append_seam bytes (drop (length bytes) room) ∙ ap (λ n. drop n room) (sym counted)

  pub put-length : length bytes ≤ length room → length after ≡ length room
  put-length fits = omega (arith, fits, ap length put, length-append bytes (drop (length bytes) room), length-drop (length bytes) room)

-- some bytes at the start of a room, and then others in what is left of it
module _ (room between rest after : List ℕ) (written further : ℕ) (same : length between ≡ length room) (fits : written ≤ length room)
    (whole : after ≡ take written between ++ rest) where
  long : length (take written between) ≡ written
  long = omega (arith, length-take written between, same, fits)

  front-kept : take written after ≡ take written between
  front-kept = ap (take written) whole ∙ ap (λ n. take n (take written between ++ rest)) (sym long) ∙ take-append_seam (take written between) rest

  rest-there : drop written after ≡ rest
  rest-there = ap (drop written) whole ∙ ap (λ n. drop n (take written between ++ rest)) (sym long) ∙ drop-append_seam (take written between) rest

  pub both-front : take (written + further) after ≡ take written between ++ take further rest
  both-front = take-add written further after ∙ ap₂ (λ (l r : List ℕ). l ++ r) front-kept (ap (take further) rest-there)

  pub both-behind : drop further rest ≡ drop further (drop written between) → drop written between ≡ drop written room → drop (written + further) after ≡ drop (written + further) room
  both-behind second first =
      sym (drop-drop further written after) ∙ ap (drop further) rest-there ∙ second ∙ ap (drop further) first ∙ drop-drop further written room

  pub both-length : length rest ≡ length (drop written between) → length after ≡ length room
  both-length kept = omega (arith, ap length whole, length-append (take written between) rest, long, kept, length-drop written between, same, fits)
