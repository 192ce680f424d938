-- No definition, but proofs: the language wants those of a trait's laws among the specs.
-- Texts that are put one after another are one text.
use Rattle.std.proofs.Common.{◌≡◌, Bool, true, false, cond, filter, ◌≤◌, ◌+◌, ℕ, List, [], ◌∷◌, ◌++◌, length, take, drop, refl, sym, ap, ◌∙◌, subst, append_assoc, append-nil, take-append-drop, length-append, length-take, length-drop, arith}
use Rattle.std.proofs.lemmas.List.{take_at}
use Rattle.std.proofs.lemmas.List.Elements.{filter-append}
use Rattle.std.proofs.lemmas.Grind.{flat_map-append}
use Rattle.std.proofs.lemmas.Slice.{drop-append-drop}
use Rattle.anstyle_parse.specs.Stream.Call.{Call}
use Rattle.anstyle_parse.specs.Stream.Texts.{FollowsCalls}
use Rattle.ansi_strip.specs.Inert.{is_inert, inert_text}
use Rattle.ansi_strip.specs.Strip.{stripped_call, stripped}
use Rattle.strip_pieces.specs.declared.slice_writer.SliceWriter.{SliceWriter}
use Rattle.strip_pieces.specs.SliceWriter.{inert_call, with_text, Puts}

-- no text
with_text-nil : (place : ℕ) (bytes : List ℕ) → with_text place [] bytes ≡ bytes
with_text-nil place bytes =
    let none : place + 0 ≡ place = omega arith in
    ap (λ n. take place bytes ++ [] ++ drop n bytes) none ∙ ap (λ l. l ++ drop place bytes) (append-nil (take place bytes)) ∙ take-append-drop place bytes

front-length : (place : ℕ) (text bytes : List ℕ) → place + length text ≤ length bytes → length (take place bytes ++ text) ≡ place + length text
front-length place text bytes fits = omega (arith, length-append (take place bytes) text, length-take place bytes)

-- a text is put over as many bytes
pub with_text-length : (place : ℕ) (text bytes : List ℕ) → place + length text ≤ length bytes → length (with_text place text bytes) ≡ length bytes
with_text-length place text bytes fits =
    omega (arith, front-length place text bytes fits, length-append (take place bytes ++ text) (drop (place + length text) bytes), length-drop (place + length text) bytes)

-- one text and then another
with_text-twice : (place : ℕ) (first second bytes : List ℕ) → place + length (first ++ second) ≤ length bytes
    → with_text (place + length first) second (with_text place first bytes) ≡ with_text place (first ++ second) bytes
with_text-twice place first second bytes fits =
    let joined = length-append first second in
    let long = front-length place first bytes (omega arith) in
    let between = place + length first in
    let front = take place bytes ++ first in
    let sums : between + length second ≡ place + length (first ++ second) = omega arith in
    ap (λ l. l ++ second ++ drop (between + length second) (front ++ drop between bytes)) (take_at front (drop between bytes) between long)
    ∙ ap (λ l. front ++ second ++ l) (drop-append-drop between bytes front (between + length second) (omega arith) long)
    ∙ ap (λ n. front ++ second ++ drop n bytes) sums
    ∙ ap (λ l. l ++ drop (place + length (first ++ second)) bytes) (append_assoc (take place bytes) first second)

pub Puts-nil : (room : SliceWriter) → Puts [] room room
Puts-nil room = record { same_reference = refl; written = λ _. omega arith; bytes = λ _. sym (with_text-nil room.written room.into.now) }

pub Puts-append : (first second : List ℕ) (a b c : SliceWriter) → Puts first a b → Puts second b c → Puts (first ++ second) a c
Puts-append first second a b c one two =
    let joined = length-append first second in
    let then : a.written + length (first ++ second) ≤ length a.into.now → b.written + length second ≤ length b.into.now =
    λ fits. omega (arith, one.written (omega arith), ap length (one.bytes (omega arith)), with_text-length a.written first a.into.now (omega arith)) in
    record {
      same_reference = two.same_reference ∙ one.same_reference;
      written = λ fits. omega (arith, one.written (omega arith), two.written (then fits));
      bytes = λ fits.
          two.bytes (then fits)
          ∙ ap (λ l. with_text b.written second l) (one.bytes (omega arith))
          ∙ ap (λ n. with_text n second (with_text a.written first a.into.now)) (one.written (omega arith))
          ∙ with_text-twice a.written first second a.into.now fits;
    }

-- the inert text of one call, and of two lists
inert_text-one : (call : Call) → inert_call call ≡ inert_text (call ∷ [])
inert_text-one call = by (is_inert call)
  where
    by : (t : Bool) → cond t (stripped_call call) [] ≡ stripped (cond t (call ∷ []) [])
    by true = sym (append-nil (stripped_call call))
    by false = refl

inert_text-more : (calls more : List Call) → inert_text (calls ++ more) ≡ inert_text calls ++ inert_text more
inert_text-more calls more =
    ap stripped (filter-append is_inert calls more) ∙ flat_map-append stripped_call (filter is_inert calls) (filter is_inert more)

-- the laws of what a room receives
pub Puts-none : (room : SliceWriter) → Puts (inert_text []) room room
Puts-none room = Puts-nil room

pub Puts-one : (old : SliceWriter) (call : Call) (new : SliceWriter) → Puts (inert_call call) old new → Puts (inert_text (call ∷ [])) old new
Puts-one old call new puts = subst (λ t. Puts t old new) (inert_text-one call) puts

pub Puts-more : (old middle new : SliceWriter) (calls more : List Call) → Puts (inert_text calls) old middle → Puts (inert_text more) middle new → Puts (inert_text (calls ++ more)) old new
Puts-more old middle new calls more first second =
    subst (λ t. Puts t old new) (sym (inert_text-more calls more)) (Puts-append (inert_text calls) (inert_text more) old middle new first second)

-- what lists of calls do to it agrees with what each call means
pub Puts-follows : FollowsCalls (λ (old : SliceWriter) call new. Puts (inert_call call) old new) (λ old calls new. Puts (inert_text calls) old new)
Puts-follows = record { none = Puts-none; one = Puts-one; more = Puts-more }
