-- Bytes that are put one after another, and one item that is put over another.
use Rattle.std.proofs.Common.{◌≡◌, ◌<◌, ◌≤◌, ◌+◌, ◌-◌, ℕ, List, [], ◌∷◌, ◌++◌, length, take, drop, get_or, set, refl, sym, ap, ◌∙◌, append_assoc, take-append-drop, length-append, arith}
use Rattle.std.proofs.Math.Seq.{take-append_seam, drop-append_seam, get_or-append_seam, set-append_seam}
use Rattle.std.proofs.lemmas.List.{take-set, drop-set}
use Rattle.event_pieces.specs.declared.writer.EventWriter.{EventWriter}
use Rattle.event_pieces.specs.declared.event.Event.{Event}
use Rattle.event_pieces.specs.Event.{with_length}
use Rattle.event_pieces.specs.Writer.{with_items, Puts}
use Rattle.event_pieces.specs.AddingProof.{with_items-nil, with_items-length, with_items-twice}

-- one item in place of another
pub with_items-one : {A : Type 0} (place : ℕ) (item : A) (list : List A) → place < length list → set list place item ≡ with_items place (item ∷ []) list
with_items-one place item list within =
    sym (take-append-drop place (set list place item))
    ∙ ap (λ l. l ++ drop place (set list place item)) (take-set list place item)
    ∙ ap (λ l. take place list ++ l) (drop-set list place item within)
    ∙ sym (append_assoc (take place list) (item ∷ []) (drop (place + 1) list))

-- no bytes
pub Puts-nil : (writer : EventWriter) → Puts [] writer writer
Puts-nil writer = record {
  same_events = refl;
  same_written = refl;
  same_reference = refl;
  used = λ _. omega arith;
  room = λ _. sym (with_items-nil writer.used writer.room.now);
}

-- some bytes and then others
pub Puts-append : (first second : List ℕ) (a b c : EventWriter) → Puts first a b → Puts second b c → Puts (first ++ second) a c
Puts-append first second a b c one two =
    let joined = length-append first second in
    let then : a.used + length (first ++ second) ≤ length a.room.now → b.used + length second ≤ length b.room.now =
    λ fits. omega (arith, one.used (omega arith), ap length (one.room (omega arith)), with_items-length a.used first a.room.now (omega arith)) in
    record {
      same_events = two.same_events ∙ one.same_events;
      same_written = two.same_written ∙ one.same_written;
      same_reference = two.same_reference ∙ one.same_reference;
      used = λ fits. omega (arith, one.used (omega arith), two.used (then fits));
      room = λ fits.
          two.room (then fits)
          ∙ ap (λ l. with_items b.used second l) (one.room (omega arith))
          ∙ ap (λ n. with_items n second (with_items a.used first a.room.now)) (one.used (omega arith))
          ∙ with_items-twice a.used first second a.room.now fits;
    }

-- The bytes stand in a room at a place.
pub record StandsAt (place : ℕ) (bytes room : List ℕ) : Type 0 where
  pub before : List ℕ
  pub after : List ℕ
  pub whole : room ≡ before ++ (bytes ++ after)
  pub at : length before ≡ place

-- the front and the back of bytes that stand in a room stand there too
module _ (place : ℕ) (first second room : List ℕ) (there : StandsAt place (first ++ second) room) where
  regrouped : room ≡ there.before ++ (first ++ (second ++ there.after))
  regrouped = there.whole ∙ ap (λ l. there.before ++ l) (append_assoc first second there.after)

  pub StandsAt-front : StandsAt place first room
  StandsAt-front = record { before = there.before; after = second ++ there.after; whole = regrouped; at = there.at }

  pub StandsAt-back : StandsAt (place + length first) second room
  StandsAt-back = record {
    before = there.before ++ first;
    after = there.after;
    whole = regrouped ∙ sym (append_assoc there.before first (second ++ there.after));
    at = length-append there.before first ∙ ap (λ n. n + length first) there.at;
  }

-- what stands in a room is found there, and within it
pub StandsAt-bytes : (place : ℕ) (bytes room : List ℕ) → StandsAt place bytes room → take (length bytes) (drop place room) ≡ bytes
StandsAt-bytes place bytes room there =
    ap (λ l. take (length bytes) (drop place l)) there.whole
    ∙ ap (λ n. take (length bytes) (drop n (there.before ++ (bytes ++ there.after)))) (sym there.at)
    ∙ ap (λ l. take (length bytes) l) (drop-append_seam there.before (bytes ++ there.after))
    ∙ take-append_seam bytes there.after

pub StandsAt-within : (place : ℕ) (bytes room : List ℕ) → StandsAt place bytes room → place + length bytes ≤ length room
StandsAt-within place bytes room there =
    omega (arith, ap length there.whole, length-append there.before (bytes ++ there.after), length-append bytes there.after, there.at)

-- the last record of those that are written, and one put in its place
module _ (E events : List Event) (last other : Event) (rest : List Event) (written : ℕ) (whole : E ≡ events ++ last ∷ rest) (at : written ≡ length events + 1) where
  before_it : written - 1 ≡ length events
  before_it = omega (arith, at)

  pub get-last : get_or E (written - 1) other ≡ last
  get-last = ap (λ n. get_or E n other) before_it ∙ ap (λ l. get_or l (length events) other) whole ∙ get_or-append_seam events last rest other

  pub set-last : (size : ℕ) → set E (written - 1) (with_length (get_or E (written - 1) other) size) ≡ events ++ with_length last size ∷ rest
  set-last size =
      ap (λ e. set E (written - 1) (with_length e size)) get-last
      ∙ ap (λ n. set E n (with_length last size)) before_it
      ∙ ap (λ l. set l (length events) (with_length last size)) whole
      ∙ set-append_seam events last rest (with_length last size)
