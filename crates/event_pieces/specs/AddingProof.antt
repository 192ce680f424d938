-- No definition, but proofs: the language wants those of a trait's laws among the specs.
-- What calls add one after another, they add together.
use Rattle.std.proofs.Common.{◌≡◌, ◌≤◌, ◌+◌, ℕ, List, [], ◌∷◌, ◌++◌, length, take, drop, refl, sym, ap, ◌∙◌, subst, append_assoc, append-nil, take-append-drop, length-append, length-take, length-drop, arith}
use Rattle.std.specs.List.{AllByRecursion}
use Rattle.std.proofs.lemmas.List.{take_at}
use Rattle.std.proofs.lemmas.Grind.{flat_map-append}
use Rattle.std.proofs.lemmas.Slice.{drop-append-drop}
use Rattle.anstyle_parse.specs.Stream.Call.{Call}
use Rattle.anstyle_parse.specs.Stream.Texts.{FollowsCalls}
use Rattle.event_pieces.specs.declared.event.Event.{Event}
use Rattle.event_pieces.specs.declared.writer.EventWriter.{EventWriter}
use Rattle.event_pieces.specs.Event.{records_of, call_bytes, calls_bytes}
use Rattle.event_pieces.specs.Writer.{with_items, Suits, Has, Adds}

module _ {A : Type 0} where
  -- no items
  pub with_items-nil : (place : ℕ) (list : List A) → with_items place [] list ≡ list
  with_items-nil place list =
      let none : place + 0 ≡ place = omega arith in
      ap (λ n. take place list ++ [] ++ drop n list) none ∙ ap (λ l. l ++ drop place list) (append-nil (take place list)) ∙ take-append-drop place list

  front-length : (place : ℕ) (items list : List A) → place + length items ≤ length list → length (take place list ++ items) ≡ place + length items
  front-length place items list fits = omega (arith, length-append (take place list) items, length-take place list)

  -- items are put over as many
  pub with_items-length : (place : ℕ) (items list : List A) → place + length items ≤ length list → length (with_items place items list) ≡ length list
  with_items-length place items list fits =
      omega (arith, front-length place items list fits, length-append (take place list ++ items) (drop (place + length items) list), length-drop (place + length items) list)

  -- some items and then others
  pub with_items-twice : (place : ℕ) (first second list : List A) → place + length (first ++ second) ≤ length list
      → with_items (place + length first) second (with_items place first list) ≡ with_items place (first ++ second) list
  with_items-twice place first second list fits =
      let joined = length-append first second in
      let long = front-length place first list (omega arith) in
      let between = place + length first in
      let front = take place list ++ first in
      let sums : between + length second ≡ place + length (first ++ second) = omega arith in
      ap (λ l. l ++ second ++ drop (between + length second) (front ++ drop between list)) (take_at front (drop between list) between long)
      ∙ ap (λ l. front ++ second ++ l) (drop-append-drop between list front (between + length second) (omega arith) long)
      ∙ ap (λ n. front ++ second ++ drop n list) sums
      ∙ ap (λ l. l ++ drop (place + length (first ++ second)) list) (append_assoc (take place list) first second)

-- of what holds of each element of joined lists
module _ {A : Type 0} (P : A → Type 0) where
  pub AllByRecursion-append : (xs ys : List A) → AllByRecursion P xs → AllByRecursion P ys → AllByRecursion P (xs ++ ys)
  AllByRecursion-append [] ys first second = second
  AllByRecursion-append (x ∷ xs) ys first second = (first.0, AllByRecursion-append xs ys first.1 second)

  pub AllByRecursion-front : (xs ys : List A) → AllByRecursion P (xs ++ ys) → AllByRecursion P xs
  AllByRecursion-front [] ys all = tt
  AllByRecursion-front (x ∷ xs) ys all = (all.0, AllByRecursion-front xs ys all.1)

  pub AllByRecursion-back : (xs ys : List A) → AllByRecursion P (xs ++ ys) → AllByRecursion P ys
  AllByRecursion-back [] ys all = all
  AllByRecursion-back (x ∷ xs) ys all = AllByRecursion-back xs ys all.1

-- the bytes of two lists of calls
pub calls_bytes-append : (calls more : List Call) → calls_bytes (calls ++ more) ≡ calls_bytes calls ++ calls_bytes more
calls_bytes-append calls more = flat_map-append call_bytes calls more

pub length-calls_bytes-append : (calls more : List Call) → length (calls_bytes (calls ++ more)) ≡ length (calls_bytes calls) + length (calls_bytes more)
length-calls_bytes-append calls more = ap length (calls_bytes-append calls more) ∙ length-append (calls_bytes calls) (calls_bytes more)

-- as many records and as much room as before
module _ (calls : List Call) (events : List Event) (room : List ℕ) (writer : EventWriter) (has : Has calls events room writer) where
  pub same_events_length : length writer.events.now ≡ length events
  same_events_length = ap length has.records_are ∙ with_items-length 0 (records_of 0 calls) events (omega (arith, has.events_fit))

  pub same_room_length : length writer.room.now ≡ length room
  same_room_length = ap length has.room_is ∙ with_items-length 0 (calls_bytes calls) room (omega (arith, has.room_fits))

-- where there is room for all calls, there is for the first, and after them for the others
module _ (old middle new : EventWriter) (calls more : List Call) (first : Adds calls old middle) (second : Adds more middle new)
    (suits : Suits (calls ++ more) old) (before : List Call) (events : List Event) (room : List ℕ) (has : Has before events room old) where
  suits_first : Suits calls old
  suits_first = record {
    events_fit = omega (arith, length-append calls more, suits.events_fit);
    room_fits = omega (arith, length-calls_bytes-append calls more, suits.room_fits);
  }

  has_first : Has (before ++ calls) events room middle
  has_first = first.added suits_first before events room has

  suits_second : Suits more middle
  suits_second =
      let as_many = same_events_length before events room old has in
      let as_long = same_room_length before events room old has in
      let as_many_then = same_events_length (before ++ calls) events room middle has_first in
      let as_long_then = same_room_length (before ++ calls) events room middle has_first in record {
        events_fit = omega (arith, length-append calls more, suits.events_fit, first.few, as_many, as_many_then);
        room_fits = omega (arith, length-calls_bytes-append calls more, length-calls_bytes-append before calls, suits.room_fits, has.used, has_first.used, as_long, as_long_then);
      }

  has_both : Has (before ++ (calls ++ more)) events room new
  has_both = subst (λ (l : List Call). Has l events room new) (append_assoc before calls more) (second.added suits_second (before ++ calls) events room has_first)

-- the laws of what a writer receives
pub Adds-none : (writer : EventWriter) → Adds [] writer writer
Adds-none writer = record {
  same_events = refl;
  same_room = refl;
  few = omega arith;
  added = λ suits before events room has. subst (λ (l : List Call). Has l events room writer) (sym (append-nil before)) has;
}

pub Adds-one : (old : EventWriter) (call : Call) (new : EventWriter) → Adds (call ∷ []) old new → Adds (call ∷ []) old new
Adds-one old call new adds = adds

pub Adds-more : (old middle new : EventWriter) (calls more : List Call) → Adds calls old middle → Adds more middle new → Adds (calls ++ more) old new
Adds-more old middle new calls more first second = record {
  same_events = second.same_events ∙ first.same_events;
  same_room = second.same_room ∙ first.same_room;
  few = omega (arith, length-append calls more, first.few, second.few);
  added = has_both old middle new calls more first second;
}

-- what lists of calls do to it agrees with what each call means
pub Adds-follows : FollowsCalls (λ (old : EventWriter) call new. Adds (call ∷ []) old new) (λ old calls new. Adds calls old new)
Adds-follows = record { none = Adds-none; one = Adds-one; more = Adds-more }
