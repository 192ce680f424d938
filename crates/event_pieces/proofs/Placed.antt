-- The ends of calls, as one comes after another, and as a writer notes it.
use Rattle.std.proofs.Common.{◌≡◌, ◌<◌, ◌≤◌, ◌+◌, ◌-◌, ℕ, Bool, true, false, ◌&&◌, List, [], ◌∷◌, ◌++◌, length, map, take, drop, set, leb, refl, sym, ap, ◌∙◌, subst, append_assoc, append-nil, length-append, length-take, arith, ⊎_elim, take_all}
use Rattle.std.specs.Prelude.{if◌then◌else◌}
use Rattle.std.proofs.Math.Seq.{set-append_seam}
use Rattle.std.proofs.lemmas.Bool.{cases_Bool, and_parts, and_from, and_right, leb-true, leb-false, le-leb, lt-leb, true≢false}
use Rattle.std.proofs.lemmas.List.{take-append-le}
use Rattle.anstyle_parse.specs.Stream.Call.{Call, Goes}
use Rattle.event_pieces.specs.declared.end_writer.EndWriter.{EndWriter}
use Rattle.event_pieces.specs.Writer.{with_items}
use Rattle.event_pieces.specs.EndWriter.{Placed, is_print, goes_on, ends_of, is_in_text, HasEnds, Notes}
use Rattle.event_pieces.specs.AddingProof.{with_items-nil, with_items-length, with_items-twice}
use Rattle.event_pieces.proofs.RoomLemmas.{with_items-one}

-- an end before others, unless a text goes on
abbrev before_ends : Bool → ℕ → List ℕ → List ℕ
before_ends goes end ends = if goes then ends else end ∷ ends

before_ends-append : (goes : Bool) (end : ℕ) (ends more : List ℕ) → before_ends goes end (ends ++ more) ≡ before_ends goes end ends ++ more
before_ends-append true end ends more = refl
before_ends-append false end ends more = refl

abbrev go_together : Placed → Placed → Bool
go_together last next = is_print last.0 && is_print next.0

-- The ends up to a last call, and with one more: that moves the last end, or adds one.
pub record Grows (calls : List Placed) (last next : Placed) : Type 0 where
  pub front : List ℕ
  pub before : ends_of (calls ++ last ∷ []) ≡ front ++ last.1 ∷ []
  pub moved : go_together last next ≡ true → ends_of (calls ++ last ∷ next ∷ []) ≡ front ++ next.1 ∷ []
  pub added : go_together last next ≡ false → ends_of (calls ++ last ∷ next ∷ []) ≡ front ++ last.1 ∷ next.1 ∷ []

module _ (call : Placed) (calls : List Placed) (last next : Placed) (goes : Bool) where
  grows-before : goes_on call (calls ++ last ∷ []) ≡ goes → goes_on call (calls ++ last ∷ next ∷ []) ≡ goes → Grows calls last next → Grows (call ∷ calls) last next
  grows-before p q more = record {
    front = before_ends goes call.1 more.front;
    before = ap (λ g. before_ends g call.1 (ends_of (calls ++ last ∷ []))) p ∙ ap (before_ends goes call.1) more.before ∙ before_ends-append goes call.1 more.front (last.1 ∷ []);
    moved = λ e. ap (λ g. before_ends g call.1 (ends_of (calls ++ last ∷ next ∷ []))) q ∙ ap (before_ends goes call.1) (more.moved e) ∙ before_ends-append goes call.1 more.front (next.1 ∷ []);
    added = λ e. ap (λ g. before_ends g call.1 (ends_of (calls ++ last ∷ next ∷ []))) q ∙ ap (before_ends goes call.1) (more.added e) ∙ before_ends-append goes call.1 more.front (last.1 ∷ next.1 ∷ []);
  }

grows-first : (last next : Placed) → Grows [] last next
grows-first last next = record {
  front = [];
  before = refl;
  moved = λ e. ap (λ g. before_ends g last.1 (next.1 ∷ [])) e;
  added = λ e. ap (λ g. before_ends g last.1 (next.1 ∷ [])) e;
}

pub grows : (calls : List Placed) (last next : Placed) → Grows calls last next
grows [] last next = grows-first last next
grows (call ∷ []) last next = grows-before call [] last next (go_together call last) refl refl (grows-first last next)
grows (call ∷ second ∷ calls) last next = grows-before call (second ∷ calls) last next (go_together call second) refl refl (grows (second ∷ calls) last next)

is_in_text-last : (calls : List Placed) (last : Placed) → is_in_text (calls ++ last ∷ []) ≡ is_print last.0
is_in_text-last [] last = refl
is_in_text-last (call ∷ []) last = refl
is_in_text-last (call ∷ second ∷ calls) last = is_in_text-last (second ∷ calls) last

-- the last of some calls
record Last (calls : List Placed) : Type 0 where
  front : List Placed
  last : Placed
  whole : calls ≡ front ++ last ∷ []

last-of : (call : Placed) (calls : List Placed) → Last (call ∷ calls)
last-of call [] = record { front = []; last = call; whole = refl }
last-of call (next ∷ calls) =
    let rest = last-of next calls in
    record { front = call ∷ rest.front; last = rest.last; whole = ap (λ l. call ∷ l) rest.whole }

-- one call more: the last end is moved where both are characters, and else one is added
pub record Moves (calls : List Placed) (next : Placed) : Type 0 where
  pub front : List ℕ
  pub end : ℕ
  pub before : ends_of calls ≡ front ++ end ∷ []
  pub after : ends_of (calls ++ next ∷ []) ≡ front ++ next.1 ∷ []

ends-moved : (calls : List Placed) (next : Placed) → (is_in_text calls && is_print next.0) ≡ true → Moves calls next
ends-moved [] next e = absurd (true≢false (sym e))
ends-moved (call ∷ calls) next e =
    let split = last-of call calls in
    let more = grows split.front split.last next in
    let both : go_together split.last next ≡ true =
    ap (λ t. t && is_print next.0) (sym (is_in_text-last split.front split.last) ∙ ap is_in_text (sym split.whole)) ∙ e in
    record {
      front = more.front;
      end = split.last.1;
      before = ap ends_of split.whole ∙ more.before;
      after = ap (λ l. ends_of (l ++ next ∷ [])) split.whole ∙ ap ends_of (append_assoc split.front (split.last ∷ []) (next ∷ [])) ∙ more.moved both;
    }

ends-added : (calls : List Placed) (next : Placed) → (is_in_text calls && is_print next.0) ≡ false → ends_of (calls ++ next ∷ []) ≡ ends_of calls ++ next.1 ∷ []
ends-added [] next e = refl
ends-added (call ∷ calls) next e =
    let split = last-of call calls in
    let more = grows split.front split.last next in
    let apart : go_together split.last next ≡ false =
    ap (λ t. t && is_print next.0) (sym (is_in_text-last split.front split.last) ∙ ap is_in_text (sym split.whole)) ∙ e in
    ap (λ l. ends_of (l ++ next ∷ [])) split.whole
    ∙ ap ends_of (append_assoc split.front (split.last ∷ []) (next ∷ []))
    ∙ more.added apart
    ∙ sym (append_assoc more.front (split.last.1 ∷ []) (next.1 ∷ []))
    ∙ ap (λ l. l ++ next.1 ∷ []) (sym more.before ∙ ap ends_of (sym split.whole))

-- a writer notes one call more
module _ (calls : List Placed) (places : List ℕ) (old new : EndWriter) (call : Call) (has : HasEnds calls places old) where
  abbrev next : Placed
  next = (call, old.given)

  abbrev all : List Placed
  all = calls ++ next ∷ []

  few : length (take (length places) (ends_of calls)) ≤ length places
  few = omega (arith, length-take (length places) (ends_of calls))

  as_many : length old.ends.now ≡ length places
  as_many = ap length has.ends ∙ with_items-length 0 (take (length places) (ends_of calls)) places (omega (arith, few))

  -- the character moves the end of its text
  pub noted-moved : is_print call ≡ true → old.is_in_text ≡ true → new.written ≡ old.written → new.ends.now ≡ set old.ends.now (old.written - 1) old.given → new.is_in_text ≡ true
      → HasEnds all places new
  noted-moved character text written ends still =
      let both = and_parts (is_in_text calls) (leb (length (ends_of calls)) (length places)) (sym has.text ∙ text) in
      let more = ends-moved calls next (and_from (is_in_text calls) (is_print call) both.0 character) in
      let within = leb-true (length (ends_of calls)) (length places) both.1 in
      let long = length-append more.front (more.end ∷ []) in
      let long_after = length-append more.front (old.given ∷ []) in
      let rest = drop (0 + length (take (length places) (ends_of calls))) places in
      let same : length (ends_of all) ≡ length (ends_of calls) = omega (arith, ap length more.before, ap length more.after, long, long_after) in
      let shown : take (length places) (ends_of calls) ≡ more.front ++ more.end ∷ [] = take_all (length places) (ends_of calls) within ∙ more.before in
      let shown_after : take (length places) (ends_of all) ≡ more.front ++ old.given ∷ [] = take_all (length places) (ends_of all) (omega (arith, within, same)) ∙ more.after in
      let at : old.written - 1 ≡ length more.front = omega (arith, has.written, within, ap length more.before, long) in
      record {
        written = omega (arith, written, has.written, same);
        ends = ends
            ∙ ap (λ l. set l (old.written - 1) old.given) (has.ends ∙ ap (λ l. l ++ rest) shown ∙ append_assoc more.front (more.end ∷ []) rest)
            ∙ ap (λ n. set (more.front ++ more.end ∷ rest) n old.given) at
            ∙ set-append_seam more.front more.end rest old.given
            ∙ sym (append_assoc more.front (old.given ∷ []) rest)
            ∙ ap (λ n. (more.front ++ old.given ∷ []) ++ drop (0 + n) places) (ap length shown ∙ long ∙ sym long_after)
            ∙ ap (λ l. with_items 0 l places) (sym shown_after);
        text = still ∙ sym (and_from (is_in_text all) (leb (length (ends_of all)) (length places)) (is_in_text-last calls next ∙ character) (le-leb (length (ends_of all)) (length places) (omega (arith, within, same))));
      }

  -- there is a place for one end more
  pub noted-added : (is_print call && old.is_in_text) ≡ false → old.written < length old.ends.now → new.written ≡ old.written + 1
      → new.ends.now ≡ set old.ends.now old.written old.given → new.is_in_text ≡ is_print call → HasEnds all places new
  noted-added apart free written ends text =
      let within : length (ends_of calls) < length places = omega (arith, free, has.written, as_many) in
      let at : old.written ≡ length (ends_of calls) = omega (arith, has.written, within) in
      let fits = le-leb (length (ends_of calls)) (length places) (omega (arith, within)) in
      let flag : old.is_in_text ≡ is_in_text calls = has.text ∙ ap (λ t. is_in_text calls && t) fits ∙ and_true (is_in_text calls) in
      let more = ends-added calls next (and_swap (is_in_text calls) (is_print call) ∙ ap (λ t. is_print call && t) (sym flag) ∙ apart) in
      let long = length-append (ends_of calls) (old.given ∷ []) in
      let many : length (ends_of all) ≡ length (ends_of calls) + 1 = ap length more ∙ long in
      let shown : take (length places) (ends_of calls) ≡ ends_of calls = take_all (length places) (ends_of calls) (omega (arith, within)) in
      let shown_after : take (length places) (ends_of all) ≡ ends_of calls ++ old.given ∷ [] = take_all (length places) (ends_of all) (omega (arith, within, many)) ∙ more in
      record {
        written = omega (arith, written, at, many, within);
        ends = ends
            ∙ with_items-one old.written old.given old.ends.now free
            ∙ ap (λ n. with_items n (old.given ∷ []) old.ends.now) (omega (arith, at))
            ∙ ap (λ l. with_items (0 + length (ends_of calls)) (old.given ∷ []) l) (has.ends ∙ ap (λ l. with_items 0 l places) shown)
            ∙ with_items-twice 0 (ends_of calls) (old.given ∷ []) places (omega (arith, within, long))
            ∙ ap (λ l. with_items 0 l places) (sym shown_after);
        text = text ∙ sym (ap (λ t. is_in_text all && t) (le-leb (length (ends_of all)) (length places) (omega (arith, within, many))) ∙ and_true (is_in_text all) ∙ is_in_text-last calls next);
      }
    where
      and_true : (t : Bool) → (t && true) ≡ t
      and_true true = refl
      and_true false = refl

      and_swap : (s t : Bool) → (s && t) ≡ (t && s)
      and_swap true true = refl
      and_swap true false = refl
      and_swap false true = refl
      and_swap false false = refl

  -- there is none
  module _ (full : length old.ends.now ≤ old.written) (apart : (is_print call && old.is_in_text) ≡ false) (written : new.written ≡ old.written) (ends : new.ends.now ≡ old.ends.now) (none : new.is_in_text ≡ false) where
    many : length places ≤ length (ends_of calls)
    many = omega (arith, full, has.written, as_many)

    beyond : take (length places) (ends_of all) ≡ take (length places) (ends_of calls) → length (ends_of calls) ≤ length (ends_of all) → length places < length (ends_of all) → HasEnds all places new
    beyond same more past = record {
      written = omega (arith, written, has.written, many, past);
      ends = ends ∙ has.ends ∙ ap (λ l. with_items 0 l places) (sym same);
      text = none ∙ sym (and_right (is_in_text all) (leb (length (ends_of all)) (length places)) (lt-leb (length (ends_of all)) (length places) past));
    }

    pub noted-full : HasEnds all places new
    noted-full = ⊎_elim
        (λ together.
        let more = ends-moved calls next together in
        let both = and_parts (is_in_text calls) (is_print call) together in
        let out : old.is_in_text ≡ false = sym (ap (λ t. t && old.is_in_text) both.1) ∙ apart in
        let past = leb-false (length (ends_of calls)) (length places) (sym (ap (λ t. t && leb (length (ends_of calls)) (length places)) both.0) ∙ sym has.text ∙ out) in
        let long = length-append more.front (more.end ∷ []) in
        let long_after = length-append more.front (old.given ∷ []) in
        let front : length places ≤ length more.front = omega (arith, past, ap length more.before, long) in
        beyond
        (ap (take (length places)) more.after ∙ take-append-le (length places) more.front (old.given ∷ []) front
        ∙ sym (ap (take (length places)) more.before ∙ take-append-le (length places) more.front (more.end ∷ []) front))
        (omega (arith, ap length more.before, ap length more.after, long, long_after)) (omega (arith, past, ap length more.before, ap length more.after, long, long_after)))
        (λ alone.
        let more = ends-added calls next alone in
        let long = length-append (ends_of calls) (old.given ∷ []) in
        beyond (ap (take (length places)) more ∙ take-append-le (length places) (ends_of calls) (old.given ∷ []) many)
        (omega (arith, ap length more, long)) (omega (arith, ap length more, long, many)))
        (cases_Bool (is_in_text calls && is_print call))

-- a writer that has noted nothing
pub HasEnds-nothing : (places : List ℕ) (writer : EndWriter) → writer.written ≡ 0 → writer.ends.now ≡ places → writer.is_in_text ≡ false → HasEnds [] places writer
HasEnds-nothing places writer empty begins out = record {
  written = omega (arith, empty);
  ends = begins ∙ sym (ap (λ l. with_items 0 l places) (take_all (length places) [] (omega arith)) ∙ with_items-nil 0 places);
  text = out;
}

-- each of some calls is noted
pub record AllNoted (made : List Call) (old new : EndWriter) : Type 0 where
  pub same_reference : new.ends.ghost_name ≡ old.ends.ghost_name
  pub same_given : new.given ≡ old.given
  pub noted : (calls : List Placed) (places : List ℕ) → HasEnds calls places old → HasEnds (calls ++ map (λ call. (call, old.given)) made) places new

pub all-noted : (made : List Call) (old new : EndWriter) → Goes (λ old call new. Notes call old new) old made new → AllNoted made old new
all-noted [] old new same = subst (λ w. AllNoted [] old w) (sym same) (record {
  same_reference = refl;
  same_given = refl;
  noted = λ calls places has. subst (λ l. HasEnds l places old) (sym (append-nil calls)) has;
})
all-noted (call ∷ made) old new (middle, first, others) =
    let rest = all-noted made middle new others in
    record {
      same_reference = rest.same_reference ∙ first.same_reference;
      same_given = rest.same_given ∙ first.same_given;
      noted = λ calls places has.
          subst (λ l. HasEnds l places new) (append_assoc calls ((call, old.given) ∷ []) (map (λ c. (c, old.given)) made))
          (subst (λ g. HasEnds ((calls ++ (call, old.given) ∷ []) ++ map (λ c. (c, g)) made) places new) first.same_given
          (rest.noted (calls ++ (call, old.given) ∷ []) places (first.noted calls places has)));
    }
