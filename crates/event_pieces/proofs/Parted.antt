-- Where the records of calls are parted, and which call is the last of each.
use Rattle.std.proofs.Common.{◌≡◌, ◌<◌, ◌+◌, ℕ, zero, suc, Bool, true, false, ◌&&◌, List, [], ◌∷◌, ◌++◌, length, map, get_or, refl, sym, ap, ◌∙◌, arith}
use Rattle.std.specs.Prelude.{if◌then◌else◌}
use Rattle.std.proofs.lemmas.Bool.{false≢true, and_right}
use Rattle.anstyle_parse.specs.Stream.Call.{Call}
use Rattle.event_pieces.specs.declared.event.Event.{Event}
use Rattle.event_pieces.specs.Event.{with_length, is_text, joined, record_of, records_of, call_bytes}
use Rattle.event_pieces.specs.EndWriter.{Placed, is_print, goes_on, ends_of}

abbrev begins_with_text : List Event → Bool
begins_with_text [] = false
begins_with_text (event ∷ events) = is_text event

-- a record before others: together, or apart
joined-apart : (event : Event) (events : List Event) → (is_text event && begins_with_text events) ≡ false → joined event events ≡ event ∷ events
joined-apart event [] e = refl
joined-apart event (next ∷ events) e = rw e refl

joined-together : (event next : Event) (events : List Event) → (is_text event && is_text next) ≡ true → joined event (next ∷ events) ≡ with_length event (event.length + next.length) ∷ events
joined-together event next events e = rw e refl

length-together : (event : Event) (events : List Event) → (is_text event && begins_with_text events) ≡ true → length (joined event events) ≡ length events
length-together event [] e = absurd (false≢true (sym (and_right (is_text event) false refl) ∙ e))
length-together event (next ∷ events) e = ap length (joined-together event next events e)

begins-joined : (event : Event) (events : List Event) → begins_with_text (joined event events) ≡ is_text event
begins-joined event [] = refl
begins-joined event (next ∷ events) = by (is_text event && is_text next) refl
  where
    by : (t : Bool) → (is_text event && is_text next) ≡ t → begins_with_text (joined event (next ∷ events)) ≡ is_text event
    by true e = ap begins_with_text (joined-together event next events e)
    by false e = ap begins_with_text (joined-apart event (next ∷ events) e)

-- more records after some
joined-append : (event : Event) (events others : List Event) → 0 < length events → joined event (events ++ others) ≡ joined event events ++ others
joined-append event [] others some = absurd (omega (arith, some))
joined-append event (next ∷ events) others some = by (is_text event && is_text next) refl
  where
    by : (t : Bool) → (is_text event && is_text next) ≡ t → joined event (next ∷ events ++ others) ≡ joined event (next ∷ events) ++ others
    by true e = joined-together event next (events ++ others) e ∙ ap (λ l. l ++ others) (sym (joined-together event next events e))
    by false e = joined-apart event (next ∷ events ++ others) e ∙ ap (λ l. l ++ others) (sym (joined-apart event (next ∷ events) e))

begins-append : (events others : List Event) → 0 < length events → begins_with_text (events ++ others) ≡ begins_with_text events
begins-append [] others some = absurd (omega (arith, some))
begins-append (event ∷ events) others some = refl

-- the calls alone
abbrev pub calls_in : List Placed → List Call
calls_in calls = map (λ placed. placed.0) calls

-- what stands after a call, and its records
abbrev behind : (start : ℕ) → Placed → List Placed → List Event
behind start call calls = records_of (start + length (call_bytes call.0)) (calls_in calls)

goes-on-records : (start : ℕ) (call : Placed) (calls : List Placed) → (is_text (record_of start call.0) && begins_with_text (behind start call calls)) ≡ goes_on call calls
goes-on-records start call [] = and_right (is_print call.0) false refl
goes-on-records start call (next ∷ calls) =
    let place = start + length (call_bytes call.0) in
    ap (λ t. is_print call.0 && t) (begins-joined (record_of place next.0) (records_of (place + length (call_bytes next.0)) (calls_in calls)))

ends-apart : (call : Placed) (calls : List Placed) → goes_on call calls ≡ false → ends_of (call ∷ calls) ≡ call.1 ∷ ends_of calls
ends-apart call calls e = ap (λ g. if g then ends_of calls else call.1 ∷ ends_of calls) e

ends-together : (call : Placed) (calls : List Placed) → goes_on call calls ≡ true → ends_of (call ∷ calls) ≡ ends_of calls
ends-together call calls e = ap (λ g. if g then ends_of calls else call.1 ∷ ends_of calls) e

-- as many ends as records
module _ (start : ℕ) (call : Placed) (calls : List Placed) (rest : length (ends_of calls) ≡ length (behind start call calls)) where
  one-more-end : (t : Bool) → goes_on call calls ≡ t → length (ends_of (call ∷ calls)) ≡ length (records_of start (calls_in (call ∷ calls)))
  one-more-end true e = ap length (ends-together call calls e) ∙ rest ∙ sym (length-together (record_of start call.0) (behind start call calls) (goes-on-records start call calls ∙ e))
  one-more-end false e = ap length (ends-apart call calls e) ∙ ap suc rest ∙ sym (ap length (joined-apart (record_of start call.0) (behind start call calls) (goes-on-records start call calls ∙ e)))

pub length-ends : (start : ℕ) (calls : List Placed) → length (ends_of calls) ≡ length (records_of start (calls_in calls))
length-ends start [] = refl
length-ends start (call ∷ calls) = one-more-end start call calls (length-ends (start + length (call_bytes call.0)) calls) (goes_on call calls) refl

-- The calls up to the last one of the record at a place: they make the records up to it.
pub record EndsAt (calls : List Placed) (start place : ℕ) : Type 0 where
  pub before : List Placed
  pub last : Placed
  pub after : List Placed
  pub others : List Event
  pub whole : calls ≡ before ++ last ∷ after
  pub records : records_of start (calls_in calls) ≡ records_of start (calls_in (before ++ last ∷ [])) ++ others
  pub many : length (records_of start (calls_in (before ++ last ∷ []))) ≡ suc place
  pub end : get_or (ends_of calls) place 0 ≡ last.1

-- one call before those of a record
module _ (call : Placed) (calls : List Placed) (start place : ℕ) (rest : EndsAt calls (start + length (call_bytes call.0)) place) where
  abbrev front : List Event
  front = behind start call (rest.before ++ rest.last ∷ [])

  some : 0 < length front
  some = omega (arith, rest.many)

  records-after : records_of start (calls_in (call ∷ calls)) ≡ joined (record_of start call.0) front ++ rest.others
  records-after = ap (joined (record_of start call.0)) rest.records ∙ joined-append (record_of start call.0) front rest.others some

  front-goes : (is_text (record_of start call.0) && begins_with_text front) ≡ goes_on call calls
  front-goes =
      ap (λ t. is_text (record_of start call.0) && t) (sym (ap begins_with_text rest.records ∙ begins-append front rest.others some))
      ∙ goes-on-records start call calls

  ends-at-together : goes_on call calls ≡ true → EndsAt (call ∷ calls) start place
  ends-at-together e = record {
    before = call ∷ rest.before;
    last = rest.last;
    after = rest.after;
    others = rest.others;
    whole = ap (λ l. call ∷ l) rest.whole;
    records = records-after;
    many = length-together (record_of start call.0) front (front-goes ∙ e) ∙ rest.many;
    end = ap (λ l. get_or l place 0) (ends-together call calls e) ∙ rest.end;
  }

  ends-at-apart : goes_on call calls ≡ false → EndsAt (call ∷ calls) start (suc place)
  ends-at-apart e = record {
    before = call ∷ rest.before;
    last = rest.last;
    after = rest.after;
    others = rest.others;
    whole = ap (λ l. call ∷ l) rest.whole;
    records = records-after;
    many = ap length (joined-apart (record_of start call.0) front (front-goes ∙ e)) ∙ ap suc rest.many;
    end = ap (λ l. get_or l (suc place) 0) (ends-apart call calls e) ∙ rest.end;
  }

ends-at-first : (call : Placed) (calls : List Placed) (start : ℕ) → goes_on call calls ≡ false → EndsAt (call ∷ calls) start 0
ends-at-first call calls start e = record {
  before = [];
  last = call;
  after = calls;
  others = behind start call calls;
  whole = refl;
  records = joined-apart (record_of start call.0) (behind start call calls) (goes-on-records start call calls ∙ e);
  many = refl;
  end = ap (λ l. get_or l 0 0) (ends-apart call calls e);
}

module _ (start : ℕ) (call : Placed) (calls : List Placed)
    (rest : (place : ℕ) → place < length (ends_of calls) → EndsAt calls (start + length (call_bytes call.0)) place) where
  ends-at-one : (t : Bool) → goes_on call calls ≡ t → (place : ℕ) → place < length (ends_of (call ∷ calls)) → EndsAt (call ∷ calls) start place
  ends-at-one true e place within = ends-at-together call calls start place (rest place (omega (arith, within, ap length (ends-together call calls e)))) e
  ends-at-one false e zero within = ends-at-first call calls start e
  ends-at-one false e (suc place) within = ends-at-apart call calls start place (rest place (omega (arith, within, ap length (ends-apart call calls e)))) e

pub ends-at : (calls : List Placed) (start place : ℕ) → place < length (ends_of calls) → EndsAt calls start place
ends-at [] start place within = absurd (omega (arith, within))
ends-at (call ∷ calls) start place within =
    ends-at-one start call calls (λ place within. ends-at calls (start + length (call_bytes call.0)) place within) (goes_on call calls) refl place within
