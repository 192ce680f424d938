-- The next bytes continue the calls, and what is added fits.
use Rattle.std.proofs.Common.{◌≡◌, ◌≤◌, ◌+◌, ◌-◌, ℕ, List, [], ◌++◌, length, take, drop, refl, sym, ap, ◌∙◌, subst, arith, inl, inr, ⊎_elim, append-nil, append_assoc, length-append, length-take}
use Rattle.std.proofs.Math.Seq.{take-add}
use Rattle.anstyle_parse.specs.Views.Accumulator.{front_of, parser_after}
use Rattle.anstyle_parse.specs.Machine.Step.{machine_calls}
use Rattle.anstyle_parse.specs.Machine.Stands.{seen}
use Rattle.anstyle_parse.specs.Stream.Call.{Call}
use Rattle.anstyle_parse.specs.Stream.Calls.{Continues}
use Rattle.anstyle_parse.specs.Views.Parser.{IsAfter, machine_of}
use Rattle.stream_state.proofs.Continuing.{Continues-append, Continues-nil, length-machine_calls}
use Rattle.event_pieces.specs.Event.{calls_bytes}
use Rattle.event_pieces.specs.Writer.{IsPlain, Suits, Has}
use Rattle.event_pieces.specs.AddingProof.{AllByRecursion-append, same_events_length, same_room_length}
use Rattle.event_pieces.proofs.Bounds.{plain-continued, room-continued}
use Rattle.event_pieces.proofs.FeedLemmas.{Has-nothing}
use Rattle.event_pieces.proofs.feeding.take.Goals as goal

pub loop-taken-init : goal.loop-taken-init
loop-taken-init c = (
  record {
    calls = [];
    taken_fits = omega arith;
    stands = λ before is. subst (λ (l : List ℕ). IsAfter front_of c.args.parser.now l) (sym (append-nil before)) is;
    continues = λ before is. Continues-nil before;
    same_events = refl;
    same_room = refl;
    added = λ before events room has. subst (λ (l : List Call). Has l events room c.args.writer.now) (sym (append-nil before)) has;
    plain = tt;
    few = omega arith;
    bounded = omega arith;
    nothing = λ e. refl;
  },
  λ events room. inl refl,
)

pub loop-taken-preserved : goal.loop-taken-preserved
loop-taken-preserved c =
    let so_far = c.loop-taken.invariant.0 in
    let before = c.requires.stands.0 in
    let is = c.requires.stands.1 in
    let piece = c.args.piece.now in
    let done = c.loop-taken.taken in
    let count = done + c.min-count.result - done in
    let bytes = take count (drop done piece) in
    let more = machine_calls parser_after bytes (machine_of c.loop-taken.parser) in
    let same : count ≡ c.min-count.result = omega arith in
    let grown = take-add done c.min-count.result piece ∙ ap (λ n. take done piece ++ take n (drop done piece)) (sym same) in
    let counted = length-take count (drop done piece) in
    let some_bytes : length bytes ≤ c.sure_bytes-sure.result = omega (arith, counted, c.min-count.ensures) in
    let stands = so_far.stands before is in
    let machine = seen front_of (machine_of c.loop-taken.parser) in
    let plain = plain-continued (before ++ take done piece) bytes more machine stands c.advance_texts.ensures.stream in
    let room = room-continued (before ++ take done piece) bytes more machine stands c.advance_texts.ensures.stream in
    let few = length-machine_calls parser_after bytes (machine_of c.loop-taken.parser) in
    let suits : Suits more c.loop-taken.writer = record {
      events_fit = omega (arith, few, some_bytes, c.sure_bytes-sure.ensures.events, c.events_left-in-loop-taken.ensures, c.loop-taken-test.true);
      room_fits = omega (arith, room, some_bytes, c.sure_bytes-sure.ensures.room, c.room_left-in-loop-taken.ensures);
    } in
    let front = length-append (take done piece) bytes in
    let begun = length-take done piece in
    let adds = c.advance_texts.ensures.calls in (
      record {
        calls = so_far.calls ++ more;
        taken_fits = omega (arith, c.min-count.ensures);
        stands = λ before is.
            subst (λ (l : List ℕ). IsAfter front_of c.advance_texts.new.self l) (append_assoc before (take done piece) bytes ∙ ap (λ l. before ++ l) (sym grown))
            (c.advance_texts.ensures.stands (before ++ take done piece) (so_far.stands before is));
        continues = λ before is.
            subst (λ (l : List ℕ). Continues before l (so_far.calls ++ more)) (sym grown)
            (Continues-append before (take done piece) bytes so_far.calls more (so_far.continues before is)
            (c.advance_texts.ensures.stream (before ++ take done piece) (so_far.stands before is)));
        same_events = adds.same_events ∙ so_far.same_events;
        same_room = adds.same_room ∙ so_far.same_room;
        added = λ before events room has.
            subst (λ (l : List Call). Has l events room c.advance_texts.new.performer) (append_assoc before so_far.calls more)
            (adds.added suits (before ++ so_far.calls) events room (so_far.added before events room has));
        plain = AllByRecursion-append IsPlain so_far.calls more so_far.plain plain;
        few = omega (arith, length-append so_far.calls more, so_far.few, adds.few);
        bounded = omega (arith, length-append so_far.calls more, few, so_far.bounded, counted, c.min-count.ensures);
        nothing = λ e. absurd (omega (arith, e, c.min-count.ensures, c.sure_bytes-sure.ensures.some));
      },
      λ events room. inr (⊎_elim
          (λ (none : c.loop-taken.taken ≡ 0).
          let nothing = so_far.nothing none in
          let no_calls = ap length nothing in
          let no_bytes = ap (λ (l : List Call). length (calls_bytes l)) nothing in
          let first = c.args.writer.now in
          let has = so_far.added [] first.events.now first.room.now (Has-nothing first.events.now first.room.now first c.requires.none_written c.requires.none_used refl refl) in
          let as_many = same_events_length so_far.calls first.events.now first.room.now c.loop-taken.writer has in
          let as_long = same_room_length so_far.calls first.events.now first.room.now c.loop-taken.writer has in
          let all : length piece ≤ c.sure_bytes-sure.result =
          c.sure_bytes-sure.ensures.all (length piece)
          (omega (arith, events, no_calls, as_many, so_far.few, c.events_left-in-loop-taken.ensures))
          (omega (arith, room, no_bytes, as_long, has.used, c.room_left-in-loop-taken.ensures)) in
          omega (arith, none, all, c.min-count.ensures))
          (λ (all : c.loop-taken.taken ≡ length piece). absurd (omega (arith, all)))
          (c.loop-taken.invariant.1 events room)),
    )

-- where nothing is taken there are records and room for all, and some are left
pub returns-else-events_left-ge-LEAST_EVENTS-clause-at_once :
    goal.returns-else-events_left-ge-LEAST_EVENTS-clause-at_once
returns-else-events_left-ge-LEAST_EVENTS-clause-at_once c = λ events room.
    let so_far = c.loop-taken.invariant.0 in
    ⊎_elim
    (λ (none : c.loop-taken.taken ≡ 0).
    let no_calls = ap length (so_far.nothing none) in
    let first = c.args.writer.now in
    let has = so_far.added [] first.events.now first.room.now (Has-nothing first.events.now first.room.now first c.requires.none_written c.requires.none_used refl refl) in
    let as_many = same_events_length so_far.calls first.events.now first.room.now c.loop-taken.writer has in
    absurd (omega (arith, none, events, no_calls, as_many, so_far.few, c.events_left.ensures, c.if-events_left-ge-LEAST_EVENTS.false, c.loop-taken-test.true)))
    (λ (all : c.loop-taken.taken ≡ length c.args.piece.now). all)
    (c.loop-taken.invariant.1 events room)

pub returns-else-room_left-ge-LEAST_ROOM-clause-at_once :
    goal.returns-else-room_left-ge-LEAST_ROOM-clause-at_once
returns-else-room_left-ge-LEAST_ROOM-clause-at_once c = λ events room.
    let so_far = c.loop-taken.invariant.0 in
    ⊎_elim
    (λ (none : c.loop-taken.taken ≡ 0).
    let nothing = so_far.nothing none in
    let no_bytes = ap (λ (l : List Call). length (calls_bytes l)) nothing in
    let first = c.args.writer.now in
    let has = so_far.added [] first.events.now first.room.now (Has-nothing first.events.now first.room.now first c.requires.none_written c.requires.none_used refl refl) in
    let as_long = same_room_length so_far.calls first.events.now first.room.now c.loop-taken.writer has in
    absurd (omega (arith, none, room, no_bytes, as_long, has.used, c.room_left.ensures, c.if-room_left-ge-LEAST_ROOM.false, c.loop-taken-test.true)))
    (λ (all : c.loop-taken.taken ≡ length c.args.piece.now). all)
    (c.loop-taken.invariant.1 events room)
