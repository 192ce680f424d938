-- The front goes to the performer, and then a piece more is read, and the calls of what is read of it are made.
use Rattle.std.proofs.Common.{◌≡◌, inl, inr, true, false, ◌++◌, [], take, refl, sym, ap, ◌∙◌, arith, length-append, length-take, append-nil, append_assoc, subst}
use Rattle.std.specs.Io.KnownBytes.{Consumes}
use Rattle.std.proofs.KnownBytes.{Consumes-kept, Consumes-nil, Consumes-trans}
use Rattle.anstyle_parse.specs.Machine.AsRead.{as_read, as_read_whole}
use Rattle.anstyle_parse.specs.Stream.Calls.{AreCalls}
use Rattle.anstyle_parse.specs.Views.Accumulator.{front_of}
use Rattle.anstyle_parse.specs.Views.Parser.{IsAfter}
use Rattle.each_source.specs.declared.one_source.Reached.TheVariants.{End, Failure}
use Rattle.each_source.proofs.ReadLemmas.{stands-new, received-none, not-over, over-at}
use Rattle.each_source.proofs.one_source.read_to.Goals as goal

pub returns-in-Some : goal.returns-in-Some
returns-in-Some g c =
    let front = c.args.front.now in
    let performer = c.args.performer.now in
    let (calls, are, received) = c.give-stopped.ensures.received performer [] (stands-new c.new-parser.result c.new-parser.ensures.stands)
    (received-none g.P.PerformText.receives performer (g.met.P.PerformText.follows.none performer)) in
    record {
      rest = [];
      at_end = false;
      calls = calls;
      consumed = Consumes-nil (g.R.Source.remaining c.args.reader.now);
      are_calls = subst (λ l. AreCalls (as_read l) calls) (sym (append-nil front)) are;
      received = received;
      untouched = λ over. (refl, refl);
      ended = λ moving clear. absurd (c.in-Some.ensures.over moving clear);
      held = c.in-Some.ensures.held;
    }

pub returns-in-End : goal.returns-in-End
returns-in-End g c =
    let front = c.args.front.now in
    let performer = c.args.performer.now in
    let new = stands-new c.new-parser.result c.new-parser.ensures.stands in
    let (calls, are, received) = c.end_log.ensures.received performer front (c.give-stopped.ensures.stands [] new)
    (c.give-stopped.ensures.received performer [] new (received-none g.P.PerformText.receives performer (g.met.P.PerformText.follows.none performer))) in
    record {
      rest = [];
      at_end = true;
      calls = calls;
      consumed = Consumes-nil (g.R.Source.remaining c.args.reader.now);
      are_calls = subst (λ l. AreCalls (as_read_whole l) calls) (sym (append-nil front)) are;
      received = received;
      untouched = λ over. (refl, refl);
      ended = λ moving clear. (refl, λ more. absurd (over-at c.args.reached End c.in-End.is refl more));
      held = λ stuck. absurd (let clash : true ≡ false = sym stuck ∙ c.at_end.ensures in cc);
    }

pub returns-in-Failure : goal.returns-in-Failure
returns-in-Failure g c =
    let front = c.args.front.now in
    let performer = c.args.performer.now in
    let new = stands-new c.new-parser.result c.new-parser.ensures.stands in
    let (calls, are, received) = c.end_log-in-Failure.ensures.received performer front (c.give-stopped.ensures.stands [] new)
    (c.give-stopped.ensures.received performer [] new (received-none g.P.PerformText.receives performer (g.met.P.PerformText.follows.none performer))) in
    record {
      rest = [];
      at_end = true;
      calls = calls;
      consumed = Consumes-nil (g.R.Source.remaining c.args.reader.now);
      are_calls = subst (λ l. AreCalls (as_read_whole l) calls) (sym (append-nil front)) are;
      received = received;
      untouched = λ over. (refl, refl);
      ended = λ moving clear. (refl, λ more. absurd (over-at c.args.reached Failure c.in-Failure.is refl more));
      held = λ stuck. absurd (let clash : false ≡ true = stuck in cc);
    }

pub loop-turn-init : goal.loop-turn-init
loop-turn-init g c =
    let front = c.args.front.now in
    let performer = c.args.performer.now in
    let new = stands-new c.new-parser.result c.new-parser.ensures.stands in
    let (calls, are, received) =
    c.give-stopped.ensures.received performer [] new (received-none g.P.PerformText.receives performer (g.met.P.PerformText.follows.none performer)) in
    record {
      rest = [];
      calls = calls;
      consumed = Consumes-nil (g.R.Source.remaining c.args.reader.now);
      are_calls = subst (λ l. AreCalls (as_read l) calls) (sym (append-nil front)) are;
      received = received;
      stands = subst (λ l. IsAfter front_of c.give-stopped.new.parser (as_read l)) (sym (append-nil front)) (c.give-stopped.ensures.stands [] new);
      no_fault = c.in_default.ensures.clear;
      counted = omega arith;
      room = refl;
    }

pub returns-in-Some-stopped : goal.returns-in-Some-stopped
returns-in-Some-stopped g c =
    let before = c.loop-turn.invariant in
    let front = c.args.front.now in
    let bytes = take c.in-Some-read.count c.read.new.into in
    let (calls, are, received) =
    c.give-stopped-in-Some-read.ensures.received c.args.performer.now (front ++ before.rest) before.stands (before.calls, before.are_calls, before.received) in
    record {
      rest = before.rest ++ bytes;
      at_end = false;
      calls = calls;
      consumed = Consumes-trans _ _ _ _ _ before.consumed c.in-Some-read.ensures.passed;
      are_calls = subst (λ l. AreCalls (as_read l) calls) (append_assoc front before.rest bytes) are;
      received = received;
      untouched = λ over. absurd (not-over c.args.reached c.in-Middle.is over);
      ended = λ moving clear. absurd (c.in-Some-stopped.ensures.over moving clear);
      held = c.in-Some-stopped.ensures.held;
    }

pub loop-turn-preserved : goal.loop-turn-preserved
loop-turn-preserved g c =
    let before = c.loop-turn.invariant in
    let front = c.args.front.now in
    let bytes = take c.in-Some-read.count c.read.new.into in
    let (calls, are, received) =
    c.give-stopped-in-Some-read.ensures.received c.args.performer.now (front ++ before.rest) before.stands (before.calls, before.are_calls, before.received) in
    record {
      rest = before.rest ++ bytes;
      calls = calls;
      consumed = Consumes-trans _ _ _ _ _ before.consumed c.in-Some-read.ensures.passed;
      are_calls = subst (λ l. AreCalls (as_read l) calls) (append_assoc front before.rest bytes) are;
      received = received;
      stands = subst (λ l. IsAfter front_of c.give-stopped-in-Some-read.new.parser (as_read l)) (append_assoc front before.rest bytes)
          (c.give-stopped-in-Some-read.ensures.stands (front ++ before.rest) before.stands);
      no_fault = c.in_default-stopped.ensures.clear;
      counted = omega (arith, before.counted, length-append before.rest bytes, length-take c.in-Some-read.count c.read.new.into, c.in-Some-read.ensures.within, c.in-Some-read.count-test);
      room = c.read.auto.into ∙ before.room;
    }

pub returns-in-None : goal.returns-in-None
returns-in-None g c =
    let before = c.loop-turn.invariant in
    let front = c.args.front.now in
    let (calls, are, received) =
    c.end_log-in-None.ensures.received c.args.performer.now (front ++ before.rest) before.stands (before.calls, before.are_calls, before.received) in
    record {
      rest = before.rest;
      at_end = true;
      calls = calls;
      consumed = Consumes-kept _ _ _ _ before.consumed c.in-None.ensures.nothing_passed;
      are_calls = are;
      received = received;
      untouched = λ over. absurd (not-over c.args.reached c.in-Middle.is over);
      ended = λ moving clear. (refl, λ more. inr (inl c.in-None.ensures.failed));
      held = λ stuck. absurd (let clash : false ≡ true = stuck in cc);
    }

pub returns-in-Some-eq0 : goal.returns-in-Some-eq0
returns-in-Some-eq0 g c =
    let before = c.loop-turn.invariant in
    let front = c.args.front.now in
    let (calls, are, received) =
    c.end_log-in-Some-eq0.ensures.received c.args.performer.now (front ++ before.rest) before.stands (before.calls, before.are_calls, before.received) in
    let zero : c.in-Some-eq0.field-0 ≡ 0 = omega (arith, c.in-Some-eq0.field-0-test) in
    let none : before.rest ++ take c.in-Some-eq0.field-0 c.read.new.into ≡ before.rest =
    ap (λ n. before.rest ++ take n c.read.new.into) zero ∙ append-nil before.rest in
    record {
      rest = before.rest;
      at_end = true;
      calls = calls;
      consumed = subst (Consumes (g.R.Source.remaining c.args.reader.now) (g.R.Source.remaining c.read.new.self)) none
          (Consumes-trans _ _ _ _ _ before.consumed c.in-Some-eq0.ensures.passed);
      are_calls = are;
      received = received;
      untouched = λ over. absurd (not-over c.args.reached c.in-Middle.is over);
      ended = λ moving clear. (refl, λ more. inl (c.in-Some-eq0.ensures.end zero (omega (arith, c.read.auto.into, before.room))));
      held = λ stuck. absurd (let clash : true ≡ false = sym stuck ∙ c.at_end-in-Some-eq0.ensures in cc);
    }

pub returns : goal.returns
returns g c =
    let before = c.loop-turn.invariant in
    let front = c.args.front.now in
    let (calls, are, received) =
    c.end_log-2.ensures.received c.args.performer.now (front ++ before.rest) before.stands (before.calls, before.are_calls, before.received) in
    record {
      rest = before.rest;
      at_end = true;
      calls = calls;
      consumed = before.consumed;
      are_calls = are;
      received = received;
      untouched = λ over. absurd (not-over c.args.reached c.in-Middle.is over);
      ended = λ moving clear. (refl, λ more. inr (inr (omega (arith, before.counted, length-append front before.rest, c.loop-turn-test.false, c.loop-turn.auto.turn-end))));
      held = λ stuck. absurd (let clash : false ≡ true = stuck in cc);
    }
