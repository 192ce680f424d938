-- A piece more is read, and its calls are made.
use Rattle.std.proofs.Common.{◌++◌, [], is_some, take, refl, sym, ap, ◌∙◌, arith, length-append, length-take, append-nil, subst}
use Rattle.std.proofs.KnownBytes.{Consumes-nil, Consumes-trans}
use Rattle.anstyle_parse.specs.Views.Accumulator.{parser_after}
use Rattle.anstyle_parse.specs.Machine.Step.{machine_calls}
use Rattle.anstyle_parse.specs.Views.Parser.{machine_of}
use Rattle.anstyle_parse.specs.Stream.Calls.{AreCalls}
use Rattle.anstyle_parse.specs.Io.Output.{fault_in}
use Rattle.anstyle_parse.proofs.Canonical.Items.{AreCalls-nil}
use Rattle.anstyle_parse.proofs.Written.Output.{None-from_is_some}
use Rattle.anstyle_parse.proofs.io.engine.drive.Goals as goal

pub loop-turn-init : goal.loop-turn-init
loop-turn-init g c = record {
  read = [];
  calls = [];
  consumed = Consumes-nil (g.R.Source.remaining c.args.reader.now);
  are_calls = AreCalls-nil;
  received = g.met.P.PerformText.follows.none c.args.performer.now;
  stands = c.new-parser.ensures.stands;
  no_fault = c.requires;
  not_failed = refl;
  counted = omega arith;
  room = refl;
}

pub returns-then-is_some : goal.returns-then-is_some
returns-then-is_some g c =
    let before = c.loop-turn.invariant in
    let bytes = take c.in-Some.count c.read.new.into in
    let more = machine_calls parser_after bytes (machine_of c.loop-turn.parser) in
    record {
      read = before.read ++ bytes;
      calls = (before.calls ++ more) ++ [];
      consumed = Consumes-trans _ _ _ _ _ before.consumed c.in-Some.ensures.passed;
      are_calls = subst (AreCalls (before.read ++ bytes)) (sym (append-nil (before.calls ++ more))) (c.advance_heeded.ensures.stream before.read before.stands before.calls before.are_calls);
      received = g.met.P.PerformText.follows.more c.args.performer.now c.advance_heeded.new.performer c.pass_on.new.self (before.calls ++ more) []
          (g.met.P.PerformText.follows.more c.args.performer.now c.loop-turn.performer c.advance_heeded.new.performer before.calls more before.received c.advance_heeded.ensures.calls)
          c.pass_on.ensures;
      stops = (sym (c.is_some.ensures ∙ ap is_some (c.fault.ensures ∙ ap fault_in c.output.ensures)) ∙ c.if-is_some.true, c.in-Some.ensures.not_failed ∙ before.not_failed);
    }

pub loop-turn-preserved : goal.loop-turn-preserved
loop-turn-preserved g c =
    let before = c.loop-turn.invariant in
    let bytes = take c.in-Some.count c.read.new.into in
    let more = machine_calls parser_after bytes (machine_of c.loop-turn.parser) in
    record {
      read = before.read ++ bytes;
      calls = (before.calls ++ more) ++ [];
      consumed = Consumes-trans _ _ _ _ _ before.consumed c.in-Some.ensures.passed;
      are_calls = subst (AreCalls (before.read ++ bytes)) (sym (append-nil (before.calls ++ more))) (c.advance_heeded.ensures.stream before.read before.stands before.calls before.are_calls);
      received = g.met.P.PerformText.follows.more c.args.performer.now c.advance_heeded.new.performer c.pass_on.new.self (before.calls ++ more) []
          (g.met.P.PerformText.follows.more c.args.performer.now c.loop-turn.performer c.advance_heeded.new.performer before.calls more before.received c.advance_heeded.ensures.calls)
          c.pass_on.ensures;
      stands = c.advance_heeded.ensures.stands before.read before.stands;
      no_fault = None-from_is_some (fault_in (g.P.WritingPerformer.output_in c.pass_on.new.self)) (sym (c.is_some.ensures ∙ ap is_some (c.fault.ensures ∙ ap fault_in c.output.ensures)) ∙ c.if-is_some.false);
      not_failed = c.in-Some.ensures.not_failed ∙ before.not_failed;
      counted = omega (arith, before.counted, length-append before.read bytes, length-take c.in-Some.count c.read.new.into, c.in-Some.ensures.within, c.in-Some.count-test);
      room = c.read.auto.into ∙ before.room;
    }
