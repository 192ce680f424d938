-- A piece more is read, and its calls are made.
use Rattle.std.proofs.Common.{◌++◌, [], take, refl, ◌∙◌, arith, length-append, length-take}
use Rattle.std.proofs.KnownBytes.{Consumes-nil, Consumes-trans}
use Rattle.anstyle_parse.proofs.Canonical.Items.{AreCalls-nil}
use Rattle.anstyle_parse.proofs.io.texts.perform_texts_to_end.Goals as goal

pub loop-turn-init : goal.loop-turn-init
loop-turn-init g c = record {
  read = [];
  consumed = Consumes-nil (g.R.Source.remaining c.args.reader.now);
  received = ([], AreCalls-nil, g.met.P.PerformText.follows.none c.args.performer.now);
  stands = c.new-parser.ensures.stands;
  not_failed = refl;
  counted = omega arith;
  room = refl;
}

pub loop-turn-preserved : goal.loop-turn-preserved
loop-turn-preserved g c =
    let before = c.loop-turn.invariant in
    let bytes = take c.in-Some.count c.read.new.into in
    record {
      read = before.read ++ bytes;
      consumed = Consumes-trans _ _ _ _ _ before.consumed c.in-Some.ensures.passed;
      received = c.advance_texts.ensures.received c.args.performer.now before.read before.stands before.received;
      stands = c.advance_texts.ensures.stands before.read before.stands;
      not_failed = c.in-Some.ensures.not_failed ∙ before.not_failed;
      counted = omega (arith, before.counted, length-append before.read bytes, length-take c.in-Some.count c.read.new.into, c.in-Some.ensures.within, c.in-Some.count-test);
      room = c.read.auto.into ∙ before.room;
    }
