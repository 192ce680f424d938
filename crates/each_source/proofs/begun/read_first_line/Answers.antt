-- Some bytes more are read.
use Rattle.std.proofs.Common.{sym, subst, arith}
use Rattle.std.specs.Io.KnownBytes.{Consumes}
use Rattle.std.proofs.KnownBytes.{Consumes-trans}
use Rattle.each_source.proofs.ReadLemmas.{length-put, front-more}
use Rattle.each_source.proofs.begun.read_first_line.Goals as goal

pub count-preserved : goal.count-preserved
count-preserved g c =
    let before = c.count.invariant in
    let long = c.read.auto.into in
    let more = front-more 4096 c.count.count c.count.piece c.read.new.into before.room before.within c.in-Some.more in
    record {
      within = omega (arith, c.in-Some.ensures.within, long, before.room, before.within);
      room = length-put 4096 c.count.count c.count.piece c.read.new.into before.room before.within (omega (arith, long, before.room));
      consumed = subst (Consumes (g.R.Source.remaining c.args.reader.now) (g.R.Source.remaining c.read.new.self)) (sym more)
          (Consumes-trans _ _ _ _ _ before.consumed c.in-Some.ensures.passed);
    }
