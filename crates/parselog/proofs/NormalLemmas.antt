-- What is written canonically makes the calls of what was read.
use Rattle.std.proofs.Common.{Result, sym, subst}
use Rattle.anstyle_parse.specs.declared.io.Fault.{Fault}
use Rattle.anstyle_parse.specs.declared.io.devices.Sink.{Ghosts as SinkOf}
use Rattle.anstyle_parse.specs.declared.io.devices.Source.{Ghosts as SourceOf}
use Rattle.anstyle_parse.specs.Stream.Calls.{AreCalls}
use Rattle.anstyle_parse.specs.Stream.Canon.{canon}
use Rattle.anstyle_parse.proofs.Canonical.Length.{length-canon}
use Rattle.anstyle_parse.proofs.Canonical.Replay.{replay}
use Rattle.anstyle_parse.proofs.Canonical.Twice.{canon_twice}
use Rattle.anstyle_parse.proofs.Division.Only.{AreCalls-only}
use Rattle.anstyle_parse.proofs.Lawful.Calls.{lawful}
use Rattle.anstyle_parse.specs.Io.Run.{Runs}
use Rattle.parselog.specs.Run.{Normalises}

pub Normalises-run : (R W T : Type 0) (source : SourceOf R) (sink : SinkOf W)
    (reader reader_after : R) (writer : W) (result : W × Result T Fault)
    → Runs source sink canon reader reader_after writer result
    → Normalises source sink reader reader_after writer result
Normalises-run R W T source sink reader reader_after writer result ran =
    let again : AreCalls (canon ran.calls) ran.calls = replay ran.calls (lawful ran.read ran.calls ran.are_calls) in
    record {
      read = ran.read;
      text = canon ran.calls;
      consumed = ran.consumed;
      written = ran.written;
      same_calls = λ calls. (
        λ are. subst (λ l. AreCalls (canon ran.calls) l) (AreCalls-only ran.read ran.calls calls ran.are_calls are) again,
        λ are. subst (λ l. AreCalls ran.read l) (sym (canon_twice ran.read ran.calls calls ran.are_calls are)) ran.are_calls,
      );
      bound = length-canon ran.read ran.calls ran.are_calls;
    }
