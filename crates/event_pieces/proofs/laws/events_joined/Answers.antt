-- Calls that continue one another.
use Rattle.std.proofs.Common.{List, [], ◌++◌, sym, subst}
use Rattle.anstyle_parse.specs.Stream.Call.{Call}
use Rattle.anstyle_parse.specs.Stream.Calls.{AreCalls, Continues}
use Rattle.anstyle_parse.proofs.Canonical.Items.{AreCalls-nil}
use Rattle.stream_state.proofs.Continuing.{Continues-append}
use Rattle.event_pieces.specs.Event.{read_events}
use Rattle.event_pieces.proofs.laws.events_joined.Goals as goal

pub returns-clause-pieces : goal.returns-clause-pieces
returns-clause-pieces c = λ before bytes more room more_room events others (calls, continues, are) (next, then, also).
    Continues-append before bytes more (read_events room events) (read_events more_room others)
    (subst (λ (l : List Call). Continues before bytes l) (sym are.reads.same) continues)
    (subst (λ (l : List Call). Continues (before ++ bytes) more l) (sym also.reads.same) then)

pub returns-clause-whole : goal.returns-clause-whole
returns-clause-whole c = λ bytes room events (calls, continues, are).
    subst (λ (l : List Call). AreCalls bytes l) (sym are.reads.same) (continues [] AreCalls-nil)
