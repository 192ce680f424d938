-- A parser that stands there is inside of a character, or not.
use Rattle.std.proofs.Common.{refl}
use Rattle.anstyle_parse.specs.Machine.AsRead.{as_read}
use Rattle.stream_state.proofs.LogLemmas.{EndsLog-by}
use Rattle.stream_state.proofs.state.StreamState.is_in_char.Goals as goal

pub returns-clause-ends : goal.returns-clause-ends
returns-clause-ends c = λ before stands.
    EndsLog-by c.is_in_char.result before (c.is_in_char.ensures.stream (as_read before) refl (c.resume.ensures (as_read before) stands))
