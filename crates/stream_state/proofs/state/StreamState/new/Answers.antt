-- What is read of no bytes is nothing.
use Rattle.std.proofs.Common.{refl}
use Rattle.anstyle_parse.specs.Machine.AsRead.{as_read}
use Rattle.stream_state.proofs.state.StreamState.new.Goals as goal

pub returns-clause-begins_log : goal.returns-clause-begins_log
unfolding as_read
returns-clause-begins_log c = refl
