-- Whatever a state holds, a machine that took it stands after some log.
use Rattle.std.proofs.Common.{[], ap, refl, subst, sym, take}
use Rattle.anstyle_parse.specs.Machine.AsRead.{as_read}
use Rattle.anstyle_parse.specs.Machine.Decoder.{decoded}
use Rattle.anstyle_parse.specs.Machine.Stands.{StandsAfter}
use Rattle.anstyle_parse.specs.Machine.Step.{new_machine, machine_after}
use Rattle.stream_state.specs.State.{pending_of}
use Rattle.stream_state.proofs.LogLemmas.{any_log}
use Rattle.stream_state.proofs.laws.states.Goals as goal

pub returns-clause-any_log : goal.returns-clause-any_log
returns-clause-any_log c = λ state. any_log (pending_of state)

pub returns-clause-zero_log : goal.returns-clause-zero_log
unfolding as_read
returns-clause-zero_log c = λ state zero.
    subst (λ l. StandsAfter (machine_after decoded l (new_machine [])) (as_read [])) (sym (ap (λ n. take n state.pending) zero)) refl
