-- What is decided of a piece, and then of the next one; and what waits at the end.
use Rattle.std.proofs.Common.{ℕ, List, [], ◌++◌, ap, sym, ◌∙◌, subst, append_assoc}
use Rattle.anstyle_parse.proofs.Agreement.Whole.{AreCalls-machine}
use Rattle.anstyle_parse.specs.Machine.AsRead.{as_read}
use Rattle.anstyle_parse.specs.Machine.Decoder.{decoded}
use Rattle.anstyle_parse.specs.Machine.Step.{new_machine, machine_calls}
use Rattle.anstyle_parse.specs.Stream.Calls.{AreCalls}
use Rattle.safe_text.specs.Marks.{decided_marked}
use Rattle.stream_state.proofs.LogLemmas.{AreCalls-log_begins}
use Rattle.safe_pieces.proofs.laws.safe_joined.Goals as goal

pub returns-clause-pieces : goal.returns-clause-pieces
returns-clause-pieces c = λ before bytes more text rest one two own all are these.
    let middle = machine_calls decoded (as_read (before ++ bytes)) (new_machine []) in
    let middle_are = AreCalls-machine (as_read (before ++ bytes)) in
    two middle all middle_are (subst (λ (l : List ℕ). AreCalls (as_read l) all) (sym (append_assoc before bytes more)) these)
    ∙ ap (λ t. t ++ rest) (one own middle are middle_are) ∙ append_assoc (decided_marked own) text rest

pub returns-clause-whole : goal.returns-clause-whole
returns-clause-whole c = λ bytes text end one ends calls are.
    let own = machine_calls decoded (as_read bytes) (new_machine []) in
    let own_are = AreCalls-machine (as_read bytes) in
    ap (λ t. t ++ end) (sym (one [] own AreCalls-log_begins own_are)) ∙ sym (ends own calls own_are are)
