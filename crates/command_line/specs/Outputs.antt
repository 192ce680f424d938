-- With which status a program ends that wrote to a file or to standard output.
use Rattle.std.specs.Prelude.{◌≡◌, ℕ, Bool, true, false, List, Option, is_some, Result, Ok, Err, ◌⊎◌}
use Rattle.std.specs.declared.io.Error.{Error}
use Rattle.anstyle_parse.specs.declared.io.Fault.{Fault}
use Rattle.anstyle_parse.specs.declared.io.Fault.TheVariants.{Write}
use Rattle.anstyle_parse.specs.Io.Buffer.{fault_behind}
use Rattle.each_source.specs.declared.Stopped.{Stopped}
use Rattle.each_source.specs.declared.Stopped.TheVariants.{NoMemory, Stuck, AtFault}
use Rattle.command_line.specs.Words.{status_after}
use Rattle.command_line.specs.declared.output_file.Target.{Target}

-- whether what is written goes to a file, and whether to a new one, which is to take the place of another
abbrev pub is_named : Target → Bool
is_named target = is_some target.name

abbrev pub is_replacing : Target → Bool
is_replacing target = is_some target.replacing

-- the status where the output failed: that a file did is 1, whatever became of it
abbrev pub fault_status : (named : Bool) → Fault → Option Error → ℕ
fault_status true fault error = 1
fault_status false fault error = status_after fault error

-- Where the output failed or is stuck, or there was no memory, the status says so, and so it does where an input
-- failed. Else it is 0, unless the new file could not take its place.
abbrev pub EndsAs : {T : Type 0} → (named replacing has_failed : Bool) → (held : List ℕ) → Option Error
    → Result T Stopped
    → (status : ℕ) → Type 0
EndsAs named replacing has_failed held error (Err NoMemory) status = status ≡ 1
EndsAs named replacing has_failed held error (Err Stuck) status = status ≡ fault_status named Write error
EndsAs named replacing has_failed held error (Err (AtFault fault)) status =
    status ≡ fault_status named (fault_behind fault held) error
EndsAs named replacing true held error (Ok done) status = status ≡ 1
EndsAs named true false held error (Ok done) status = (status ≡ 0) ⊎ (status ≡ 1)
EndsAs named false false held error (Ok done) status = status ≡ 0
