-- The words that programs share, and the status that they end with.
use Rattle.std.specs.Prelude.{ℕ, Bool, true, false, List, Option, None, Some, codes, if◌then◌else◌}
use Rattle.std.specs.declared.io.Error.{Error}
use Rattle.std.specs.declared.io.ErrorKind.{ErrorKind}
use Rattle.std.specs.declared.io.ErrorKind.TheVariants.{BrokenPipe}
use Rattle.std.specs.IoError.{error_kind}
use Rattle.anstyle_parse.specs.declared.io.Fault.{Fault}
use Rattle.anstyle_parse.specs.declared.io.Fault.TheVariants.{Read, Write, Flush}

-- what is said of a fault, after the program's name
abbrev pub message_of : Fault → List ℕ
message_of Read = codes "read failed"
message_of Write = codes "write failed"
message_of Flush = codes "flush failed"

-- an error that says that nobody reads the output any more
abbrev pub is_broken_pipe : ErrorKind → Bool
is_broken_pipe BrokenPipe = true
is_broken_pipe _ = false

-- The status of a program whose output failed: where nobody reads it any more 141, as a shell says
-- of a program that SIGPIPE (13) has ended, 128 + 13; else 1.
abbrev pub status_of : Option Error → ℕ
status_of None = 1
status_of (Some error) = if is_broken_pipe (error_kind error) then 141 else 1

-- The same of a run: where a read failed the status is 1, whatever became of the output.
abbrev pub status_after : Fault → Option Error → ℕ
status_after Read error = 1
status_after _ error = status_of error
