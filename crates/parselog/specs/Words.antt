-- The words of the program.
use Rattle.std.specs.Prelude.{ℕ, Bool, true, false, ◌||◌, List, Option, None, Some, codes, bytes_eq, if◌then◌else◌}
use Rattle.std.specs.declared.io.Error.{Error}
use Rattle.std.specs.declared.io.ErrorKind.{ErrorKind}
use Rattle.std.specs.declared.io.ErrorKind.TheVariants.{BrokenPipe}
use Rattle.std.specs.IoError.{error_kind}
use Rattle.anstyle_parse.specs.declared.io.Fault.{Fault}
use Rattle.anstyle_parse.specs.declared.io.Fault.TheVariants.{Read, Write, Flush}
use Rattle.parselog.specs.declared.run.Mode.{Mode}
use Rattle.parselog.specs.declared.run.Mode.TheVariants.{Log, Canon}
use Rattle.parselog.specs.declared.words.Request.{Request}
use Rattle.parselog.specs.declared.words.Request.TheVariants.{Help, Version}

-- the mode that the first argument names, where no second one came
abbrev pub mode_of : Option (List ℕ) → (more : Bool) → Option Mode
mode_of first true = None
mode_of None false = Some Log
mode_of (Some word) false =
    if bytes_eq word (codes "log") then Some Log else if bytes_eq word (codes "canon") then Some Canon else None

-- what the first word asks for that names no mode
abbrev pub asked_of : Option (List ℕ) → Option Request
asked_of None = None
asked_of (Some word) =
    if bytes_eq word (codes "--help") || bytes_eq word (codes "-h") then Some Help
    else if bytes_eq word (codes "--version") then Some Version
    else None

-- what the program says of a fault, without the line feed
abbrev pub message_of : Fault → List ℕ
message_of Read = codes "parselog: read failed"
message_of Write = codes "parselog: write failed"
message_of Flush = codes "parselog: flush failed"

-- an error that says that nobody reads the output any more
abbrev pub is_broken_pipe : ErrorKind → Bool
is_broken_pipe BrokenPipe = true
is_broken_pipe _ = false

-- The status of a program whose output failed: where nobody reads it any more 141, as a shell says
-- of a program that SIGPIPE (13) has ended, 128 + 13; else 1.
abbrev pub status_of : Option Error → ℕ
status_of None = 1
status_of (Some error) = if is_broken_pipe (error_kind error) then 141 else 1

-- The same of a run: where a read failed the status is 1, whatever became of the output.
abbrev pub status_after : Fault → Option Error → ℕ
status_after Read error = 1
status_after _ error = status_of error
