-- What bytes lead to that are taken as a reader of logs reads them.
use Rattle.std.specs.Prelude.{◌≡◌, ℕ, Bool, List, ◌++◌}
use Rattle.anstyle_parse.specs.declared.accumulator.Utf8Parser.{Utf8Parser}
use Rattle.anstyle_parse.specs.declared.parser.Parser.{Parser}
use Rattle.anstyle_parse.specs.Stream.Call.{Call}
use Rattle.anstyle_parse.specs.Stream.Items.{EachIs}
use Rattle.anstyle_parse.specs.Machine.AsRead.{read_for, read_from}
use Rattle.anstyle_parse.specs.Machine.Step.{machine_after, machine_calls}
use Rattle.anstyle_parse.specs.Machine.Stands.{counted}
use Rattle.anstyle_parse.specs.Views.Accumulator.{parser_after}
use Rattle.anstyle_parse.specs.Views.Parser.{machine_of}
use Rattle.anstyle_parse.specs.Views.Stage.{Stage}

-- what a parser reads for bytes
abbrev pub read_by : Parser Utf8Parser → List ℕ → List ℕ
read_by parser bytes = read_from parser_after (machine_of parser) bytes

-- and for one
abbrev pub read_one : Parser Utf8Parser → ℕ → List ℕ
read_one parser b = read_for parser_after parser.state parser.accumulator b

-- what is read of the bytes that are left
abbrev pub read_at : {P : Type 0} → Stage Utf8Parser P → List ℕ
read_at stage = read_by stage.parser stage.left

-- In what counts, going on from here with what is read of what is left is going from the start with what is read of
-- all bytes, and what calls are made on the way the performer has received.
pub record LeadsAsReadTo {P : Type 0} (receives : P → List Call → P → Type 0)
    (old new : Stage Utf8Parser P) : Type 0 where
  pub same : counted (machine_after parser_after (read_at new) (machine_of new.parser))
      ≡ counted (machine_after parser_after (read_at old) (machine_of old.parser))
  pub made : List Call
  pub joined : machine_calls parser_after (read_at old) (machine_of old.parser)
      ≡ made ++ machine_calls parser_after (read_at new) (machine_of new.parser)
  pub received : receives old.performer made new.performer

-- the bytes begin with some that pass a test, and these are left
pub record PassBytes (test : ℕ → Bool) (bytes left : List ℕ) : Type 0 where
  pub passed : List ℕ
  pub each : EachIs test passed
  pub joined : bytes ≡ passed ++ left
