-- How a stream begins, as far as it has come.
use Rattle.std.specs.Prelude.{ℕ, List, take}
use Rattle.command_line.specs.declared.beginning.Beginning.{Beginning}

-- the bytes that have come, as many as a mark can have
abbrev pub bytes_of : Beginning → List ℕ
bytes_of beginning = take beginning.count beginning.bytes
