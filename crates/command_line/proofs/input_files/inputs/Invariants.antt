-- The inputs so far have the names so far.
use Rattle.std.proofs.Common.{◌≡◌, map, take, string_bytes}
use Rattle.command_line.specs.Inputs.{name_of}
use Rattle.command_line.proofs.input_files.inputs.Given as goal

abbrev pub invariant-loop-name : goal.invariant-loop-name
invariant-loop-name l = record {
  so_far : map name_of l.inputs.items ≡ map string_bytes (take l.name-index l.names);
}
