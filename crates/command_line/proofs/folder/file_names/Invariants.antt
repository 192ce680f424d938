-- The files so far are named after the files so far.
use Rattle.std.proofs.Common.{◌≡◌, map, take, string_bytes}
use Rattle.std.specs.Prelude.{Some}
use Rattle.command_line.specs.Options.{texts}
use Rattle.command_line.specs.Folder.{file_name}
use Rattle.command_line.proofs.folder.file_names.Given as goal

abbrev pub invariant-loop-name : goal.invariant-loop-name
invariant-loop-name l = record {
  so_far : map Some (texts l.files.items) ≡ map file_name (map string_bytes (take l.name-index l.names));
}
