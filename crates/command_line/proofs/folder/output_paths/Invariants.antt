-- The paths so far are those of the files so far.
use Rattle.std.proofs.Common.{◌≡◌, map, take, string_bytes}
use Rattle.command_line.specs.Options.{texts}
use Rattle.command_line.specs.Folder.{output_paths}
use Rattle.command_line.proofs.folder.output_paths.Given as goal

abbrev pub invariant-loop-file : goal.invariant-loop-file
invariant-loop-file l = record {
  so_far : map string_bytes l.paths.items ≡ output_paths l.folder l.extension (texts (take l.file-index l.files));
}
