-- None of those so far is named after twice.
use Rattle.std.proofs.Common.{◌≡◌, drop}
use Rattle.command_line.specs.Options.{texts}
use Rattle.command_line.specs.Folder.{first_twice}
use Rattle.command_line.proofs.folder.first_twice.Given as goal

abbrev pub invariant-loop-index : goal.invariant-loop-index
invariant-loop-index l = first_twice (texts (drop l.index l.files)) ≡ first_twice (texts l.files)
