-- The bytes that are left make the same number as all of them did.
use Rattle.std.proofs.Common.{◌≡◌, drop}
use Rattle.ansi_modes.specs.Fields.{number_from, number_of}
use Rattle.ansi_modes.proofs.fields.number_of.Given as goal

abbrev pub invariant-loop-byte : goal.invariant-loop-byte
invariant-loop-byte l = number_from l.value (drop l.byte-index l.part) ≡ number_of l.part
