-- The digits that are left decide as all of them do.
use Rattle.std.proofs.Common.{◌≡◌, drop}
use Rattle.std.specs.List.{list_all}
use Rattle.ansi_modes.specs.Colors.{is_hex}
use Rattle.ansi_modes.proofs.colors.are_hex.Given as goal

abbrev pub invariant-loop-digit : goal.invariant-loop-digit
invariant-loop-digit l = list_all is_hex (drop l.digit-index l.digits) ≡ list_all is_hex l.digits
