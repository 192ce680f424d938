-- The fields that are left make the same style as all of them did.
use Rattle.std.proofs.Common.{◌≡◌, length}
use Rattle.ansi_style.specs.declared.select.Expected.TheVariants.{Code}
use Rattle.ansi_style.specs.Walk.{alone, selected_from}
use Rattle.ansi_style.proofs.style.Style.select_each.Given as goal

abbrev pub invariant-fields : goal.invariant-fields
invariant-fields l = selected_from Code (alone l.rest) l.self ≡ selected_from Code (alone l.fn.fields) l.fn.self

abbrev pub decreases-fields : goal.decreases-fields
decreases-fields l = length l.rest
