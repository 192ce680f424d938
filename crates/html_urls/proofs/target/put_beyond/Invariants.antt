-- The bytes so far are written, each in three.
use Rattle.std.proofs.Common.{◌≡◌, ◌+◌, ◌*◌, ◌++◌, length, take}
use Rattle.std.specs.List.{flat_map}
use Rattle.html_urls.specs.Addresses.{escaped}
use Rattle.html_urls.proofs.target.put_beyond.Given as goal

abbrev pub invariant-loop-byte : goal.invariant-loop-byte
invariant-loop-byte l =
    (l.target.items ≡ l.initial.target.items ++ flat_map escaped (take l.byte-index l.byte-items))
    × (length l.target.items ≡ length l.initial.target.items + 3 * l.byte-index)
