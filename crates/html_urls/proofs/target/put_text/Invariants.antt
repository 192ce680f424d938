-- The text so far is written, and a link has room for it.
use Rattle.std.proofs.Common.{◌≡◌, ◌<◌, ◌++◌, length, take}
use Rattle.std.specs.List.{flat_map}
use Rattle.html_urls.specs.Addresses.{in_link, max_held}
use Rattle.html_urls.proofs.target.put_text.Given as goal

abbrev pub invariant-loop-c : goal.invariant-loop-c
invariant-loop-c l =
    (l.target.items ≡ l.initial.target.items ++ flat_map in_link (take l.c-index l.text)) × (length l.target.items < max_held)
