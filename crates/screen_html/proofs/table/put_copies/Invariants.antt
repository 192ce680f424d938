-- The places so far are copied.
use Rattle.std.proofs.Common.{◌≡◌, ◌≤◌, length, map, take}
use Rattle.std.specs.Prelude.{vec_capacity}
use Rattle.screen_html.specs.Places.{kept_in}
use Rattle.screen_html.proofs.table.put_copies.Given as goal

abbrev pub invariant-loop-place : goal.invariant-loop-place
invariant-loop-place l = record {
  kept : map kept_in l.copies.items ≡ map kept_in (take l.place-index l.places);
  count : length l.copies.items ≡ l.place-index;
  room : 1024 ≤ vec_capacity l.copies;
}
