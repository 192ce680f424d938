-- The places so far keep what they kept.
use Rattle.std.proofs.Common.{◌≡◌, ◌≤◌, ◌-◌, length}
use Rattle.std.specs.Prelude.{vec_capacity}
use Rattle.screen_html.specs.Places.{all_kept}
use Rattle.screen_html.proofs.table.reach.Given as goal

abbrev pub invariant-places : goal.invariant-places
invariant-places l = record {
  kept : all_kept l.places.items ≡ all_kept l.initial.places.items;
  few : length l.places.items ≤ 1024;
  room : 1024 ≤ vec_capacity l.places;
}

abbrev pub decreases-places : goal.decreases-places
decreases-places l = 1024 - length l.places.items
