-- A place that is written keeps no link, as before.
use Rattle.std.proofs.Common.{◌≡◌, ◌+◌, ◌-◌, ◌<◌, ℕ, List, [], ◌∷◌, ◌++◌, length, map, ap, ap₂, ◌∙◌, append_assoc, length-append, arith}
use Rattle.std.specs.Prelude.{replicate}
use Rattle.std.proofs.lemmas.List.{map-append, replicate-append-replicate}
use Rattle.screen_html.specs.declared.table.Place.{Place}
use Rattle.screen_html.specs.Links.{Kept, kept}
use Rattle.screen_html.specs.Places.{kept_in, all_kept}
use Rattle.screen_html.proofs.table.reach.Goals as goal

one-more : (places : List Place) (place : Place) → length places < 1024 → kept_in place ≡ kept 0 [] → all_kept (places ++ place ∷ []) ≡ all_kept places
one-more places place few none =
    let kept_so : List Kept = map kept_in places in
    let left : ℕ = 1024 - (length places + 1) in
    let rest : 1024 - length (places ++ place ∷ []) ≡ left = ap (λ n. 1024 - n) (length-append places (place ∷ [])) in
    let whole : 1 + left ≡ 1024 - length places = omega (arith, few) in
    ap₂ (λ (front : List Kept) (n : ℕ). front ++ replicate n (kept 0 []))
    (map-append kept_in places (place ∷ []) ∙ ap (λ (it : Kept). kept_so ++ it ∷ []) none) rest
    ∙ (append_assoc kept_so (kept 0 [] ∷ []) (replicate left (kept 0 []))
    ∙ ap (λ (l : List Kept). kept_so ++ l) (replicate-append-replicate 1 left (kept 0 []) ∙ ap (λ n. replicate n (kept 0 [])) whole))

pub places-preserved : goal.places-preserved
places-preserved c =
    let before = c.places.invariant in
    let items = c.places.places.items in
    let new : Place = record { number = 0; link = c.none.result } in
    let few : length items < 1024 = omega (arith, c.places-test.true, c.requires.place, c.len.ensures) in
    record {
      kept = ap all_kept c.push_reserved.ensures.items ∙ (one-more items new few (ap (kept 0) c.none.ensures) ∙ before.kept);
      few = omega (arith, ap length c.push_reserved.ensures.items, length-append items (new ∷ []), few);
      room = omega (arith, c.push_reserved.ensures.capacity, before.room);
    }
