-- A place more is copied.
use Rattle.std.proofs.Common.{ℕ, List, [], ◌∷◌, ◌++◌, map, take, sym, ap, ap₂, ◌∙◌, arith}
use Rattle.std.proofs.lemmas.List.{map-append, take_more}
use Rattle.screen_html.specs.declared.table.Place.{Place}
use Rattle.screen_html.specs.Links.{Kept, kept}
use Rattle.screen_html.specs.Places.{kept_in}
use Rattle.screen_html.proofs.table.put_copies.Goals as goal

pub loop-place-preserved : goal.loop-place-preserved
loop-place-preserved c =
    let places : List Place = c.args.places.now in
    let i : ℕ = c.loop-place.place-index in
    let place : Place = c.place-item.result in
    let copy : Place = record { number = place.number; link = c.assign.new.self } in
    record {
      kept = ap (map kept_in) c.push_reserved.ensures.items
          ∙ map-append kept_in c.loop-place.copies.items (copy ∷ [])
          ∙ ap₂ (λ (front : List Kept) link. front ++ kept place.number link ∷ []) c.loop-place.invariant.kept c.assign.ensures
          ∙ sym (map-append kept_in (take i places) (place ∷ []))
          ∙ ap (λ (it : Place). map kept_in (take i places ++ it ∷ [])) c.place-item.is
          ∙ ap (map kept_in) (sym (take_more places i c.place-item.result c.loop-place-test.true));
      count = omega (arith, c.push_reserved.ensures.len, c.loop-place.invariant.count);
      room = omega (arith, c.push_reserved.ensures.capacity, c.loop-place.invariant.room);
    }
