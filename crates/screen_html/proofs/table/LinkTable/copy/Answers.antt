-- Places that keep the same keep the same links.
use Rattle.std.proofs.Common.{◌≡◌, ◌-◌, List, [], ◌++◌, length, map, sym, ap, ap₂, ◌∙◌}
use Rattle.std.specs.Prelude.{replicate}
use Rattle.std.proofs.lemmas.List.{length-map}
use Rattle.screen_html.specs.declared.table.Place.{Place}
use Rattle.screen_html.specs.Links.{Kept, kept, table, most_kept}
use Rattle.screen_html.specs.Places.{kept_in, all_kept}
use Rattle.screen_html.proofs.table.LinkTable.copy.Goals as goal

all_kept-same : (places others : List Place) → map kept_in places ≡ map kept_in others → all_kept places ≡ all_kept others
all_kept-same places others same =
    ap₂ (λ (front : List Kept) n. front ++ replicate (most_kept - n) (kept 0 [])) same
    (sym (length-map places kept_in) ∙ ap length same ∙ length-map others kept_in)

pub returns : goal.returns
returns c =
    ap (λ places. table places c.self.inside.spare) (all_kept-same _ _ (c.put_copies.ensures.kept ∙ ap (map kept_in) c.as_slice.ensures.value))
    ∙ c.self.view_is
