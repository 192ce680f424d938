-- The link's place is set.
use Rattle.std.proofs.Common.{◌≡◌, ◌-◌, ◌%◌, ℕ, Bool, true, false, map, set, length, Bor, List, [], ◌++◌, sym, ap, ap₂, ◌∙◌}
use Rattle.std.specs.Prelude.{◌==◌, ◌&&◌, not, if◌then◌else◌, replicate}
use Rattle.std.proofs.lemmas.Bool.{ne_eqb}
use Rattle.std.proofs.lemmas.List.{map-set, length-map, length-set, set-append_left, with_items_is}
use Rattle.std.proofs.Common.{◌<◌, arith}
use Rattle.ansi_html.specs.Affordable.{link_cost}
use Rattle.ansi_html.specs.Links.{is_link_command, link_of}
use Rattle.screen_html.specs.declared.table.Place.{Place}
use Rattle.screen_html.specs.Links.{Kept, kept, Table, table, links_after, credited, spare_after}
use Rattle.screen_html.specs.Places.{kept_in, all_kept}
use Rattle.screen_html.proofs.table.LinkTable.take_command.Goals as goal

-- a place that is written
all_kept-set : (places : List Place) (at : ℕ) (place : Place) → at < length places
    → all_kept (set places at place) ≡ set (all_kept places) at (kept_in place)
all_kept-set places at place there =
    let rest : List Kept = replicate (1024 - length places) (kept 0 []) in
    ap₂ (λ (front : List Kept) (n : ℕ). front ++ replicate (1024 - n) (kept 0 [])) (map-set kept_in places at place) (length-set places at place)
    ∙ sym (set-append_left (map kept_in places) rest at (kept_in place) (omega (arith, length-map places kept_in, there)))

pub returns-then-number-ne0 : goal.returns-then-number-ne0
unfolding links_after spare_after
returns-then-number-ne0 c =
    let parts : List (List ℕ) = map (λ (part : Bor (List ℕ)). part.now) c.args.parts.now in
    let number = c.args.number in
    let is : is_link_command parts ≡ true = sym c.is_link_command.ensures ∙ c.if-is_link_command.true in
    let some : (number == 0) ≡ false = ne_eqb number 0 c.if-number-ne0.true in
    let places : List Place = c.as_mut_slice.result.now in
    let reached : length places ≡ length c.reach.new.places.items = ap length c.as_mut_slice.ensures.value in
    let there : number % 1024 < length places = omega (arith, c.reach.ensures.there, reached) in
    let before : List Kept = c.args.self.now.places in
    let old : all_kept places ≡ before =
    ap all_kept c.as_mut_slice.ensures.value ∙ (c.reach.ensures.kept ∙ ap (λ (it : Table). it.places) c.self.view_is) in
    let place : Place = record { number = number; link = c.select.new.self } in
    let written = set places (number % 1024) place in
    let kept_so = ap all_kept (with_items_is c.reach.new.places written (length-set places (number % 1024) place ∙ c.as_mut_slice.ensures.len))
    ∙ (all_kept-set places (number % 1024) place there
    ∙ (ap₂ (λ (links : List Kept) link. set links (number % 1024) (kept number link)) old c.select.ensures
    ∙ sym (ap₂ (λ (a b : Bool). if a && not b then set before (number % 1024) (kept number (link_of parts)) else before) is some))) in
    let spare : ℕ = c.args.self.now.spare in
    ap₂ table kept_so
    (c.credited_link-self-inside.ensures
    ∙ ap₂ (λ (link : List ℕ) (n : ℕ). credited (link_cost link) n) (c.uri.ensures ∙ c.select.ensures) (ap (λ (it : Table). it.spare) c.self.view_is)
    ∙ sym (ap₂ (λ (a b : Bool). if a && not b then credited (link_cost (link_of parts)) spare else spare) is some))
