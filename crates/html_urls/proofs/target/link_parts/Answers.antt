-- A part more, or the last one.
use Rattle.std.proofs.Common.{◌≡◌, ◌<◌, ◌+◌, ℕ, List, [], ◌∷◌, ◌++◌, Bor, length, map, take, set, refl, sym, ap, ◌∙◌, append_assoc, length-set, arith}
use Rattle.std.specs.Prelude.{◌==◌}
use Rattle.std.specs.List.{slice_split}
use Rattle.std.proofs.lemmas.List.{take_more_set, map-append}
use Rattle.std.proofs.lemmas.List.Splits.{length-slice_split}
use Rattle.anstyle_parse.specs.Stream.Bytes.{semicolon}
use Rattle.html_urls.proofs.target.link_parts.Goals as goal

abbrev split : List ℕ → List (List ℕ)
split bytes = slice_split (λ b. b == semicolon) bytes

abbrev texts : List (Bor (List ℕ)) → List (List ℕ)
texts parts = map (λ (part : Bor (List ℕ)). part.now) parts

-- the parts with one more
one-more : (parts : List (Bor (List ℕ))) (n : ℕ) (part : Bor (List ℕ)) → n < length parts → texts (take (n + 1) (set parts n part)) ≡ texts (take n parts) ++ part.now ∷ []
one-more parts n part some = ap texts (take_more_set parts n part some) ∙ map-append (λ (it : Bor (List ℕ)). it.now) (take n parts) (part ∷ [])

pub rest-init : goal.rest-init
rest-init c = (
  refl,
  let few = c.requires.few in omega (arith, few, length-slice_split (λ b. b == semicolon) c.args.target.now),
  refl,
)

pub rest-preserved : goal.rest-preserved
rest-preserved c =
    let (joined, room, long) = c.rest.invariant in
    let some = rw c.in-Some.is at c.split_at_separator.ensures.some in
    let less = ap length some in
    let parts = c.rest.parts in
    let n = c.rest.count in
    let part = c.in-Some.part in
    let behind = c.in-Some.behind.now in
    let here : n < length parts = omega (arith, room, long, less) in (
      ap (λ (l : List (List ℕ)). l ++ split behind) (one-more parts n part here)
          ∙ append_assoc (texts (take n parts)) (part.now ∷ []) (split behind)
          ∙ ap (λ (l : List (List ℕ)). texts (take n parts) ++ l) (sym some)
          ∙ joined,
      omega (arith, room, less),
      length-set parts n part ∙ long,
    )

pub returns-clause-parts : goal.returns-clause-parts
returns-clause-parts c =
    let (joined, room, long) = c.rest.invariant in
    let none = rw c.in_default.is at c.split_at_separator.ensures.none in
    let one = ap length none in
    let parts = c.rest.parts in
    let n = c.rest.count in
    one-more parts n c.rest.rest (omega (arith, room, long, one)) ∙ ap (λ (l : List (List ℕ)). texts (take n parts) ++ l) (sym none) ∙ joined
