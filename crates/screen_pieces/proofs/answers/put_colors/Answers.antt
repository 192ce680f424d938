-- One colour more is written.
use Rattle.std.proofs.Common.{◌<◌, ◌≤◌, [], ◌∷◌, ◌++◌, length, take, map, refl, sym, ap, ◌∙◌, arith}
use Rattle.std.proofs.lemmas.List.{map-append, take_more, take_more_set, take_all}
use Rattle.screen_pieces.specs.Answers.{color_told}
use Rattle.screen_pieces.proofs.answers.put_colors.Goals as goal

pub loop-place-init : goal.loop-place-init
loop-place-init c = refl

pub loop-place-preserved : goal.loop-place-preserved
loop-place-preserved c =
    let i = c.loop-place.place in
    let within : i < length c.loop-place.colors = omega (arith, c.loop-place.auto.colors, c.requires, c.loop-place-test.true) in
    take_more_set c.loop-place.colors i c.color.result within
    ∙ ap (λ l. l ++ c.color.result ∷ []) c.loop-place.invariant
    ∙ ap (λ x. map color_told (take i c.args.bytes.now) ++ x ∷ []) c.color.ensures
    ∙ sym (ap (map color_told) (take_more c.args.bytes.now i _ c.loop-place-test.true) ∙ map-append color_told (take i c.args.bytes.now) _)

pub returns : goal.returns
returns c =
    let i = c.loop-place.place in
    let past : length c.loop-place.colors ≤ i = omega (arith, c.loop-place.auto.colors, c.requires, c.loop-place-test.false) in
    sym (take_all i c.loop-place.colors past) ∙ c.loop-place.invariant ∙ ap (map color_told) (take_all i c.args.bytes.now c.loop-place-test.false)
