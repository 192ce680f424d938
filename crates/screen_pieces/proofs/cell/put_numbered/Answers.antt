-- One cell more is written.
use Rattle.std.proofs.Common.{◌<◌, [], ◌∷◌, ◌++◌, length, List, take, map, refl, sym, ap, ◌∙◌, subst, arith}
use Rattle.std.proofs.lemmas.List.{map-append, take_more, take_more_set, take_all, drop-set-lt}
use Rattle.std.proofs.lemmas.List.Elements.{All-nil, All-push}
use Rattle.std.specs.List.{All}
use Rattle.screen_pieces.specs.declared.cell.CellBytes.{CellBytes}
use Rattle.screen_pieces.specs.Cells.{cell_in, KeepsForLater}
use Rattle.screen_pieces.proofs.cell.put_numbered.Goals as goal

pub loop-place-init : goal.loop-place-init
loop-place-init c = record { written = refl; reserved = All-nil KeepsForLater; rest = refl }

pub loop-place-preserved : goal.loop-place-preserved
loop-place-preserved c =
    let i = c.loop-place.place in let before = c.loop-place.invariant in
    let within : i < length c.loop-place.room = omega (arith, c.loop-place.auto.room, c.requires, c.loop-place-test.true) in
    record {
      written = ap (map cell_in) (take_more_set c.loop-place.room i c.with_foreground.result within)
          ∙ map-append cell_in (take i c.loop-place.room) (c.with_foreground.result ∷ [])
          ∙ ap (λ xs. xs ++ cell_in c.with_foreground.result ∷ []) before.written
          ∙ ap (λ x. take i c.args.cells.now ++ x ∷ []) c.with_foreground.ensures.cell
          ∙ sym (take_more c.args.cells.now i _ c.loop-place-test.true);
      reserved = subst (λ (l : List CellBytes). All KeepsForLater l) (sym (take_more_set c.loop-place.room i c.with_foreground.result within))
          (All-push KeepsForLater (take i c.loop-place.room) c.with_foreground.result before.reserved c.with_foreground.ensures.reserved);
      rest = drop-set-lt (length c.args.cells.now) c.loop-place.room i c.with_foreground.result c.loop-place-test.true ∙ before.rest;
    }

pub returns-clause-written : goal.returns-clause-written
returns-clause-written c =
    let same = take_all c.loop-place.place c.args.cells.now c.loop-place-test.false in
    ap (λ n. map cell_in (take n c.loop-place.room)) (omega (arith, c.loop-place-test.false, c.loop-place.auto.place-end))
    ∙ c.loop-place.invariant.written ∙ same

pub returns-clause-reserved : goal.returns-clause-reserved
returns-clause-reserved c =
    subst (λ n. All KeepsForLater (take n c.loop-place.room)) (omega (arith, c.loop-place-test.false, c.loop-place.auto.place-end))
    c.loop-place.invariant.reserved

pub returns-clause-rest : goal.returns-clause-rest
returns-clause-rest c = c.loop-place.invariant.rest
