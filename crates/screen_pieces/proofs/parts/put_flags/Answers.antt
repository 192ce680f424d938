-- One byte more is written.
use Rattle.std.proofs.Common.{◌<◌, [], ◌∷◌, ◌++◌, length, take, map, refl, sym, ap, ◌∙◌, arith}
use Rattle.std.proofs.lemmas.List.{map-append, take_more, take_more_set, take_all, drop-set-lt}
use Rattle.ansi_style.specs.Bytes.{is_set}
use Rattle.screen_pieces.proofs.parts.put_flags.Goals as goal

pub loop-place-init : goal.loop-place-init
loop-place-init c = record { written = refl; rest = refl }

pub loop-place-preserved : goal.loop-place-preserved
loop-place-preserved c =
    let i = c.loop-place.place in let before = c.loop-place.invariant in
    let within : i < length c.loop-place.room = omega (arith, c.loop-place.auto.room, c.requires, c.loop-place-test.true) in
    record {
      written = ap (map is_set) (take_more_set c.loop-place.room i c.flag.result within)
          ∙ map-append is_set (take i c.loop-place.room) (c.flag.result ∷ [])
          ∙ ap (λ xs. xs ++ is_set c.flag.result ∷ []) before.written
          ∙ ap (λ x. take i c.args.flags.now ++ x ∷ []) c.flag.ensures
          ∙ sym (take_more c.args.flags.now i _ c.loop-place-test.true);
      rest = drop-set-lt (length c.args.flags.now) c.loop-place.room i c.flag.result c.loop-place-test.true ∙ before.rest;
    }

pub returns-clause-written : goal.returns-clause-written
returns-clause-written c =
    let same = take_all c.loop-place.place c.args.flags.now c.loop-place-test.false in
    ap (λ n. map is_set (take n c.loop-place.room)) (omega (arith, c.loop-place-test.false, c.loop-place.auto.place-end))
    ∙ c.loop-place.invariant.written ∙ same

pub returns-clause-rest : goal.returns-clause-rest
returns-clause-rest c = c.loop-place.invariant.rest
