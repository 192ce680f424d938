use Rattle.std.proofs.Common.{◌≡◌, ◌+◌, ◌++◌, ◌∷◌, [], take, drop, map, arith, ap, sym, ◌∙◌, get_or, append_assoc}
use Rattle.std.proofs.lemmas.List.{length-set, at_drop_more, take_more_set, map_push}
use Rattle.anstyle_parse.specs.Stream.Groups.{total, cut}
use Rattle.anstyle_parse.proofs.parser.command.set_parts.Goals as goal

pub loop-i-preserved : goal.loop-i-preserved
loop-i-preserved c =
    let lengths = c.args.lengths.now in
    let i = c.loop-i.i in
    let rest = c.loop-i.rest.now in
    let split = at_drop_more (λ ls. cut ls rest) lengths i 0 c.loop-i-test.true in
    let sum : total (drop i lengths) ≡ get_or lengths i 0 + total (drop (i + 1) lengths) = at_drop_more total lengths i 0 c.loop-i-test.true in
    record {
      room = length-set c.loop-i.parts i c.split_at.result.0 ∙ c.loop-i.invariant.room;
      within = omega (arith, sum, c.loop-i.invariant.within, c.split_at.ensures.back_len, c.split_at.ensures.front_len);
      joined =
          ap (λ ps. map (λ part. part.now) ps ++ cut (drop (i + 1) lengths) c.split_at.result.1.now) (take_more_set c.loop-i.parts i c.split_at.result.0 (omega (arith, c.loop-i.invariant.room, c.requires.few)))
          ∙ ap (λ ps. ps ++ cut (drop (i + 1) lengths) c.split_at.result.1.now) (map_push (λ part. part.now) (take i c.loop-i.parts) c.split_at.result.0)
          ∙ append_assoc (map (λ part. part.now) (take i c.loop-i.parts)) (c.split_at.result.0.now ∷ []) (cut (drop (i + 1) lengths) c.split_at.result.1.now)
          ∙ ap (λ part. map (λ part. part.now) (take i c.loop-i.parts) ++ part ∷ cut (drop (i + 1) lengths) c.split_at.result.1.now) c.split_at.ensures.front
          ∙ ap (λ behind. map (λ part. part.now) (take i c.loop-i.parts) ++ take (get_or lengths i 0) rest ∷ cut (drop (i + 1) lengths) behind) c.split_at.ensures.back
          ∙ ap (λ ps. map (λ part. part.now) (take i c.loop-i.parts) ++ ps) (sym split)
          ∙ c.loop-i.invariant.joined;
    }
