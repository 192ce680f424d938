-- One part more is done, with the space before it.
use Rattle.std.proofs.Common.{◌++◌, ◌+◌, List, ℕ, [], ◌∷◌, get_or, drop, map, refl, ap, ◌∙◌, append_assoc}
use Rattle.std.specs.Borrow.{Bor}
use Rattle.std.proofs.lemmas.List.{at_drop_more}
use Rattle.anstyle_parse.proofs.Written.Output.{Adds-nil, Adds-append3}
use Rattle.parselog.specs.Lines.{parts_text, hex_list}
use Rattle.parselog.proofs.LineLemmas.{done_more}
use Rattle.parselog.proofs.log.put_parts.Goals as goal

pub loop-part-init : goal.loop-part-init
loop-part-init g c = record { done = []; whole = refl; added = Adds-nil g.W.Sink c.args.output.now }

pub loop-part-preserved : goal.loop-part-preserved
loop-part-preserved g c =
    let parts : List (Bor (List ℕ)) = c.args.parts.now in
    let i = c.loop-part.part-index in
    let before = c.loop-part.invariant in
    let text : List (Bor (List ℕ)) → List ℕ = λ ps. parts_text (map (λ part. part.now) ps) in
    let part = get_or parts i _ in
    record {
      done = (before.done ++ (32 ∷ [])) ++ hex_list part.now;
      whole =
          ap (λ l. l ++ text (drop (i + 1) parts)) (append_assoc before.done (32 ∷ []) (hex_list part.now))
          ∙ done_more before.done (32 ∷ hex_list part.now) (text (drop (i + 1) parts)) (text parts) (text (drop i parts)) (at_drop_more text parts i _ c.loop-part-test.true) before.whole;
      added = Adds-append3 g.W.Sink _ _ _ c.args.output.now c.loop-part.output c.put_byte.new.self c.put_hex.new.output before.added c.put_byte.ensures c.put_hex.ensures;
    }
