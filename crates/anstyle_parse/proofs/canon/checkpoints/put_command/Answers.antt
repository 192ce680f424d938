-- One part more is done, with the separator after it.
use Rattle.std.proofs.Common.{◌≡◌, ◌++◌, ◌+◌, List, ℕ, [], ◌∷◌, get_or, drop, refl, subst, arith}
use Rattle.std.proofs.lemmas.List.{at_drop_more, drop_all}
use Rattle.anstyle_parse.specs.Stream.Bytes.{semicolon}
use Rattle.anstyle_parse.specs.Laws.Checkpoint.{command_text}
use Rattle.anstyle_parse.specs.Stream.Groups.{total, cut}
use Rattle.anstyle_parse.specs.Io.Output.{Adds}
use Rattle.anstyle_parse.proofs.Written.Output.{Adds-nil, Adds-append, Adds-append3}
use Rattle.anstyle_parse.proofs.Resume.Written.{command_text-more, command_text-none}
use Rattle.anstyle_parse.proofs.canon.checkpoints.put_command.Goals as goal

pub loop-length-init : goal.loop-length-init
loop-length-init g c = record {
  done = [];
  whole = refl;
  within = c.requires;
  added = Adds-nil g.W.Sink c.args.output.now;
}

pub loop-length-preserved : goal.loop-length-preserved
loop-length-preserved g c =
    let lengths = c.args.lengths.now in
    let i = c.loop-length.length-index in
    let rest = c.loop-length.rest.now in
    let before = c.loop-length.invariant in
    let sum : total (drop i lengths) ≡ get_or lengths i 0 + total (drop (i + 1) lengths) = at_drop_more total lengths i 0 c.loop-length-test.true in
    let part = c.split_at.result.0.now in
    record {
      done = (before.done ++ part) ++ semicolon ∷ [];
      whole = command_text-more before.done (command_text (cut lengths c.args.text.now) (drop (total lengths) c.args.text.now)) rest part c.split_at.result.1.now (get_or lengths i 0)
          (drop i lengths) (drop (i + 1) lengths) (at_drop_more (λ ls. ls) lengths i 0 c.loop-length-test.true) c.split_at.ensures.front c.split_at.ensures.back before.whole;
      within = omega (arith, sum, before.within, c.split_at.ensures.back_len, c.split_at.ensures.front_len);
      added = Adds-append3 g.W.Sink before.done part (semicolon ∷ [])
          c.args.output.now c.loop-length.output c.put.new.self c.put-in-loop-length.new.self before.added c.put.ensures c.put-in-loop-length.ensures;
    }

pub returns : goal.returns
returns g c =
    let lengths = c.args.lengths.now in
    let before = c.loop-length.invariant in
    let rest = c.loop-length.rest.now in
    let whole = command_text (cut lengths c.args.text.now) (drop (total lengths) c.args.text.now) in
    let Q : List ℕ → Type 0 = λ t. Adds g.W.Sink t c.args.output.now c.put-2.new.self in
    subst Q
    (command_text-none before.done whole rest (drop c.loop-length.length-index lengths) (drop_all c.loop-length.length-index lengths c.loop-length-test.false) before.whole)
    (Adds-append g.W.Sink before.done rest c.args.output.now c.loop-length.output c.put-2.new.self before.added c.put-2.ensures)
