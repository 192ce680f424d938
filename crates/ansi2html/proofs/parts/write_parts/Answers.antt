-- One after another is written.
use Rattle.std.proofs.Common.{◌<◌, ℕ, List, ◌++◌, length, refl, sym, ◌∙◌, arith}
use Rattle.each_source.specs.Each.{Given}
use Rattle.ansi2html.proofs.PartLemmas.{same-set, written-next, written-last, written-all}
use Rattle.ansi2html.proofs.parts.write_parts.Goals as goal

pub loop-part-init : goal.loop-part-init
loop-part-init g c = record {
  within = omega arith;
  same = refl;
  continues = λ rest final answer written. written;
}

pub returns-then-is_err : goal.returns-then-is_err
returns-then-is_err g c =
    let text : Given → List ℕ = λ given. g.B.Begin.text c.args.begin.now given ++ g.B.Begin.ending c.args.begin.now given in
    let before = c.loop-part.invariant in
    let there : c.loop-part.part-index < length c.loop-part.parts = omega (arith, c.loop-part-test.true, c.loop-part.auto.parts) in
    let below : c.loop-part.part-index < length c.args.parts.now = omega (arith, c.loop-part-test.true, c.loop-part.auto.parts) in
    written-last g.R.Source g.W.Sink text c.args.parts.now c.loop-part.parts c.args.writer c.loop-part.writer c.write_part-after.result.0 c.loop-part.part-index c.part-item.result
    c.write_part-after.new.part c.write_part-after.result.1 there below before.same (sym c.is_err.ensures.value ∙ c.if-is_err.true) c.write_part-after.ensures before.continues

pub loop-part-preserved : goal.loop-part-preserved
loop-part-preserved g c =
    let text : Given → List ℕ = λ given. g.B.Begin.text c.args.begin.now given ++ g.B.Begin.ending c.args.begin.now given in
    let before = c.loop-part.invariant in
    let i = c.loop-part.part-index in
    let parts = c.args.parts.now in
    let done = c.loop-part.parts in
    let there : i < length done = omega (arith, c.loop-part-test.true, c.loop-part.auto.parts) in
    let below : i < length parts = omega (arith, c.loop-part-test.true, c.loop-part.auto.parts) in
    record {
      within = omega (arith, below);
      same = same-set done parts i c.part-item.result c.write_part-after.new.part there below before.same;
      continues =
          written-next g.R.Source g.W.Sink text parts done c.args.writer c.loop-part.writer c.write_part-after.result.0 i c.part-item.result
          c.write_part-after.new.part c.write_part-after.result.1 there below before.same (sym c.is_err.ensures.value ∙ c.if-is_err.false) c.write_part-after.ensures before.continues;
    }

pub returns : goal.returns
returns g c =
    let text : Given → List ℕ = λ given. g.B.Begin.text c.args.begin.now given ++ g.B.Begin.ending c.args.begin.now given in
    let before = c.loop-part.invariant in
    written-all g.R.Source g.W.Sink text c.args.parts.now c.loop-part.parts c.args.writer c.loop-part.writer c.loop-part.part-index
    (omega (arith, c.loop-part-test.false, c.loop-part.auto.parts)) (omega (arith, c.loop-part-test.false, c.loop-part.auto.parts)) before.continues
