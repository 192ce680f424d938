-- What the performer received is written, and then its ending.
use Rattle.std.proofs.Common.{◌≡◌, ◌++◌, [], ℕ, List, true, not, None, is_some, take, sym, ap, ◌∙◌, ap₂, subst, arith, length-take}
use Rattle.std.specs.Io.KnownBytes.{Appends}
use Rattle.std.proofs.KnownBytes.{Consumes-trans}
use Rattle.std.proofs.lemmas.Bool.{and_parts}
use Rattle.std.proofs.lemmas.Result.{err_from_is_err_and}
use Rattle.anstyle_parse.specs.Io.Output.{writer_in, Adds, fault_in}
use Rattle.anstyle_parse.proofs.Written.Run.{Adds-unless_stopped, Adds-no_fault}
use Rattle.anstyle_parse.proofs.Written.Output.{Adds-append, None-from_is_some}
use Rattle.each_source.specs.Each.{Given}
use Rattle.each_source.proofs.EachLemmas.{not_stuck, not_is, whole_unless_fault}
use Rattle.each_source.proofs.ReadLemmas.{enough-front, has-ended}
use Rattle.each_source.proofs.write_one.Goals as goal

pub returns-clause-written : goal.returns-clause-written
returns-clause-written g c =
    let R = g.row.R.Denot in
    let W = g.row.W.Denot in
    let sink = g.W.Sink in
    let f = c.read_front-count.ensures in
    let d = c.read_to-ended.ensures in
    let begun = c.in_ok-performer.ensures in
    let performer = c.in_ok-performer.performer in
    let after = c.read_to-ended.new.performer in
    let start = g.P.WritingPerformer.output_in performer in
    let middle = g.P.WritingPerformer.output_in after in
    let final = c.into_output-output.result in
    let written = g.P.WritingPerformer.text_from performer d.calls in
    let left = g.P.WritingPerformer.ending_from performer d.calls in
    let performed : Adds sink written start middle = g.met.P.WritingPerformer.adds performer d.calls after d.received in
    let own : Adds sink left middle final =
    Adds-unless_stopped R W (Unit {0}) g.R.Source sink (g.P.WritingPerformer.ending_from after []) left middle final
    (λ clear. g.met.P.WritingPerformer.ends performer d.calls after d.received clear) c.into_output-output.ensures in
    let both : Adds sink (written ++ left) start final = Adds-append sink written left start middle final performed own in
    let front = take c.read_front-count.result.0 c.read_front-count.new.piece in
    let given : Given = record { read = front ++ d.rest; calls = d.calls } in
    let is_enough = enough-front g.R.Source (g.B.Begin.enough c.args.begin.now) c.read_front-count.new.reader front d.rest d.calls c.read_front-count.result.1 f.reached (λ over. (d.untouched over).0) in
    let text = subst (λ (t : List ℕ). Adds sink t start final) (ap₂ (λ t e. t ++ e) (begun.text given is_enough) (begun.ending given is_enough)) both in
    let faulty : is_some (fault_in final) ≡ not c.is_none-is_clear.result = ap is_some (sym c.fault.ensures) ∙ c.is_none-is_clear.ensures in
    let unless_fault : c.is_none-is_clear.result ≡ true → fault_in final ≡ None = λ clear. None-from_is_some (fault_in final) (faulty ∙ ap not clear) in
    let parts = ap₂ (λ t e. t ++ e) (begun.text given is_enough) (begun.ending given is_enough) in
    let none_is_clear : fault_in final ≡ None → c.is_none-is_clear.result ≡ true = λ none. not_is (c.is_none-is_clear.result) (sym faulty ∙ ap is_some none) in
    record {
      given = given;
      is_read = record {
        at_end = d.at_end;
        consumed = Consumes-trans _ _ _ _ _ f.consumed d.consumed;
        are_calls = d.are_calls;
        ended = λ whole.
            let ends = d.ended (sym c.is_stuck-is_stuck.ensures ∙ not_stuck c.is_stuck-is_stuck.result c.is_none-is_clear.result whole.0 (none_is_clear whole.1)) (Adds-no_fault R W (Unit {0}) g.R.Source sink left middle final own whole.1) in
            (ends.0, has-ended g.R.Source (g.B.Begin.enough c.args.begin.now) c.read_front-count.new.reader c.read_to-ended.new.reader front d.rest c.read_front-count.result.1 f.reached (λ over. (d.untouched over).1) ends.1);
      };
      clear = λ stuck. unless_fault (and_parts c.is_stuck-is_stuck.result c.is_none-is_clear.result stuck).1;
      held = λ stuck. record {
        given = written;
        left = left;
        joined = sym parts;
        holder = writer_in middle;
        written = subst (λ o. Appends (sink.contents (writer_in o)) (sink.contents (writer_in middle)) written) begun.output
            (whole_unless_fault sink written start middle
            (Adds-no_fault R W (Unit {0}) g.R.Source sink left middle final own (unless_fault (and_parts c.is_stuck-is_stuck.result c.is_none-is_clear.result stuck).1))
            performed);
        holds_back = d.held (sym c.is_stuck-is_stuck.ensures ∙ (and_parts c.is_stuck-is_stuck.result c.is_none-is_clear.result stuck).0);
      };
      added = subst (λ o. Adds sink (g.B.Begin.text c.args.begin.now given ++ g.B.Begin.ending c.args.begin.now given) o final) begun.output text;
    }

pub returns-in_err-performer-clause-begun : goal.returns-in_err-performer-clause-begun
returns-in_err-performer-clause-begun g c =
    let given = err_from_is_err_and c.from_residual.result c.from_residual.ensures.1 in
    let f = c.read_front-count.ensures in
    let piece = c.read_front-count.new.piece in
    rw given.1 (take c.read_front-count.result.0 piece, omega (arith, f.within, length-take c.read_front-count.result.0 piece), f.consumed)
