-- The text of the calls of the whole log is written, and its ending.
use Rattle.std.proofs.Common.{◌≡◌, ◌++◌, List, [], None, Some, is_some, sym, ap, ◌∙◌}
use Rattle.anstyle_parse.specs.Io.AddingProof.{Adds-append}
use Rattle.anstyle_parse.specs.Io.Output.{fault_in}
use Rattle.anstyle_parse.proofs.Written.Output.{None-from_is_some}
use Rattle.shown_pieces.proofs.WrittenLemmas.{adds-ending, all-written}
use Rattle.shown_pieces.proofs.following.Following.into_text.Goals as goal

pub returns : goal.returns
returns g c = λ first bytes clear empty follows.
    let writing = g.P.WritingPerformer in
    let (calls, are, received) = c.end_log.ensures.received first bytes follows.stands follows.received in
    let after = c.end_log.new.performer in
    let final = c.into_output-output.result in
    let text = writing.text_from first calls in
    let ending = writing.ending_from first calls in
    let performed = g.met.P.WritingPerformer.adds first calls after received in
    let ended = adds-ending _ (writing.ending_from after []) ending (writing.output_in after) final
    (λ unfailed. g.met.P.WritingPerformer.ends first calls after received unfailed) c.into_output-output.ensures in
    let no_fault : fault_in final ≡ None =
    None-from_is_some (fault_in final) (ap is_some (sym c.fault.ensures) ∙ sym c.is_some.ensures ∙ c.if-is_some.false) in (
      calls,
      are,
      all-written _ (text ++ ending) c.into_inner.result.items (writing.output_in first) final c.finish-sink.result.0 c.finish-sink.result.1
          no_fault (ap Some empty) (ap (λ found. Some found.items) (sym c.into_inner.ensures))
          (Adds-append _ text ending (writing.output_in first) (writing.output_in after) final performed ended) c.finish-sink.ensures.finishes,
    )
