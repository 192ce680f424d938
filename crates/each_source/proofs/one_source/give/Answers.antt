-- The calls of the piece are received, and what was written by them is passed on.
use Rattle.std.proofs.Common.{◌≡◌, true, false, is_some, sym, ap, ◌∙◌, subst}
use Rattle.std.proofs.lemmas.Bool.{OnTrue_at}
use Rattle.anstyle_parse.specs.Io.Output.{writer_in, fault_in, HoldsBack}
use Rattle.anstyle_parse.proofs.Written.Output.{None-from_is_some}
use Rattle.each_source.proofs.ReadLemmas.{passed-on}
use Rattle.each_source.proofs.one_source.give.Goals as goal

pub returns-then-is_some : goal.returns-then-is_some
returns-then-is_some g c = record {
  received = λ first before stands has.
      passed-on g.P.PerformText.receives g.met.P.PerformText.follows.more first c.advance_log.new.performer c.pass_on.new.self _
      (c.advance_log.ensures.received first before stands has) c.pass_on.ensures;
  stands = c.advance_log.ensures.stands;
  clear = tt;
  over = λ moving none.
      let clash : true ≡ false = sym c.if-is_some.true ∙ c.is_some.ensures ∙ ap is_some (c.fault.ensures ∙ ap fault_in c.output.ensures) ∙ ap is_some none in cc;
  held = λ stuck. absurd (let clash : false ≡ true = stuck in cc);
}

pub returns-then-is_stuck : goal.returns-then-is_stuck
returns-then-is_stuck g c = record {
  received = λ first before stands has.
      passed-on g.P.PerformText.receives g.met.P.PerformText.follows.more first c.advance_log.new.performer c.pass_on.new.self _
      (c.advance_log.ensures.received first before stands has) c.pass_on.ensures;
  stands = c.advance_log.ensures.stands;
  clear = tt;
  over = λ moving none. let clash : true ≡ false = moving in cc;
  held = λ stuck. subst (λ o. HoldsBack g.W.Sink (writer_in o)) c.output-2.ensures
      (OnTrue_at c.if-is_stuck.true c.is_stuck.ensures.held);
}

pub returns : goal.returns
returns g c = record {
  received = λ first before stands has.
      passed-on g.P.PerformText.receives g.met.P.PerformText.follows.more first c.advance_log.new.performer c.pass_on.new.self _
      (c.advance_log.ensures.received first before stands has) c.pass_on.ensures;
  stands = c.advance_log.ensures.stands;
  clear =
      None-from_is_some (fault_in (g.P.WritingPerformer.output_in c.pass_on.new.self))
      (sym (c.is_some.ensures ∙ ap is_some (c.fault.ensures ∙ ap fault_in c.output.ensures)) ∙ c.if-is_some.false);
  over = tt;
  held = tt;
}
