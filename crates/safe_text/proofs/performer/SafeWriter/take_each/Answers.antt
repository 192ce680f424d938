-- One character more; all are those of the text.
use Rattle.std.proofs.Common.{List, ℕ, [], ◌∷◌, sym, ◌∙◌, subst}
use Rattle.std.proofs.lemmas.Iterator.{YieldsList-from_chars}
use Rattle.std.proofs.lemmas.Iterator.Consumers.{YieldsList-end}
use Rattle.std.proofs.lemmas.List.{map-id}
use Rattle.safe_text.specs.Writer.{Takes}
use Rattle.safe_text.specs.TakingProof.{Takes-none, Takes-append}
use Rattle.safe_text.proofs.performer.SafeWriter.take_each.Goals as goal

pub loop-c-init : goal.loop-c-init
loop-c-init g c = Takes-none g.W.Sink c.args.self.now

pub loop-c-preserved : goal.loop-c-preserved
loop-c-preserved g c =
    Takes-append g.W.Sink c.args.self.now c.loop-c.self c.take.new.self c.loop-c.yielded (c.in-Some.c ∷ []) c.loop-c.invariant c.take.ensures

pub returns : goal.returns
returns g c =
    let end = YieldsList-end (YieldsList-from_chars c.args.text.now c.utf8.text cc) c.loop-c.yielded _ c.loop-c.yielded_by _ _ c.in-None.is c.next.ensures.steps in
    subst (λ (cs : List ℕ). Takes g.W.Sink c.args.self.now cs c.loop-c.self) (sym (map-id c.loop-c.yielded) ∙ end.0) c.loop-c.invariant
