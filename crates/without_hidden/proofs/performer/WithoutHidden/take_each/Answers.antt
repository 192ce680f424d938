-- One character more; all are those of the text.
use Rattle.std.proofs.Common.{List, ℕ, [], ◌∷◌, map, sym, ◌∙◌, subst}
use Rattle.std.proofs.lemmas.Iterator.{YieldsList-from_chars}
use Rattle.std.proofs.lemmas.Iterator.Consumers.{YieldsList-end}
use Rattle.std.proofs.lemmas.List.{map-id, map-append}
use Rattle.anstyle_parse.specs.Stream.Call.{Call}
use Rattle.anstyle_parse.specs.Stream.Texts.{layout_call}
use Rattle.without_hidden.specs.Passing.{ReceivesShown}
use Rattle.without_hidden.specs.PassingProof.{shown-none, shown-more}
use Rattle.without_hidden.proofs.performer.WithoutHidden.take_each.Goals as goal

pub loop-c-init : goal.loop-c-init
loop-c-init g c = shown-none g.P.Perform.means g.P.PerformText.receives g.met.P.PerformText.follows c.args.self.now

pub loop-c-preserved : goal.loop-c-preserved
loop-c-preserved g c =
    let first = c.args.self.now in
    let after = c.take_laid_out.new.self in
    let yielded : List ℕ = c.loop-c.yielded in
    subst (λ (calls : List Call). ReceivesShown g.P.PerformText.receives first calls after) (sym (map-append layout_call yielded (c.in-Some.c ∷ [])))
    (shown-more g.P.Perform.means g.P.PerformText.receives g.met.P.PerformText.follows first c.loop-c.self after
    (map layout_call yielded) (layout_call c.in-Some.c ∷ []) c.loop-c.invariant c.take_laid_out.ensures)

pub returns : goal.returns
returns g c =
    let end = YieldsList-end (YieldsList-from_chars c.args.text.now c.utf8.text cc) c.loop-c.yielded _ c.loop-c.yielded_by _ _ c.in-None.is c.next.ensures.steps in
    subst (λ (cs : List ℕ). ReceivesShown g.P.PerformText.receives c.args.self.now (map layout_call cs) c.loop-c.self) (sym (map-id c.loop-c.yielded) ∙ end.0) c.loop-c.invariant
