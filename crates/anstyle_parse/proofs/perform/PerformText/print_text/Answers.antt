-- The characters that were taken are those of the text.
use Rattle.std.proofs.Common.{List, ℕ, map, sym, ◌∙◌, subst}
use Rattle.std.proofs.lemmas.Iterator.{YieldsList-from_chars}
use Rattle.std.proofs.lemmas.Iterator.Consumers.{YieldsList-end}
use Rattle.std.proofs.lemmas.List.{map-id}
use Rattle.anstyle_parse.specs.Stream.Call.{print}
use Rattle.anstyle_parse.proofs.perform.PerformText.print_text.Goals as goal

pub returns : goal.returns
returns g c =
    let end = YieldsList-end (YieldsList-from_chars c.args.text.now c.utf8.text cc) c.loop-c.yielded _ c.loop-c.yielded_by _ _ c.in-None.is c.next.ensures.steps in
    subst (λ (cs : List ℕ). g.Self.PerformText.receives c.args.self.now (map print cs) c.loop-c.self) (sym (map-id c.loop-c.yielded) ∙ end.0) c.loop-c.invariant
