-- One character more; all are those of the text.
use Rattle.std.proofs.Common.{List, ℕ, [], ◌∷◌, map, sym, ◌∙◌, subst}
use Rattle.std.proofs.lemmas.Iterator.{YieldsList-from_chars}
use Rattle.std.proofs.lemmas.Iterator.Consumers.{YieldsList-end}
use Rattle.std.proofs.lemmas.List.{map-id, map-append}
use Rattle.anstyle_parse.specs.Stream.Call.{print}
use Rattle.ansi_screen.specs.Laws.{printing}
use Rattle.ansi_screen.proofs.texts.print_each.Goals as goal

pub loop-c-init : goal.loop-c-init
loop-c-init g c = g.met.P.PutRuns.follows.none c.args.performer.now

pub loop-c-preserved : goal.loop-c-preserved
loop-c-preserved g c =
    let first = c.args.performer.now in
    let before = c.loop-c.performer in
    let after = c.print.new.self in
    let one = g.met.P.PutRuns.follows.one before (print c.in-Some.c) after c.print.ensures in
    subst (λ calls. g.P.PutRuns.receives first calls after) (sym (map-append print c.loop-c.yielded (c.in-Some.c ∷ [])))
    (g.met.P.PutRuns.follows.more first before after (printing c.loop-c.yielded) (print c.in-Some.c ∷ []) c.loop-c.invariant one)

pub returns : goal.returns
returns g c =
    let end = YieldsList-end (YieldsList-from_chars c.args.text.now c.utf8.text cc) c.loop-c.yielded _ c.loop-c.yielded_by _ _ c.in-None.is c.next.ensures.steps in
    subst (λ (cs : List ℕ). g.P.PutRuns.receives c.args.performer.now (map print cs) c.loop-c.performer)
    (sym (map-id c.loop-c.yielded) ∙ end.0) c.loop-c.invariant
