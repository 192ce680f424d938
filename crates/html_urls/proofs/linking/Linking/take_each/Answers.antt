-- The characters that were taken are those of the text.
use Rattle.std.proofs.Common.{List, ℕ, [], ◌∷◌, sym, ◌∙◌, subst}
use Rattle.std.proofs.lemmas.Iterator.{YieldsList-from_chars}
use Rattle.std.proofs.lemmas.Iterator.Consumers.{YieldsList-end}
use Rattle.std.proofs.lemmas.List.{map-id, map-append}
use Rattle.anstyle_parse.specs.Stream.Call.{Call, print}
use Rattle.html_urls.specs.Linked.{prints}
use Rattle.html_urls.specs.Linker.{Takes}
use Rattle.html_urls.specs.LinkerProof.{Takes-one, Takes-more}
use Rattle.html_urls.proofs.linking.Linking.take_each.Goals as goal

pub loop-c-preserved : goal.loop-c-preserved
loop-c-preserved g c =
    let r = g.P.PerformText.receives in
    let first = c.args.self.now in
    let character = c.in-Some.c in
    subst (λ (calls : List Call). Takes r first calls c.print.new.self) (sym (map-append print c.loop-c.yielded (character ∷ [])))
    (Takes-more r g.met.P.PerformText.follows.more first c.loop-c.self c.print.new.self (prints c.loop-c.yielded) (print character ∷ []) c.loop-c.invariant
    (Takes-one r c.loop-c.self (print character) c.print.new.self c.print.ensures))

pub returns : goal.returns
returns g c =
    let end = YieldsList-end (YieldsList-from_chars c.args.text.now c.utf8.text cc) c.loop-c.yielded _ c.loop-c.yielded_by _ _ c.in-None.is c.next.ensures.steps in
    subst (λ (cs : List ℕ). Takes g.P.PerformText.receives c.args.self.now (prints cs) c.loop-c.self) (sym (map-id c.loop-c.yielded) ∙ end.0) c.loop-c.invariant
