-- Nothing is held.
use Rattle.std.proofs.Common.{◌≡◌, ℕ, List, [], length, eqb-true, sym, ap, ◌∙◌, subst}
use Rattle.std.proofs.lemmas.List.{nil_from_length}
use Rattle.anstyle_parse.specs.Stream.Call.{Call}
use Rattle.html_urls.specs.Linked.{standing, released}
use Rattle.html_urls.specs.Linker.{performer_in, standing_of}
use Rattle.html_urls.proofs.LinkerLemmas.{released-none}
use Rattle.html_urls.proofs.linking.Linking.release.Goals as goal

pub returns-else-not-is_empty : goal.returns-else-not-is_empty
returns-else-not-is_empty g c =
    let it = c.args.self.now in
    let held = (standing_of it).held in
    let none : held ≡ [] = sym c.as_slice.ensures ∙ nil_from_length c.as_slice.result.now (eqb-true (length c.as_slice.result.now) 0 (sym c.is_empty.ensures ∙ c.if-not-is_empty.false)) in
    record {
      standing = ap (λ (l : List ℕ). standing l it.is_within it.is_linked) none;
      received = subst (λ (l : List ℕ). g.P.PerformText.receives (performer_in it) (released l) (performer_in it)) (sym none)
          (subst (λ (calls : List Call). g.P.PerformText.receives (performer_in it) calls (performer_in it)) (sym released-none) (g.met.P.PerformText.follows.none (performer_in it)));
    }
