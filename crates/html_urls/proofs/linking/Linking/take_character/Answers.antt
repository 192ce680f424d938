-- What is held goes on, or is handed on before the character.
use Rattle.std.proofs.Common.{ℕ, Bool, List, ◌∷◌, ◌++◌, [], refl, sym, ap, ap₂, ◌∙◌, subst}
use Rattle.std.specs.Prelude.{if◌then◌else◌}
use Rattle.html_urls.specs.Linked.{standing, released}
use Rattle.html_urls.specs.Linker.{performer_in, standing_of, Releases}
use Rattle.html_urls.proofs.LinkerLemmas.{taken-on, taken-off}
use Rattle.html_urls.proofs.linking.Linking.take_character.Goals as goal

pub returns-then-take : goal.returns-then-take
returns-then-take g c =
    let it = c.args.self.now in
    let b = c.args.c in
    let m = g.met.P.PerformText in
    let on = sym c.take.ensures.answer ∙ c.if-take.true in
    let held = c.take.ensures.held ∙ ap (λ (t : Bool). if t then (standing_of it).held ++ b ∷ [] else (standing_of it).held) c.if-take.true in
    taken-on g.P.PerformText.receives m.follows.more m.follows.none it _ b c.requires on
    (ap₂ (λ (l : List ℕ) (within : Bool). standing l within it.is_linked) held c.is_of_word-self.ensures) refl

pub returns-else-take : goal.returns-else-take
returns-else-take g c =
    let it = c.args.self.now in
    let b = c.args.c in
    let m = g.met.P.PerformText in
    let off = sym c.take.ensures.answer ∙ c.if-take.false in
    let held = c.take.ensures.held ∙ ap (λ (t : Bool). if t then (standing_of it).held ++ b ∷ [] else (standing_of it).held) c.if-take.false in
    let r = g.P.PerformText.receives in
    let releases : Releases r it c.release.new.self = record {
      standing = c.release.ensures.standing;
      received = subst (λ (l : List ℕ). r (performer_in it) (released l) (performer_in c.release.new.self)) held c.release.ensures.received;
    } in
    let begun = c.take_first.new.self in
    taken-off r m.follows.more it c.release.new.self begun _ b c.requires off releases c.take_first.ensures
    (ap (λ (within : Bool). standing (standing_of begun).held within begun.is_linked) c.is_of_word-self-else-take.ensures) refl
