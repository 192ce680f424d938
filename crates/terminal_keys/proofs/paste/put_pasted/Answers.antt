-- One character more; all are those of the text.
use Rattle.std.proofs.Common.{List, ℕ, [], ◌∷◌, ◌++◌, sym, ◌∙◌, ap, subst}
use Rattle.std.specs.List.{flat_map}
use Rattle.std.proofs.lemmas.Grind.{flat_map-append}
use Rattle.std.proofs.lemmas.Iterator.{YieldsList-from_chars}
use Rattle.std.proofs.lemmas.Iterator.Consumers.{YieldsList-end}
use Rattle.std.proofs.lemmas.List.{map-id, append-nil}
use Rattle.terminal_keys.specs.Paste.{pasted_character}
use Rattle.terminal_keys.proofs.paste.put_pasted.Goals as goal

pub loop-character-init : goal.loop-character-init
loop-character-init g c = g.met.T.TakeBytes.joins.none c.args.to.now

pub loop-character-preserved : goal.loop-character-preserved
loop-character-preserved g c =
    let so_far : List ℕ = flat_map pasted_character c.loop-character.yielded in
    let one : List ℕ = pasted_character c.in-Some.character in
    subst (λ t. g.T.TakeBytes.takes t c.args.to.now c.put_pasted_character.new.to)
    (ap (λ t. so_far ++ t) (sym (append-nil one)) ∙ sym (flat_map-append pasted_character c.loop-character.yielded (c.in-Some.character ∷ [])))
    (g.met.T.TakeBytes.joins.more so_far one c.args.to.now c.loop-character.to c.put_pasted_character.new.to
    c.loop-character.invariant c.put_pasted_character.ensures)

pub returns : goal.returns
returns g c =
    let end = YieldsList-end (YieldsList-from_chars c.args.text.now c.utf8.text cc) c.loop-character.yielded _ c.loop-character.yielded_by _ _ c.in-None.is c.next.ensures.steps in
    subst (λ (cs : List ℕ). g.T.TakeBytes.takes (flat_map pasted_character cs) c.args.to.now c.loop-character.to)
    (sym (map-id c.loop-character.yielded) ∙ end.0) c.loop-character.invariant
