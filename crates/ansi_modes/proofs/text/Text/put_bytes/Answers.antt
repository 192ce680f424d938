-- The characters that were taken are those of the text.
use Rattle.std.proofs.Common.{List, ℕ, sym, ap, ◌∙◌}
use Rattle.std.proofs.lemmas.Iterator.{YieldsList-from_chars}
use Rattle.std.proofs.lemmas.Iterator.Consumers.{YieldsList-end}
use Rattle.std.proofs.lemmas.List.{map-id}
use Rattle.std.specs.Str.{chars}
use Rattle.ansi_modes.specs.Text.{with_characters}
use Rattle.ansi_modes.proofs.TextLemmas.{with_more}
use Rattle.ansi_modes.proofs.text.Text.put_bytes.Goals as goal

pub loop-c-preserved : goal.loop-c-preserved
loop-c-preserved c = with_more _ c.loop-c.yielded c.args.self.now c.loop-c.self c.put.new.self c.put.ensures c.loop-c.invariant

pub returns : goal.returns
returns c =
    let end = YieldsList-end (YieldsList-from_chars c.front.result.now c.front.utf8 cc) c.loop-c.yielded _ c.loop-c.yielded_by _ _ c.in-None.is c.next.ensures.steps in
    c.loop-c.invariant ∙ (ap (λ (cs : List ℕ). with_characters cs c.args.self.now) (sym (map-id c.loop-c.yielded) ∙ end.0)
    ∙ ap (λ (text : List ℕ). with_characters (chars text) c.args.self.now) c.front.ensures)
