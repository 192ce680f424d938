-- What was read leads to the screen and its links, which are drawn.
use Rattle.std.proofs.Common.{ap, ◌∙◌}
use Rattle.ansi2svg.specs.declared.picture.Linked.{Linked}
use Rattle.ansi2svg.proofs.CallLemmas.{screen-led, links-led, is_all-led}
use Rattle.ansi2svg.proofs.picture.draw_to_end.Goals as goal

pub returns : goal.returns
returns g c =
    let taken = c.perform_texts_to_end-answer.ensures in
    let calls = taken.received.0 in
    let led = taken.received.2 in
    record {
      read = taken.read;
      consumed = taken.consumed;
      calls = calls;
      made = taken.received.1;
      screen = ap (λ (linked : Linked). linked.screen) led ∙ screen-led calls c.args.linked.now;
      links = ap (λ (linked : Linked). linked.links) led ∙ links-led calls c.args.linked.now;
      is_all = ap (λ (linked : Linked). linked.is_all) led ∙ is_all-led calls c.args.linked.now;
      written = c.drawn.ensures;
      ends = taken.ends;
    }
