-- All of the text is handed on, or nothing.
use Rattle.std.proofs.Common.{List, sym, subst}
use Rattle.std.specs.Str.{chars}
use Rattle.anstyle_parse.specs.Stream.Call.{Call}
use Rattle.without_hidden.specs.Passing.{performer_in, style_in}
use Rattle.without_hidden.proofs.TextLemmas.{style-text, text-hidden, text-shown}
use Rattle.without_hidden.proofs.performer.WithoutHiddenPerformText.print_text.Goals as goal

pub returns-then-not-self : goal.returns-then-not-self
returns-then-not-self g c =
    let self = c.args.self.now in
    let cs = chars c.args.text.now in
    record {
      performer = subst (λ (l : List Call). g.P.PerformText.receives (performer_in self) l c.print_text.new.self)
          (sym (text-shown (style_in self) cs c.if-not-self.true)) c.print_text.ensures;
      style = sym (style-text (style_in self) cs);
    }

pub returns-else-not-self : goal.returns-else-not-self
returns-else-not-self g c =
    let self = c.args.self.now in
    let cs = chars c.args.text.now in
    record {
      performer = subst (λ (l : List Call). g.P.PerformText.receives (performer_in self) l (performer_in self))
          (sym (text-hidden (style_in self) cs c.if-not-self.false)) (g.met.P.PerformText.follows.none (performer_in self));
      style = sym (style-text (style_in self) cs);
    }
