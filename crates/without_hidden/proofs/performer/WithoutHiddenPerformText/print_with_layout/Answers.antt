-- A text that is not hidden is handed on as it is.
use Rattle.std.proofs.Common.{List, sym, subst}
use Rattle.std.specs.Str.{chars}
use Rattle.anstyle_parse.specs.Stream.Call.{Call}
use Rattle.without_hidden.specs.Passing.{performer_in, style_in}
use Rattle.without_hidden.proofs.TextLemmas.{style-layout, layout-shown}
use Rattle.without_hidden.proofs.performer.WithoutHiddenPerformText.print_with_layout.Goals as goal

pub returns-else-self : goal.returns-else-self
returns-else-self g c =
    let self = c.args.self.now in
    let cs = chars c.args.text.now in
    record {
      performer = subst (λ (l : List Call). g.P.PerformText.receives (performer_in self) l c.print_with_layout.new.self)
          (sym (layout-shown (style_in self) cs c.if-self.false)) c.print_with_layout.ensures;
      style = sym (style-layout (style_in self) cs);
    }
