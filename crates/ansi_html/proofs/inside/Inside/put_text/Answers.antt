use Rattle.anstyle_parse.specs.Stream.Texts.{text_calls}
use Rattle.ansi_html.proofs.InsideLemmas.{TakesCalls-lines, TakesCalls-html}
use Rattle.ansi_html.proofs.inside.Inside.put_text.Goals as goal

pub returns-then-self : goal.returns-then-self
returns-then-self g c =
    TakesCalls-lines g.W.Sink c.args.self.now (text_calls c.args.text.now) c.print_text.new.self c.if-self.true c.print_text.ensures

pub returns-else-self : goal.returns-else-self
returns-else-self g c =
    TakesCalls-html g.W.Sink c.args.self.now (text_calls c.args.text.now) c.print_text-else-self.new.self c.if-self.false c.print_text-else-self.ensures
