use Rattle.std.proofs.Common.{[], ◌∷◌, decimal, codes, sym, subst, ℕ}
use Rattle.std.specs.Prelude.{Option}
use Rattle.anstyle_parse.specs.Io.Output.{Adds}
use Rattle.anstyle_parse.proofs.Written.Output.{Adds-append}
use Rattle.ansi_html.specs.Css.{text_if}
use Rattle.ansi_html.specs.Classes.{colored_word}
use Rattle.ansi_html.proofs.class.put_colored.Goals as goal

pub returns-in-Some : goal.returns-in-Some
returns-in-Some g c =
    let begin = c.args.output.now in
    let end = c.put_decimal.new.self in
    let number = decimal c.in-Some.number in
    let add = Adds-append g.W.Sink in
    let put = subst (λ n. Adds g.W.Sink (decimal n) c.put_byte.new.self end) c.from.ensures c.put_decimal.ensures in
    subst (λ (it : Option ℕ). Adds g.W.Sink (colored_word c.args.dim c.args.letter it) begin end) (sym c.in-Some.is)
    (add (text_if c.args.dim (codes "d")) (c.args.letter ∷ number) begin c.put_if.new.output end c.put_if.ensures
    (add (c.args.letter ∷ []) number c.put_if.new.output c.put_byte.new.self end c.put_byte.ensures put))

pub returns-in_default : goal.returns-in_default
returns-in_default g c =
    let begin = c.args.output.now in
    let end = c.put_byte.new.self in
    subst (λ (it : Option ℕ). Adds g.W.Sink (colored_word c.args.dim c.args.letter it) begin end) (sym c.in_default.is)
    (Adds-append g.W.Sink (text_if c.args.dim (codes "d")) (c.args.letter ∷ []) begin c.put_if.new.output end c.put_if.ensures c.put_byte.ensures)
