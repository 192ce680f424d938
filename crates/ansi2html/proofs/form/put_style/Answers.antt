-- The parts of the rules, one after another.
use Rattle.std.proofs.Common.{◌++◌, ◌∷◌, [], List, ℕ, codes, subst}
use Rattle.anstyle_parse.specs.Io.Output.{Adds}
use Rattle.anstyle_parse.proofs.Written.Output.{Adds-append}
use Rattle.ansi2html.specs.Page.{lines, page_colors, page_rules, page_lines, text_rules}
use Rattle.ansi2html.proofs.form.put_style.Goals as goal

pub returns : goal.returns
returns g c =
    let said = c.args.said in
    let before = lines (codes "<style>" ∷ []) in
    let after = lines (codes "</style>" ∷ []) in
    let colors = page_colors c.args.scheme in
    let rules = page_rules c.args.styling c.args.scheme in
    let lined = page_lines said.has_lines c.args.scheme in
    let text = text_rules said.scrolls in
    let end = c.put-4.new.self in
    let add = Adds-append g.W.Sink in
    let colored = subst (λ (text : List ℕ). Adds g.W.Sink text c.put.new.self c.put-2.new.self) c.colors.ensures c.put-2.ensures in
    let wrapped = subst (λ (rule : List ℕ). Adds g.W.Sink rule c.put_lines.new.output c.put-3.new.self) c.text_rules.ensures c.put-3.ensures in
    add before (colors ++ (rules ++ (lined ++ (text ++ after)))) c.args.output.now c.put.new.self end c.put.ensures
    (add colors (rules ++ (lined ++ (text ++ after))) c.put.new.self c.put-2.new.self end colored
    (add rules (lined ++ (text ++ after)) c.put-2.new.self c.put_rules.new.output end c.put_rules.ensures
    (add lined (text ++ after) c.put_rules.new.output c.put_lines.new.output end c.put_lines.ensures
    (add text after c.put_lines.new.output c.put-3.new.self end wrapped c.put-4.ensures))))
