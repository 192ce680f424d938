-- The declaration has the word between what comes before it in each and `;`.
use Rattle.std.proofs.Common.{◌++◌, ◌∙◌, List, ℕ, length, codes, ap, subst}
use Rattle.std.specs.Prelude.{◌==◌}
use Rattle.std.proofs.lemmas.Bool.{false≢true}
use Rattle.anstyle_parse.specs.Io.Output.{Adds}
use Rattle.anstyle_parse.proofs.Written.Output.{Adds-append}
use Rattle.ansi_html.proofs.UnderlineLemmas.{drawn-word}
use Rattle.ansi_html.proofs.css.put_drawn.Goals as goal

pub returns-then-not-is_empty : goal.returns-then-not-is_empty
returns-then-not-is_empty g c =
    let word = c.underline_word-word.result.now in
    let end = c.put-then-not-is_empty-2.new.self in
    let add = Adds-append g.W.Sink in
    subst (λ (text : List ℕ). Adds g.W.Sink text c.args.output.now end)
    (ap (λ (w : List ℕ). codes "text-decoration-style:" ++ (w ++ codes ";")) c.underline_word-word.ensures
    ∙ drawn-word c.args.underline (λ none. false≢true (c.if-not-is_empty.ensures ∙ ap (λ n. n == 0) (ap length c.underline_word-word.ensures ∙ none))))
    (add (codes "text-decoration-style:") (word ++ codes ";") c.args.output.now c.put.new.self end c.put.ensures
    (add word (codes ";") c.put.new.self c.put-then-not-is_empty.new.self end c.put-then-not-is_empty.ensures c.put-then-not-is_empty-2.ensures))
