use Rattle.std.proofs.Common.{false, List, ℕ, ◌++◌, length, map, eqb-true, sym, ap, subst, ◌∙◌}
use Rattle.std.specs.Str.{chars}
use Rattle.std.proofs.lemmas.List.{nil_from_length}
use Rattle.std.proofs.lemmas.Str.{chars-nil}
use Rattle.anstyle_parse.specs.Stream.Call.{Call, print}
use Rattle.anstyle_parse.specs.Io.Output.{Adds}
use Rattle.anstyle_parse.proofs.Written.Output.{Adds-append}
use Rattle.ansi_html.specs.AddingProof.{TakesAll-none}
use Rattle.ansi_html.specs.Html.{beginning, escaped_text}
use Rattle.ansi_html.specs.Writer.{output_of, styling_of, standing_of, TakesAll}
use Rattle.ansi_html.proofs.PrintLemmas.{some_from_test, html_from-text, standing_at_end-text}
use Rattle.ansi_html.proofs.performer.HtmlWriterPerformText.print_text.Goals as goal

pub returns-then-not-is_empty : goal.returns-then-not-is_empty
returns-then-not-is_empty g c =
    let before = c.args.self.now in
    let styling = styling_of before in
    let at = standing_of before in
    let text = c.args.text.now in
    let some = some_from_test (length text) (sym c.is_empty.ensures ∙ c.if-not-is_empty.true) in
    let bytes = c.as_bytes.result.now in
    record {
      styling = c.begin_text.ensures.styling;
      standing = c.begin_text.ensures.standing ∙ sym (standing_at_end-text styling at text c.utf8.text some);
      added = subst (λ (t : List ℕ). Adds g.W.Sink t (output_of before) c.put_escaped.new.output)
          (ap (λ t. beginning styling at false ++ escaped_text t) c.as_bytes.ensures.value ∙ sym (html_from-text styling at text c.utf8.text some))
          (Adds-append g.W.Sink (beginning styling at false) (escaped_text bytes) (output_of before) (output_of c.begin_text.new.self) c.put_escaped.new.output c.begin_text.ensures.added c.put_escaped.ensures);
    }

pub returns-else-not-is_empty : goal.returns-else-not-is_empty
returns-else-not-is_empty g c =
    let before = c.args.self.now in
    let none = nil_from_length c.args.text.now (eqb-true (length c.args.text.now) 0 (sym c.is_empty.ensures ∙ c.if-not-is_empty.false)) in
    let no_calls = ap (λ t. map print (chars t)) none ∙ ap (map print) chars-nil in
    subst (λ (calls : List Call). TakesAll g.W.Sink before calls before) (sym no_calls) (TakesAll-none g.W.Sink before)
