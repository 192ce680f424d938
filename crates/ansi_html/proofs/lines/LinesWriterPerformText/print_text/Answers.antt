use Rattle.std.proofs.Common.{List, length, map, eqb-true, refl, sym, ap, subst, ◌∙◌}
use Rattle.std.specs.Str.{chars}
use Rattle.std.proofs.lemmas.List.{nil_from_length}
use Rattle.std.proofs.lemmas.Str.{chars-nil}
use Rattle.anstyle_parse.specs.Stream.Call.{Call, print}
use Rattle.ansi_html.specs.Liner.{TakesCalls}
use Rattle.ansi_html.specs.LiningProof.{TakesCalls-none}
use Rattle.ansi_html.proofs.PrintLemmas.{some_from_test}
use Rattle.ansi_html.proofs.LinerLemmas.{TakesCalls-text}
use Rattle.ansi_html.proofs.lines.LinesWriterPerformText.print_text.Goals as goal

pub returns-then-not-is_empty : goal.returns-then-not-is_empty
returns-then-not-is_empty g c =
    let text = c.args.text.now in
    let some = some_from_test (length text) (sym c.is_empty.ensures ∙ c.if-not-is_empty.true) in
    let is = c.begin_text.ensures in
    TakesCalls-text g.W.Sink (length text) c.args.self.now c.begin_text.new.self (record { styling = is.styling; standing = is.standing; added = is.added }) text c.utf8.text some refl c.print_text.new.self c.print_text.ensures

pub returns-else-not-is_empty : goal.returns-else-not-is_empty
returns-else-not-is_empty g c =
    let before = c.args.self.now in
    let none = nil_from_length c.args.text.now (eqb-true (length c.args.text.now) 0 (sym c.is_empty.ensures ∙ c.if-not-is_empty.false)) in
    let no_calls = ap (λ t. map print (chars t)) none ∙ ap (map print) chars-nil in
    subst (λ (calls : List Call). TakesCalls g.W.Sink before calls before) (sym no_calls) (TakesCalls-none g.W.Sink before)
