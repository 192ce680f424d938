-- Two marks, one after the other.
use Rattle.std.proofs.Common.{sym, subst}
use Rattle.std.specs.Prelude.{encode_utf8}
use Rattle.std.proofs.lemmas.Grind.{flat_map-append}
use Rattle.anstyle_parse.specs.Io.Output.{Adds}
use Rattle.anstyle_parse.proofs.Written.Output.{Adds-append}
use Rattle.ansi_html.specs.Html.{escaped, escaped_text}
use Rattle.ansi_html.specs.Styled.{output_of}
use Rattle.screen_html.proofs.rows.put_marks.Goals as goal

pub returns-in-Two-clause-added : goal.returns-in-Two-clause-added
returns-in-Two-clause-added g c =
    let first = encode_utf8 c.in-Two.first in
    let second = encode_utf8 c.in-Two.second in
    let old = output_of c.args.writer.now in
    let new = output_of c.put_char-in-Two-2.new.self in
    rw c.in-Two.is (subst (λ t. Adds g.W.Sink t old new) (sym (flat_map-append escaped first second))
    (Adds-append g.W.Sink (escaped_text first) (escaped_text second) old (output_of c.put_char-in-Two.new.self) new
    c.put_char-in-Two.ensures.added c.put_char-in-Two-2.ensures.added))
