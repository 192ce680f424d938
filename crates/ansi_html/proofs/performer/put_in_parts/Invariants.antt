-- What is written so far, and what is left, escaped, is all of it.
use Rattle.std.proofs.Common.{◌≡◌, ◌++◌, List, ℕ, length}
use Rattle.anstyle_parse.specs.Io.Output.{Adds}
use Rattle.ansi_html.specs.Html.{escaped_text}
use Rattle.ansi_html.proofs.performer.put_in_parts.Given as goal

abbrev pub invariant-text : goal.invariant-text
invariant-text g l = record {
  done : List ℕ;
  whole : done ++ escaped_text l.rest ≡ escaped_text l.text;
  added : Adds g.W.Sink done l.initial.output l.output;
}

abbrev pub decreases-text : goal.decreases-text
decreases-text g l = length l.rest
