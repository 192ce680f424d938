-- What is left of a text, and then of the next one; and what waits at the end.
use Rattle.std.proofs.Common.{[], ◌++◌, sym, ap, ap₂, ◌∙◌, append_assoc}
use Rattle.std.specs.Prelude.{List, ℕ}
use Rattle.ansi_strip.specs.LineFeeds.{decided}
use Rattle.strip_pieces.proofs.laws.lines_joined.Goals as goal

pub returns-clause-pieces : goal.returns-clause-pieces
returns-clause-pieces c = λ before text more lines rest one two.
    ap decided (sym (append_assoc before text more)) ∙ two ∙ ap (λ l. l ++ rest) one ∙ append_assoc (decided before) lines rest

pub returns-clause-whole : goal.returns-clause-whole
returns-clause-whole c = λ text lines end one ends. ap₂ (λ (l r : List ℕ). l ++ r) (sym one) ends ∙ c.line_feeds.ensures.whole text
