-- Both parts, joined, are the text.
use Rattle.safe_text.specs.Safe.{characters}
use Rattle.safe_text.specs.Marks.{nothing_hidden, marked_from, hiding_from, closing}
use Rattle.safe_text.proofs.WholeLemmas.{whole-encoded, encoded-then-safe}
use Rattle.safe_text.proofs.laws.whole.Goals as goal

pub returns-clause-plain : goal.returns-clause-plain
returns-clause-plain c = λ calls. whole-encoded 0 (characters calls)

pub returns-clause-marked : goal.returns-clause-marked
returns-clause-marked c = λ calls.
    encoded-then-safe 0 (marked_from nothing_hidden calls) (closing (hiding_from nothing_hidden calls))
