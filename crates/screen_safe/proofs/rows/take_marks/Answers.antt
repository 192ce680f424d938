-- Two marks, one after the other.
use Rattle.std.proofs.Common.{[], ◌∷◌}
use Rattle.safe_text.specs.TakingProof.{Takes-none, Takes-append}
use Rattle.screen_safe.proofs.rows.take_marks.Goals as goal

pub returns-in-Unmarked : goal.returns-in-Unmarked
returns-in-Unmarked g c = rw c.in-Unmarked.is (Takes-none g.W.Sink c.args.writer.now)

pub returns-in-One : goal.returns-in-One
returns-in-One g c = rw c.in-One.is c.take.ensures

pub returns-in-Two : goal.returns-in-Two
returns-in-Two g c =
    rw c.in-Two.is (Takes-append g.W.Sink c.args.writer.now c.take-in-Two.new.self c.take-in-Two-2.new.self (c.in-Two.first ∷ []) (c.in-Two.second ∷ [])
    c.take-in-Two.ensures c.take-in-Two-2.ensures)
