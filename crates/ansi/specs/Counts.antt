-- What a call that writes records took and wrote, by its counts.
use Rattle.std.specs.Prelude.{ℕ}
use Rattle.event_pieces.specs.declared.feeding.Fed.{Fed}

abbrev pub counts : (taken written used : ℕ) → Fed
counts taken written used = record { taken = taken; written = written; used = used }
