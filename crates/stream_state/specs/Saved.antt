-- What the writer of a checkpoint took.
use Rattle.std.specs.Prelude.{ℕ, Bool, List, take}
use Rattle.stream_state.specs.declared.saved.Saved.{Saved}

abbrev pub saved_in : Saved → List ℕ
saved_in saved = take saved.written saved.into.now

abbrev pub has_overflowed : Saved → Bool
has_overflowed saved = saved.overflowed
