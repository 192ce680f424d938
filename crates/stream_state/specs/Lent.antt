-- What is held in lent memory.
use Rattle.std.specs.Prelude.{◌≤◌, ℕ, Bool, List, ◌∷◌, length, take}
use Rattle.stream_state.specs.declared.bounded_sink.LentBytes.{LentBytes}

-- the bytes that it takes at most, and those that it holds
abbrev pub limit_of : LentBytes → ℕ
limit_of lent = lent.limit

abbrev pub held_in : LentBytes → List ℕ
held_in lent = take lent.written lent.into.now

-- Its contents as a writer. The limit stands before them, so that whoever is handed it and says what
-- it has added says that the limit is the same.
abbrev pub contents_of : LentBytes → List ℕ
contents_of lent = limit_of lent ∷ held_in lent

abbrev pub has_overflowed : LentBytes → Bool
has_overflowed lent = lent.overflowed

-- it takes no more
abbrev pub is_full : LentBytes → Type 0
is_full lent = limit_of lent ≤ length (held_in lent)
