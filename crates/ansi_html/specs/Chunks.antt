-- Bytes that are tested sixteen at a time.
use Rattle.std.specs.Prelude.{ℕ, ◌≤◌, ◌-◌, Bool, List, length, drop}
use Rattle.anstyle_parse.specs.Stream.Items.{EachIs}

-- There are sixteen or more, and the last sixteen pass a test.
abbrev pub PassAtEnd : (ℕ → Bool) → List ℕ → Type 0
PassAtEnd test bytes = (16 ≤ length bytes) × EachIs test (drop (length bytes - 16) bytes)
