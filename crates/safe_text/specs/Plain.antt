-- Plain text: characters of ASCII that are written as they are, whatever stands beside them.
use Rattle.std.specs.Prelude.{ℕ, Bool, ◌||◌}
use Rattle.anstyle_parse.specs.Stream.Bytes.{is_within}

-- tab, line feed, and all that is printed but `<`
abbrev pub is_plain : ℕ → Bool
is_plain b = is_within 0x09 0x0A b || is_within 0x20 0x3B b || is_within 0x3D 0x7E b
