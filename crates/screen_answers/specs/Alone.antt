-- What the code tests first; no public clause cites it.
use Rattle.std.specs.Prelude.{ℕ, Bool, not, ◌&&◌, ◌||◌, ◌==◌, nat_lt, List, length, if◌then◌else◌}

-- Control sequences of the screen alone: those without a mark or an intermediate, but for those that end with J, c, n, p, q,
-- t or u. They ask for nothing, are not answered, and take no rows away.
unfoldable pub is_alone : List ℕ → ℕ → Bool
is_alone marks final =
    length marks == 0 && not (if nat_lt final 0x6E then final == 0x4A || final == 0x63
    else final == 0x6E || final == 0x70 || final == 0x71 || final == 0x74 || final == 0x75)
