-- A kind of bytes for tests: the digits, which are of ASCII.
use Rattle.std.proofs.Common.{ℕ, ◌<◌, Bool, IsTrue, arith}
use Rattle.anstyle_parse.specs.Stream.Bytes.{is_within}
use Rattle.anstyle_parse.proofs.Characters.Encoding.{within_parts}

abbrev pub is_digit : ℕ → Bool
is_digit b = is_within 0x30 0x39 b

pub digit-low : (b : ℕ) → IsTrue (is_digit b) → b < 0x80
digit-low b is = let range = within_parts 0x30 0x39 b is in omega (arith, range.1)
