-- The ending of stripped text.
use Rattle.std.specs.Prelude.{ℕ, List, []}

abbrev pub no_text : List ℕ
no_text = []
