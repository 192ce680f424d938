-- A performer that is given a whole log.
use Rattle.std.specs.Prelude.{◌≡◌, ℕ, List, ◌++◌}
use Rattle.anstyle_parse.specs.Stream.Call.{Call}

-- What a performer writes by calls, and then still, is this text of them.
abbrev pub Says : {P : Type 0} → (text_from ending_from : P → List Call → List ℕ) → P → (text : List Call → List ℕ) → Type 0
Says text_from ending_from performer text =
    (calls : List Call) → text_from performer calls ++ ending_from performer calls ≡ text calls
