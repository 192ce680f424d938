-- What the code tests first; no public clause cites it.
use Rattle.std.specs.Prelude.{ℕ, Bool, true, ◌==◌, List, [], ◌∷◌}

-- Of control sequences without a mark or an intermediate only those that end with t ask for something.
unfoldable pub may_ask : List ℕ → ℕ → Bool
may_ask [] final = final == 0x74
may_ask (mark ∷ marks) final = true
