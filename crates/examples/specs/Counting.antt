-- What the counting performer counts.
use Rattle.std.specs.Prelude.{◌≡◌, ℕ, ◌+◌, ◌-◌, ◌^◌, List, length, min}
use Rattle.anstyle_parse.specs.Stream.Call.{Call}
use Rattle.anstyle_parse.specs.Stream.Calls.{AreCalls}

-- the greatest u64
abbrev pub greatest : ℕ
greatest = 2 ^ 64 - 1

-- the lesser of the greatest u64 and one more
abbrev pub one_more : ℕ → ℕ
one_more count = min greatest (count + 1)

-- the count is the number of the calls of the bytes, or the greatest u64 where there are more
abbrev pub IsCountOfCalls : List ℕ → ℕ → Type 0
IsCountOfCalls bytes count =
    (calls : List Call) × AreCalls bytes calls × (count ≡ min greatest (length calls))
