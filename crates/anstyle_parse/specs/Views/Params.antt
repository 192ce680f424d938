-- What a Params shows: groups of fields, of which the last may still be open.
use Rattle.std.specs.Prelude.{◌≤◌, ℕ, zero, suc, ◌-◌, ◌/◌, ◌%◌, ◌^◌, ◌==◌, Bool, List, [], ◌∷◌, length, take, drop}
use Rattle.std.specs.List.{concat}
use Rattle.anstyle_parse.specs.declared.params.Params.{Params}
use Rattle.anstyle_parse.specs.declared.params.ParamsIter.{ParamsIter}
use Rattle.anstyle_parse.specs.Stream.Arguments.{max_fields}
use Rattle.anstyle_parse.specs.Stream.Groups.{cut_at, shown_groups}

-- whether a group begins at each of so many fields: the mask's lowest bits, from bit 0 on
abbrev pub starts_of : ℕ → ℕ → List Bool
starts_of zero mask = []
starts_of (suc count) mask = (mask % 2 == 1) ∷ starts_of count (mask / 2)

-- the groups that are closed
abbrev pub closed_groups_of : Params → List (List ℕ)
closed_groups_of params = cut_at (starts_of (params.len - params.open_fields) params.starts) params.numbers

-- the fields of the group that is open; none, if there is no such group
abbrev pub open_group_of : Params → List ℕ
open_group_of params = take params.open_fields (drop (params.len - params.open_fields) params.numbers)

-- all groups, in order: none of them is empty
abbrev pub groups_shown : Params → List (List ℕ)
groups_shown params = shown_groups (closed_groups_of params) (open_group_of params)

-- as few as are kept: at most 32 fields in all, and so at most 32 groups
abbrev pub AreFew : List (List ℕ) → Type 0
AreFew groups = (length groups ≤ max_fields) × (length (concat groups) ≤ max_fields)

-- the groups that an iterator has left: those from its place on
abbrev pub groups_left : ParamsIter → List (List ℕ)
groups_left iter =
    cut_at (starts_of (length iter.numbers.now - iter.place) (iter.starts / 2 ^ iter.place))
    (drop iter.place iter.numbers.now)
