-- The parts so far, and those of the rest, are all.
use Rattle.std.proofs.Common.{◌≡◌, ◌+◌, ◌≤◌, [], ◌∷◌, ◌++◌, codes, length, map, take}
use Rattle.std.specs.Prelude.{◌==◌}
use Rattle.std.specs.List.{slice_split}
use Rattle.anstyle_parse.specs.Stream.Bytes.{semicolon}
use Rattle.html_urls.proofs.target.link_parts.Given as goal

abbrev pub invariant-rest : goal.invariant-rest
invariant-rest l =
    (map (λ part. part.now) (take l.count l.parts) ++ slice_split (λ b. b == semicolon) l.rest
    ≡ codes "8" ∷ [] ∷ slice_split (λ b. b == semicolon) l.target)
    × (l.count + length (slice_split (λ b. b == semicolon) l.rest) ≤ 15) × (length l.parts ≡ 15)

abbrev pub decreases-rest : goal.decreases-rest
decreases-rest l = length (slice_split (λ b. b == semicolon) l.rest)
