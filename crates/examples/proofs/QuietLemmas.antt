-- What a chain of calls does to a performer that no call changes.
use Rattle.std.proofs.Common.{◌≡◌, List, [], ◌∷◌, ◌∙◌}
use Rattle.anstyle_parse.specs.Stream.Call.{Call, Goes}

-- where a value never changes it is at last what it was at first
pub Goes-same : {P : Type 0} (first : P) (calls : List Call) (last : P) → Goes (λ old call new. new ≡ old) first calls last → last ≡ first
Goes-same first [] last goes = goes
Goes-same first (call ∷ calls) last (mid, means, goes) = Goes-same mid calls last goes ∙ means
