use Rattle.std.proofs.Common.{◌∷◌, take}
use Rattle.std.specs.List.{flat_map}
use Rattle.std.specs.Fmt.{HasWritten, IsPlainFormatter, decimal}
use Rattle.anstyle_parse.specs.Stream.Bytes.{colon}
use Rattle.anstyle_parse.proofs.params.write_group.Given as goal

-- a colon and the field, for each field so far
abbrev pub invariant-loop-field : goal.invariant-loop-field
invariant-loop-field g l =
    IsPlainFormatter l.initial.f → HasWritten g.W.Write.write_str_gives l.initial.f (flat_map (λ n. colon ∷ decimal n) (take l.field-index l.others)) l.f
