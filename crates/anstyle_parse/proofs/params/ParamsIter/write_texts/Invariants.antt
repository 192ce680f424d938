use Rattle.std.proofs.Common.{◌≡◌, ◌∷◌, ◌++◌, map}
use Rattle.std.specs.List.{flat_map}
use Rattle.std.specs.Fmt.{HasWritten, IsPlainFormatter}
use Rattle.anstyle_parse.specs.Stream.Bytes.{semicolon}
use Rattle.anstyle_parse.specs.Views.Params.{groups_left}
use Rattle.anstyle_parse.specs.Stream.Groups.{fields_text}
use Rattle.anstyle_parse.proofs.params.ParamsIter.write_texts.Given as goal

-- the groups so far and those left are the groups; a semicolon and its text, for each so far
abbrev pub invariant-loop-group : goal.invariant-loop-group
invariant-loop-group g l =
    record {
      groups : groups_left l.initial.group-iterator ≡ map (λ group. group.now) l.yielded ++ groups_left l.group-iterator;
      written : IsPlainFormatter l.initial.f
          → HasWritten g.W.Write.write_str_gives l.initial.f (flat_map (λ group. semicolon ∷ fields_text group) (map (λ group. group.now) l.yielded)) l.f;
    }
