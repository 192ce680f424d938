use Rattle.std.proofs.Common.{arith}
use Rattle.std.proofs.Output.{has_written_append, has_written_of_eq}
use Rattle.anstyle_parse.proofs.Arguments.Written.{fields_text-parts}
use Rattle.anstyle_parse.proofs.params.write_group.Goals as goal

pub returns-after-loop-field : goal.returns-after-loop-field
returns-after-loop-field g c plain ok =
    let first = c.in_ok-write.ensures.writes plain ok in
    has_written_of_eq _ _ _ _ _
    (fields_text-parts c.args.group.now c.in-Some.first.now c.in-Some.others.now c.loop-field.field-index c.in-Some.ensures.cases.0 (omega arith))
    (has_written_append _ _ _ _ _ _ first (c.loop-field.invariant first.plain))
