use Rattle.std.proofs.Common.{map, ap, sym, ◌∙◌}
use Rattle.std.proofs.Output.{has_written_append, has_written_of_eq, writes_in_calls_nil}
use Rattle.anstyle_parse.specs.Views.Params.{groups_left}
use Rattle.anstyle_parse.proofs.Arguments.Written.{groups_text-parts, groups_text-none}
use Rattle.anstyle_parse.proofs.params.ParamsIter.write_texts.Goals as goal

-- the first group, and a semicolon and its text for each other
pub returns-in-None : goal.returns-in-None
returns-in-None g c plain ok =
    let first = c.in_ok-write_group.ensures plain ok in
    has_written_of_eq _ _ _ _ _
    (groups_text-parts (groups_left c.args.self) c.in-Some.first.now (groups_left c.next.new.self) (map (λ group. group.now) c.loop-group.yielded) (groups_left c.loop-group.group-iterator)
    c.in-Some.ensures.steps (sym (ap groups_left c.into_iter-group-iterator.ensures.into_iter_gives) ∙ c.loop-group.invariant.groups) c.in-None.ensures.steps.0)
    (has_written_append _ _ _ _ _ _ first (c.loop-group.invariant.written first.plain))

pub returns-in_default : goal.returns-in_default
returns-in_default g c plain ok =
    has_written_of_eq _ _ _ _ _ (groups_text-none (groups_left c.args.self) c.in_default.ensures.steps.0) (record { wrote = writes_in_calls_nil _ _; plain = plain })
