use Rattle.std.proofs.Common.{◌-◌, ◌/◌, ◌^◌, length, drop}
use Rattle.anstyle_parse.proofs.Arguments.Starts.{group_count, high_below}
use Rattle.anstyle_parse.proofs.params.ParamsIterExactSizeIterator.len.Goals as goal

pub returns-then-self-lt-MAX_PARAMS-clause-value : goal.returns-then-self-lt-MAX_PARAMS-clause-value
returns-then-self-lt-MAX_PARAMS-clause-value c =
    let i = c.args.self.now in
    group_count (length i.numbers.now - i.place) (i.starts / 2 ^ i.place) (drop i.place i.numbers.now) (high_below (length i.numbers.now) i.place i.starts i.place_within i.none_above)
