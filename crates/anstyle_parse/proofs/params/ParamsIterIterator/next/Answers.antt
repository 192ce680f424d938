use Rattle.std.proofs.Common.{◌≡◌, ◌+◌, ◌-◌, ◌/◌, ◌^◌, ◌∷◌, suc, length, take, drop, arith, ap, ap₂, sym, ◌∙◌, rules}
use Rattle.anstyle_parse.specs.Stream.Groups.{cut_at}
use Rattle.anstyle_parse.specs.Views.Params.{groups_left, starts_of}
use Rattle.anstyle_parse.proofs.Arguments.Starts.{more_is_run, next_steps, next_starts}
use Rattle.anstyle_parse.proofs.params.ParamsIterIterator.next.Goals as goal

pub invariant_of-self : goal.invariant_of-self
invariant_of-self c =
    let i = c.args.self.now in
    let fields = i.numbers.now in
    let k = length c.in_ok-others.others.now in
    let whole : length fields ≡ i.place + suc k = omega (arith, c.in_ok-others.ensures.cases.1, c.split_at.ensures.back_len) in
    let run = more_is_run fields i.starts i.place k whole c.min-more.result (omega (arith, i.in_range)) i.none_above c.min-more.ensures in
    record {
      in_range = i.in_range;
      none_above = i.none_above;
      place_within = omega (arith, c.split_at-2.ensures.front_len, c.split_at-2.ensures.back_len, c.split_at.ensures.back_len);
      place_starts = next_starts fields i.starts i.place k whole (length c.split_at-2.result.0.now) (omega (arith, c.split_at-2.ensures.front_len, run));
    }

pub returns-clause-steps : goal.returns-clause-steps
returns-clause-steps c =
    let i = c.args.self.now in
    let fields = i.numbers.now in
    let k = length c.in_ok-others.others.now in
    let whole : length fields ≡ i.place + suc k = omega (arith, c.in_ok-others.ensures.cases.1, c.split_at.ensures.back_len) in
    let run = more_is_run fields i.starts i.place k whole c.min-more.result (omega (arith, i.in_range)) i.none_above c.min-more.ensures in
    let group : c.split_at-2.result.0.now ≡ take (length c.split_at-2.result.0.now) (drop i.place fields)
    = c.split_at-2.ensures.front ∙ ap₂ take (sym c.split_at-2.ensures.front_len) c.split_at.ensures.back in
    next_steps fields i.starts i.place k whole (length c.split_at-2.result.0.now) (omega (arith, c.split_at-2.ensures.front_len, run)) (i.place_starts (omega arith))
    ∙ ap (λ g. g ∷ cut_at (starts_of (length fields - (i.place + length c.split_at-2.result.0.now)) (i.starts / 2 ^ (i.place + length c.split_at-2.result.0.now))) (drop (i.place + length c.split_at-2.result.0.now) fields)) (sym group)

pub returns-clause-goes : goal.returns-clause-goes
returns-clause-goes c =
    let i = c.args.self.now in
    let fields = i.numbers.now in
    let place = i.place + length c.split_at-2.result.0.now in
    let shorter : length (groups_left i) ≡ suc (length (cut_at (starts_of (length fields - place) (i.starts / 2 ^ place)) (drop place fields))) = ap length (returns-clause-steps c) in
    search rules
