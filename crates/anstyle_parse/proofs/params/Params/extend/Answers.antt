use Rattle.std.proofs.Common.{◌≡◌, ◌-◌, ◌+◌, ◌/◌, ◌^◌, take, drop, set, arith, ap, ◌∙◌}
use Rattle.anstyle_parse.specs.Stream.Groups.{cut_at}
use Rattle.anstyle_parse.specs.Views.Params.{starts_of}
use Rattle.anstyle_parse.proofs.Arguments.Starts.{field_total, Grown, grown-new, grown-same, closed_same, open_extended}
use Rattle.anstyle_parse.proofs.params.Params.extend.Goals as goal
use Rattle.anstyle_parse.proofs.params.Params.extend.Goals.{then-self-eq0, else-self-eq0}

pub start_bit-requires : goal.start_bit-requires
start_bit-requires c =
    let p = c.args.self.now in
    omega (arith, field_total p.open_fields p.len p.starts p.numbers p.open_within (omega arith) p.first_starts)

pub bounds-self-self : goal.bounds-self-self
bounds-self-self c =
    let p = c.args.self.now in
    omega (arith, field_total p.open_fields p.len p.starts p.numbers p.open_within (omega arith) p.first_starts)

pub invariant_of-self : goal.invariant_of-self
invariant_of-self c =
    let p = c.args.self.now in
    let total = field_total p.open_fields p.len p.starts p.numbers p.open_within (omega arith) p.first_starts in
    let grown : Grown p.len (p.len - p.open_fields) p.starts c.if-self-eq0.starts
    = elim c.if-self-eq0.branch [
      | then-self-eq0 w ↦ rw w.starts-is (grown-new p.len p.open_fields p.starts w.start_bit.result w.if-self-eq0.true p.none_above p.first_starts w.start_bit.ensures)
      | else-self-eq0 w ↦ rw w.starts-is (grown-same p.len p.open_fields p.starts (omega (arith, w.if-self-eq0.false)) p.open_within p.none_above p.first_starts (p.open_is_last (omega (arith, w.if-self-eq0.false))))
    ] in
    let place : p.len + 1 - (p.open_fields + 1) ≡ p.len - p.open_fields = omega arith in
    record {
      in_range = omega arith;
      none_above = grown.below;
      first_starts = λ some. grown.first;
      open_within = omega (arith, p.open_within);
      open_is_last = λ some. ap (λ n. c.if-self-eq0.starts / 2 ^ n) place ∙ grown.high;
    }

pub returns-clause-closed : goal.returns-clause-closed
returns-clause-closed c =
    let p = c.args.self.now in
    let total = field_total p.open_fields p.len p.starts p.numbers p.open_within (omega arith) p.first_starts in
    let grown : Grown p.len (p.len - p.open_fields) p.starts c.if-self-eq0.starts
    = elim c.if-self-eq0.branch [
      | then-self-eq0 w ↦ rw w.starts-is (grown-new p.len p.open_fields p.starts w.start_bit.result w.if-self-eq0.true p.none_above p.first_starts w.start_bit.ensures)
      | else-self-eq0 w ↦ rw w.starts-is (grown-same p.len p.open_fields p.starts (omega (arith, w.if-self-eq0.false)) p.open_within p.none_above p.first_starts (p.open_is_last (omega (arith, w.if-self-eq0.false))))
    ] in
    let place : p.len + 1 - (p.open_fields + 1) ≡ p.len - p.open_fields = omega arith in
    ap (λ n. cut_at (starts_of n c.if-self-eq0.starts) (set p.numbers p.len c.args.field)) place
    ∙ (closed_same p.len (p.len - p.open_fields) c.if-self-eq0.starts c.args.field p.numbers (omega arith) ∙ ap (λ starts. cut_at starts p.numbers) grown.low)

pub returns-clause-open : goal.returns-clause-open
returns-clause-open c =
    let p = c.args.self.now in
    let total = field_total p.open_fields p.len p.starts p.numbers p.open_within (omega arith) p.first_starts in
    let place : p.len + 1 - (p.open_fields + 1) ≡ p.len - p.open_fields = omega arith in
    ap (λ n. take (p.open_fields + 1) (drop n (set p.numbers p.len c.args.field))) place
    ∙ open_extended p.len (p.len - p.open_fields) p.open_fields c.args.field p.numbers (omega (arith, p.open_within)) (omega (arith, total))
