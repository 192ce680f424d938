-- As many groups begin as there are fields, or fewer.
use Rattle.std.proofs.Common.{◌≡◌, ◌≢◌, ◌<◌, ◌+◌, ◌-◌, ◌^◌, List, ℕ, length, arith, sym, subst, ◌∙◌}
use Rattle.std.specs.List.{concat}
use Rattle.anstyle_parse.specs.Stream.Groups.{cut_at}
use Rattle.anstyle_parse.specs.Views.Params.{starts_of, groups_shown}
use Rattle.anstyle_parse.proofs.Arguments.Starts.{cut_at-shown, lone-groups, shared-groups, wide_bit_below}
use Rattle.anstyle_parse.proofs.params.Params.lone_fields.Goals as goal

pub returns-then-from-self-clause-alone : goal.returns-then-from-self-clause-alone
returns-then-from-self-clause-alone c =
    let p = c.args.self.now in
    let all : p.starts + 1 ≡ 2 ^ p.len
    = omega (arith, c.from.ensures, c.if-from-self.true, wide_bit_below p.len (omega arith)) in
    sym (cut_at-shown p.open_fields (p.len - p.open_fields) p.len p.starts p.numbers (omega arith) p.open_is_last (omega arith))
    ∙ lone-groups p.len p.starts p.numbers (omega arith) all

pub returns-else-from-self-clause-others : goal.returns-else-from-self-clause-others
returns-else-from-self-clause-others c =
    let p = c.args.self.now in
    let shown : cut_at (starts_of p.len p.starts) p.numbers ≡ groups_shown p =
    cut_at-shown p.open_fields (p.len - p.open_fields) p.len p.starts p.numbers (omega arith) p.open_is_last (omega arith) in
    let some : p.starts + 1 ≢ 2 ^ p.len
    = λ all. c.if-from-self.false (omega (arith, c.from.ensures, all, wide_bit_below p.len (omega arith))) in
    subst (λ (gs : List (List ℕ)). length gs < length (concat gs)) shown (shared-groups p.len p.starts p.numbers (omega arith) p.none_above p.first_starts some)
