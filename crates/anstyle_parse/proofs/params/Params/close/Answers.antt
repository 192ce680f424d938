use Rattle.std.proofs.Common.{◌≡◌, ◌-◌, arith, ap, ◌∙◌}
use Rattle.anstyle_parse.specs.Stream.Groups.{cut_at}
use Rattle.anstyle_parse.specs.Views.Params.{starts_of}
use Rattle.anstyle_parse.proofs.Arguments.Starts.{cut_at-shown}
use Rattle.anstyle_parse.proofs.params.Params.close.Goals as goal

pub returns-clause-closed : goal.returns-clause-closed
returns-clause-closed c =
    let p = c.args.self.now in
    let count : p.len - 0 ≡ p.len = omega arith in
    ap (λ n. cut_at (starts_of n p.starts) p.numbers) count
    ∙ cut_at-shown p.open_fields (p.len - p.open_fields) p.len p.starts p.numbers (omega arith) p.open_is_last (omega arith)
