use Rattle.std.proofs.Common.{arith, ap, sym, ◌∙◌, length, ◌-◌}
use Rattle.std.specs.List.{concat}
use Rattle.anstyle_parse.proofs.Arguments.Starts.{cut_at-shown, field_count}
use Rattle.anstyle_parse.proofs.params.Params.len.Goals as goal

pub returns-clause-fields : goal.returns-clause-fields
returns-clause-fields c =
    let p = c.args.self.now in
    sym (field_count p.len p.starts p.numbers (omega arith) p.first_starts)
    ∙ ap (λ groups. length (concat groups)) (cut_at-shown p.open_fields (p.len - p.open_fields) p.len p.starts p.numbers (omega arith) p.open_is_last (omega arith))
