use Rattle.std.proofs.Common.{◌≡◌, arith, sym, ◌∙◌, eq-eqb, eqb-true}
use Rattle.std.proofs.lemmas.Bool.{OnFalse_from, eqb-false}
use Rattle.anstyle_parse.specs.Stream.Arguments.{max_fields}
use Rattle.anstyle_parse.proofs.Arguments.Starts.{field_total}
use Rattle.anstyle_parse.proofs.params.Params.is_full.Goals as goal

pub returns-clause-full : goal.returns-clause-full
returns-clause-full c =
    let p = c.args.self.now in
    let total = field_total p.open_fields p.len p.starts p.numbers p.open_within (omega arith) p.first_starts in
    (λ h. total ∙ eqb-true p.len max_fields h, λ h. eq-eqb p.len max_fields (sym total ∙ h))

pub returns-clause-room : goal.returns-clause-room
returns-clause-room c =
    let p = c.args.self.now in
    let total = field_total p.open_fields p.len p.starts p.numbers p.open_within (omega arith) p.first_starts in
    OnFalse_from _ _ (λ h. let other : p.len ≡ max_fields → ⊥ = eqb-false p.len max_fields h in omega (arith, total, other))
