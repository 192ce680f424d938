use Rattle.std.proofs.Common.{◌-◌, length, arith, ap, sym, ◌∙◌, eq-eqb, eqb-true}
use Rattle.std.specs.List.{concat}
use Rattle.anstyle_parse.specs.Stream.Groups.{cut_at}
use Rattle.anstyle_parse.specs.Views.Params.{starts_of}
use Rattle.anstyle_parse.proofs.Arguments.Starts.{cut_at-shown, field_count}
use Rattle.anstyle_parse.proofs.params.Params.is_empty.Goals as goal

pub returns : goal.returns
returns c =
    let p = c.args.self.now in
    let shown = cut_at-shown p.open_fields (p.len - p.open_fields) p.len p.starts p.numbers (omega arith) p.open_is_last (omega arith) in
    let count = field_count p.len p.starts p.numbers (omega arith) p.first_starts in (
      λ none. sym shown ∙ ap (λ n. cut_at (starts_of n p.starts) p.numbers) (eqb-true p.len 0 none),
      λ none. eq-eqb p.len 0 (sym count ∙ ap (λ groups. length (concat groups)) (shown ∙ none)),
    )
