-- The mask's starts cut the fields into the groups that are shown.
use Rattle.std.proofs.Common.{◌≡◌, ◌-◌, length, take, arith, ap, ap₂, sym, subst, ◌∙◌}
use Rattle.std.proofs.Math.Nat.{div-one}
use Rattle.std.proofs.lemmas.List.{length-take-le, take-take}
use Rattle.anstyle_parse.specs.Stream.Groups.{cut_at, HaveFields}
use Rattle.std.specs.List.{concat}
use Rattle.anstyle_parse.specs.Views.Params.{starts_of, groups_shown}
use Rattle.anstyle_parse.proofs.Arguments.Lengths.{length-have_fields}
use Rattle.anstyle_parse.proofs.Arguments.Starts.{cut_at-front, cut_at-shown, field_count, HaveFields-starts_of}
use Rattle.anstyle_parse.proofs.params.Params.iter.Goals as goal

pub returns-clause-groups : goal.returns-clause-groups
returns-clause-groups c =
    let p = c.args.self.now in
    let count : length (take p.len p.numbers) - 0 ≡ p.len = omega (arith, length-take-le p.len p.numbers (omega arith)) in
    ap₂ (λ n m. cut_at (starts_of n m) (take p.len p.numbers)) count (div-one p.starts)
    ∙ (cut_at-front p.len p.starts (take p.len p.numbers) p.numbers (take-take p.len p.len p.numbers (omega arith))
    ∙ cut_at-shown p.open_fields (p.len - p.open_fields) p.len p.starts p.numbers (omega arith) p.open_is_last (omega arith))

pub returns-clause-have_fields : goal.returns-clause-have_fields
returns-clause-have_fields c =
    let p = c.args.self.now in
    subst HaveFields (cut_at-shown p.open_fields (p.len - p.open_fields) p.len p.starts p.numbers (omega arith) p.open_is_last (omega arith))
    (HaveFields-starts_of p.len p.starts p.numbers (omega arith))

pub returns-clause-limit : goal.returns-clause-limit
returns-clause-limit c =
    let p = c.args.self.now in
    let all : p.len ≡ length (concat (groups_shown p)) =
    sym (field_count p.len p.starts p.numbers (omega arith) p.first_starts)
    ∙ ap (λ groups. length (concat groups)) (cut_at-shown p.open_fields (p.len - p.open_fields) p.len p.starts p.numbers (omega arith) p.open_is_last (omega arith)) in
    (omega (arith, all, length-have_fields _ (returns-clause-have_fields c)), omega (arith, all))
