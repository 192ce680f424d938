use Rattle.std.proofs.Common.{Bool, eqb, codes, sym, ◌∙◌, ap}
use Rattle.std.specs.Prelude.{bytes_eq, if◌then◌else◌}
use Rattle.std.specs.List.{starts_with}
use Rattle.std.proofs.lemmas.Str.Pattern.{starts_text, ends_text}
use Rattle.command_line.proofs.options.is_option.Goals as goal

pub returns-then-ends_with : goal.returns-then-ends_with
returns-then-ends_with c =
    let option = c.args.option.now in
    let word = c.args.word.now in
    starts_text c.starts_with.result option word c.starts_with.ensures.cases
    ∙ ap (λ (t : Bool). if t then starts_with eqb word option else bytes_eq word option)
    (sym c.if-ends_with.true ∙ ends_text c.ends_with.result (codes "=") option c.ends_with.ensures.cases)

pub returns-else-ends_with : goal.returns-else-ends_with
returns-else-ends_with c =
    let option = c.args.option.now in
    let word = c.args.word.now in
    c.eq.ensures
    ∙ ap (λ (t : Bool). if t then starts_with eqb word option else bytes_eq word option)
    (sym c.if-ends_with.false ∙ ends_text c.ends_with.result (codes "=") option c.ends_with.ensures.cases)
