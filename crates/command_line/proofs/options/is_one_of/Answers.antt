use Rattle.std.proofs.Common.{◌∙◌, sym, rules, tests, List, ℕ, Bool}
use Rattle.std.proofs.lemmas.Iterator.{YieldsList-from_slice}
use Rattle.std.proofs.lemmas.Iterator.Search.{any_from_yields_List}
use Rattle.command_line.specs.Options.{is_option}
use Rattle.command_line.proofs.WordLemmas.{list_any-map}
use Rattle.command_line.proofs.options.is_one_of.Goals as goal

pub returns : goal.returns
returns c =
    let is_this : List ℕ → Bool = λ option. is_option option c.args.word.now in
    any_from_yields_List (λ option. is_this option.now) _ _ _ c.any.ensures.ran (YieldsList-from_slice c.args.options.now cc) (λ x b q k. search (rules, tests))
    ∙ sym (list_any-map is_this (λ option. option.now) c.args.options.now)
