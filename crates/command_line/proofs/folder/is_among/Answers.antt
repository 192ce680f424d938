-- One is found exactly where there is one.
use Rattle.std.proofs.Common.{◌∙◌, sym, rules, tests, List, ℕ, Bool}
use Rattle.std.specs.Prelude.{bytes_eq}
use Rattle.std.proofs.lemmas.Iterator.{YieldsList-from_slice}
use Rattle.std.proofs.lemmas.Iterator.Search.{any_from_yields_List}
use Rattle.command_line.proofs.WordLemmas.{list_any-map}
use Rattle.command_line.proofs.folder.is_among.Goals as goal

pub returns : goal.returns
returns c =
    let is_this : List ℕ → Bool = λ other. bytes_eq other c.args.file.now in
    any_from_yields_List (λ other. is_this other.now) _ _ _ c.any.ensures.ran (YieldsList-from_slice c.args.files.now cc) (λ x b q k. search (rules, tests))
    ∙ sym (list_any-map is_this (λ other. other.now) c.args.files.now)
