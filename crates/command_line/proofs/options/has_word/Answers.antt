-- The word is found exactly where there is one.
use Rattle.std.proofs.Common.{◌∙◌, sym, rules, tests, string_bytes}
use Rattle.std.specs.Prelude.{bytes_eq}
use Rattle.std.proofs.lemmas.Iterator.{YieldsList-from_slice}
use Rattle.std.proofs.lemmas.Iterator.Search.{any_from_yields_List}
use Rattle.command_line.proofs.WordLemmas.{list_any-map}
use Rattle.command_line.proofs.options.has_word.Goals as goal

pub returns : goal.returns
returns c =
    let words = c.args.words.now in
    let wanted = c.args.wanted.now in
    any_from_yields_List (λ word. bytes_eq (string_bytes word) wanted) _ _ _ c.any.ensures.ran (YieldsList-from_slice words cc) (λ x b q k. search (rules, tests))
    ∙ sym (list_any-map (λ word. bytes_eq word wanted) string_bytes words)
