-- A word that says something of a page is found exactly where there is one.
use Rattle.std.proofs.Common.{◌∙◌, sym, rules, tests, string_bytes}
use Rattle.std.proofs.lemmas.Iterator.{YieldsList-from_slice}
use Rattle.std.proofs.lemmas.Iterator.Search.{any_from_yields_List}
use Rattle.command_line.proofs.WordLemmas.{list_any-map}
use Rattle.ansi2html.specs.Words.{is_of_a_page}
use Rattle.ansi2html.proofs.words.says_of_a_page.Goals as goal

pub returns : goal.returns
returns c =
    let found = any_from_yields_List (λ word. is_of_a_page (string_bytes word)) _ _ _ c.any.ensures.ran (YieldsList-from_slice c.args.words.now cc) (λ x b q k. search (rules, tests)) in
    found ∙ sym (list_any-map is_of_a_page string_bytes c.args.words.now)
