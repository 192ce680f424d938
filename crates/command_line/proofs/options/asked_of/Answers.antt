-- The word that is found is the first that is no option.
use Rattle.std.proofs.Common.{◌≡◌, ◌∙◌, sym, ap, subst, refl, rules, tests, not, string_bytes, List, ℕ, Bool}
use Rattle.std.specs.Prelude.{Option, None, Some, option_map, option_copied, MatchOption}
use Rattle.std.proofs.lemmas.Iterator.{YieldsList-from_slice}
use Rattle.std.proofs.lemmas.Iterator.Search.{find_from_yields_List}
use Rattle.command_line.specs.declared.options.Request.{Request}
use Rattle.command_line.specs.Options.{texts, is_one_of, Means}
use Rattle.command_line.proofs.WordLemmas.{find-map}
use Rattle.command_line.proofs.options.asked_of.Goals as goal

abbrev Answers : (options : List (List ℕ)) → Option Request → Option (List ℕ) → Type 0
Answers options asked first = MatchOption first (asked ≡ None) (λ word. (request : Request) × (asked ≡ Some request) × Means options word request)

pub returns-in-None : goal.returns-in-None
returns-in-None c =
    let is_other : List ℕ → Bool = λ word. not (is_one_of (texts c.args.options.now) word) in
    let first = find_from_yields_List (λ word. is_other (string_bytes word)) _ _ _ c.find.ensures.ran (YieldsList-from_slice c.args.words.now cc) (λ x b q k. search (rules, tests)) in
    let is = find-map is_other string_bytes c.args.words.now ∙ ap (option_map string_bytes) (sym first) ∙ ap (λ r. option_map string_bytes (option_copied r)) c.in-None.is in
    subst (λ o. Answers (texts c.args.options.now) None o) (sym is) refl

pub returns-in-Some : goal.returns-in-Some
returns-in-Some c =
    let is_other : List ℕ → Bool = λ word. not (is_one_of (texts c.args.options.now) word) in
    let first = find_from_yields_List (λ word. is_other (string_bytes word)) _ _ _ c.find.ensures.ran (YieldsList-from_slice c.args.words.now cc) (λ x b q k. search (rules, tests)) in
    let is = find-map is_other string_bytes c.args.words.now ∙ ap (option_map string_bytes) (sym first) ∙ ap (λ r. option_map string_bytes (option_copied r)) c.in-Some.is in
    let answer = c.meaning.result in
    subst (λ o. Answers (texts c.args.options.now) (Some answer) o) (sym is) (answer, refl, subst (λ word. Means (texts c.args.options.now) word answer) c.as_str.ensures.value c.meaning.ensures)
