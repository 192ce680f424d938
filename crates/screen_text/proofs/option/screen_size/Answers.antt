-- A text that says no size is refused.
use Rattle.std.proofs.Common.{◌≡◌, ℕ, List, [], ◌∷◌, drop, sym, subst, ap, ◌∙◌, arith}
use Rattle.std.specs.Prelude.{None, Some, Err, codes}
use Rattle.std.specs.Str.Pattern.{FindsTextPrefix, StripsPrefix}
use Rattle.ansi_screen.specs.Size.{IsSaid}
use Rattle.screen_text.specs.Options.{IsAsked}
use Rattle.screen_text.proofs.option.screen_size.Goals as goal

refused : (text size : List ℕ) → StripsPrefix (FindsTextPrefix (codes "=")) text size → IsSaid size None → IsAsked (Some text) (Err record {})
refused [] size (n, has, rest, fits) unsaid =
    let one : n ≡ 1 = has.0 in
    absurd (omega arith)
refused (sign ∷ text) size (n, has, rest, fits) unsaid =
    λ _. subst (λ it. IsSaid it None) (rest ∙ ap (λ k. drop k (sign ∷ text)) has.0) unsaid

pub returns-in-None-parse-clause-asked : goal.returns-in-None-parse-clause-asked
returns-in-None-parse-clause-asked c =
    rw c.in-Some.is (rw (sym c.in-Some.text-is) (refused _ _ c.in-Some-strip_prefix.ensures.cases c.in-None-parse.ensures))
