-- What strip_prefix answers is what follows the option.
use Rattle.std.proofs.Common.{◌≡◌, ℕ, Bool, true, false, List, length, drop, Bor, sym, ap, ◌∙◌, subst}
use Rattle.std.specs.Prelude.{Option, None, Some, option_copied, MatchOption, if◌then◌else◌}
use Rattle.std.specs.Str.{IsCharBoundary}
use Rattle.std.specs.Str.Pattern.{FindsTextPrefix, StripsPrefix}
use Rattle.std.proofs.lemmas.Str.Pattern.{starts_text}
use Rattle.command_line.specs.Options.{after_option}
use Rattle.command_line.proofs.options.after.Goals as goal

stripped : (option word : List ℕ) (r : Option (Bor (List ℕ)))
    → MatchOption r (FindsTextPrefix option word None) (λ x. StripsPrefix (FindsTextPrefix option) word x.now) → option_copied r ≡ after_option option word
stripped option word None lacks = ap (λ (t : Bool). if t then Some (drop (length option) word) else None) (starts_text false option word lacks)
stripped option word (Some x) (n, has, rest, fits) =
    ap Some (rest ∙ ap (λ k. drop k word) has.0)
    ∙ ap (λ (t : Bool). if t then Some (drop (length option) word) else None)
    (starts_text true option word (n, has, subst (IsCharBoundary word) (sym has.0) has.2))

pub returns : goal.returns
returns c = stripped c.args.option.now c.args.word.now c.strip_prefix.result c.strip_prefix.ensures.cases
