-- The last sixteen bytes, and those that are left behind chunks.
use Rattle.std.proofs.Common.{◌≡◌, ◌&&◌, ℕ, zero, suc, ◌-◌, ◌<◌, ◌≤◌, Bool, true, List, [], ◌∷◌, ◌++◌, length, length-append, drop, refl, sym, ap, ◌∙◌, subst, arith}
use Rattle.std.specs.List.{list_all}
use Rattle.anstyle_parse.specs.Stream.Items.{EachIs}
use Rattle.ansi_html.specs.Chunks.{PassAtEnd}
use Rattle.ansi_html.specs.Grammar.{AreClear, BeginWithClear}
use Rattle.ansi_html.proofs.HtmlLemmas.{BeginWithClear-none}

-- Those behind a front are among the last, where these are more.
EachIs-behind : (test : ℕ → Bool) (count : ℕ) (front back : List ℕ) → count ≤ length front → EachIs test (drop count (front ++ back)) → EachIs test back
EachIs-behind test zero [] back within each = each
EachIs-behind test zero (b ∷ front) back within each = EachIs-behind test zero front back (omega arith) each.1
EachIs-behind test (suc count) [] back within each = absurd (omega arith)
EachIs-behind test (suc count) (b ∷ front) back within each = EachIs-behind test count front back (omega arith) each

pub PassAtEnd-behind : (test : ℕ → Bool) (bytes front back : List ℕ) → bytes ≡ front ++ back → length back < 16 → PassAtEnd test bytes → EachIs test back
PassAtEnd-behind test bytes front back joined short pass =
    let Q : List ℕ → Type 0 = λ l. PassAtEnd test l in
    let both : PassAtEnd test (front ++ back) = subst Q joined pass in
    EachIs-behind test (length (front ++ back) - 16) front back (omega (arith, length-append front back)) both.1

pub all_each : (test : ℕ → Bool) (bytes : List ℕ) → EachIs test bytes → list_all test bytes ≡ true
all_each test [] are = refl
all_each test (b ∷ bytes) are = ap (λ t. t && list_all test bytes) are.0 ∙ all_each test bytes are.1

-- Bytes with no meaning in HTML stand before each place in a front of such.
BeginWithClear-within : (count : ℕ) (front back : List ℕ) → AreClear front → count ≤ length front → BeginWithClear (front ++ back) (drop count (front ++ back))
BeginWithClear-within zero front back are few = BeginWithClear-none (front ++ back)
BeginWithClear-within (suc count) [] back are few = absurd (omega arith)
BeginWithClear-within (suc count) (b ∷ front) back are few =
    let (clear, clean, joined) = BeginWithClear-within count front back are.1 (omega arith) in
    (b ∷ clear, (are.0, clean), ap (λ l. b ∷ l) joined)

-- and before the last sixteen bytes, where fewer are left
pub BeginWithClear-end : (bytes front back : List ℕ) → AreClear front → bytes ≡ front ++ back → length back < 16
    → BeginWithClear bytes (drop (length bytes - 16) bytes)
BeginWithClear-end bytes front back are joined short =
    let Q : List ℕ → Type 0 = λ l. BeginWithClear l (drop (length l - 16) l) in
    subst Q (sym joined) (BeginWithClear-within (length (front ++ back) - 16) front back are (omega (arith, length-append front back, short)))
