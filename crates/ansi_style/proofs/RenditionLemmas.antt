-- Sequences of selections.
use Rattle.std.proofs.Common.{◌≡◌, ℕ, true, eqb, List, [], ◌∷◌, ◌++◌, ◌||◌, refl, sym, ap₂, ◌∙◌, subst, ⊎_elim}
use Rattle.std.proofs.lemmas.Bool.{or_cases, eqb-true}
use Rattle.anstyle_parse.specs.Stream.Bytes.{is_within}
use Rattle.ansi_style.specs.declared.style.Style.{Style}
use Rattle.ansi_style.specs.declared.select.Expected.{Expected}
use Rattle.ansi_style.specs.declared.select.Expected.TheVariants.{Code}
use Rattle.ansi_style.specs.Style.{plain}
use Rattle.ansi_style.specs.Codes.{one}
use Rattle.ansi_style.specs.Walk.{with_expected, expected_after, selected_from}
use Rattle.ansi_style.specs.Rendition.{with_code, is_color_code, selected, AreWhole}
use Rattle.ansi_style.proofs.WalkLemmas.{expected_at_end, selected_from-code, expected_at_end-whole}

-- groups before others, from whatever is expected
selected_from-append : (expected : Expected) (first second : List (List ℕ)) (style : Style)
    → selected_from expected (first ++ second) style ≡ selected_from (expected_at_end expected first) second (selected_from expected first style)
selected_from-append expected [] second style = refl
selected_from-append expected (group ∷ first) second style = selected_from-append (expected_after expected group) first second (with_expected expected group style)

-- where the first are whole, the others select as if they came alone
pub selected-append : (first second : List (List ℕ)) (style : Style) → AreWhole first → selected (first ++ second) style ≡ selected second (selected first style)
selected-append first second style whole =
    sym (selected_from-code (first ++ second) style)
    ∙ selected_from-append Code first second style
    ∙ ap₂ (λ expected changed. selected_from expected second changed) (expected_at_end-whole first whole) (selected_from-code first style)
    ∙ selected_from-code second (selected first style)

-- 0 resets
pub selected-reset : (style : Style) → selected (one 0 ∷ []) style ≡ plain
unfolding with_code is_within
selected-reset style = refl

pub selected-reset_first : (after : List (List ℕ)) (style : Style) → selected (one 0 ∷ after) style ≡ selected after plain
unfolding with_code is_within
selected-reset_first after style = refl

pub selected-reset_within : (before after : List (List ℕ)) (style : Style) → AreWhole before → selected (before ++ one 0 ∷ after) style ≡ selected after plain
selected-reset_within before after style whole =
    selected-append before (one 0 ∷ after) style whole ∙ selected-reset_first after (selected before style)

-- what holds after 38, 48 and 58 holds after each code that begins a colour
by_code : (P : ℕ → Type 0) → P 38 → P 48 → P 58 → (code : ℕ) → is_color_code code ≡ true → P code
by_code P foreground background line code is =
    ⊎_elim
    (λ either. ⊎_elim
    (λ h. subst P (sym (eqb-true code 38 h)) foreground)
    (λ h. subst P (sym (eqb-true code 48 h)) background)
    (or_cases (eqb code 38) (eqb code 48) either))
    (λ h. subst P (sym (eqb-true code 58 h)) line)
    (or_cases (eqb code 38 || eqb code 48) (eqb code 58) is)

pub selected-indexed : (code n : ℕ) (after : List (List ℕ)) (style : Style) → is_color_code code ≡ true
    → selected ((code ∷ 5 ∷ n ∷ []) ∷ after) style ≡ selected (one code ∷ one 5 ∷ one n ∷ after) style
unfolding with_code is_within
selected-indexed code n after style is =
    by_code (λ code. selected ((code ∷ 5 ∷ n ∷ []) ∷ after) style ≡ selected (one code ∷ one 5 ∷ one n ∷ after) style) refl refl refl code is

pub selected-direct : (code r g b : ℕ) (after : List (List ℕ)) (style : Style) → is_color_code code ≡ true
    → selected ((code ∷ 2 ∷ r ∷ g ∷ b ∷ []) ∷ after) style ≡ selected (one code ∷ one 2 ∷ one r ∷ one g ∷ one b ∷ after) style
unfolding with_code is_within
selected-direct code r g b after style is =
    by_code (λ code. selected ((code ∷ 2 ∷ r ∷ g ∷ b ∷ []) ∷ after) style ≡ selected (one code ∷ one 2 ∷ one r ∷ one g ∷ one b ∷ after) style) refl refl refl code is

pub selected-with_space : (code space r g b : ℕ) (after : List (List ℕ)) (style : Style) → is_color_code code ≡ true
    → selected ((code ∷ 2 ∷ space ∷ r ∷ g ∷ b ∷ []) ∷ after) style ≡ selected (one code ∷ one 2 ∷ one r ∷ one g ∷ one b ∷ after) style
unfolding with_code is_within
selected-with_space code space r g b after style is =
    by_code (λ code. selected ((code ∷ 2 ∷ space ∷ r ∷ g ∷ b ∷ []) ∷ after) style ≡ selected (one code ∷ one 2 ∷ one r ∷ one g ∷ one b ∷ after) style) refl refl refl code is
