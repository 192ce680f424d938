-- Of a text all characters stay, or none does.
use Rattle.std.proofs.Common.{◌≡◌, ℕ, Bool, true, false, List, [], ◌∷◌, ◌++◌, map, refl, ap, ◌∙◌}
use Rattle.std.specs.Prelude.{not, if◌then◌else◌}
use Rattle.anstyle_parse.specs.Stream.Call.{Call, print, execute}
use Rattle.anstyle_parse.specs.Stream.Texts.{is_layout, layout_call}
use Rattle.ansi_style.specs.declared.style.Style.{Style}
use Rattle.without_hidden.specs.Hidden.{without_hidden, style_from}

-- the style stays
pub style-text : (style : Style) (cs : List ℕ) → style_from style (map print cs) ≡ style
style-text style [] = refl
style-text style (c ∷ cs) = style-text style cs

style-one : (style : Style) (c : ℕ) (t : Bool) (calls : List Call) → style_from style ((if t then execute c else print c) ∷ calls) ≡ style_from style calls
style-one style c true calls = refl
style-one style c false calls = refl

pub style-layout : (style : Style) (cs : List ℕ) → style_from style (map layout_call cs) ≡ style
style-layout style [] = refl
style-layout style (c ∷ cs) = style-one style c (is_layout c) (map layout_call cs) ∙ style-layout style cs

-- none stays that is hidden
pub text-hidden : (style : Style) (cs : List ℕ) → style.hidden ≡ true → without_hidden style (map print cs) ≡ []
text-hidden style [] hidden = refl
text-hidden style (c ∷ cs) hidden =
    ap (λ t. (if not t then print c ∷ [] else []) ++ without_hidden style (map print cs)) hidden ∙ text-hidden style cs hidden

-- all stay that are not
pub text-shown : (style : Style) (cs : List ℕ) → style.hidden ≡ false → without_hidden style (map print cs) ≡ map print cs
text-shown style [] shown = refl
text-shown style (c ∷ cs) shown =
    ap (λ t. (if not t then print c ∷ [] else []) ++ without_hidden style (map print cs)) shown ∙ ap (λ (l : List Call). print c ∷ l) (text-shown style cs shown)

layout-one : (style : Style) (c : ℕ) (t : Bool) (calls : List Call) → style.hidden ≡ false
    → without_hidden style calls ≡ calls
    → without_hidden style ((if t then execute c else print c) ∷ calls) ≡ (if t then execute c else print c) ∷ calls
layout-one style c true calls shown rest = ap (λ (l : List Call). execute c ∷ l) rest
layout-one style c false calls shown rest =
    ap (λ t. (if not t then print c ∷ [] else []) ++ without_hidden style calls) shown ∙ ap (λ (l : List Call). print c ∷ l) rest

pub layout-shown : (style : Style) (cs : List ℕ) → style.hidden ≡ false → without_hidden style (map layout_call cs) ≡ map layout_call cs
layout-shown style [] shown = refl
layout-shown style (c ∷ cs) shown = layout-one style c (is_layout c) (map layout_call cs) shown (layout-shown style cs shown)
