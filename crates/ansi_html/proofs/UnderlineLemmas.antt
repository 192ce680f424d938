-- How an underline is drawn: its declaration, by its word.
use Rattle.std.proofs.Common.{◌≡◌, ◌≢◌, ◌++◌, length, codes, refl}
use Rattle.ansi_style.specs.declared.style.Underline.{Underline}
use Rattle.ansi_style.specs.declared.style.Underline.TheVariants.{Off, Single, Double, Curly, Dotted, Dashed}
use Rattle.ansi_html.specs.Css.{underline_css}
use Rattle.ansi_html.specs.Classes.{underline_word}

pub drawn-word : (underline : Underline) → length (underline_word underline) ≢ 0
    → codes "text-decoration-style:" ++ (underline_word underline ++ codes ";") ≡ underline_css underline
drawn-word Off some = absurd (some refl)
drawn-word Single some = absurd (some refl)
drawn-word Double some = refl
drawn-word Curly some = refl
drawn-word Dotted some = refl
drawn-word Dashed some = refl
