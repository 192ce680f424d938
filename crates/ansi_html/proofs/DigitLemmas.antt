-- The digits of colours: a digit at its place, and named colours, which are read as they are.
use Rattle.std.proofs.Common.{◌≡◌, ◌<◌, ◌+◌, ℕ, [], false, true, refl, codes, eqb, slice_index_or, nat_lt}
use Rattle.std.specs.Prelude.{if◌then◌else◌}
use Rattle.std.proofs.lemmas.Bool.{agree_below_at, eqb-true}
use Rattle.ansi_style.specs.declared.style.Hue.{Hue}
use Rattle.ansi_style.specs.declared.style.Hue.TheVariants.{Black, Red, Green, Yellow, Blue, Magenta, Cyan, White}
use Rattle.ansi_style.specs.declared.style.Color.TheVariants.{Named, Bright}
use Rattle.ansi_style.specs.Style.{hue_number}
use Rattle.ansi_html.specs.declared.digits.TheConstants.{NAMED, BRIGHT}
use Rattle.ansi_html.specs.Contrast.{linear, luminance, light_from, dark_from}
use Rattle.ansi_html.specs.Palette.{shades_of}
use Rattle.ansi_html.specs.Css.{light_text, dark_text}
use Rattle.ansi_html.specs.Tags.{digits}

pub digit_at : (d : ℕ) → d < 16 → slice_index_or {A = ℕ} (codes "0123456789abcdef") d 0 ≡ (if nat_lt d 10 then 0x30 + d else 0x57 + d)
digit_at d small =
    eqb-true _ _ (agree_below_at (λ n. eqb (slice_index_or {A = ℕ} (codes "0123456789abcdef") n 0) (if nat_lt n 10 then 0x30 + n else 0x57 + n)) (λ _. true) 16 d refl small)

-- the row of a hue has the digits of its shades, each of which is read on its page
pub named-light : (hue : Hue) → slice_index_or (slice_index_or NAMED (hue_number hue) []) 0 [] ≡ digits (light_text false (shades_of (Named hue)))
unfolding linear luminance light_from dark_from shades_of
named-light Black = refl
named-light Red = refl
named-light Green = refl
named-light Yellow = refl
named-light Blue = refl
named-light Magenta = refl
named-light Cyan = refl
named-light White = refl

pub named-dark : (hue : Hue) → slice_index_or (slice_index_or NAMED (hue_number hue) []) 1 [] ≡ digits (dark_text false (shades_of (Named hue)))
unfolding linear luminance light_from dark_from shades_of
named-dark Black = refl
named-dark Red = refl
named-dark Green = refl
named-dark Yellow = refl
named-dark Blue = refl
named-dark Magenta = refl
named-dark Cyan = refl
named-dark White = refl

pub bright-light : (hue : Hue) → slice_index_or (slice_index_or BRIGHT (hue_number hue) []) 0 [] ≡ digits (light_text false (shades_of (Bright hue)))
unfolding linear luminance light_from dark_from shades_of
bright-light Black = refl
bright-light Red = refl
bright-light Green = refl
bright-light Yellow = refl
bright-light Blue = refl
bright-light Magenta = refl
bright-light Cyan = refl
bright-light White = refl

pub bright-dark : (hue : Hue) → slice_index_or (slice_index_or BRIGHT (hue_number hue) []) 1 [] ≡ digits (dark_text false (shades_of (Bright hue)))
unfolding linear luminance light_from dark_from shades_of
bright-dark Black = refl
bright-dark Red = refl
bright-dark Green = refl
bright-dark Yellow = refl
bright-dark Blue = refl
bright-dark Magenta = refl
bright-dark Cyan = refl
bright-dark White = refl
