-- The option by which a program writes what a screen showed.
use Rattle.std.specs.Prelude.{◌≡◌, ℕ, List, [], ◌∷◌, Option, None, Some, Result, Ok, MatchResult}
use Rattle.ansi_screen.specs.declared.size.Size.{Size}
use Rattle.ansi_screen.specs.Size.{IsSaid}
use Rattle.screen_text.specs.declared.option.NoSize.{NoSize}
use Rattle.screen_text.specs.declared.recording.ShownSize.{ShownSize}
use Rattle.screen_text.specs.declared.recording.ShownSize.TheVariants.{Recorded, Fixed}

-- The size of the screen that is asked for, by the text after the option: with no option no screen is; with
-- nothing after it, that which the stream says; and else the one that is said after =, where a text says one.
abbrev pub IsAsked : (behind : Option (List ℕ)) → Result (Option ShownSize) NoSize → Type 0
IsAsked None asked = asked ≡ Ok None
IsAsked (Some []) asked = asked ≡ Ok (Some Recorded)
IsAsked (Some (sign ∷ text)) asked =
    MatchResult asked (λ shown. (sign ≡ 0x3D) × (size : Size) × (shown ≡ Some (Fixed size)) × IsSaid text (Some size))
    (λ error. sign ≡ 0x3D → IsSaid text None)
