-- The characters that wait for the next one.
use Rattle.std.specs.Prelude.{ℕ, Bool, false, ◌==◌, List, [], ◌∷◌}
use Rattle.safe_text.specs.declared.held.Held.{Held}
use Rattle.safe_text.specs.declared.held.Held.TheVariants.{Nothing, Return, Less, LessU, Space, NonJoiner, Joiner, TextSelector, EmojiSelector}

abbrev pub held_characters : Held → List ℕ
held_characters Nothing = []
held_characters Return = 0x0D ∷ []
held_characters Less = 0x3C ∷ []
held_characters LessU = 0x3C ∷ 0x55 ∷ []
held_characters Space = 0x200B ∷ []
held_characters NonJoiner = 0x200C ∷ []
held_characters Joiner = 0x200D ∷ []
held_characters TextSelector = 0xFE0E ∷ []
held_characters EmojiSelector = 0xFE0F ∷ []

-- whether they still wait after this character: `<` does after `U`
abbrev pub goes_on : Held → ℕ → Bool
goes_on Less c = c == 0x55
goes_on _ c = false
