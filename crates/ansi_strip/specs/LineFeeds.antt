-- Text in lines that end with a line feed alone, as `dos2unix` makes it.
use Rattle.std.specs.Prelude.{◌≢◌, ℕ, Bool, false, not, ◌&&◌, ◌==◌, List, [], ◌∷◌, ◌++◌, if◌then◌else◌}

-- whether a line feed comes first
abbrev pub begins_with_feed : List ℕ → Bool
begins_with_feed [] = false
begins_with_feed (byte ∷ after) = byte == 0x0A

-- whether a byte goes: a carriage return right before a line feed
abbrev pub goes : ℕ → (after : List ℕ) → Bool
goes byte after = byte == 0x0D && begins_with_feed after

-- the text without each carriage return that stands right before a line feed
abbrev pub without_returns : List ℕ → List ℕ
without_returns [] = []
without_returns (byte ∷ text) = if goes byte text then without_returns text else byte ∷ without_returns text

-- a text that has none of these
abbrev pub HasNone : List ℕ → Type 0
HasNone text = (before after : List ℕ) → text ≢ before ++ 0x0D ∷ 0x0A ∷ after

-- While more may come, a carriage return at the end waits: a line feed may be next.
abbrev pub waiting : List ℕ → List ℕ
waiting [] = []
waiting (byte ∷ []) = if byte == 0x0D then byte ∷ [] else []
waiting (byte ∷ next ∷ text) = waiting (next ∷ text)

-- whether a byte goes or waits
abbrev pub is_back : ℕ → (after : List ℕ) → Bool
is_back byte [] = byte == 0x0D
is_back byte (next ∷ after) = goes byte (next ∷ after)

-- what is left of the text meanwhile: without that one too
abbrev pub decided : List ℕ → List ℕ
decided [] = []
decided (byte ∷ text) = if is_back byte text then decided text else byte ∷ decided text

-- a byte of a line: any but a carriage return
abbrev pub is_of_line : ℕ → Bool
is_of_line byte = not (byte == 0x0D)
