-- What the decoder of UTF-8 does with one byte, by the front of a character that it holds.
use Rattle.std.specs.Prelude.{ℕ, List, [], ◌∷◌, ◌++◌, nat_lt, if◌then◌else◌, Option, None, Some}
use Rattle.anstyle_parse.specs.declared.utf8.Taken.{Taken}
use Rattle.anstyle_parse.specs.declared.utf8.Taken.TheVariants.{More, Char, Broken}
use Rattle.anstyle_parse.specs.Stream.Characters.{is_well_formed, is_proper_front, is_lead, character_of, replacement}

-- At the start of a character: ASCII is answered at once, a lead byte begins a front, any
-- other byte is no character.
abbrev pub started : ℕ → List ℕ × Taken
started b = if nat_lt b 0x80 then ([], Char b) else if is_lead b then (b ∷ [], More) else ([], Char replacement)

-- Inside one: the byte completes it, goes on with it, or breaks it, and then the next
-- character starts.
abbrev pub continued : List ℕ → List ℕ × Taken
continued bytes =
    if is_well_formed bytes then ([], Char (character_of bytes))
    else if is_proper_front bytes then (bytes, More)
    else ([], Broken replacement)

abbrev pub decoded : List ℕ → ℕ → List ℕ × Taken
decoded [] b = started b
decoded (a ∷ front) b = continued (a ∷ (front ++ b ∷ []))

-- the character of an answer, whether it is whole or stands for one that is broken
abbrev pub character_in : Taken → Option ℕ
character_in More = None
character_in (Char c) = Some c
character_in (Broken c) = Some c
