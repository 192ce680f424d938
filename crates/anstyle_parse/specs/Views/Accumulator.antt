-- What the accumulator of UTF-8 means.
use Rattle.std.specs.Prelude.{◌≡◌, ℕ, List, Option}
use Rattle.anstyle_parse.specs.declared.utf8.Taken.{Taken}
use Rattle.anstyle_parse.specs.declared.utf8.Front.TheVariants.{Empty}
use Rattle.anstyle_parse.specs.declared.accumulator.Utf8Parser.{Utf8Parser}
use Rattle.anstyle_parse.specs.Machine.Decoder.{decoded, character_in}
use Rattle.anstyle_parse.specs.Views.Front.{bytes_of, front_with}

-- the bytes of the character that a Utf8Parser has begun
abbrev pub front_of : Utf8Parser → List ℕ
front_of parser = bytes_of parser.decoder

-- as it begins
abbrev pub IsEmpty : Utf8Parser → Type 0
IsEmpty parser = parser ≡ record { decoder = Empty }

-- the Utf8Parser after a byte, and what `take` answers: the decoder's answer, over its front
abbrev pub parser_after : Utf8Parser → ℕ → Utf8Parser × Taken
parser_after parser b =
    (record { decoder = front_with (decoded (front_of parser) b).0 }, (decoded (front_of parser) b).1)

-- the same, and what `add` answers: the character alone
abbrev pub parser_added : Utf8Parser → ℕ → Utf8Parser × Option ℕ
parser_added parser b = ((parser_after parser b).0, character_in (parser_after parser b).1)
