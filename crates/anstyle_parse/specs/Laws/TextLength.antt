-- How much text calls lead to.
use Rattle.std.specs.Prelude.{ℕ, length, encode_utf8}
use Rattle.anstyle_parse.specs.Stream.Call.{Call, print, execute}

-- the bytes of a character that is printed, in UTF-8; one for a control that is executed, and none for all others
abbrev pub text_length : Call → ℕ
text_length (print character) = length (encode_utf8 character)
text_length (execute byte) = 1
text_length call = 0
