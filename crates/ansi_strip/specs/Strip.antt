-- Stripped text: what is left of the calls of a stream.
use Rattle.std.specs.List.{AllByRecursion, flat_map}
use Rattle.std.specs.Prelude.{ℕ, Bool, true, false, ◌||◌, nat_le, List, [], ◌∷◌, IsTrue, IsUtf8, encode_utf8, if◌then◌else◌}
use Rattle.anstyle_parse.specs.Stream.Call.{Call, print, execute}
-- the controls that are left: tab, line feed and carriage return
pub use Rattle.anstyle_parse.specs.Stream.Texts.{is_layout}

-- whether something is left of a call
abbrev pub is_left : Call → Bool
is_left (print character) = true
is_left (execute byte) = is_layout byte
is_left call = false

-- What is left of a call: a printed character in UTF-8, a control that is left, and of all
-- others nothing.
abbrev pub stripped_call : Call → List ℕ
stripped_call (print character) = encode_utf8 character
stripped_call (execute byte) = if is_layout byte then byte ∷ [] else []
stripped_call call = []

-- what is left of the calls, joined
abbrev pub stripped : List Call → List ℕ
stripped calls = flat_map stripped_call calls

-- a byte of clean text: no C0 control but those that are left
unfoldable pub is_clean : ℕ → Bool
is_clean byte = nat_le 0x20 byte || is_layout byte

-- Clean text: well-formed UTF-8 (std's `IsUtf8`, as of each `str`) of such bytes. ESC is a C0 control.
abbrev pub IsClean : List ℕ → Type 0
IsClean text = IsUtf8 text × AllByRecursion (λ byte. IsTrue (is_clean byte)) text
