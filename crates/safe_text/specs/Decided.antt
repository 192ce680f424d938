-- What is written of characters while more may come, and what waits for it.
use Rattle.std.specs.Str.{encode_utf8_all}
use Rattle.std.specs.Prelude.{ℕ, Bool, true, ◌&&◌, ◌||◌, ◌==◌, not, List, [], ◌∷◌, ◌++◌, if◌then◌else◌}
use Rattle.anstyle_parse.specs.Stream.Call.{Call}
use Rattle.safe_text.specs.Classes.{is_joiner}
use Rattle.safe_text.specs.Safe.{characters, written, last_written, safe_from}

-- a character that waits for the next one: a carriage return, `<` or a joiner
abbrev pub waits : ℕ → Bool
waits c = c == 0x0D || c == 0x3C || is_joiner c

-- Whether it is decided how a character is written, by what has come after it: `<` waits after `U` too.
unfoldable pub is_decided : ℕ → (after : List ℕ) → Bool
is_decided c [] = not (waits c)
is_decided c (u ∷ []) = not (c == 0x3C && u == 0x55)
is_decided c (u ∷ v ∷ after) = true

-- what is written of the characters that are decided; those that wait; and what is written last
abbrev pub decided_from : ℕ → List ℕ → List ℕ
decided_from before [] = []
decided_from before (c ∷ cs) =
    if is_decided c cs then written before c cs ++ decided_from (last_written before c cs) cs else []

abbrev pub waiting : List ℕ → List ℕ
waiting [] = []
waiting (c ∷ cs) = if is_decided c cs then waiting cs else c ∷ cs

abbrev pub last_from : ℕ → List ℕ → ℕ
last_from before [] = before
last_from before (c ∷ cs) = if is_decided c cs then last_from (last_written before c cs) cs else before

-- what is written of those that wait, where no more comes
abbrev pub undecided_from : ℕ → List ℕ → List ℕ
undecided_from before cs = safe_from (last_from before cs) (waiting cs)

-- The two parts of the safe text of calls: `whole` of `laws::whole` joins them.
abbrev pub decided : List Call → List ℕ
decided calls = encode_utf8_all (decided_from 0 (characters calls))

abbrev pub undecided : List Call → List ℕ
undecided calls = encode_utf8_all (undecided_from 0 (characters calls))

-- what is written of characters that are decided, as others come after them; and what is written last
abbrev pub written_before : ℕ → List ℕ → (after : List ℕ) → List ℕ
written_before before [] after = []
written_before before (c ∷ cs) after =
    written before c (cs ++ after) ++ written_before (last_written before c (cs ++ after)) cs after

abbrev pub last_before : ℕ → List ℕ → (after : List ℕ) → ℕ
last_before before [] after = before
last_before before (c ∷ cs) after = last_before (last_written before c (cs ++ after)) cs after
