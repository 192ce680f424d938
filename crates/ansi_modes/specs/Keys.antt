-- How keys are told beyond the modes: xterm's modifyOtherKeys, and the flags of kitty's protocol.
--
-- Sources: xterm's ctlseqs, "Functions using CSI", XTMODKEYS; its manual, modifyOtherKeys; Kovid Goyal, "Comprehensive
-- keyboard handling in terminals" (sw.kovidgoyal.net/kitty/keyboard-protocol), "Progressive enhancement". That the stack
-- holds the flags in force, and has eight places: kitty's screen.c, screen_push_key_encoding_flags.
use Rattle.std.specs.Prelude.{ℕ, ◌-◌, ◌%◌, max, ◌==◌, nat_le, List, [], ◌∷◌, ◌++◌, bit_and, bit_or, length, take, drop, slice_index_or, if◌then◌else◌}

-- modifyOtherKeys: 1 and 2 ask for keys with modifiers; any other number asks for none
unfoldable pub other_keys : ℕ → ℕ
other_keys n = if nat_le n 2 then n else 0

-- the flags that are known: the first five
abbrev pub known_flags : ℕ → ℕ
known_flags n = n % 32

abbrev pub max_stacked : ℕ
max_stacked = 8

-- the flags in force: those on top of the stack, or none
abbrev pub flags_of : List ℕ → ℕ
flags_of stack = slice_index_or stack (length stack - 1) 0

-- CSI = FLAGS ; HOW u: 1, or no number, sets them, 2 adds them, 3 takes them away
unfoldable pub changed_flags : (how flags old : ℕ) → ℕ
changed_flags how flags old =
    if nat_le how 1 then known_flags flags
    else if how == 2 then bit_or old (known_flags flags)
    else if how == 3 then bit_and old (31 - known_flags flags)
    else old

abbrev pub with_flags : (how flags : ℕ) → List ℕ → List ℕ
with_flags how flags stack = take (length stack - 1) stack ++ changed_flags how flags (flags_of stack) ∷ []

-- CSI > FLAGS u: they come on top; where the stack is full the oldest go
abbrev pub pushed_flags : ℕ → List ℕ → List ℕ
pushed_flags flags stack = (if length stack == max_stacked then drop 1 stack else stack) ++ known_flags flags ∷ []

-- CSI < COUNT u: so many leave the stack, or one where no number is given
abbrev pub popped_flags : ℕ → List ℕ → List ℕ
popped_flags n stack = take (length stack - max 1 n) stack
