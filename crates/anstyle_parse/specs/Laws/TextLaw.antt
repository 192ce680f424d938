-- The law of the Debug text: what a parser hands out, written and read again, is the same.
use Rattle.std.specs.Prelude.{◌≡◌, ℕ, ◌-◌, ◌<◌, ◌≤◌, false, List, [], ◌∷◌, ◌++◌, length, take}
use Rattle.std.specs.List.{AllByRecursion, concat}
use Rattle.anstyle_parse.specs.Stream.Bytes.{escape_byte}
use Rattle.anstyle_parse.specs.Stream.Arguments.{max_fields}
use Rattle.anstyle_parse.specs.Stream.Call.{Call, hook, csi_dispatch}
use Rattle.anstyle_parse.specs.Stream.Calls.{AreCalls}
use Rattle.anstyle_parse.specs.Laws.Lawful.{IsGroup}
use Rattle.anstyle_parse.specs.Laws.DebugText.{debug_text}

-- The groups that a call can have: at least one, each with at least one field; at most 32
-- fields in all, none above 65535.
pub record AreSent (groups : List (List ℕ)) : Type 0 where
  pub each : AllByRecursion IsGroup groups
  pub some_group : 0 < length groups
  pub fields_fit : length (concat groups) ≤ max_fields

-- the call hands these groups to the performer
abbrev pub HandsOut : Call → List (List ℕ) → Type 0
HandsOut (hook groups intermediates ignore final) handed = handed ≡ groups
HandsOut (csi_dispatch groups intermediates ignore final) handed = handed ≡ groups
HandsOut _ handed = ⊥

-- the text without its last byte
abbrev pub without_last : List ℕ → List ℕ
without_last text = take (length text - 1) text

-- 1B, the Debug text with its last byte replaced by 6D
abbrev pub as_sequence : List (List ℕ) → List ℕ
as_sequence groups = escape_byte ∷ (without_last (debug_text groups) ++ 0x6D ∷ [])

-- the calls of that are one: a csi_dispatch of these groups, with no intermediates
abbrev pub IsReadBack : List (List ℕ) → Type 0
IsReadBack groups = AreCalls (as_sequence groups) (csi_dispatch groups [] false 0x6D ∷ [])
