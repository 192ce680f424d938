-- The lists of calls that a parser can make.
use Rattle.std.specs.Prelude.{◌≡◌, ℕ, ◌<◌, ◌≤◌, ◌⊎◌, Bool, true, false, ◌||◌, ◌&&◌, not, ◌==◌, List, [], ◌∷◌, length, IsTrue, ⊤}
use Rattle.std.specs.List.{AllByRecursion, concat}
use Rattle.anstyle_parse.specs.Stream.Bytes.{is_within, is_intermediate, is_final, semicolon}
use Rattle.anstyle_parse.specs.Stream.Arguments.{after_marker, is_kept, max_fields, max_field, max_collected, max_osc_bytes, max_osc_parts}
use Rattle.anstyle_parse.specs.Stream.Call.{Call, print, execute, hook, put, unhook, osc_dispatch, csi_dispatch, esc_dispatch}
use Rattle.anstyle_parse.specs.Stream.Items.{EachIs, is_introducer}
use Rattle.anstyle_parse.specs.Stream.Calls.{is_executed, is_put, AreCalls}

-- a character that can be printed: a scalar value from the space on
unfoldable pub is_character : ℕ → Bool
is_character c = is_within 0x20 0xD7FF c || is_within 0xE000 0x10FFFF c

-- a group is not empty, and its fields are capped
abbrev pub IsGroup : List ℕ → Type 0
IsGroup group = (0 < length group) × AllByRecursion (λ n. n ≤ max_field) group

-- The arguments of a control sequence or of a hook: 1 to 32 fields; at most two collected
-- bytes, a marker only as the first; more than is shown only where no more can be shown.
pub record IsHeaderCall (groups : List (List ℕ)) (intermediates : List ℕ) (ignore : Bool) (final : ℕ) : Type 0 where
  pub groups_fit : AllByRecursion IsGroup groups
  pub some_field : 0 < length groups
  pub fields_fit : length (concat groups) ≤ max_fields
  pub collected_fit : length intermediates ≤ max_collected
  pub collected_are : EachIs is_intermediate (after_marker intermediates)
  pub ignores : IsTrue ignore → (length (concat groups) ≡ max_fields) ⊎ (length intermediates ≡ max_collected)
  pub is_finished : IsTrue (is_final final)

-- The arguments of an escape sequence: at most two intermediates; with none the final begins
-- no sequence of another kind.
pub record IsEscapeCall (intermediates : List ℕ) (ignore : Bool) (final : ℕ) : Type 0 where
  pub collected_fit : length intermediates ≤ max_collected
  pub collected_are : EachIs is_intermediate intermediates
  pub ignores : IsTrue ignore → length intermediates ≡ max_collected
  pub is_finished : IsTrue (is_within 0x30 0x7E final)
  pub begins_nothing : intermediates ≡ [] → IsTrue (not (is_introducer final))

-- a byte that is stored in a part
unfoldable pub is_stored : ℕ → Bool
is_stored b = is_kept b && not (b == semicolon)

-- the last of the parts
abbrev pub last_part : List (List ℕ) → List ℕ
last_part [] = []
last_part (part ∷ []) = part
last_part (part ∷ next ∷ parts) = last_part (next ∷ parts)

-- The parts of an operating system command: 1 to 16, of at most 1024 bytes. Where all are
-- used, the last byte stands in the last part.
pub record AreParts (parts : List (List ℕ)) : Type 0 where
  pub some_part : 0 < length parts
  pub parts_fit : length parts ≤ max_osc_parts
  pub bytes_are : AllByRecursion (EachIs is_stored) parts
  pub bytes_fit : length (concat parts) ≤ max_osc_bytes
  pub last_used : length (concat parts) ≡ max_osc_bytes → 0 < length (last_part parts)

-- The calls that can follow, outside or inside a hooked string: put and unhook stand inside
-- only, and all others outside only. The last string may stay open.
abbrev pub AreLawfulFrom : (hooked : Bool) → List Call → Type 0
AreLawfulFrom hooked [] = ⊤
AreLawfulFrom false (print character ∷ calls) = IsTrue (is_character character) × AreLawfulFrom false calls
AreLawfulFrom false (execute byte ∷ calls) = IsTrue (is_executed byte) × AreLawfulFrom false calls
AreLawfulFrom false (hook groups intermediates ignore final ∷ calls) =
    IsHeaderCall groups intermediates ignore final × AreLawfulFrom true calls
AreLawfulFrom false (osc_dispatch parts bell_terminated ∷ calls) = AreParts parts × AreLawfulFrom false calls
AreLawfulFrom false (csi_dispatch groups intermediates ignore final ∷ calls) =
    IsHeaderCall groups intermediates ignore final × AreLawfulFrom false calls
AreLawfulFrom false (esc_dispatch intermediates ignore final ∷ calls) =
    IsEscapeCall intermediates ignore final × AreLawfulFrom false calls
AreLawfulFrom true (put byte ∷ calls) = IsTrue (is_put byte) × AreLawfulFrom true calls
AreLawfulFrom true (unhook ∷ calls) = AreLawfulFrom false calls
AreLawfulFrom hooked (call ∷ calls) = ⊥

-- the lists of calls that a parser can make
abbrev pub AreLawful : List Call → Type 0
AreLawful calls = AreLawfulFrom false calls

-- the lists of calls that some bytes make
abbrev pub AreMade : List Call → Type 0
AreMade calls = (bytes : List ℕ) × AllByRecursion (λ b. b < 256) bytes × AreCalls bytes calls
