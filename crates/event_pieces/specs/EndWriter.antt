-- What a writer of ends has written.
use Rattle.std.specs.Prelude.{◌≡◌, ℕ, ◌==◌, ◌&&◌, nat_le, Bool, false, List, [], ◌∷◌, ◌++◌, ◌↔◌, ◌<◌, ◌≤◌, length, take, map, min, get_or, if◌then◌else◌}
use Rattle.anstyle_parse.specs.declared.accumulator.Utf8Parser.{Utf8Parser}
use Rattle.anstyle_parse.specs.Stream.Call.{Call, unhook}
use Rattle.anstyle_parse.specs.Machine.Step.{Machine, machine_calls}
use Rattle.anstyle_parse.specs.Views.Accumulator.{parser_after}
use Rattle.event_pieces.specs.declared.end_writer.EndWriter.{EndWriter}
use Rattle.event_pieces.specs.Event.{text_kind, kind_of}
use Rattle.event_pieces.specs.Writer.{with_items}

-- a call, and how many bytes were given with the one that led to it
abbrev pub Placed : Type 0
Placed = Call × ℕ

abbrev pub is_print : Call → Bool
is_print call = kind_of call == text_kind

-- whether a call and the first of those after it are characters of one text
abbrev pub goes_on : Placed → List Placed → Bool
goes_on placed [] = false
goes_on placed (next ∷ rest) = is_print placed.0 && is_print next.0

-- The ends of the records of calls: that of each with which no text goes on.
abbrev pub ends_of : List Placed → List ℕ
ends_of [] = []
ends_of (placed ∷ rest) = if goes_on placed rest then ends_of rest else placed.1 ∷ ends_of rest

-- whether the last call is a character
abbrev pub is_in_text : List Placed → Bool
is_in_text [] = false
is_in_text (placed ∷ []) = is_print placed.0
is_in_text (placed ∷ next ∷ rest) = is_in_text (next ∷ rest)

-- The writer has written the ends of these calls over these places, as far as there are places.
pub record HasEnds (calls : List Placed) (places : List ℕ) (writer : EndWriter) : Type 0 where
  pub written : writer.written ≡ min (length places) (length (ends_of calls))
  pub ends : writer.ends.now ≡ with_items 0 (take (length places) (ends_of calls)) places
  pub text : writer.is_in_text ≡ (is_in_text calls && nat_le (length (ends_of calls)) (length places))

-- One call more is noted.
pub record Notes (call : Call) (old new : EndWriter) : Type 0 where
  pub same_reference : new.ends.ghost_name ≡ old.ends.ghost_name
  pub same_given : new.given ≡ old.given
  pub noted : (calls : List Placed) (places : List ℕ) → HasEnds calls places old
      → HasEnds (calls ++ (call, old.given) ∷ []) places new

-- The bytes were given to a parser, and each of its calls is noted with the place after the byte that led to it.
pub record Gives (machine : Machine Utf8Parser) (bytes : List ℕ) (old new : EndWriter) : Type 0 where
  pub calls : List Placed
  pub made : map (λ placed. placed.0) calls ≡ machine_calls parser_after bytes machine
  pub placed : (call count : ℕ) → call < length calls → count ≤ length bytes
      → ((get_or calls call (unhook, 0)).1 ≤ count ↔ call < length (machine_calls parser_after (take count bytes) machine))
  pub noted : (places : List ℕ) → HasEnds [] places old → HasEnds calls places new
