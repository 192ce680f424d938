-- The records of calls, and what a record says, read with the bytes that it stands for.
use Rattle.std.specs.Prelude.{◌≡◌, false, ◌+◌, ◌*◌, ◌%◌, ◌/◌, ◌<◌, ◌≤◌, ◌==◌, ◌&&◌, ℕ, Bool, not, List, [], ◌∷◌, ◌++◌, length, take, drop, encode_utf8, if◌then◌else◌}
use Rattle.std.specs.List.{AllByRecursion, flat_map, slice_split, join_with_byte}
use Rattle.std.specs.Str.{IsUtf8}
use Rattle.anstyle_parse.specs.Stream.Bytes.{semicolon}
use Rattle.anstyle_parse.specs.Stream.Call.{Call, print, execute, hook, put, unhook, osc_dispatch, csi_dispatch, esc_dispatch}
use Rattle.anstyle_parse.specs.Stream.Texts.{text_calls}
use Rattle.event_pieces.specs.declared.event.Event.{Event}

-- The kinds of records, named as the calls.
abbrev pub text_kind : ℕ
text_kind = 0

abbrev pub execute_kind : ℕ
execute_kind = 1

abbrev pub hook_kind : ℕ
hook_kind = 2

abbrev pub put_kind : ℕ
put_kind = 3

abbrev pub unhook_kind : ℕ
unhook_kind = 4

abbrev pub osc_kind : ℕ
osc_kind = 5

abbrev pub csi_kind : ℕ
csi_kind = 6

abbrev pub esc_kind : ℕ
esc_kind = 7

-- 0 is not, any other number is
abbrev pub is_set : ℕ → Bool
is_set number = not (number == 0)

-- the intermediates that are kept at most
abbrev pub max_intermediates : ℕ
max_intermediates = 2

-- Whether a field has others after it in its group: 1, or 0.
abbrev pub goes_on : List ℕ → ℕ
goes_on [] = 0
goes_on (field ∷ fields) = 1

-- Fields stand in three bytes each: the low byte, the high byte, and whether the group goes on.
abbrev pub group_bytes : List ℕ → List ℕ
group_bytes [] = []
group_bytes (field ∷ fields) = field % 256 ∷ field / 256 ∷ goes_on fields ∷ group_bytes fields

abbrev pub groups_bytes : List (List ℕ) → List ℕ
groups_bytes groups = flat_map group_bytes groups

-- a field put before the first of the groups, or before them as a group of its own
abbrev pub before_groups : (goes_on : Bool) → ℕ → List (List ℕ) → List (List ℕ)
before_groups goes_on field [] = (field ∷ []) ∷ []
before_groups goes_on field (group ∷ groups) =
    if goes_on then (field ∷ group) ∷ groups else (field ∷ []) ∷ group ∷ groups

-- and the groups that such bytes say
abbrev pub groups_in : List ℕ → List (List ℕ)
groups_in (low ∷ high ∷ more ∷ bytes) = before_groups (is_set more) (low + 256 * high) (groups_in bytes)
groups_in _ = []

-- the parts of an operating system command, joined by 3B, of which they have none
abbrev pub parts_in : List ℕ → List (List ℕ)
parts_in bytes = slice_split (λ b. b == semicolon) bytes

-- the calls by a record's kind, its byte, its flag, its intermediates and the bytes that it stands for
abbrev pub calls_by : (kind byte : ℕ) (flag : Bool) (intermediates bytes : List ℕ) → List Call
calls_by kind byte flag intermediates bytes =
    if kind == text_kind then text_calls bytes
    else if kind == execute_kind then execute byte ∷ []
    else if kind == hook_kind then hook (groups_in bytes) intermediates flag byte ∷ []
    else if kind == put_kind then put byte ∷ []
    else if kind == unhook_kind then unhook ∷ []
    else if kind == osc_kind then osc_dispatch (parts_in bytes) flag ∷ []
    else if kind == csi_kind then csi_dispatch (groups_in bytes) intermediates flag byte ∷ []
    else if kind == esc_kind then esc_dispatch intermediates flag byte ∷ []
    else []

abbrev pub intermediates_in : Event → List ℕ
intermediates_in event = take event.intermediate_count event.intermediates

-- the bytes of the room that a record stands for
abbrev pub bytes_in : (room : List ℕ) → Event → List ℕ
bytes_in room event = take event.length (drop event.start room)

-- The calls that a record says, and records say.
abbrev pub read_event : (room : List ℕ) → Event → List Call
read_event room event =
    calls_by event.kind event.byte (is_set event.flag) (intermediates_in event) (bytes_in room event)

abbrev pub read_events : (room : List ℕ) → List Event → List Call
read_events room events = flat_map (read_event room) events

-- A record's bytes are there, those of a text are UTF-8 by themselves and some, and its intermediates few; its
-- kind is one of the eight, and its flag 0 or 1.
pub record IsSound (room : List ℕ) (event : Event) : Type 0 where
  pub within : event.start + event.length ≤ length room
  pub utf8 : event.kind ≡ text_kind → IsUtf8 (bytes_in room event)
  pub some_text : event.kind ≡ text_kind → 0 < event.length
  pub few : event.intermediate_count ≤ max_intermediates
  pub one_of_eight : event.kind ≤ esc_kind
  pub one_or_none : event.flag ≤ 1

-- Records that say these calls, of which each is sound.
pub record Reads (room : List ℕ) (events : List Event) (calls : List Call) : Type 0 where
  pub same : read_events room events ≡ calls
  pub sound : AllByRecursion (IsSound room) events

-- The bytes that a call has in a room: a character in UTF-8, the fields of a header, the parts of a
-- command.
abbrev pub call_bytes : Call → List ℕ
call_bytes (print character) = encode_utf8 character
call_bytes (hook groups intermediates ignore final) = groups_bytes groups
call_bytes (osc_dispatch parts bell_terminated) = join_with_byte semicolon parts
call_bytes (csi_dispatch groups intermediates ignore final) = groups_bytes groups
call_bytes _ = []

abbrev pub calls_bytes : List Call → List ℕ
calls_bytes calls = flat_map call_bytes calls

-- What the record of a call has: its kind,
abbrev pub kind_of : Call → ℕ
kind_of (print character) = text_kind
kind_of (execute byte) = execute_kind
kind_of (hook groups intermediates ignore final) = hook_kind
kind_of (put byte) = put_kind
kind_of unhook = unhook_kind
kind_of (osc_dispatch parts bell_terminated) = osc_kind
kind_of (csi_dispatch groups intermediates ignore final) = csi_kind
kind_of (esc_dispatch intermediates ignore final) = esc_kind

-- its byte: the control, the byte of a string or the final byte, else 0,
abbrev pub byte_of : Call → ℕ
byte_of (execute byte) = byte
byte_of (hook groups intermediates ignore final) = final
byte_of (put byte) = byte
byte_of (csi_dispatch groups intermediates ignore final) = final
byte_of (esc_dispatch intermediates ignore final) = final
byte_of _ = 0

-- its flag: more came than is shown, or BEL ended it; else it is not set,
abbrev pub flag_of : Call → Bool
flag_of (hook groups intermediates ignore final) = ignore
flag_of (osc_dispatch parts bell_terminated) = bell_terminated
flag_of (csi_dispatch groups intermediates ignore final) = ignore
flag_of (esc_dispatch intermediates ignore final) = ignore
flag_of _ = false

-- and its intermediates.
abbrev pub intermediates_of : Call → List ℕ
intermediates_of (hook groups intermediates ignore final) = intermediates
intermediates_of (csi_dispatch groups intermediates ignore final) = intermediates
intermediates_of (esc_dispatch intermediates ignore final) = intermediates
intermediates_of _ = []

-- The record of so many bytes of the room from a place on. A flag is 0 or 1; after the intermediates stands 0,
-- and so it does in the bytes that only fill the record.
abbrev pub record_with : (start size kind byte : ℕ) (flag : Bool) (intermediates : List ℕ) → Event
record_with start size kind byte flag intermediates = record {
  start = start;
  length = size;
  kind = kind;
  byte = byte;
  flag = if flag then 1 else 0;
  intermediate_count = length (take max_intermediates intermediates);
  intermediates = take max_intermediates (intermediates ++ 0 ∷ 0 ∷ []);
  padding = 0 ∷ 0 ∷ [];
}

-- The record of a call whose bytes stand in the room from a place on.
abbrev pub record_of : (start : ℕ) → Call → Event
record_of start call =
    record_with start (length (call_bytes call)) (kind_of call) (byte_of call) (flag_of call) (intermediates_of call)

-- a record that stands for so many bytes of the room instead
abbrev pub with_length : Event → ℕ → Event
with_length event size = record {
  start = event.start;
  length = size;
  kind = event.kind;
  byte = event.byte;
  flag = event.flag;
  intermediate_count = event.intermediate_count;
  intermediates = event.intermediates;
  padding = event.padding;
}

abbrev pub is_text : Event → Bool
is_text event = event.kind == text_kind

-- A record before others. A text and the text after it are one record.
abbrev pub joined : Event → List Event → List Event
joined event [] = event ∷ []
joined event (next ∷ events) =
    if is_text event && is_text next then with_length event (event.length + next.length) ∷ events
    else event ∷ next ∷ events

-- The records of calls whose bytes stand in the room, one after another, from a place on: one for each call, and
-- one for each run of printed characters.
abbrev pub records_of : (start : ℕ) → List Call → List Event
records_of start [] = []
records_of start (call ∷ calls) =
    joined (record_of start call) (records_of (start + length (call_bytes call)) calls)

-- The records and the room are those of the calls, and nothing else; so they say the calls.
pub record AreRecords (room : List ℕ) (events : List Event) (calls : List Call) : Type 0 where
  pub records : events ≡ records_of 0 calls
  pub bytes : room ≡ calls_bytes calls
  pub reads : Reads room events calls
