-- The canonical text of calls: bytes from which a parser makes these calls again.
use Rattle.std.specs.Prelude.{ℕ, Bool, true, false, ◌&&◌, not, nat_lt, List, [], ◌∷◌, ◌++◌, length, encode_utf8, if◌then◌else◌}
use Rattle.std.specs.List.{join_with_byte, flat_map}
use Rattle.anstyle_parse.specs.Stream.Bytes.{is_marker, semicolon, bell, string_terminator, escape_byte}
use Rattle.anstyle_parse.specs.Stream.Arguments.{after_marker, max_collected}
use Rattle.anstyle_parse.specs.Stream.Groups.{groups_text}
use Rattle.anstyle_parse.specs.Stream.Call.{Call, print, execute, hook, put, unhook, osc_dispatch, csi_dispatch, esc_dispatch}

-- the marker at the head of the list, if one stands there
abbrev pub leading_marker : List ℕ → List ℕ
leading_marker [] = []
leading_marker (b ∷ bytes) = if is_marker b then b ∷ [] else []

-- whether the list has as many intermediates, a marker included, as a header shows
unfoldable pub shows_no_more_intermediates : List ℕ → Bool
shows_no_more_intermediates intermediates = not (nat_lt (length intermediates) max_collected)

-- what makes a header one that has more than it shows: one more field, or, where as many
-- intermediates are shown as can be, one more of these
abbrev pub one_more_field : List ℕ → Bool → List ℕ
one_more_field intermediates ignore =
    if ignore && not (shows_no_more_intermediates intermediates) then semicolon ∷ [] else []

abbrev pub one_more_intermediate : List ℕ → Bool → List ℕ
one_more_intermediate intermediates ignore =
    if ignore && shows_no_more_intermediates intermediates then 0x20 ∷ [] else []

-- The header of a control sequence or a device control string: the marker, the parameter
-- bytes, the intermediates.
unfoldable pub header_text : List (List ℕ) → List ℕ → Bool → List ℕ
header_text groups intermediates ignore =
    leading_marker intermediates ++ ((groups_text groups ++ one_more_field intermediates ignore)
    ++ (after_marker intermediates ++ one_more_intermediate intermediates ignore))

-- the intermediates of an escape sequence
unfoldable pub escape_text : List ℕ → Bool → List ℕ
escape_text intermediates ignore = intermediates ++ (if ignore then 0x20 ∷ [] else [])

-- The end of an operating system command: BEL; or else ESC X and ST, a string that makes no
-- call, whose ESC breaks the command off.
abbrev pub command_end : Bool → List ℕ
command_end true = bell ∷ []
command_end false = escape_byte ∷ 0x58 ∷ string_terminator ∷ []

-- the canonical text of one call
abbrev pub call_text : Call → List ℕ
call_text (print character) = encode_utf8 character
call_text (execute byte) = byte ∷ []
call_text (hook groups intermediates ignore final) =
    escape_byte ∷ 0x50 ∷ (header_text groups intermediates ignore ++ final ∷ [])
call_text (put byte) = byte ∷ []
call_text unhook = string_terminator ∷ []
call_text (osc_dispatch parts bell_terminated) =
    escape_byte ∷ 0x5D ∷ (join_with_byte semicolon parts ++ command_end bell_terminated)
call_text (csi_dispatch groups intermediates ignore final) =
    escape_byte ∷ 0x5B ∷ (header_text groups intermediates ignore ++ final ∷ [])
call_text (esc_dispatch intermediates ignore final) = escape_byte ∷ (escape_text intermediates ignore ++ final ∷ [])

-- the canonical text of a list of calls: their texts, joined
abbrev pub canon : List Call → List ℕ
canon calls = flat_map call_text calls
