-- Keys as kitty's protocol tells them, and what a program reads of a key.
--
-- Source: Kovid Goyal, "Comprehensive keyboard handling in terminals" (sw.kovidgoyal.net/kitty/keyboard-protocol),
-- "Progressive enhancement": what each flag asks for stands there in a section of its own.
use Rattle.std.specs.Prelude.{ℕ, Bool, true, false, ◌&&◌, ◌||◌, not, Option, Some, if◌then◌else◌}
use Rattle.terminal_keys.specs.declared.key.Key.{Key}
use Rattle.terminal_keys.specs.declared.key.Key.TheVariants.{Character, Enter, Tab, Backspace, Keypad}
use Rattle.terminal_keys.specs.declared.key.Pad.TheVariants.{Return, Begin}
use Rattle.terminal_keys.specs.declared.key.Modifiers.{Modifiers}
use Rattle.terminal_keys.specs.declared.key.Event.{Event}
use Rattle.terminal_keys.specs.declared.key.Event.TheVariants.{Press}
use Rattle.terminal_keys.specs.declared.key.Stroke.{Stroke}
use Rattle.terminal_keys.specs.declared.modes.Flags.{Flags}
use Rattle.terminal_keys.specs.declared.modes.KeyModes.{KeyModes}
use Rattle.terminal_keys.specs.declared.text.Sequence.{Sequence}
use Rattle.terminal_keys.specs.declared.text.KeyText.{KeyText}
use Rattle.terminal_keys.specs.declared.text.KeyText.TheVariants.{Nothing, Control}
use Rattle.terminal_keys.specs.Keys.{is_typed, is_key, is_plain, is_release, number_of_event, number_of_modifiers, typed}
use Rattle.terminal_keys.specs.Modes.{is_enhanced}
use Rattle.terminal_keys.specs.Tables.{plain_key, key_code, pad_character}
use Rattle.terminal_keys.specs.Legacy.{legacy}

abbrev pub is_line_key : Key → Bool
is_line_key Enter = true
is_line_key Tab = true
is_line_key Backspace = true
is_line_key key = false

abbrev pub is_character_key : Key → Bool
is_character_key (Character c) = true
is_character_key key = false

-- 1: "all keypad keys are reported as separate keys"
abbrev pub told_key : Key → Flags → Key
told_key key flags = if flags.disambiguates then key else plain_key key

abbrev pub asked_shifted : Key → Option ℕ → Bool → ℕ
asked_shifted (Character c) (Some shifted) asked = if asked && is_typed shifted then shifted else 0
asked_shifted key shifted asked = 0

-- 4: "the shifted key must be present only if shift is also present in the modifiers"
unfoldable pub told_shifted : Key → Stroke → Flags → ℕ
told_shifted key stroke flags = asked_shifted key stroke.shifted (flags.alternates && stroke.modifiers.shift)

unfoldable pub types : Key → Stroke → ℕ
types (Character c) stroke = typed c stroke
types (Keypad Return) stroke = 0
types (Keypad Begin) stroke = 0
types (Keypad pad) stroke = pad_character pad
types key stroke = 0

-- 16, which says nothing without 8
abbrev pub told_text : Key → Stroke → Flags → ℕ
told_text key stroke flags =
    if flags.all && flags.text && is_plain stroke.modifiers && not (is_release stroke.event) then types key stroke else 0

-- "Lock modifiers are not reported for text producing keys" before all are told
abbrev pub told_modifiers : Modifiers → (can_type : Bool) → ℕ
told_modifiers m can_type =
    if can_type then number_of_modifiers (record m { caps_lock = false; num_lock = false }) else number_of_modifiers m

-- 2
abbrev pub told_event : Stroke → Flags → ℕ
told_event stroke flags = if flags.events then number_of_event stroke.event else 1

abbrev pub sequence_of : Key → Stroke → Flags → Sequence
sequence_of key stroke flags = record {
  number = (key_code key).number;
  shifted = told_shifted key stroke flags;
  modifiers = told_modifiers stroke.modifiers (not flags.all && (is_line_key key || is_character_key key));
  event = told_event stroke flags;
  text = told_text key stroke flags;
  last = (key_code key).last;
}

-- "Enter, Tab and Backspace still generate the same bytes as in legacy mode", and so do keys that type a character
abbrev pub is_as_before : Key → Stroke → Bool
is_as_before key stroke =
    (is_character_key key && is_plain stroke.modifiers)
    || (is_line_key key && is_plain stroke.modifiers && not stroke.modifiers.shift)

-- 8: all keys are told. Before, Enter, Tab and Backspace "will not have release events".
abbrev pub enhanced : Stroke → KeyModes → KeyText
enhanced stroke modes =
    if not modes.flags.all && not (is_release stroke.event) && is_as_before (told_key stroke.key modes.flags) stroke
    then legacy stroke.key stroke modes 0
    else if not modes.flags.all && is_release stroke.event && is_line_key (told_key stroke.key modes.flags)
    then Nothing
    else Control (sequence_of (told_key stroke.key modes.flags) stroke modes.flags)

abbrev pub is_press : Event → Bool
is_press Press = true
is_press event = false

abbrev pub is_told_by : Flags → Event → Bool
is_told_by flags event = flags.all || flags.disambiguates || (flags.events && not (is_press event))

-- What a program reads of a key. A key that comes up is told where that is asked for; where any of the protocol is asked
-- for, modifyOtherKeys is not in force.
abbrev pub key_text : Stroke → KeyModes → KeyText
key_text stroke modes =
    if not (is_key stroke.key) || (is_release stroke.event && not modes.flags.events) then Nothing
    else if is_told_by modes.flags stroke.event then enhanced stroke modes
    else legacy stroke.key stroke modes (if is_enhanced modes.flags then 0 else modes.other_keys)
