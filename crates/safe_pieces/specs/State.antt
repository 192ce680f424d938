-- What a state of a stream and its safe text stands for.
use Rattle.std.specs.Prelude.{◌≡◌, ℕ, ◌==◌, ◌&&◌, ◌||◌, nat_lt, nat_le, List, [], ◌∷◌, if◌then◌else◌}
use Rattle.anstyle_parse.specs.Stream.Call.{Call}
use Rattle.anstyle_parse.specs.Stream.Calls.{AreCalls}
use Rattle.anstyle_parse.specs.Machine.AsRead.{as_read}
use Rattle.stream_state.specs.Log.{StandsForLog}
use Rattle.ansi_style.specs.declared.bytes.ColorBytes.{ColorBytes}
use Rattle.ansi_style.specs.declared.bytes.StyleBytes.{StyleBytes}
use Rattle.ansi_style.specs.Bytes.{style_of}
use Rattle.safe_text.specs.declared.held.Held.{Held}
use Rattle.safe_text.specs.declared.held.Held.TheVariants.{Nothing, Return, Less, LessU, Space, NonJoiner, Joiner, TextSelector, EmojiSelector}
use Rattle.safe_text.specs.Held.{held_characters}
use Rattle.safe_text.specs.Decided.{last_from, waiting}
use Rattle.safe_text.specs.Marks.{Hiding, nothing_hidden, marked_from, hiding_from}
use Rattle.safe_pieces.specs.declared.state.SafeState.{SafeState}

-- a number that is none of a character counts for none: 0
abbrev pub character_numbered : ℕ → ℕ
character_numbered n = if nat_lt n 0xD800 || nat_le 0xE000 n && nat_lt n 0x110000 then n else 0

-- any other number is nothing
abbrev pub held_numbered : ℕ → Held
held_numbered number =
    if number == 1 then Return
    else if number == 2 then Less
    else if number == 3 then LessU
    else if number == 4 then Space
    else if number == 5 then NonJoiner
    else if number == 6 then Joiner
    else if number == 7 then TextSelector
    else if number == 8 then EmojiSelector
    else Nothing

-- the character that is written last, and those that wait
abbrev pub before_in : SafeState → ℕ
before_in state = character_numbered state.before

abbrev pub held_in : SafeState → List ℕ
held_in state = held_characters (held_numbered state.held)

-- the style of the text that comes next, and whether a run of hidden text is open: any number but 1 says no
abbrev pub hiding_in : SafeState → Hiding
hiding_in state = record { style = style_of state.style; is_open = state.is_open == 1 }

-- The state stands for the bytes before: its stream does, and its safe text, with marks where hidden text begins and
-- ends, stands where it does after the calls of what is read of them.
pub record StandsFor (state : SafeState) (before : List ℕ) : Type 0 where
  pub stream : StandsForLog state.stream before
  pub last : (calls : List Call) → AreCalls (as_read before) calls
      → before_in state ≡ last_from 0 (marked_from nothing_hidden calls)
  pub held : (calls : List Call) → AreCalls (as_read before) calls
      → held_in state ≡ waiting (marked_from nothing_hidden calls)
  pub hiding : (calls : List Call) → AreCalls (as_read before) calls
      → hiding_in state ≡ hiding_from nothing_hidden calls

-- the style whose bytes are zero
abbrev pub zero_color : ColorBytes
zero_color = record { kind = 0; values = 0 ∷ 0 ∷ 0 ∷ [] }

abbrev pub zero_style : StyleBytes
zero_style = record {
  foreground = zero_color;
  background = zero_color;
  underline = 0;
  bold = 0;
  dim = 0;
  italic = 0;
  blink = 0;
  reverse = 0;
  hidden = 0;
  struck_out = 0;
  overlined = 0;
}

-- the numbers of a state are zero (the bytes after a length of 0 may be any)
pub record IsZero (state : SafeState) : Type 0 where
  pub stream : state.stream.length ≡ 0
  pub before : state.before ≡ 0
  pub held : state.held ≡ 0
  pub is_open : state.is_open ≡ 0
  pub style : state.style ≡ zero_style
