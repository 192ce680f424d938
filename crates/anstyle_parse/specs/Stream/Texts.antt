-- Texts: characters that are printed one after another, as one list of bytes; and texts with the
-- controls that lay them out.
use Rattle.std.specs.Prelude.{ℕ, Bool, ◌||◌, ◌==◌, List, [], ◌∷◌, ◌++◌, map, if◌then◌else◌}
use Rattle.std.specs.Str.{chars}
use Rattle.anstyle_parse.specs.Stream.Call.{Call, print, execute}
use Rattle.anstyle_parse.specs.Stream.Calls.{AreCalls}

-- the calls of a text in UTF-8: each of its characters is printed, in order
abbrev pub text_calls : List ℕ → List Call
text_calls text = map print (chars text)

-- the controls that lay text out: tab, line feed and carriage return (HT, LF and CR of ECMA-48)
abbrev pub is_layout : ℕ → Bool
is_layout byte = byte == 0x09 || byte == 0x0A || byte == 0x0D

-- the call of a character of a text with layout: such a control is executed, any other is printed
abbrev pub layout_call : ℕ → Call
layout_call character = if is_layout character then execute character else print character

-- the calls of a text with layout, in UTF-8: those of its characters, in order
abbrev pub layout_calls : List ℕ → List Call
layout_calls text = map layout_call (chars text)

-- What lists of calls do to a performer agrees with what each call means to it.
pub record FollowsCalls {P : Type 0} (means : P → Call → P → Type 0) (receives : P → List Call → P → Type 0)
    : Type 0 where
  -- no call leaves it as it is
  pub none : (performer : P) → receives performer [] performer
  -- one does what it means
  pub one : (old : P) (call : Call) (new : P) → means old call new → receives old (call ∷ []) new
  -- a list and then another do what both do, joined
  pub more : (old middle new : P) (calls more : List Call) → receives old calls middle → receives middle more new
      → receives old (calls ++ more) new

-- The performer has received exactly the calls of the bytes, by what lists of calls do to it.
abbrev pub HasReceivedTexts : {P : Type 0} → (P → List Call → P → Type 0) → (first : P) → List ℕ → P → Type 0
HasReceivedTexts receives first bytes performer =
    (calls : List Call) × AreCalls bytes calls × receives first calls performer
