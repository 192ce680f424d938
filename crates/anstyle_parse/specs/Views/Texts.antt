-- What a text that is handed on at once leads to.
use Rattle.std.specs.Prelude.{◌≡◌, ℕ, ◌<◌, ◌⊎◌, Bool, not, ◌||◌, List, [], ◌∷◌, ◌++◌, length, ⊤, IsTrue}
use Rattle.std.specs.Str.{encode_utf8_all}
use Rattle.anstyle_parse.specs.declared.accumulator.Utf8Parser.{Utf8Parser}
use Rattle.anstyle_parse.specs.declared.parser.Parser.{Parser}
use Rattle.anstyle_parse.specs.declared.state.definitions.State.TheVariants.{Ground}
use Rattle.anstyle_parse.specs.Stream.Bytes.{is_within}
use Rattle.anstyle_parse.specs.Stream.Call.{Call}
use Rattle.anstyle_parse.specs.Stream.Calls.{Continues}
use Rattle.anstyle_parse.specs.Stream.Items.{EachIs}
use Rattle.anstyle_parse.specs.Stream.Texts.{is_layout, layout_calls, HasReceivedTexts}
use Rattle.anstyle_parse.specs.Laws.Lawful.{is_character}
use Rattle.anstyle_parse.specs.Machine.Step.{machine_after, machine_calls}
use Rattle.anstyle_parse.specs.Views.Accumulator.{front_of, parser_after}
use Rattle.anstyle_parse.specs.Views.Parser.{machine_of, calls_made, IsAfter}
use Rattle.anstyle_parse.specs.Views.Stage.{Stage}

-- a character of a text that is handed on: one that can be printed, or a layout control
unfoldable pub is_text_character : ℕ → Bool
is_text_character c = is_character c || is_layout c

-- a byte that is such a character alone
abbrev pub is_text_byte : ℕ → Bool
is_text_byte b = is_within 0x20 0x7F b || is_layout b

-- the bytes begin with whole characters of a text, and these bytes are left
abbrev pub BeginWithText : List ℕ → (left : List ℕ) → Type 0
BeginWithText bytes left =
    (characters : List ℕ) × EachIs is_text_character characters × (bytes ≡ encode_utf8_all characters ++ left)

-- in the ground state, and no character is begun
abbrev pub AtText : Parser Utf8Parser → Type 0
AtText parser = (parser.state ≡ Ground) × (front_of parser.accumulator ≡ [])

-- the text stands at the front of the bytes, where it is printed with its layout, and these are left
pub record IsTextAt (parser : Parser Utf8Parser) (bytes text left : List ℕ) : Type 0 where
  pub at : AtText parser
  pub some : length left < length bytes
  pub characters : List ℕ
  pub printed : EachIs is_text_character characters
  pub encoded : text ≡ encode_utf8_all characters
  pub joined : bytes ≡ text ++ left

-- The performer has received the calls of such a text at the front, and what comes after it is left; or nothing is
-- done.
abbrev pub TakesText : {P : Type 0} → (P → List Call → P → Type 0) → Parser Utf8Parser
    → P → List ℕ → P → List ℕ → Type 0
TakesText receives parser before bytes after left =
    ((after ≡ before) × (left ≡ bytes))
    ⊎ ((text : List ℕ) × IsTextAt parser bytes text left × receives before (layout_calls text) after)

-- Going on from here with what is left is going from the start with all bytes, and what calls
-- are made on the way the performer has received.
pub record LeadsByTextTo {P : Type 0} (receives : P → List Call → P → Type 0)
    (old new : Stage Utf8Parser P) : Type 0 where
  pub machine : machine_after parser_after new.left (machine_of new.parser)
      ≡ machine_after parser_after old.left (machine_of old.parser)
  pub made : List Call
  pub joined : machine_calls parser_after old.left (machine_of old.parser)
      ≡ made ++ machine_calls parser_after new.left (machine_of new.parser)
  pub received : receives old.performer made new.performer

-- Where the parser stood after the bytes before, it stands after these too.
abbrev pub StandsOn : Parser Utf8Parser → List ℕ → Parser Utf8Parser → Type 0
StandsOn old bytes new = (before : List ℕ) → IsAfter front_of old before → IsAfter front_of new (before ++ bytes)

-- A performer that has received exactly the calls of the bytes before has received exactly those of all.
abbrev pub ReceivesOn : {P : Type 0} → (P → List Call → P → Type 0) → Parser Utf8Parser → P → List ℕ → P → Type 0
ReceivesOn {P} receives parser performer bytes performer_after =
    (first : P) (before : List ℕ) → IsAfter front_of parser before
    → HasReceivedTexts receives first before performer
    → HasReceivedTexts receives first (before ++ bytes) performer_after

-- The calls that the parser makes of these bytes continue those of the bytes before.
abbrev pub CallsGoOn : Parser Utf8Parser → List ℕ → Type 0
CallsGoOn parser bytes = (before : List ℕ) → IsAfter front_of parser before
    → Continues before bytes (calls_made parser_after parser bytes)

-- a layout control comes first, or nothing comes
abbrev pub AreAtLayout : List ℕ → Type 0
AreAtLayout [] = ⊤
AreAtLayout (b ∷ bytes) = IsTrue (is_layout b)

-- The bytes that are left begin at the first layout control.
pub record StopsAtLayout (bytes left : List ℕ) : Type 0 where
  pub passed : List ℕ
  pub joined : bytes ≡ passed ++ left
  pub before : EachIs (λ b. not (is_layout b)) passed
  pub at : AreAtLayout left
