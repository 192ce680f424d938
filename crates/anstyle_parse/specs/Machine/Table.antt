-- The transition table, row by row: for which bytes of a state there is which answer.
-- It is Paul Williams' (vt100.net/emu/dec_ansi_parser), with these differences: UTF-8
-- begins in Ground, 07 ends an operating system command, 8-bit codes begin no sequence,
-- 3A separates fields. docs/DIFFERENCES.md names each cell that differs.
use Rattle.std.specs.Prelude.{ℕ, List, [], ◌∷◌, if◌then◌else◌, ◌++◌}
use Rattle.std.specs.List.{list_any}
use Rattle.anstyle_parse.specs.declared.state.definitions.State.{State}
use Rattle.anstyle_parse.specs.declared.state.definitions.State.TheVariants.{Anywhere, CsiEntry, CsiIgnore, CsiIntermediate, CsiParam, DcsEntry, DcsIgnore, DcsIntermediate, DcsParam, DcsPassthrough, Escape, EscapeIntermediate, Ground, OscString, SosPmApcString, Utf8}
use Rattle.anstyle_parse.specs.declared.state.definitions.Action.{Action}
use Rattle.anstyle_parse.specs.declared.state.definitions.Action.TheVariants.{Nop, Collect, CsiDispatch, EscDispatch, Execute, Ignore, OscPut, Param, Print, Put, BeginUtf8}
use Rattle.anstyle_parse.specs.Stream.Bytes.{is_within, Span, ◌‥◌}

-- one byte
abbrev pub at : ℕ → Span
at b = b ‥ b

-- the new state and the action. The new state Anywhere keeps the state.
pub record Change : Type 0 where
  pub state : State
  pub action : Action

-- a line of the table
pub record Entry : Type 0 where
  pub bytes : List Span
  pub change : Change

infix 50 ◌⇒◌
infix 55 ◌by◌
abbrev pub ◌⇒◌ : List Span → Change → Entry
bytes ⇒ change = record { bytes = bytes; change = change }

abbrev pub ◌by◌ : State → Action → Change
state by action = record { state = state; action = action }

-- C0 without 18, 1A and 1B
abbrev pub controls : List Span
controls = 0x00 ‥ 0x17 ∷ at 0x19 ∷ 0x1C ‥ 0x1F ∷ []

abbrev pub controls_and : Span → List Span
controls_and more = controls ++ more ∷ []

abbrev pub only : Span → List Span
only span = span ∷ []

abbrev pub row : State → List Entry
row Anywhere =
    (at 0x18 ∷ at 0x1A ∷ [] ⇒ Ground by Execute) ∷
    (only (at 0x1B) ⇒ Escape by Nop) ∷ []
row Ground =
    (controls ⇒ Anywhere by Execute) ∷
    (only (0x20 ‥ 0x7F) ⇒ Anywhere by Print) ∷
    (0x80 ‥ 0x8F ∷ 0x91 ‥ 0x9A ∷ at 0x9C ∷ [] ⇒ Anywhere by Execute) ∷
    (only (0xC2 ‥ 0xF4) ⇒ Utf8 by BeginUtf8) ∷ []
row Escape =
    (controls ⇒ Anywhere by Execute) ∷
    (only (at 0x7F) ⇒ Anywhere by Ignore) ∷
    (only (0x20 ‥ 0x2F) ⇒ EscapeIntermediate by Collect) ∷
    (only (at 0x50) ⇒ DcsEntry by Nop) ∷
    (at 0x58 ∷ at 0x5E ∷ at 0x5F ∷ [] ⇒ SosPmApcString by Nop) ∷
    (only (at 0x5B) ⇒ CsiEntry by Nop) ∷
    (only (at 0x5D) ⇒ OscString by Nop) ∷
    (0x30 ‥ 0x4F ∷ 0x51 ‥ 0x57 ∷ at 0x59 ∷ at 0x5A ∷ at 0x5C ∷ 0x60 ‥ 0x7E ∷ [] ⇒ Ground by EscDispatch) ∷ []
row EscapeIntermediate =
    (controls ⇒ Anywhere by Execute) ∷
    (only (at 0x7F) ⇒ Anywhere by Ignore) ∷
    (only (0x20 ‥ 0x2F) ⇒ Anywhere by Collect) ∷
    (only (0x30 ‥ 0x7E) ⇒ Ground by EscDispatch) ∷ []
row CsiEntry =
    (controls ⇒ Anywhere by Execute) ∷
    (only (at 0x7F) ⇒ Anywhere by Ignore) ∷
    (only (0x20 ‥ 0x2F) ⇒ CsiIntermediate by Collect) ∷
    (only (0x30 ‥ 0x3B) ⇒ CsiParam by Param) ∷
    (only (0x3C ‥ 0x3F) ⇒ CsiParam by Collect) ∷
    (only (0x40 ‥ 0x7E) ⇒ Ground by CsiDispatch) ∷ []
row CsiParam =
    (controls ⇒ Anywhere by Execute) ∷
    (only (at 0x7F) ⇒ Anywhere by Ignore) ∷
    (only (0x30 ‥ 0x3B) ⇒ Anywhere by Param) ∷
    (only (0x3C ‥ 0x3F) ⇒ CsiIgnore by Nop) ∷
    (only (0x20 ‥ 0x2F) ⇒ CsiIntermediate by Collect) ∷
    (only (0x40 ‥ 0x7E) ⇒ Ground by CsiDispatch) ∷ []
row CsiIntermediate =
    (controls ⇒ Anywhere by Execute) ∷
    (only (at 0x7F) ⇒ Anywhere by Ignore) ∷
    (only (0x20 ‥ 0x2F) ⇒ Anywhere by Collect) ∷
    (only (0x30 ‥ 0x3F) ⇒ CsiIgnore by Nop) ∷
    (only (0x40 ‥ 0x7E) ⇒ Ground by CsiDispatch) ∷ []
row CsiIgnore =
    (controls ⇒ Anywhere by Execute) ∷
    (0x20 ‥ 0x3F ∷ at 0x7F ∷ [] ⇒ Anywhere by Ignore) ∷
    (only (0x40 ‥ 0x7E) ⇒ Ground by Nop) ∷ []
row DcsEntry =
    (controls_and (at 0x7F) ⇒ Anywhere by Ignore) ∷
    (only (0x20 ‥ 0x2F) ⇒ DcsIntermediate by Collect) ∷
    (only (0x30 ‥ 0x3B) ⇒ DcsParam by Param) ∷
    (only (0x3C ‥ 0x3F) ⇒ DcsParam by Collect) ∷
    (only (0x40 ‥ 0x7E) ⇒ DcsPassthrough by Nop) ∷ []
row DcsParam =
    (controls_and (at 0x7F) ⇒ Anywhere by Ignore) ∷
    (only (0x30 ‥ 0x3B) ⇒ Anywhere by Param) ∷
    (only (0x3C ‥ 0x3F) ⇒ DcsIgnore by Nop) ∷
    (only (0x20 ‥ 0x2F) ⇒ DcsIntermediate by Collect) ∷
    (only (0x40 ‥ 0x7E) ⇒ DcsPassthrough by Nop) ∷ []
row DcsIntermediate =
    (controls_and (at 0x7F) ⇒ Anywhere by Ignore) ∷
    (only (0x20 ‥ 0x2F) ⇒ Anywhere by Collect) ∷
    (only (0x30 ‥ 0x3F) ⇒ DcsIgnore by Nop) ∷
    (only (0x40 ‥ 0x7E) ⇒ DcsPassthrough by Nop) ∷ []
row DcsIgnore =
    (controls_and (0x20 ‥ 0x7F) ⇒ Anywhere by Ignore) ∷
    (only (at 0x9C) ⇒ Ground by Nop) ∷ []
row DcsPassthrough =
    (controls_and (0x20 ‥ 0x7E) ⇒ Anywhere by Put) ∷
    (only (at 0x7F) ⇒ Anywhere by Ignore) ∷
    (only (at 0x9C) ⇒ Ground by Nop) ∷ []
row SosPmApcString =
    (controls_and (0x20 ‥ 0x7F) ⇒ Anywhere by Ignore) ∷
    (only (at 0x9C) ⇒ Ground by Nop) ∷ []
row OscString =
    (only (at 0x07) ⇒ Ground by Nop) ∷
    (controls ⇒ Anywhere by Ignore) ∷
    (only (0x20 ‥ 0xFF) ⇒ Anywhere by OscPut) ∷ []
row Utf8 = []

-- the first line that names the byte decides; where none does, the other answer stands
abbrev pub looked_up : List Entry → ℕ → Change → Change
looked_up [] b other = other
looked_up (entry ∷ entries) b other =
    if list_any (λ span. is_within span.first span.last b) entry.bytes then entry.change else looked_up entries b other

-- The row Anywhere comes before the state's own. A byte that neither names changes nothing.
unfoldable pub change_at : State → ℕ → Change
change_at state b = looked_up (row Anywhere) b (looked_up (row state) b (Anywhere by Nop))
