-- What passing over a control sequence leads to.
use Rattle.std.specs.Prelude.{◌≡◌, ℕ, Bool, List, [], ◌∷◌, ◌++◌, IsTrue}
use Rattle.anstyle_parse.specs.declared.accumulator.Utf8Parser.{Utf8Parser}
use Rattle.anstyle_parse.specs.Stream.Bytes.{is_parameter, is_final, escape_byte}
use Rattle.anstyle_parse.specs.Stream.Call.{Call, csi_dispatch}
use Rattle.anstyle_parse.specs.Stream.Items.{EachIs}
use Rattle.anstyle_parse.specs.Machine.Step.{machine_after, machine_calls}
use Rattle.anstyle_parse.specs.Machine.Stands.{counted}
use Rattle.anstyle_parse.specs.Views.Accumulator.{parser_after}
use Rattle.anstyle_parse.specs.Views.Parser.{machine_of}
use Rattle.anstyle_parse.specs.Views.Stage.{Stage}

-- the bytes begin with digits and separators of fields, and these are left
pub record PassFields (bytes left : List ℕ) : Type 0 where
  pub fields : List ℕ
  pub each : EachIs is_parameter fields
  pub joined : bytes ≡ fields ++ left

-- the bytes begin with ESC [, fields and a final byte, and these are left
pub record BeginWithSequence (bytes left : List ℕ) : Type 0 where
  pub fields : List ℕ
  pub each : EachIs is_parameter fields
  pub final : ℕ
  pub ends : IsTrue (is_final final)
  pub joined : bytes ≡ escape_byte ∷ 0x5B ∷ fields ++ final ∷ left

-- whatever a control sequence says, the performer is left as it is
abbrev pub PassesOver : {P : Type 0} → (P → List Call → P → Type 0) → P → Type 0
PassesOver receives performer = (groups : List (List ℕ)) (collected : List ℕ) (ignore : Bool) (final : ℕ)
    → receives performer (csi_dispatch groups collected ignore final ∷ []) performer

-- In what counts, going on from here with what is left is going from the start with all bytes, and what calls
-- are made on the way the performer has received.
pub record LeadsInEffectTo {P : Type 0} (receives : P → List Call → P → Type 0)
    (old new : Stage Utf8Parser P) : Type 0 where
  pub same : counted (machine_after parser_after new.left (machine_of new.parser))
      ≡ counted (machine_after parser_after old.left (machine_of old.parser))
  pub made : List Call
  pub joined : machine_calls parser_after old.left (machine_of old.parser)
      ≡ made ++ machine_calls parser_after new.left (machine_of new.parser)
  pub received : receives old.performer made new.performer
