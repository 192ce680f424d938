-- What one byte does, and what one action, to a parser and its performer.
use Rattle.std.specs.Prelude.{◌≡◌, ℕ}
use Rattle.anstyle_parse.specs.declared.parser.Parser.{Parser}
use Rattle.anstyle_parse.specs.declared.state.definitions.Action.{Action}
use Rattle.anstyle_parse.specs.Stream.Call.{Call, Goes}
use Rattle.anstyle_parse.specs.Machine.Step.{AccumulatorStep, step, step_calls, after_action, action_calls}
use Rattle.anstyle_parse.specs.Views.Parser.{machine_of}

-- The parser takes a byte as the machine does, and the performer receives the calls of that.
pub record Steps {C P : Type 0} (adds : AccumulatorStep C) (means : P → Call → P → Type 0) (b : ℕ)
    (old : Parser C) (before : P) (new : Parser C) (after : P) : Type 0 where
  pub machine : machine_of new ≡ step adds b (machine_of old)
  pub calls : Goes means before (step_calls adds b (machine_of old)) after

-- The same of an action for a byte.
pub record Acts {C P : Type 0} (adds : AccumulatorStep C) (means : P → Call → P → Type 0) (action : Action) (b : ℕ)
    (old : Parser C) (before : P) (new : Parser C) (after : P) : Type 0 where
  pub machine : machine_of new ≡ after_action adds action b (machine_of old)
  pub calls : Goes means before (action_calls adds action b (machine_of old)) after
