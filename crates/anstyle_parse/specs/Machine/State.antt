-- The numbers of states and actions, in the order of their declaration.
use Rattle.std.specs.Prelude.{◌≡◌, ◌≤◌, ℕ, Result, MatchResult}
use Rattle.anstyle_parse.specs.declared.state.definitions.State.{State}
use Rattle.anstyle_parse.specs.declared.state.definitions.State.TheVariants.{Anywhere, CsiEntry, CsiIgnore, CsiIntermediate, CsiParam, DcsEntry, DcsIgnore, DcsIntermediate, DcsParam, DcsPassthrough, Escape, EscapeIntermediate, Ground, OscString, SosPmApcString, Utf8}
use Rattle.anstyle_parse.specs.declared.state.definitions.Action.{Action}
use Rattle.anstyle_parse.specs.declared.state.definitions.Action.TheVariants.{Nop, Clear, Collect, CsiDispatch, EscDispatch, Execute, Hook, Ignore, OscEnd, OscPut, OscStart, Param, Print, Put, Unhook, BeginUtf8}

abbrev pub state_number : State → ℕ
state_number Anywhere = 0
state_number CsiEntry = 1
state_number CsiIgnore = 2
state_number CsiIntermediate = 3
state_number CsiParam = 4
state_number DcsEntry = 5
state_number DcsIgnore = 6
state_number DcsIntermediate = 7
state_number DcsParam = 8
state_number DcsPassthrough = 9
state_number Escape = 10
state_number EscapeIntermediate = 11
state_number Ground = 12
state_number OscString = 13
state_number SosPmApcString = 14
state_number Utf8 = 15

abbrev pub action_number : Action → ℕ
action_number Nop = 0
action_number Clear = 1
action_number Collect = 2
action_number CsiDispatch = 3
action_number EscDispatch = 4
action_number Execute = 5
action_number Hook = 6
action_number Ignore = 7
action_number OscEnd = 8
action_number OscPut = 9
action_number OscStart = 10
action_number Param = 11
action_number Print = 12
action_number Put = 13
action_number Unhook = 14
action_number BeginUtf8 = 15

-- the variant of this number, or the number again where it is 16 or more
abbrev pub HasNumber : {T : Type 0} → (T → ℕ) → ℕ → Result T ℕ → Type 0
HasNumber number raw result =
    MatchResult result (λ variant. number variant ≡ raw) (λ refused. (refused ≡ raw) × (16 ≤ raw))
