-- The packed table, as the code has it: a row of cells for each state, an answer in each cell.
use Rattle.std.specs.Prelude.{ℕ, List, ◌+◌, ◌*◌}
use Rattle.anstyle_parse.specs.declared.state.definitions.State.{State}
use Rattle.anstyle_parse.specs.declared.state.definitions.State.TheVariants.{Anywhere, CsiEntry, CsiIgnore, CsiIntermediate, CsiParam, DcsEntry, DcsIgnore, DcsIntermediate, DcsParam, DcsPassthrough, Escape, EscapeIntermediate, Ground, OscString, SosPmApcString, Utf8}
use Rattle.anstyle_parse.specs.declared.state.definitions.Action.{Action}
use Rattle.anstyle_parse.specs.declared.state.table.TheConstants.{ANYWHERE, CSI_ENTRY, CSI_IGNORE, CSI_INTERMEDIATE, CSI_PARAM, DCS_ENTRY, DCS_IGNORE, DCS_INTERMEDIATE, DCS_PARAM, DCS_PASSTHROUGH, ESCAPE, ESCAPE_INTERMEDIATE, GROUND, OSC_STRING, SOS_PM_APC_STRING, UTF8}
use Rattle.anstyle_parse.specs.Machine.State.{state_number, action_number}

-- the action's number in the high four bits, the state's in the low four
abbrev pub packed : State → Action → ℕ
packed state action = 16 * action_number action + state_number state

-- the row of a state
abbrev pub cells : State → List ℕ
cells Anywhere = ANYWHERE
cells CsiEntry = CSI_ENTRY
cells CsiIgnore = CSI_IGNORE
cells CsiIntermediate = CSI_INTERMEDIATE
cells CsiParam = CSI_PARAM
cells DcsEntry = DCS_ENTRY
cells DcsIgnore = DCS_IGNORE
cells DcsIntermediate = DCS_INTERMEDIATE
cells DcsParam = DCS_PARAM
cells DcsPassthrough = DCS_PASSTHROUGH
cells Escape = ESCAPE
cells EscapeIntermediate = ESCAPE_INTERMEDIATE
cells Ground = GROUND
cells OscString = OSC_STRING
cells SosPmApcString = SOS_PM_APC_STRING
cells Utf8 = UTF8
