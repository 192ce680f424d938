-- The packed table has the answers of the definition, cell by cell.
use Rattle.std.proofs.Common.{◌≡◌, ◌≢◌, ℕ, zero, suc, ◌<◌, [], ◌∷◌, map, refl, ap, ap₂, sym, ◌∙◌, arith, get_or}
use Rattle.std.specs.List.{range_with_len}
use Rattle.std.proofs.lemmas.List.FromFn.{get_or-map-range_with_len}
use Rattle.anstyle_parse.specs.declared.state.definitions.State.{State}
use Rattle.anstyle_parse.specs.declared.state.definitions.State.TheVariants.{Anywhere, CsiEntry, CsiIgnore, CsiIntermediate, CsiParam, DcsEntry, DcsIgnore, DcsIntermediate, DcsParam, DcsPassthrough, Escape, EscapeIntermediate, Ground, OscString, SosPmApcString, Utf8}
use Rattle.anstyle_parse.specs.declared.state.definitions.Action.{Action}
use Rattle.anstyle_parse.specs.declared.state.definitions.Action.TheVariants.{Nop, Clear, Collect, CsiDispatch, EscDispatch, Execute, Hook, Ignore, OscEnd, OscPut, OscStart, Param, Print, Put, Unhook, BeginUtf8}
use Rattle.anstyle_parse.specs.Stream.Bytes.{is_within}
use Rattle.anstyle_parse.specs.Machine.State.{state_number, action_number}
use Rattle.anstyle_parse.specs.Machine.Table.{Change, row, looked_up, change_at, ◌by◌}
use Rattle.anstyle_parse.specs.Machine.Packed.{packed, cells}

-- the cell of an answer
abbrev cell_of : Change → ℕ
cell_of change = packed change.state change.action

-- the cell that the definition gives a byte in a state's own row, and in all
own_cell : State → ℕ → ℕ
own_cell state b = cell_of (looked_up (row state) b (Anywhere by Nop))

answer_cell : State → ℕ → ℕ
answer_cell state b = cell_of (change_at state b)

-- the cell of Anywhere, or the state's own where that is 00
chosen : ℕ → ℕ → ℕ
chosen zero own = own
chosen (suc anywhere) own = suc anywhere

chosen-anywhere : (anywhere own : ℕ) → anywhere ≢ 0 → chosen anywhere own ≡ anywhere
unfolding chosen
chosen-anywhere zero own some = absurd (some refl)
chosen-anywhere (suc anywhere) own some = refl

-- the 4,096 cells, and the 4,096 answers
each_cell : (state : State) → cells state ≡ map (own_cell state) (range_with_len 0 0x100)
unfolding own_cell is_within
each_cell Anywhere = refl
each_cell state = refl

each_answer : (state : State) → map (λ b. chosen (own_cell Anywhere b) (own_cell state b)) (range_with_len 0 0x100) ≡ map (answer_cell state) (range_with_len 0 0x100)
unfolding own_cell answer_cell chosen change_at is_within
each_answer Anywhere = refl
each_answer state = refl

at_byte : (f : ℕ → ℕ) (b : ℕ) → b < 256 → get_or (map f (range_with_len 0 0x100)) b 0 ≡ f b
at_byte f b below = get_or-map-range_with_len f 0 0x100 b b 0 below (omega arith)

answer_at : (state : State) (b : ℕ) → b < 256 → chosen (get_or (cells Anywhere) b 0) (get_or (cells state) b 0) ≡ cell_of (change_at state b)
unfolding answer_cell
answer_at state b below =
    ap₂ chosen (ap (λ list. get_or list b 0) (each_cell Anywhere) ∙ at_byte (own_cell Anywhere) b below) (ap (λ list. get_or list b 0) (each_cell state) ∙ at_byte (own_cell state) b below)
    ∙ (sym (at_byte (λ n. chosen (own_cell Anywhere n) (own_cell state n)) b below) ∙ (ap (λ list. get_or list b 0) (each_answer state) ∙ at_byte (answer_cell state) b below))

-- a cell of the row Anywhere decides
pub anywhere_decides : (state : State) (b : ℕ) → b < 256 → get_or (cells Anywhere) b 0 ≢ 0 → get_or (cells Anywhere) b 0 ≡ cell_of (change_at state b)
anywhere_decides state b below some = sym (chosen-anywhere _ _ some) ∙ answer_at state b below

-- and one of the state's own row where that is 00
pub own_decides : (state : State) (b : ℕ) → b < 256 → get_or (cells Anywhere) b 0 ≡ 0 → get_or (cells state) b 0 ≡ cell_of (change_at state b)
unfolding chosen
own_decides state b below none = sym (ap (λ anywhere. chosen anywhere (get_or (cells state) b 0)) none) ∙ answer_at state b below

-- the variants by their numbers
state_with : ℕ → State
state_with number = get_or (Anywhere ∷ CsiEntry ∷ CsiIgnore ∷ CsiIntermediate ∷ CsiParam ∷ DcsEntry ∷ DcsIgnore ∷ DcsIntermediate ∷ DcsParam ∷ DcsPassthrough ∷ Escape ∷ EscapeIntermediate ∷ Ground ∷ OscString ∷ SosPmApcString ∷ Utf8 ∷ []) number Anywhere

state_with-number : (state : State) → state_with (state_number state) ≡ state
unfolding state_with
state_with-number Anywhere = refl
state_with-number state = refl

action_with : ℕ → Action
action_with number = get_or (Nop ∷ Clear ∷ Collect ∷ CsiDispatch ∷ EscDispatch ∷ Execute ∷ Hook ∷ Ignore ∷ OscEnd ∷ OscPut ∷ OscStart ∷ Param ∷ Print ∷ Put ∷ Unhook ∷ BeginUtf8 ∷ []) number Nop

action_with-number : (action : Action) → action_with (action_number action) ≡ action
unfolding action_with
action_with-number Nop = refl
action_with-number action = refl

state_number-lt : (state : State) → state_number state < 16
state_number-lt Anywhere = omega arith
state_number-lt state = omega arith

-- a cell is that of one answer
pub same_state : (s t : State) (a b : Action) → packed s a ≡ packed t b → s ≡ t
same_state s t a b h =
    let numbers : state_number s ≡ state_number t = omega (arith, state_number-lt s, state_number-lt t) in
    sym (state_with-number s) ∙ ap state_with numbers ∙ state_with-number t

pub same_action : (s t : State) (a b : Action) → packed s a ≡ packed t b → a ≡ b
same_action s t a b h =
    let numbers : action_number a ≡ action_number b = omega (arith, state_number-lt s, state_number-lt t) in
    sym (action_with-number a) ∙ ap action_with numbers ∙ action_with-number b
