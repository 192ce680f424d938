-- The calls of an item, computed from its own text, and the calls of a list of bytes.
use Rattle.std.specs.List.{flat_map}
use Rattle.std.specs.Prelude.{◌≡◌, ℕ, Bool, true, false, nat_lt, ◌||◌, ◌==◌, List, [], ◌∷◌, ◌++◌, length, take, map, filter, if◌then◌else◌}
use Rattle.anstyle_parse.specs.Stream.Bytes.{is_within, is_control, is_cancel, is_intermediate, string_terminator}
use Rattle.anstyle_parse.specs.Stream.Characters.{character_of, replacement}
use Rattle.anstyle_parse.specs.Stream.Arguments.{significant, has_shape, groups_of, collected_of, ignore_of, parts_of, max_collected}
use Rattle.anstyle_parse.specs.Stream.Call.{Call, Goes, print, execute, hook, put, unhook, osc_dispatch, csi_dispatch, esc_dispatch}
use Rattle.anstyle_parse.specs.Stream.Items.{Body, escape, csi, dcs_header, dcs, dcs_ignored, osc, sos_pm_apc, End, complete, cancelled, broken_off, Item, single, character, broken, begun, sequence, IsDivision}

-- a single byte that is executed: the controls, 18 and 1A, and of C1 those that begin no string
unfoldable pub is_executed : ℕ → Bool
is_executed b = is_control b || is_cancel b || is_within 0x80 0x8F b || is_within 0x91 0x9A b || b == string_terminator

-- ASCII from the space on is printed, 7F too
unfoldable pub is_printed : ℕ → Bool
is_printed b = is_within 0x20 0x7F b

unfoldable pub single_calls : ℕ → List Call
single_calls b = if is_printed b then print b ∷ [] else if is_executed b then execute b ∷ [] else []

-- the controls of a text, executed in order
abbrev pub executes : List ℕ → List Call
executes bytes = map execute (filter is_control bytes)

-- the bytes that are passed on from a hooked device control string
unfoldable pub is_put : ℕ → Bool
is_put b = is_control b || is_within 0x20 0x7E b

-- what a body calls before its end
abbrev pub body_calls : Body → List Call
body_calls (escape bytes) = executes bytes
body_calls (csi between header) = executes between ++ executes header
body_calls (dcs_header between header) = executes between
body_calls (dcs between header final text) =
    executes between
    ++ hook (groups_of (significant header)) (collected_of (significant header)) (ignore_of (significant header)) final
    ∷ map put (filter is_put text)
body_calls (dcs_ignored between header byte text) = executes between
body_calls (osc between text) = executes between
body_calls (sos_pm_apc between kind text) = executes between

-- the dispatch of an escape sequence, of a CSI whose header has the shape, of an
-- operating system command
abbrev pub escape_dispatch : List ℕ → ℕ → Call
escape_dispatch bytes final =
    esc_dispatch (take max_collected (filter is_intermediate bytes))
    (nat_lt max_collected (length (filter is_intermediate bytes))) final

abbrev pub control_dispatch : List ℕ → ℕ → List Call
control_dispatch header final =
    if has_shape header then csi_dispatch (groups_of header) (collected_of header) (ignore_of header) final ∷ [] else []

-- what its end calls
abbrev pub end_calls : Body → End → List Call
end_calls (escape bytes) (complete final) = escape_dispatch bytes final ∷ []
end_calls (csi between header) (complete final) = control_dispatch (significant header) final
end_calls (dcs between header final text) (complete byte) = unhook ∷ []
end_calls (dcs between header final text) (cancelled byte) = unhook ∷ execute byte ∷ []
end_calls (dcs between header final text) broken_off = unhook ∷ []
end_calls (osc between text) (complete byte) = osc_dispatch (parts_of text) true ∷ []
end_calls (osc between text) (cancelled byte) = osc_dispatch (parts_of text) false ∷ execute byte ∷ []
end_calls (osc between text) broken_off = osc_dispatch (parts_of text) false ∷ []
end_calls body (cancelled byte) = execute byte ∷ []
end_calls body end = []

abbrev pub item_calls : Item → List Call
item_calls (single byte) = single_calls byte
item_calls (character bytes) = print (character_of bytes) ∷ []
item_calls (broken front) = print replacement ∷ []
item_calls (begun front) = []
item_calls (sequence body end) = body_calls body ++ end_calls body end

abbrev pub items_calls : List Item → List Call
items_calls items = flat_map item_calls items

-- These are the calls of the bytes: the calls of a division of them.
abbrev pub AreCalls : List ℕ → List Call → Type 0
AreCalls bytes calls = (items : List Item) × IsDivision items bytes × (calls ≡ items_calls items)

-- These calls continue the calls of the bytes before: whatever those are, they and these
-- are the calls of all the bytes.
abbrev pub Continues : List ℕ → List ℕ → List Call → Type 0
Continues before bytes more = (first : List Call) → AreCalls before first → AreCalls (before ++ bytes) (first ++ more)

-- The performer has received exactly the calls of the bytes: by them it went to what it is
-- from what it was at first.
abbrev pub HasReceived : {P : Type 0} → (P → Call → P → Type 0) → (first : P) → List ℕ → P → Type 0
HasReceived means first bytes performer = (calls : List Call) × AreCalls bytes calls × Goes means first calls performer
