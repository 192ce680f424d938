-- The one division, computed from left to right: an open item grows byte by byte.
use Rattle.std.proofs.Common.{ℕ, List, [], ◌∷◌, ◌++◌}
use Rattle.std.specs.Prelude.{if◌then◌else◌}
use Rattle.std.specs.List.{list_any}
use Rattle.anstyle_parse.specs.Stream.Bytes.{is_intermediate}
use Rattle.anstyle_parse.specs.Stream.Characters.{is_well_formed, is_proper_front}
use Rattle.anstyle_parse.specs.Stream.Arguments.{significant, has_shape}
use Rattle.anstyle_parse.specs.Stream.Items.{Body, escape, csi, dcs_header, dcs, dcs_ignored, osc, sos_pm_apc, complete, cancelled, broken_off, unfinished, Item, single, character, broken, begun, sequence, body_text}
use Rattle.anstyle_parse.proofs.Bytes.Classes.{Class, bell_byte, cancel_byte, esc_byte, intermediate_byte, digit_byte, colon_byte, semicolon_byte, marker_byte, device_byte, string_byte, control_introducer, command_byte, final_byte, terminator_byte, lead_byte, class_of}

-- what has come of an item that is not whole
pub data Open : Type 0 where
  nothing : Open
  front : (bytes : List ℕ) → Open
  inside : (body : Body) → Open

-- the items that a byte makes whole, and what is open after it
pub record Growth : Type 0 where
  pub items : List Item
  pub next : Open

abbrev pub more : Open → Growth
more open_item = record { items = []; next = open_item }

abbrev pub done : Item → Growth
done item = record { items = item ∷ []; next = nothing }

-- a byte that begins an item
abbrev pub start : ℕ → Class → Growth
start b esc_byte = more (inside (escape []))
start b lead_byte = more (front (b ∷ []))
start b class = done (single b)

-- the byte before which a front is broken begins the next item
abbrev pub break_off : List ℕ → Growth → Growth
break_off bytes growth = record { items = broken bytes ∷ growth.items; next = growth.next }

abbrev pub grow_front : List ℕ → ℕ → Class → Growth
grow_front bytes b class =
    if is_well_formed (bytes ++ b ∷ []) then done (character (bytes ++ b ∷ []))
    else if is_proper_front (bytes ++ b ∷ []) then more (front (bytes ++ b ∷ []))
    else break_off bytes (start b class)

abbrev pub into : Body → Growth
into body = more (inside body)

abbrev pub ended : Body → ℕ → Growth
ended body b = done (sequence body (complete b))

-- after intermediates the byte is a final, else it begins another body
abbrev pub introduce : List ℕ → ℕ → Body → Growth
introduce bytes b body = if list_any is_intermediate bytes then ended (escape bytes) b else into body

abbrev pub grow_escape : List ℕ → ℕ → Class → Growth
grow_escape bytes b digit_byte = ended (escape bytes) b
grow_escape bytes b colon_byte = ended (escape bytes) b
grow_escape bytes b semicolon_byte = ended (escape bytes) b
grow_escape bytes b marker_byte = ended (escape bytes) b
grow_escape bytes b final_byte = ended (escape bytes) b
grow_escape bytes b device_byte = introduce bytes b (dcs_header bytes [])
grow_escape bytes b string_byte = introduce bytes b (sos_pm_apc bytes b [])
grow_escape bytes b control_introducer = introduce bytes b (csi bytes [])
grow_escape bytes b command_byte = introduce bytes b (osc bytes [])
grow_escape bytes b class = into (escape (bytes ++ b ∷ []))

abbrev pub grow_control : List ℕ → List ℕ → ℕ → Class → Growth
grow_control between header b device_byte = ended (csi between header) b
grow_control between header b string_byte = ended (csi between header) b
grow_control between header b control_introducer = ended (csi between header) b
grow_control between header b command_byte = ended (csi between header) b
grow_control between header b final_byte = ended (csi between header) b
grow_control between header b class = into (csi between (header ++ b ∷ []))

-- a byte that goes on with the header, or does not fit it
abbrev pub grow_header : List ℕ → List ℕ → ℕ → Growth
grow_header between header b =
    if has_shape (significant header ++ b ∷ []) then into (dcs_header between (header ++ b ∷ [])) else into (dcs_ignored between header b [])

abbrev pub grow_device : List ℕ → List ℕ → ℕ → Class → Growth
grow_device between header b device_byte = into (dcs between header b [])
grow_device between header b string_byte = into (dcs between header b [])
grow_device between header b control_introducer = into (dcs between header b [])
grow_device between header b command_byte = into (dcs between header b [])
grow_device between header b final_byte = into (dcs between header b [])
grow_device between header b intermediate_byte = grow_header between header b
grow_device between header b digit_byte = grow_header between header b
grow_device between header b colon_byte = grow_header between header b
grow_device between header b semicolon_byte = grow_header between header b
grow_device between header b marker_byte = grow_header between header b
grow_device between header b class = into (dcs_header between (header ++ b ∷ []))

abbrev pub grow_hooked : List ℕ → List ℕ → ℕ → List ℕ → ℕ → Class → Growth
grow_hooked between header final text b terminator_byte = ended (dcs between header final text) b
grow_hooked between header final text b class = into (dcs between header final (text ++ b ∷ []))

abbrev pub grow_dropped : List ℕ → List ℕ → ℕ → List ℕ → ℕ → Class → Growth
grow_dropped between header byte text b terminator_byte = ended (dcs_ignored between header byte text) b
grow_dropped between header byte text b class = into (dcs_ignored between header byte (text ++ b ∷ []))

abbrev pub grow_command : List ℕ → List ℕ → ℕ → Class → Growth
grow_command between text b bell_byte = ended (osc between text) b
grow_command between text b class = into (osc between (text ++ b ∷ []))

abbrev pub grow_ignored : List ℕ → ℕ → List ℕ → ℕ → Class → Growth
grow_ignored between kind text b terminator_byte = ended (sos_pm_apc between kind text) b
grow_ignored between kind text b class = into (sos_pm_apc between kind (text ++ b ∷ []))

-- a byte that ends no sequence from outside
abbrev pub grow_within : Body → ℕ → Class → Growth
grow_within (escape bytes) b class = grow_escape bytes b class
grow_within (csi between header) b class = grow_control between header b class
grow_within (dcs_header between header) b class = grow_device between header b class
grow_within (dcs between header final text) b class = grow_hooked between header final text b class
grow_within (dcs_ignored between header byte text) b class = grow_dropped between header byte text b class
grow_within (osc between text) b class = grow_command between text b class
grow_within (sos_pm_apc between kind text) b class = grow_ignored between kind text b class

abbrev pub grow_body : Body → ℕ → Class → Growth
grow_body body b esc_byte = record { items = sequence body broken_off ∷ []; next = inside (escape []) }
grow_body body b cancel_byte = done (sequence body (cancelled b))
grow_body body b class = grow_within body b class

unfoldable pub grow : Open → ℕ → Growth
grow nothing b = start b (class_of b)
grow (front bytes) b = grow_front bytes b (class_of b)
grow (inside body) b = grow_body body b (class_of b)

-- what is open at the end of the list, as items
abbrev pub last_items : Open → List Item
last_items nothing = []
last_items (front bytes) = begun bytes ∷ []
last_items (inside body) = sequence body unfinished ∷ []

abbrev pub open_text : Open → List ℕ
open_text nothing = []
open_text (front bytes) = bytes
open_text (inside body) = body_text body

-- the items of the bytes after an open item, and what is open after the bytes
abbrev pub divide : Open → List ℕ → List Item
divide open_item [] = last_items open_item
divide open_item (b ∷ bytes) = (grow open_item b).items ++ divide (grow open_item b).next bytes

abbrev pub open_after : Open → List ℕ → Open
open_after open_item [] = open_item
open_after open_item (b ∷ bytes) = open_after (grow open_item b).next bytes

abbrev pub done_items : Open → List ℕ → List Item
done_items open_item [] = []
done_items open_item (b ∷ bytes) = (grow open_item b).items ++ done_items (grow open_item b).next bytes
