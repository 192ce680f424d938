-- What is read of a log, by its items: as_read on whole lists, with no state and no machine.
--
-- A log is divided into items as any bytes are, but for the strings DCS, APC, PM and SOS: the byte 9C is text of them, and
-- BEL ends the last three. What is read of it is the text of its items, but for three things: a byte 80..C1 or F5..FF
-- that is an item by itself, and so stands in no character and in no sequence, is U+FFFD; of the BEL that ends such a
-- string ESC \ is read; and of 9C in the text of a string 9D.
use Rattle.std.specs.Prelude.{◌≡◌, ℕ, Bool, false, not, ◌==◌, List, [], ◌∷◌, ◌++◌, map, IsTrue, ⊤, if◌then◌else◌}
use Rattle.std.specs.List.{AllByRecursion, flat_map}
use Rattle.anstyle_parse.specs.Stream.Bytes.{is_cancel, bell}
use Rattle.anstyle_parse.specs.Stream.Items.{Body, dcs, dcs_ignored, sos_pm_apc, End, complete, cancelled, broken_off, unfinished, Item, single, begun, sequence, body_text, item_text, items_text, EachIs, IsBody, completes, IsItem, AreJoined}
use Rattle.anstyle_parse.specs.Machine.AsRead.{is_stray, replacement_text, string_end, heard}

-- text of a string, as it is read
abbrev pub heard_text : List ℕ → List ℕ
heard_text text = map (λ b. heard b) text

-- and a body
abbrev pub heard_body : Body → Body
heard_body (dcs between header final text) = dcs between header final (heard_text text)
heard_body (dcs_ignored between header byte text) = dcs_ignored between header byte (heard_text text)
heard_body (sos_pm_apc between kind text) = sos_pm_apc between kind (heard_text text)
heard_body body = body

-- no BEL stands in the text of a string that it would end
abbrev pub HasNoBell : Body → Type 0
HasNoBell (sos_pm_apc between kind text) = EachIs (λ b. not (b == bell)) text
HasNoBell body = ⊤

-- the byte completes the body, in a log: BEL the strings that are ignored, and no byte a device control string
abbrev pub completes_in_log : Body → ℕ → Bool
completes_in_log (dcs between header final text) b = false
completes_in_log (dcs_ignored between header byte text) b = false
completes_in_log (sos_pm_apc between kind text) b = b == bell
completes_in_log body b = completes body b

abbrev pub IsEndInLog : Body → End → Type 0
IsEndInLog body (complete byte) = IsTrue (completes_in_log body byte)
IsEndInLog body (cancelled byte) = IsTrue (is_cancel byte)
IsEndInLog body broken_off = ⊤
IsEndInLog body unfinished = ⊤

-- the items of a log are those of any bytes, but for these strings
abbrev pub IsItemOfLog : Item → Type 0
IsItemOfLog (sequence body end) = IsBody (heard_body body) × HasNoBell body × IsEndInLog body end
IsItemOfLog item = IsItem item

-- A division of a log: items whose texts, joined, are the log, and each of which may stand before those that follow it.
pub record IsLogDivision (items : List Item) (log : List ℕ) : Type 0 where
  pub whole : items_text items ≡ log
  pub each : AllByRecursion IsItemOfLog items
  pub joined : AreJoined items

-- what is read of the byte that completes a body: ESC \ of the end of a string that is ignored
abbrev pub read_completion : Body → ℕ → List ℕ
read_completion (sos_pm_apc between kind text) byte = string_end
read_completion body byte = byte ∷ []

abbrev pub read_end : Body → End → List ℕ
read_end body (complete byte) = read_completion body byte
read_end body (cancelled byte) = byte ∷ []
read_end body broken_off = []
read_end body unfinished = []

-- what is read of an item
abbrev pub read_item : Item → List ℕ
read_item (single byte) = if is_stray byte then replacement_text else byte ∷ []
read_item (sequence body end) = body_text (heard_body body) ++ read_end body end
read_item item = item_text item

-- and of items
abbrev pub read_items : List Item → List ℕ
read_items items = flat_map read_item items

-- where no more comes: FF after a character that is begun, which breaks it
abbrev pub read_item_whole : Item → List ℕ
read_item_whole (begun front) = front ++ 0xFF ∷ []
read_item_whole item = read_item item

abbrev pub read_items_whole : List Item → List ℕ
read_items_whole items = flat_map read_item_whole items
