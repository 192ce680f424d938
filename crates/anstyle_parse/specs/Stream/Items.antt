-- The items that a list of bytes is cut into: single bytes, characters and sequences.
-- A sequence is a body, which begins with ESC, and an end.
use Rattle.std.specs.Prelude.{◌≡◌, ℕ, Bool, false, ◌||◌, ◌&&◌, not, ◌==◌, List, [], ◌∷◌, ◌++◌, IsTrue, ⊤}
use Rattle.std.specs.List.{AllByRecursion, list_any, flat_map}
use Rattle.anstyle_parse.specs.Stream.Bytes.{is_within, is_cancel, is_escape, is_intermediate, is_final, is_noise, bell, string_terminator, escape_byte}
use Rattle.anstyle_parse.specs.Stream.Characters.{is_lead, is_well_formed, IsFront, IsProperFront}
use Rattle.anstyle_parse.specs.Stream.Arguments.{significant, has_shape}

-- The bodies, with their parts. `between` is the noise between ESC and the byte that decides.
pub data Body : Type 0 where
  -- ESC intermediates
  escape : (bytes : List ℕ) → Body
  -- ESC [ header: a control sequence (CSI)
  csi : (between header : List ℕ) → Body
  -- ESC P header: a device control string whose header has not ended
  dcs_header : (between header : List ℕ) → Body
  -- ESC P header final text: a device control string that is hooked
  dcs : (between header : List ℕ) (final : ℕ) (text : List ℕ) → Body
  -- ESC P header byte text: one that is ignored, since the byte does not fit its header
  dcs_ignored : (between header : List ℕ) (byte : ℕ) (text : List ℕ) → Body
  -- ESC ] text: an operating system command (OSC)
  osc : (between text : List ℕ) → Body
  -- ESC X, ESC ^ or ESC _ and text: a string that is ignored (SOS, PM, APC)
  sos_pm_apc : (between : List ℕ) (kind : ℕ) (text : List ℕ) → Body

-- The ends. An open sequence is unfinished if it is last, else broken off.
pub data End : Type 0 where
  complete : (byte : ℕ) → End
  cancelled : (byte : ℕ) → End
  broken_off : End
  unfinished : End

pub data Item : Type 0 where
  single : (byte : ℕ) → Item
  -- a well-formed character of two to four bytes
  character : (bytes : List ℕ) → Item
  -- a character begun, which the byte after it, whatever it is, does not go on with
  broken : (front : List ℕ) → Item
  -- a character begun, where the list ends
  begun : (front : List ℕ) → Item
  sequence : (body : Body) (end : End) → Item

abbrev pub body_text : Body → List ℕ
body_text (escape bytes) = escape_byte ∷ bytes
body_text (csi between header) = escape_byte ∷ (between ++ 0x5B ∷ header)
body_text (dcs_header between header) = escape_byte ∷ (between ++ 0x50 ∷ header)
body_text (dcs between header final text) = escape_byte ∷ (between ++ 0x50 ∷ (header ++ final ∷ text))
body_text (dcs_ignored between header byte text) = escape_byte ∷ (between ++ 0x50 ∷ (header ++ byte ∷ text))
body_text (osc between text) = escape_byte ∷ (between ++ 0x5D ∷ text)
body_text (sos_pm_apc between kind text) = escape_byte ∷ (between ++ kind ∷ text)

abbrev pub end_text : End → List ℕ
end_text (complete byte) = byte ∷ []
end_text (cancelled byte) = byte ∷ []
end_text broken_off = []
end_text unfinished = []

abbrev pub item_text : Item → List ℕ
item_text (single byte) = byte ∷ []
item_text (character bytes) = bytes
item_text (broken front) = front
item_text (begun front) = front
item_text (sequence body end) = body_text body ++ end_text end

abbrev pub items_text : List Item → List ℕ
items_text items = flat_map item_text items

-- each byte passes the test
abbrev pub EachIs : (ℕ → Bool) → List ℕ → Type 0
EachIs test bytes = AllByRecursion (λ b. IsTrue (test b)) bytes

-- intermediates, parameter bytes, markers
unfoldable pub is_header_byte : ℕ → Bool
is_header_byte b = is_within 0x20 0x3F b

-- the byte neither ends a string from outside (ESC, 18, 1A) nor is its own end
unfoldable pub is_text_byte : ℕ → ℕ → Bool
is_text_byte end b = not (is_escape b || is_cancel b || b == end)

-- the bytes that begin an ignored string: SOS, PM, APC
unfoldable pub is_string_kind : ℕ → Bool
is_string_kind b = b == 0x58 || b == 0x5E || b == 0x5F

-- the bytes that begin a sequence of another kind, directly after ESC
unfoldable pub is_introducer : ℕ → Bool
is_introducer b = is_string_kind b || b == 0x50 || b == 0x5B || b == 0x5D

-- noise and header bytes
abbrev pub IsHeader : List ℕ → Type 0
IsHeader header = EachIs (λ b. is_noise b || is_header_byte b) header

-- the header of a device control string, and the noise before the byte that begins it
pub record IsDcsHeader (between header : List ℕ) : Type 0 where
  pub noise : EachIs is_noise between
  pub header_bytes : IsHeader header
  pub shaped : IsTrue (has_shape (significant header))

-- a final byte hooks the string, and its text goes up to ST
pub record IsDcs (between header : List ℕ) (final : ℕ) (text : List ℕ) : Type 0 where
  pub begun : IsDcsHeader between header
  pub hooked : IsTrue (is_final final)
  pub text_bytes : EachIs (is_text_byte string_terminator) text

-- a byte of a header that leaves it without the shape of one: the string is ignored up to ST
pub record IsDcsIgnored (between header : List ℕ) (byte : ℕ) (text : List ℕ) : Type 0 where
  pub begun : IsDcsHeader between header
  pub header_byte : IsTrue (is_header_byte byte)
  pub unshaped : IsTrue (not (has_shape (significant header ++ byte ∷ [])))
  pub text_bytes : EachIs (is_text_byte string_terminator) text

abbrev pub IsBody : Body → Type 0
IsBody (escape bytes) = EachIs (λ b. is_noise b || is_intermediate b) bytes
IsBody (csi between header) = EachIs is_noise between × IsHeader header
IsBody (dcs_header between header) = IsDcsHeader between header
IsBody (dcs between header final text) = IsDcs between header final text
IsBody (dcs_ignored between header byte text) = IsDcsIgnored between header byte text
IsBody (osc between text) = EachIs is_noise between × EachIs (is_text_byte bell) text
IsBody (sos_pm_apc between kind text) =
    EachIs is_noise between × IsTrue (is_string_kind kind) × EachIs (is_text_byte string_terminator) text

-- the byte completes the body
abbrev pub completes : Body → ℕ → Bool
completes (escape bytes) b = is_within 0x30 0x7E b && (list_any is_intermediate bytes || not (is_introducer b))
completes (csi between header) b = is_final b
completes (dcs_header between header) b = false
completes (dcs between header final text) b = b == string_terminator
completes (dcs_ignored between header byte text) b = b == string_terminator
completes (osc between text) b = b == bell
completes (sos_pm_apc between kind text) b = b == string_terminator

abbrev pub IsEnd : Body → End → Type 0
IsEnd body (complete byte) = IsTrue (completes body byte)
IsEnd body (cancelled byte) = IsTrue (is_cancel byte)
IsEnd body broken_off = ⊤
IsEnd body unfinished = ⊤

abbrev pub IsItem : Item → Type 0
IsItem (single byte) = IsTrue (not (is_escape byte || is_lead byte))
IsItem (character bytes) = IsTrue (is_well_formed bytes)
IsItem (broken front) = IsProperFront front
IsItem (begun front) = IsProperFront front
IsItem (sequence body end) = IsBody body × IsEnd body end

-- the list begins with ESC
abbrev pub BeginsWithEscape : List ℕ → Type 0
BeginsWithEscape [] = ⊥
BeginsWithEscape (b ∷ bytes) = IsTrue (is_escape b)

-- the list begins with a byte with which the front is a front of no well-formed sequence
abbrev pub BeginsWithBreak : List ℕ → List ℕ → Type 0
BeginsWithBreak front [] = ⊥
BeginsWithBreak front (b ∷ bytes) = ¬ IsFront (front ++ b ∷ [])

-- What may follow an item: nothing after one that is unfinished, ESC after a sequence that is
-- broken off, and after a broken character a byte that breaks it.
abbrev pub MayPrecede : Item → List ℕ → Type 0
MayPrecede (begun front) rest = rest ≡ []
MayPrecede (sequence body unfinished) rest = rest ≡ []
MayPrecede (sequence body broken_off) rest = BeginsWithEscape rest
MayPrecede (sequence body (complete byte)) rest = ⊤
MayPrecede (sequence body (cancelled byte)) rest = ⊤
MayPrecede (single byte) rest = ⊤
MayPrecede (character bytes) rest = ⊤
MayPrecede (broken front) rest = BeginsWithBreak front rest

-- each item may stand before those that follow it
abbrev pub AreJoined : List Item → Type 0
AreJoined [] = ⊤
AreJoined (item ∷ items) = MayPrecede item (items_text items) × AreJoined items

-- A division of a list of bytes: items whose texts, joined, are the list.
pub record IsDivision (items : List Item) (bytes : List ℕ) : Type 0 where
  pub whole : items_text items ≡ bytes
  pub each : AllByRecursion IsItem items
  pub joined : AreJoined items
