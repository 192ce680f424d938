-- Where bytes have a character that drives a terminal.
use Rattle.std.specs.Prelude.{◌≡◌, ◌≢◌, ◌<◌, ⊤, ℕ, Bool, not, ◌||◌, ◌==◌, List, [], ◌∷◌, ◌++◌, length, if◌then◌else◌}
use Rattle.anstyle_parse.specs.Stream.Items.{EachIs}
use Rattle.ansi_strip.specs.EightBit.{is_eight_bit}

-- a byte with which one may begin: DEL, or the first of two
unfoldable pub may_begin_driving : ℕ → Bool
may_begin_driving byte = byte == 0x7F || byte == 0xC2

-- any other byte
abbrev pub is_clear : ℕ → Bool
is_clear byte = not (may_begin_driving byte)

-- how many bytes the one has that comes first; 0 where none does
abbrev pub driving_width : List ℕ → ℕ
driving_width [] = 0
driving_width (first ∷ []) = if first == 0x7F then 1 else 0
driving_width (first ∷ second ∷ bytes) = if first == 0x7F then 1 else if is_eight_bit first second then 2 else 0

-- none begins in what is passed, before what is left
abbrev pub NoneBegins : (passed left : List ℕ) → Type 0
NoneBegins [] left = ⊤
NoneBegins (byte ∷ passed) left = (driving_width (byte ∷ (passed ++ left)) ≡ 0) × NoneBegins passed left

-- Bytes that all pass a test come before what is left.
pub record PassTo (test : ℕ → Bool) (bytes left : List ℕ) : Type 0 where
  pub passed : List ℕ
  pub joined : bytes ≡ passed ++ left
  pub before : EachIs test passed

-- What is left begins with the first of them, if it is not empty.
pub record StopsAtDriving (bytes left : List ℕ) : Type 0 where
  pub passed : List ℕ
  pub joined : bytes ≡ passed ++ left
  pub none : NoneBegins passed left
  pub at : 0 < length left → driving_width left ≢ 0
