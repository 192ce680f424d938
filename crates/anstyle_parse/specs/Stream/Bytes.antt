-- The classes of bytes, as ECMA-48 and Paul Williams' parser (vt100.net) name them.
-- A byte is a number 00..FF. The classes cover all numbers: noise has no upper end.
use Rattle.std.specs.Prelude.{ℕ, Bool, ◌||◌, ◌&&◌, nat_le, ◌==◌, not}

-- low..high, both ends included
unfoldable pub is_within : ℕ → ℕ → ℕ → Bool
is_within low high b = nat_le low b && nat_le b high

-- a range of bytes, both ends included
pub record Span : Type 0 where
  pub first : ℕ
  pub last : ℕ

infix 90 ◌‥◌
abbrev pub ◌‥◌ : ℕ → ℕ → Span
first ‥ last = record { first = first; last = last }

-- the controls that are executed where they stand: C0 without 18, 1A and 1B
unfoldable pub is_control : ℕ → Bool
is_control b = is_within 0x00 0x17 b || b == 0x19 || is_within 0x1C 0x1F b

-- CAN and SUB, which cancel a sequence
unfoldable pub is_cancel : ℕ → Bool
is_cancel b = b == 0x18 || b == 0x1A

-- ESC, which begins a sequence and breaks off the one before
unfoldable pub is_escape : ℕ → Bool
is_escape b = b == 0x1B

unfoldable pub is_intermediate : ℕ → Bool
is_intermediate b = is_within 0x20 0x2F b

-- a digit, or a separator of fields
unfoldable pub is_parameter : ℕ → Bool
is_parameter b = is_within 0x30 0x3B b

-- a private marker
unfoldable pub is_marker : ℕ → Bool
is_marker b = is_within 0x3C 0x3F b

unfoldable pub is_final : ℕ → Bool
is_final b = is_within 0x40 0x7E b

-- the bytes that a sequence is made of
unfoldable pub is_significant : ℕ → Bool
is_significant b = is_within 0x20 0x7E b

-- what a sequence may hold without being changed by it
unfoldable pub is_noise : ℕ → Bool
is_noise b = is_control b || nat_le 0x7F b

-- between the fields of one group, and between groups
abbrev pub colon : ℕ
colon = 0x3A

abbrev pub semicolon : ℕ
semicolon = 0x3B

-- BEL ends an operating system command; ST, as one byte, ends the other strings
abbrev pub bell : ℕ
bell = 0x07

abbrev pub string_terminator : ℕ
string_terminator = 0x9C

abbrev pub escape_byte : ℕ
escape_byte = 0x1B

-- a byte of a command's text that is no separator
abbrev pub is_plain_text : ℕ → Bool
is_plain_text b = is_within 0x20 0xFF b && not (b == semicolon)
