-- The bytes in classes so fine that every test of the specs is one answer on each.
use Rattle.std.proofs.Common.{◌≡◌, ℕ, ◌≤◌, Bool, true, false, refl, sym, ap, ◌∙◌, ⊎_elim, arith}
use Rattle.std.specs.Prelude.{nat_lt, if◌then◌else◌, ◌==◌, ◌||◌}
use Rattle.std.proofs.lemmas.Bool.{cases_lt, cond-true, cond-false, lt-ltb, le-ltb, agree_below, agree_below_at}
use Rattle.std.proofs.lemmas.Bool.Decides.{nat_tests}
use Rattle.anstyle_parse.specs.Stream.Bytes.{is_within, is_control, is_cancel, is_escape, is_intermediate, is_parameter, is_marker, is_final, is_significant, is_noise, colon, semicolon, bell, string_terminator}
use Rattle.anstyle_parse.specs.Stream.Characters.{is_lead}
use Rattle.anstyle_parse.specs.Stream.Arguments.{is_kept}
use Rattle.anstyle_parse.specs.Stream.Items.{is_header_byte, is_string_kind, is_introducer, is_text_byte}
use Rattle.anstyle_parse.specs.Stream.Calls.{is_executed, is_printed, is_put}

pub data Class : Type 0 where
  -- 00..06, 08..17, 19, 1C..1F; 07; 18, 1A; 1B
  control_byte bell_byte cancel_byte esc_byte : Class
  -- 20..2F; 30..39; 3A; 3B; 3C..3F
  intermediate_byte digit_byte colon_byte semicolon_byte marker_byte : Class
  -- 50; 58, 5E, 5F; 5B; 5D; the others of 40..7E; 7F
  device_byte string_byte control_introducer command_byte final_byte delete_byte : Class
  -- 80..8F, 91..9A; 9C; 90, 9B, 9D..C1; C2..F4; F5..FF; 100 and more
  high_control terminator_byte silent_byte lead_byte above_byte beyond_byte : Class

unfoldable pub class_below : ℕ → Class
class_below b =
    if nat_lt b 0x07 then control_byte
    else if b == 0x07 then bell_byte
    else if nat_lt b 0x18 then control_byte
    else if b == 0x19 then control_byte
    else if b == 0x1B then esc_byte
    else if nat_lt b 0x1B then cancel_byte
    else if nat_lt b 0x20 then control_byte
    else if nat_lt b 0x30 then intermediate_byte
    else if nat_lt b 0x3A then digit_byte
    else if b == 0x3A then colon_byte
    else if b == 0x3B then semicolon_byte
    else if nat_lt b 0x40 then marker_byte
    else if b == 0x50 then device_byte
    else if b == 0x58 || b == 0x5E || b == 0x5F then string_byte
    else if b == 0x5B then control_introducer
    else if b == 0x5D then command_byte
    else if nat_lt b 0x7F then final_byte
    else if b == 0x7F then delete_byte
    else if b == 0x90 || b == 0x9B then silent_byte
    else if nat_lt b 0x9C then high_control
    else if b == 0x9C then terminator_byte
    else if nat_lt b 0xC2 then silent_byte
    else if nat_lt b 0xF5 then lead_byte
    else above_byte

unfoldable pub class_of : ℕ → Class
class_of b = if nat_lt b 0x100 then class_below b else beyond_byte

-- A test is one answer on each class, if it is so below 256 and from there on.
by_class : (test : ℕ → Bool) (at : Class → Bool) → agree_below test (λ b. at (class_below b)) 256 ≡ true
    → ((b : ℕ) → 256 ≤ b → test b ≡ at beyond_byte) → (b : ℕ) → test b ≡ at (class_of b)
unfolding class_of
by_class test at below beyond b =
    ⊎_elim
    (λ lt. agree_below_at test (λ n. at (class_below n)) 256 b below lt
    ∙ sym (ap at (cond-true (nat_lt b 0x100) (class_below b) beyond_byte (lt-ltb b 256 lt))))
    (λ ge. beyond b ge ∙ sym (ap at (cond-false (nat_lt b 0x100) (class_below b) beyond_byte (le-ltb b 256 ge))))
    (cases_lt b 256)

abbrev pub is_control_at : Class → Bool
is_control_at control_byte = true
is_control_at bell_byte = true
is_control_at _ = false

pub is_control-class : (b : ℕ) → is_control b ≡ is_control_at (class_of b)
unfolding class_below is_control is_within
is_control-class = by_class is_control is_control_at refl (λ b ge. grind (arith, nat_tests))

abbrev pub is_cancel_at : Class → Bool
is_cancel_at cancel_byte = true
is_cancel_at _ = false

pub is_cancel-class : (b : ℕ) → is_cancel b ≡ is_cancel_at (class_of b)
unfolding class_below is_cancel
is_cancel-class = by_class is_cancel is_cancel_at refl (λ b ge. grind (arith, nat_tests))

abbrev pub is_escape_at : Class → Bool
is_escape_at esc_byte = true
is_escape_at _ = false

pub is_escape-class : (b : ℕ) → is_escape b ≡ is_escape_at (class_of b)
unfolding class_below is_escape
is_escape-class = by_class is_escape is_escape_at refl (λ b ge. grind (arith, nat_tests))

abbrev pub is_intermediate_at : Class → Bool
is_intermediate_at intermediate_byte = true
is_intermediate_at _ = false

pub is_intermediate-class : (b : ℕ) → is_intermediate b ≡ is_intermediate_at (class_of b)
unfolding class_below is_intermediate is_within
is_intermediate-class = by_class is_intermediate is_intermediate_at refl (λ b ge. grind (arith, nat_tests))

abbrev pub is_parameter_at : Class → Bool
is_parameter_at digit_byte = true
is_parameter_at colon_byte = true
is_parameter_at semicolon_byte = true
is_parameter_at _ = false

pub is_parameter-class : (b : ℕ) → is_parameter b ≡ is_parameter_at (class_of b)
unfolding class_below is_parameter is_within
is_parameter-class = by_class is_parameter is_parameter_at refl (λ b ge. grind (arith, nat_tests))

abbrev pub is_marker_at : Class → Bool
is_marker_at marker_byte = true
is_marker_at _ = false

pub is_marker-class : (b : ℕ) → is_marker b ≡ is_marker_at (class_of b)
unfolding class_below is_marker is_within
is_marker-class = by_class is_marker is_marker_at refl (λ b ge. grind (arith, nat_tests))

abbrev pub is_final_at : Class → Bool
is_final_at device_byte = true
is_final_at string_byte = true
is_final_at control_introducer = true
is_final_at command_byte = true
is_final_at final_byte = true
is_final_at _ = false

pub is_final-class : (b : ℕ) → is_final b ≡ is_final_at (class_of b)
unfolding class_below is_final is_within
is_final-class = by_class is_final is_final_at refl (λ b ge. grind (arith, nat_tests))

abbrev pub is_significant_at : Class → Bool
is_significant_at intermediate_byte = true
is_significant_at digit_byte = true
is_significant_at colon_byte = true
is_significant_at semicolon_byte = true
is_significant_at marker_byte = true
is_significant_at device_byte = true
is_significant_at string_byte = true
is_significant_at control_introducer = true
is_significant_at command_byte = true
is_significant_at final_byte = true
is_significant_at _ = false

pub is_significant-class : (b : ℕ) → is_significant b ≡ is_significant_at (class_of b)
unfolding class_below is_significant is_within
is_significant-class = by_class is_significant is_significant_at refl (λ b ge. grind (arith, nat_tests))

abbrev pub is_noise_at : Class → Bool
is_noise_at control_byte = true
is_noise_at bell_byte = true
is_noise_at delete_byte = true
is_noise_at high_control = true
is_noise_at terminator_byte = true
is_noise_at silent_byte = true
is_noise_at lead_byte = true
is_noise_at above_byte = true
is_noise_at beyond_byte = true
is_noise_at _ = false

pub is_noise-class : (b : ℕ) → is_noise b ≡ is_noise_at (class_of b)
unfolding class_below is_noise is_control is_within
is_noise-class = by_class is_noise is_noise_at refl (λ b ge. grind (arith, nat_tests))

abbrev pub is_lead_at : Class → Bool
is_lead_at lead_byte = true
is_lead_at _ = false

pub is_lead-class : (b : ℕ) → is_lead b ≡ is_lead_at (class_of b)
unfolding class_below is_lead is_within
is_lead-class = by_class is_lead is_lead_at refl (λ b ge. grind (arith, nat_tests))

abbrev pub is_kept_at : Class → Bool
is_kept_at control_byte = false
is_kept_at bell_byte = false
is_kept_at cancel_byte = false
is_kept_at esc_byte = false
is_kept_at beyond_byte = false
is_kept_at _ = true

pub is_kept-class : (b : ℕ) → is_kept b ≡ is_kept_at (class_of b)
unfolding class_below is_kept is_within
is_kept-class = by_class is_kept is_kept_at refl (λ b ge. grind (arith, nat_tests))

abbrev pub is_header_byte_at : Class → Bool
is_header_byte_at intermediate_byte = true
is_header_byte_at digit_byte = true
is_header_byte_at colon_byte = true
is_header_byte_at semicolon_byte = true
is_header_byte_at marker_byte = true
is_header_byte_at _ = false

pub is_header_byte-class : (b : ℕ) → is_header_byte b ≡ is_header_byte_at (class_of b)
unfolding class_below is_header_byte is_within
is_header_byte-class = by_class is_header_byte is_header_byte_at refl (λ b ge. grind (arith, nat_tests))

abbrev pub is_string_kind_at : Class → Bool
is_string_kind_at string_byte = true
is_string_kind_at _ = false

pub is_string_kind-class : (b : ℕ) → is_string_kind b ≡ is_string_kind_at (class_of b)
unfolding class_below is_string_kind
is_string_kind-class = by_class is_string_kind is_string_kind_at refl (λ b ge. grind (arith, nat_tests))

abbrev pub is_introducer_at : Class → Bool
is_introducer_at device_byte = true
is_introducer_at string_byte = true
is_introducer_at control_introducer = true
is_introducer_at command_byte = true
is_introducer_at _ = false

pub is_introducer-class : (b : ℕ) → is_introducer b ≡ is_introducer_at (class_of b)
unfolding class_below is_introducer is_string_kind
is_introducer-class = by_class is_introducer is_introducer_at refl (λ b ge. grind (arith, nat_tests))

-- a byte of a string that 9C ends
abbrev pub is_string_text_at : Class → Bool
is_string_text_at cancel_byte = false
is_string_text_at esc_byte = false
is_string_text_at terminator_byte = false
is_string_text_at _ = true

pub is_string_text-class : (b : ℕ) → is_text_byte string_terminator b ≡ is_string_text_at (class_of b)
unfolding class_below is_text_byte is_escape is_cancel
is_string_text-class = by_class (is_text_byte string_terminator) is_string_text_at refl (λ b ge. grind (arith, nat_tests))

-- a byte of an operating system command, which 07 ends
abbrev pub is_command_text_at : Class → Bool
is_command_text_at bell_byte = false
is_command_text_at cancel_byte = false
is_command_text_at esc_byte = false
is_command_text_at _ = true

pub is_command_text-class : (b : ℕ) → is_text_byte bell b ≡ is_command_text_at (class_of b)
unfolding class_below is_text_byte is_escape is_cancel
is_command_text-class = by_class (is_text_byte bell) is_command_text_at refl (λ b ge. grind (arith, nat_tests))

abbrev pub is_executed_at : Class → Bool
is_executed_at control_byte = true
is_executed_at bell_byte = true
is_executed_at cancel_byte = true
is_executed_at high_control = true
is_executed_at terminator_byte = true
is_executed_at _ = false

pub is_executed-class : (b : ℕ) → is_executed b ≡ is_executed_at (class_of b)
unfolding class_below is_executed is_control is_cancel is_within
is_executed-class = by_class is_executed is_executed_at refl (λ b ge. grind (arith, nat_tests))

abbrev pub is_printed_at : Class → Bool
is_printed_at control_byte = false
is_printed_at bell_byte = false
is_printed_at cancel_byte = false
is_printed_at esc_byte = false
is_printed_at high_control = false
is_printed_at terminator_byte = false
is_printed_at silent_byte = false
is_printed_at lead_byte = false
is_printed_at above_byte = false
is_printed_at beyond_byte = false
is_printed_at _ = true

pub is_printed-class : (b : ℕ) → is_printed b ≡ is_printed_at (class_of b)
unfolding class_below is_printed is_within
is_printed-class = by_class is_printed is_printed_at refl (λ b ge. grind (arith, nat_tests))

abbrev pub is_put_at : Class → Bool
is_put_at cancel_byte = false
is_put_at esc_byte = false
is_put_at delete_byte = false
is_put_at high_control = false
is_put_at terminator_byte = false
is_put_at silent_byte = false
is_put_at lead_byte = false
is_put_at above_byte = false
is_put_at beyond_byte = false
is_put_at _ = true

pub is_put-class : (b : ℕ) → is_put b ≡ is_put_at (class_of b)
unfolding class_below is_put is_control is_within
is_put-class = by_class is_put is_put_at refl (λ b ge. grind (arith, nat_tests))

-- a byte that may end an escape sequence
abbrev pub is_last_at : Class → Bool
is_last_at digit_byte = true
is_last_at colon_byte = true
is_last_at semicolon_byte = true
is_last_at marker_byte = true
is_last_at device_byte = true
is_last_at string_byte = true
is_last_at control_introducer = true
is_last_at command_byte = true
is_last_at final_byte = true
is_last_at _ = false

pub is_last-class : (b : ℕ) → is_within 0x30 0x7E b ≡ is_last_at (class_of b)
unfolding class_below is_within
is_last-class = by_class (is_within 0x30 0x7E) is_last_at refl (λ b ge. grind (arith, nat_tests))

-- the single bytes that have a name
abbrev pub is_colon_at : Class → Bool
is_colon_at colon_byte = true
is_colon_at _ = false

pub is_colon-class : (b : ℕ) → (b == colon) ≡ is_colon_at (class_of b)
unfolding class_below
is_colon-class = by_class (λ b. b == colon) is_colon_at refl (λ b ge. grind (arith, nat_tests))

abbrev pub is_semicolon_at : Class → Bool
is_semicolon_at semicolon_byte = true
is_semicolon_at _ = false

pub is_semicolon-class : (b : ℕ) → (b == semicolon) ≡ is_semicolon_at (class_of b)
unfolding class_below
is_semicolon-class = by_class (λ b. b == semicolon) is_semicolon_at refl (λ b ge. grind (arith, nat_tests))

abbrev pub is_terminator_at : Class → Bool
is_terminator_at terminator_byte = true
is_terminator_at _ = false

pub is_terminator-class : (b : ℕ) → (b == string_terminator) ≡ is_terminator_at (class_of b)
unfolding class_below
is_terminator-class = by_class (λ b. b == string_terminator) is_terminator_at refl (λ b ge. grind (arith, nat_tests))

abbrev pub is_bell_at : Class → Bool
is_bell_at bell_byte = true
is_bell_at _ = false

pub is_bell-class : (b : ℕ) → (b == bell) ≡ is_bell_at (class_of b)
unfolding class_below
is_bell-class = by_class (λ b. b == bell) is_bell_at refl (λ b ge. grind (arith, nat_tests))

-- the bytes that begin a device control string, a control sequence, an operating system command
abbrev pub is_device_at : Class → Bool
is_device_at device_byte = true
is_device_at _ = false

pub is_device-class : (b : ℕ) → (b == 0x50) ≡ is_device_at (class_of b)
unfolding class_below
is_device-class = by_class (λ b. b == 0x50) is_device_at refl (λ b ge. grind (arith, nat_tests))

abbrev pub is_control_introducer_at : Class → Bool
is_control_introducer_at control_introducer = true
is_control_introducer_at _ = false

pub is_control_introducer-class : (b : ℕ) → (b == 0x5B) ≡ is_control_introducer_at (class_of b)
unfolding class_below
is_control_introducer-class = by_class (λ b. b == 0x5B) is_control_introducer_at refl (λ b ge. grind (arith, nat_tests))

abbrev pub is_command_at : Class → Bool
is_command_at command_byte = true
is_command_at _ = false

pub is_command-class : (b : ℕ) → (b == 0x5D) ≡ is_command_at (class_of b)
unfolding class_below
is_command-class = by_class (λ b. b == 0x5D) is_command_at refl (λ b ge. grind (arith, nat_tests))

-- a byte of ASCII
abbrev pub is_ascii_at : Class → Bool
is_ascii_at high_control = false
is_ascii_at terminator_byte = false
is_ascii_at silent_byte = false
is_ascii_at lead_byte = false
is_ascii_at above_byte = false
is_ascii_at beyond_byte = false
is_ascii_at _ = true

pub is_ascii-class : (b : ℕ) → (nat_lt b 0x80) ≡ is_ascii_at (class_of b)
unfolding class_below
is_ascii-class = by_class (λ b. nat_lt b 0x80) is_ascii_at refl (λ b ge. grind (arith, nat_tests))
