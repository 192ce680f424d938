-- The number and the final byte of a key say which it is.
use Rattle.std.proofs.Common.{◌≡◌, ℕ, zero, suc, ◌-◌, ◌^◌, ◌<◌, ◌≤◌, ⊎_elim, true, not, ◌&&◌, refl, sym, ap, ◌∙◌, subst, eqb, leb, arith, lit<, lit≤, leb-true}
use Rattle.std.proofs.Math.Nat.{eq-or-lt_of_le}
use Rattle.std.specs.Prelude.{if◌then◌else◌}
use Rattle.std.proofs.lemmas.Bool.{and_parts, or_cases}
use Rattle.terminal_keys.specs.declared.key.Key.{Key}
use Rattle.terminal_keys.specs.declared.key.Key.TheVariants.{Character, Enter, Tab, Backspace, Escape, Navigation as Navigates, Function, Keypad, KeypadNavigation}
use Rattle.terminal_keys.specs.declared.key.Navigation.TheVariants.{Up, Down, Right, Left, Home, End, Insert, Delete, PageUp, PageDown}
use Rattle.terminal_keys.specs.declared.key.Pad.TheVariants.{Digit, Decimal, Divide, Multiply, Subtract, Add, Separator, Equal, Return, Begin}
use Rattle.terminal_keys.specs.Keys.{is_key, is_typed}
use Rattle.terminal_keys.specs.Laws.{is_own, is_own_character}
use Rattle.terminal_keys.specs.Tables.{key_code, told_function, function_code, function_number}

-- the key of a final byte
abbrev letter_key : ℕ → Key
letter_key b =
    if eqb b 0x41 then Navigates Up
    else if eqb b 0x42 then Navigates Down
    else if eqb b 0x43 then Navigates Right
    else if eqb b 0x44 then Navigates Left
    else if eqb b 0x46 then Navigates End
    else if eqb b 0x48 then Navigates Home
    else if eqb b 0x45 then Keypad Begin
    else Function (b - 0x4F)

-- that of a number before ~
abbrev numbered_key : ℕ → Key
numbered_key n =
    if eqb n 2 then Navigates Insert
    else if eqb n 3 then Navigates Delete
    else if eqb n 5 then Navigates PageUp
    else if eqb n 6 then Navigates PageDown
    else if eqb n 13 then Function 3
    else if leb n 15 then Function (n - 10)
    else if leb n 21 then Function (n - 11)
    else Function (n - 12)

-- those of the keypad, from 57409 on
abbrev pad_key : ℕ → Key
pad_key n =
    if eqb n 57409 then Keypad Decimal
    else if eqb n 57410 then Keypad Divide
    else if eqb n 57411 then Keypad Multiply
    else if eqb n 57412 then Keypad Subtract
    else if eqb n 57413 then Keypad Add
    else if eqb n 57414 then Keypad Return
    else if eqb n 57415 then Keypad Equal
    else if eqb n 57416 then Keypad Separator
    else if eqb n 57417 then KeypadNavigation Left
    else if eqb n 57418 then KeypadNavigation Right
    else if eqb n 57419 then KeypadNavigation Up
    else if eqb n 57420 then KeypadNavigation Down
    else if eqb n 57421 then KeypadNavigation PageUp
    else if eqb n 57422 then KeypadNavigation PageDown
    else if eqb n 57423 then KeypadNavigation Home
    else if eqb n 57424 then KeypadNavigation End
    else if eqb n 57425 then KeypadNavigation Insert
    else KeypadNavigation Delete

-- that of a number before u which is no character's
abbrev other_key : ℕ → Key
other_key n =
    if eqb n 13 then Enter
    else if eqb n 9 then Tab
    else if eqb n 127 then Backspace
    else if eqb n 27 then Escape
    else if leb n 57398 then Function (n - 57363)
    else if leb n 57408 then Keypad (Digit (n - 57399))
    else pad_key n

abbrev key_at : (number last : ℕ) → Key
key_at n last =
    if eqb last 0x75 then (if is_own_character n then Character n else other_key n)
    else if eqb last 0x7E then numbered_key n
    else letter_key last

-- what is known of a key's number and final byte
pub record IsRead (key : Key) : Type 0 where
  pub read : key_at (key_code key).number (key_code key).last ≡ key
  pub fits : (key_code key).number < 2 ^ 64
  pub final : 0x40 ≤ (key_code key).last

-- what holds of 0, 1 and so on, below a number
abbrev AllBelow : (ℕ → Type 0) → ℕ → Type 0
AllBelow P zero = Unit {0}
AllBelow P (suc n) = AllBelow P n × P n

below : (P : ℕ → Type 0) (n k : ℕ) → AllBelow P n → k < n → P k
below P zero k all h = absurd (omega arith)
below P (suc n) k all h =
    let at_most : k ≤ n = omega (arith, h) in
    ⊎_elim (λ e. subst P (sym e) all.1) (λ less. below P n k all.0 less) (eq-or-lt_of_le at_most)

-- F1 to F24
function-read : (n : ℕ) → n < 24 → IsRead (Function (suc n))
unfolding told_function function_code function_number is_own_character is_typed
function-read n h =
    below (λ m. IsRead (Function (suc m))) 24 n ((((((((((((((((((((((((tt, record { read = refl; fits = lit< tt; final = lit≤ tt }), record { read = refl; fits = lit< tt; final = lit≤ tt }), record { read = refl; fits = lit< tt; final = lit≤ tt }), record { read = refl; fits = lit< tt; final = lit≤ tt }), record { read = refl; fits = lit< tt; final = lit≤ tt }), record { read = refl; fits = lit< tt; final = lit≤ tt }), record { read = refl; fits = lit< tt; final = lit≤ tt }), record { read = refl; fits = lit< tt; final = lit≤ tt }), record { read = refl; fits = lit< tt; final = lit≤ tt }), record { read = refl; fits = lit< tt; final = lit≤ tt }), record { read = refl; fits = lit< tt; final = lit≤ tt }), record { read = refl; fits = lit< tt; final = lit≤ tt }), record { read = refl; fits = lit< tt; final = lit≤ tt }), record { read = refl; fits = lit< tt; final = lit≤ tt }), record { read = refl; fits = lit< tt; final = lit≤ tt }), record { read = refl; fits = lit< tt; final = lit≤ tt }), record { read = refl; fits = lit< tt; final = lit≤ tt }), record { read = refl; fits = lit< tt; final = lit≤ tt }), record { read = refl; fits = lit< tt; final = lit≤ tt }), record { read = refl; fits = lit< tt; final = lit≤ tt }), record { read = refl; fits = lit< tt; final = lit≤ tt }), record { read = refl; fits = lit< tt; final = lit≤ tt }), record { read = refl; fits = lit< tt; final = lit≤ tt }), record { read = refl; fits = lit< tt; final = lit≤ tt }) h

digit-read : (n : ℕ) → n < 10 → IsRead (Keypad (Digit n))
unfolding is_own_character is_typed
digit-read n h = below (λ m. IsRead (Keypad (Digit m))) 10 n ((((((((((tt, record { read = refl; fits = lit< tt; final = lit≤ tt }), record { read = refl; fits = lit< tt; final = lit≤ tt }), record { read = refl; fits = lit< tt; final = lit≤ tt }), record { read = refl; fits = lit< tt; final = lit≤ tt }), record { read = refl; fits = lit< tt; final = lit≤ tt }), record { read = refl; fits = lit< tt; final = lit≤ tt }), record { read = refl; fits = lit< tt; final = lit≤ tt }), record { read = refl; fits = lit< tt; final = lit≤ tt }), record { read = refl; fits = lit< tt; final = lit≤ tt }), record { read = refl; fits = lit< tt; final = lit≤ tt }) h

-- a character is below U+110000
pub typed-few : (c : ℕ) → is_typed c ≡ true → c < 0x110000
unfolding is_typed
typed-few c e =
    ⊎_elim
    (λ low. omega (arith, leb-true c 0x7E (and_parts (leb 0x20 c) (leb c 0x7E) low).1))
    (λ high. omega (arith, leb-true c 0x10FFFF (and_parts (leb 0xA0 c) (leb c 0x10FFFF) high).1))
    (or_cases (leb 0x20 c && leb c 0x7E) (leb 0xA0 c && leb c 0x10FFFF) e)

own-few : (c : ℕ) → is_own_character c ≡ true → c < 0x110000
unfolding is_own_character
own-few c e = typed-few c (and_parts (is_typed c) (not (leb 57344 c && leb c 63743)) e).0

own-function-zero : is_own (Function zero) ≡ true → ⊥
unfolding is_own is_key
own-function-zero e = cc

function-few : (n : ℕ) → is_own (Function (suc n)) ≡ true → n < 24
unfolding is_own is_key
function-few n e = omega (arith, leb-true (suc n) 24 (and_parts (leb 1 (suc n)) (leb (suc n) 24) e).1)

digit-few : (n : ℕ) → is_own (Keypad (Digit n)) ≡ true → n < 10
unfolding is_own is_key
digit-few n e = omega (arith, leb-true n 9 e)

pub key-read : (key : Key) → is_own key ≡ true → IsRead key
unfolding is_own is_key is_own_character is_typed
key-read (Character c) e = record {
  read = ap (λ b. if b then Character c else other_key c) e;
  fits = omega (arith, own-few c e);
  final = lit≤ tt;
}
key-read Enter e = record { read = refl; fits = lit< tt; final = lit≤ tt }
key-read Tab e = record { read = refl; fits = lit< tt; final = lit≤ tt }
key-read Backspace e = record { read = refl; fits = lit< tt; final = lit≤ tt }
key-read Escape e = record { read = refl; fits = lit< tt; final = lit≤ tt }
key-read (Navigates Up) e = record { read = refl; fits = lit< tt; final = lit≤ tt }
key-read (Navigates Down) e = record { read = refl; fits = lit< tt; final = lit≤ tt }
key-read (Navigates Right) e = record { read = refl; fits = lit< tt; final = lit≤ tt }
key-read (Navigates Left) e = record { read = refl; fits = lit< tt; final = lit≤ tt }
key-read (Navigates Home) e = record { read = refl; fits = lit< tt; final = lit≤ tt }
key-read (Navigates End) e = record { read = refl; fits = lit< tt; final = lit≤ tt }
key-read (Navigates Insert) e = record { read = refl; fits = lit< tt; final = lit≤ tt }
key-read (Navigates Delete) e = record { read = refl; fits = lit< tt; final = lit≤ tt }
key-read (Navigates PageUp) e = record { read = refl; fits = lit< tt; final = lit≤ tt }
key-read (Navigates PageDown) e = record { read = refl; fits = lit< tt; final = lit≤ tt }
key-read (KeypadNavigation Up) e = record { read = refl; fits = lit< tt; final = lit≤ tt }
key-read (KeypadNavigation Down) e = record { read = refl; fits = lit< tt; final = lit≤ tt }
key-read (KeypadNavigation Right) e = record { read = refl; fits = lit< tt; final = lit≤ tt }
key-read (KeypadNavigation Left) e = record { read = refl; fits = lit< tt; final = lit≤ tt }
key-read (KeypadNavigation Home) e = record { read = refl; fits = lit< tt; final = lit≤ tt }
key-read (KeypadNavigation End) e = record { read = refl; fits = lit< tt; final = lit≤ tt }
key-read (KeypadNavigation Insert) e = record { read = refl; fits = lit< tt; final = lit≤ tt }
key-read (KeypadNavigation Delete) e = record { read = refl; fits = lit< tt; final = lit≤ tt }
key-read (KeypadNavigation PageUp) e = record { read = refl; fits = lit< tt; final = lit≤ tt }
key-read (KeypadNavigation PageDown) e = record { read = refl; fits = lit< tt; final = lit≤ tt }
key-read (Keypad Decimal) e = record { read = refl; fits = lit< tt; final = lit≤ tt }
key-read (Keypad Divide) e = record { read = refl; fits = lit< tt; final = lit≤ tt }
key-read (Keypad Multiply) e = record { read = refl; fits = lit< tt; final = lit≤ tt }
key-read (Keypad Subtract) e = record { read = refl; fits = lit< tt; final = lit≤ tt }
key-read (Keypad Add) e = record { read = refl; fits = lit< tt; final = lit≤ tt }
key-read (Keypad Separator) e = record { read = refl; fits = lit< tt; final = lit≤ tt }
key-read (Keypad Equal) e = record { read = refl; fits = lit< tt; final = lit≤ tt }
key-read (Keypad Return) e = record { read = refl; fits = lit< tt; final = lit≤ tt }
key-read (Keypad Begin) e = record { read = refl; fits = lit< tt; final = lit≤ tt }
key-read (Function zero) e = absurd (own-function-zero e)
key-read (Function (suc n)) e = function-read n (function-few n e)
key-read (Keypad (Digit n)) e = digit-read n (digit-few n e)

-- so no two keys have the same
pub code-once : (a b : Key) → is_own a ≡ true → is_own b ≡ true → (key_code a).number ≡ (key_code b).number
    → (key_code a).last ≡ (key_code b).last → a ≡ b
code-once a b own_a own_b numbers lasts =
    sym (key-read a own_a).read
    ∙ (ap (λ n. key_at n (key_code a).last) numbers
    ∙ (ap (λ l. key_at (key_code b).number l) lasts
    ∙ (key-read b own_b).read))
