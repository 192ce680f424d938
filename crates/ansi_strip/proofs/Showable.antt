-- Lawful calls print characters, so what is left of them is UTF-8.
use Rattle.std.proofs.Common.{◌≡◌, ◌<◌, ℕ, Bool, true, false, ltb, leb, le-leb, List, [], ◌∷◌, ◌++◌, refl, ⊎_elim, arith}
use Rattle.std.specs.Prelude.{if◌then◌else◌}
use Rattle.std.specs.Char.{IsScalar}
use Rattle.std.specs.List.{AllByRecursion}
use Rattle.std.specs.Str.{IsUtf8}
use Rattle.std.proofs.lemmas.Bool.{or_cases, lt-ltb, le-ltb}
use Rattle.std.proofs.lemmas.Str.{IsUtf8-append, IsUtf8-nil, IsUtf8-encode}
use Rattle.anstyle_parse.specs.Stream.Bytes.{is_within}
use Rattle.anstyle_parse.specs.Stream.Call.{Call, print, execute, hook, put, unhook, osc_dispatch, csi_dispatch, esc_dispatch}
use Rattle.anstyle_parse.specs.Laws.Lawful.{is_character, AreLawful, AreLawfulFrom}
use Rattle.anstyle_parse.proofs.Characters.Encoding.{within_parts}
use Rattle.anstyle_parse.proofs.Characters.Layout.{IsUtf8-layout}
use Rattle.ansi_strip.specs.Strip.{is_layout, stripped_call, stripped}

-- a call whose text can be shown: a printed character is one
abbrev pub IsShowable : Call → Type 0
IsShowable (print c) = is_character c ≡ true
IsShowable (execute b) = Unit {0}
IsShowable (hook groups intermediates ignore final) = Unit {0}
IsShowable (put b) = Unit {0}
IsShowable unhook = Unit {0}
IsShowable (osc_dispatch parts bell) = Unit {0}
IsShowable (csi_dispatch groups intermediates ignore final) = Unit {0}
IsShowable (esc_dispatch intermediates ignore final) = Unit {0}

abbrev pub AreShowable : List Call → Type 0
AreShowable calls = AllByRecursion IsShowable calls

pub AreShowable-lawful : (hooked : Bool) (calls : List Call) → AreLawfulFrom hooked calls → AreShowable calls
AreShowable-lawful hooked [] h = tt
AreShowable-lawful false (print c ∷ calls) h = (h.0, AreShowable-lawful false calls h.1)
AreShowable-lawful false (execute b ∷ calls) h = (tt, AreShowable-lawful false calls h.1)
AreShowable-lawful false (hook gs is ig f ∷ calls) h = (tt, AreShowable-lawful true calls h.1)
AreShowable-lawful false (osc_dispatch parts bell ∷ calls) h = (tt, AreShowable-lawful false calls h.1)
AreShowable-lawful false (csi_dispatch gs is ig f ∷ calls) h = (tt, AreShowable-lawful false calls h.1)
AreShowable-lawful false (esc_dispatch is ig f ∷ calls) h = (tt, AreShowable-lawful false calls h.1)
AreShowable-lawful true (put b ∷ calls) h = (tt, AreShowable-lawful true calls h.1)
AreShowable-lawful true (unhook ∷ calls) h = (tt, AreShowable-lawful false calls h)
AreShowable-lawful false (put b ∷ calls) h = absurd h
AreShowable-lawful false (unhook ∷ calls) h = absurd h
AreShowable-lawful true (_ ∷ calls) h = absurd h

-- characters are scalar values
pub scalar_below : (c : ℕ) → c < 0xD800 → IsScalar c
scalar_below c low = rw (lt-ltb c 0xD800 low) refl

scalar_above : (c : ℕ) → 0xDFFF < c → c < 0x110000 → IsScalar c
scalar_above c low high =
    let not_low : ltb c 0xD800 ≡ false = le-ltb c 0xD800 (omega arith) in
    let above : leb 0xE000 c ≡ true = le-leb 0xE000 c (omega arith) in
    let below : ltb c 0x110000 ≡ true = lt-ltb c 0x110000 high in
    rw (not_low, above, below) refl

pub IsScalar-character : (c : ℕ) → is_character c ≡ true → IsScalar c
unfolding is_character
IsScalar-character c is =
    ⊎_elim
    (λ h. let range = within_parts 0x20 0xD7FF c h in scalar_below c (omega (arith, range.1)))
    (λ h. let range = within_parts 0xE000 0x10FFFF c h in scalar_above c (omega (arith, range.0)) (omega (arith, range.1)))
    (or_cases (is_within 0x20 0xD7FF c) (is_within 0xE000 0x10FFFF c) is)

-- what is left of a call, and of calls
left-control : (b : ℕ) (layout : Bool) → is_layout b ≡ layout → IsUtf8 (if layout then b ∷ [] else [])
left-control b true is = IsUtf8-layout b is
left-control b false is = IsUtf8-nil

IsUtf8-call : (call : Call) → IsShowable call → IsUtf8 (stripped_call call)
IsUtf8-call (print c) is = IsUtf8-encode c (IsScalar-character c is)
IsUtf8-call (execute b) is = left-control b (is_layout b) refl
IsUtf8-call (hook gs is ig f) h = IsUtf8-nil
IsUtf8-call (put b) h = IsUtf8-nil
IsUtf8-call unhook h = IsUtf8-nil
IsUtf8-call (osc_dispatch parts bell) h = IsUtf8-nil
IsUtf8-call (csi_dispatch gs is ig f) h = IsUtf8-nil
IsUtf8-call (esc_dispatch is ig f) h = IsUtf8-nil

IsUtf8-stripped : (calls : List Call) → AreShowable calls → IsUtf8 (stripped calls)
IsUtf8-stripped [] are = IsUtf8-nil
IsUtf8-stripped (call ∷ calls) are = IsUtf8-append (stripped_call call) (stripped calls) (IsUtf8-call call are.0) (IsUtf8-stripped calls are.1)

-- the later of the calls can be shown too
AreShowable-after : (first calls : List Call) → AreShowable (first ++ calls) → AreShowable calls
AreShowable-after [] calls are = are
AreShowable-after (call ∷ first) calls are = AreShowable-after first calls are.1

-- the text of lawful calls, and of the later of them
pub IsUtf8-lawful : (calls : List Call) → AreLawful calls → IsUtf8 (stripped calls)
IsUtf8-lawful calls lawful = IsUtf8-stripped calls (AreShowable-lawful false calls lawful)

pub AreShowable-later : (first calls : List Call) → AreLawful (first ++ calls) → AreShowable calls
AreShowable-later first calls lawful = AreShowable-after first calls (AreShowable-lawful false (first ++ calls) lawful)

pub IsUtf8-later : (first calls : List Call) → AreLawful (first ++ calls) → IsUtf8 (stripped calls)
IsUtf8-later first calls lawful = IsUtf8-stripped calls (AreShowable-later first calls lawful)
