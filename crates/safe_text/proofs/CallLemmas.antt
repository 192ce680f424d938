-- The characters of the calls that bytes make.
use Rattle.std.proofs.Common.{◌≡◌, ℕ, ◌<◌, ◌≤◌, Bool, true, false, eqb-true, List, [], ◌∷◌, ◌++◌, length, filter, map, refl, sym, ap, ap₂, ◌∙◌, subst, ⊎_elim, arith, IsTrue}
use Rattle.std.specs.Prelude.{◌==◌, ◌||◌, encode_utf8, if◌then◌else◌}
use Rattle.std.specs.Char.{IsScalar}
use Rattle.std.specs.List.{AllByRecursion}
use Rattle.std.specs.Str.{encode_utf8_all, chars}
use Rattle.std.proofs.Math.Utf8.{low_scalar}
use Rattle.std.proofs.lemmas.Bool.{or_cases}
use Rattle.std.proofs.lemmas.Str.{chars-encodes}
use lib.Utf8.{scalar_cases}
use Rattle.anstyle_parse.specs.Stream.Bytes.{is_within, is_control, is_cancel, string_terminator}
use Rattle.anstyle_parse.specs.Stream.Call.{Call, print, execute, hook, put, unhook, osc_dispatch, csi_dispatch, esc_dispatch}
use Rattle.anstyle_parse.specs.Stream.Calls.{is_executed}
use Rattle.anstyle_parse.specs.Stream.Texts.{layout_call}
use Rattle.anstyle_parse.specs.Laws.Lawful.{AreLawfulFrom, AreLawful}
use Rattle.anstyle_parse.proofs.Characters.Encoding.{encode_one, within_parts}
use Rattle.anstyle_parse.proofs.Characters.Layout.{layout-low}
use Rattle.ansi_strip.specs.Strip.{is_layout, is_left, stripped}
use Rattle.ansi_strip.proofs.Showable.{IsScalar-character}
use Rattle.safe_text.specs.Safe.{characters_of, characters, safe, AreSafeFrom, IsSafe}
use Rattle.safe_text.proofs.WholeLemmas.{all-scalars, safe-from}

-- what is executed is below A0
executed-low : (b : ℕ) → IsTrue (is_executed b) → b < 0xA0
unfolding is_executed is_control is_cancel
executed-low b is =
    let within : (low high : ℕ) → high < 0xA0 → is_within low high b ≡ true → b < 0xA0 = λ low high small h. let range = within_parts low high b h in omega (arith, range.1) in
    let at : (k : ℕ) → k < 0xA0 → (b == k) ≡ true → b < 0xA0 = λ k small e. let same = eqb-true b k e in omega arith in
    let first : (is_within 0x00 0x17 b || b == 0x19 || is_within 0x1C 0x1F b) ≡ true → b < 0xA0 =
    λ h. ⊎_elim (λ i. ⊎_elim (within 0x00 0x17 (omega arith)) (at 0x19 (omega arith)) (or_cases (is_within 0x00 0x17 b) (b == 0x19) i)) (within 0x1C 0x1F (omega arith))
    (or_cases (is_within 0x00 0x17 b || b == 0x19) (is_within 0x1C 0x1F b) h) in
    let second : (b == 0x18 || b == 0x1A) ≡ true → b < 0xA0 = λ h. ⊎_elim (at 0x18 (omega arith)) (at 0x1A (omega arith)) (or_cases (b == 0x18) (b == 0x1A) h) in
    ⊎_elim
    (λ h. ⊎_elim (λ i. ⊎_elim (λ j. ⊎_elim first second (or_cases _ _ j)) (within 0x80 0x8F (omega arith)) (or_cases _ _ i)) (within 0x91 0x9A (omega arith)) (or_cases _ _ h))
    (at string_terminator (omega arith))
    (or_cases _ _ is)

pub scalars-lawful : (hooked : Bool) (calls : List Call) → AreLawfulFrom hooked calls → AllByRecursion IsScalar (characters calls)
scalars-lawful hooked [] lawful = tt
scalars-lawful false (print c ∷ calls) lawful = (IsScalar-character c lawful.0, scalars-lawful false calls lawful.1)
scalars-lawful false (execute b ∷ calls) lawful =
    (let low = executed-low b lawful.0 in low_scalar b (omega (arith, low)), scalars-lawful false calls lawful.1)
scalars-lawful false (hook gs is ig f ∷ calls) lawful = scalars-lawful true calls lawful.1
scalars-lawful false (osc_dispatch parts bell ∷ calls) lawful = scalars-lawful false calls lawful.1
scalars-lawful false (csi_dispatch gs is ig f ∷ calls) lawful = scalars-lawful false calls lawful.1
scalars-lawful false (esc_dispatch is ig f ∷ calls) lawful = scalars-lawful false calls lawful.1
scalars-lawful true (put b ∷ calls) lawful = scalars-lawful true calls lawful.1
scalars-lawful true (unhook ∷ calls) lawful = scalars-lawful false calls lawful
scalars-lawful false (put b ∷ calls) lawful = absurd lawful
scalars-lawful false (unhook ∷ calls) lawful = absurd lawful
scalars-lawful true (print c ∷ calls) lawful = absurd lawful
scalars-lawful true (execute b ∷ calls) lawful = absurd lawful
scalars-lawful true (hook gs is ig f ∷ calls) lawful = absurd lawful
scalars-lawful true (osc_dispatch parts bell ∷ calls) lawful = absurd lawful
scalars-lawful true (csi_dispatch gs is ig f ∷ calls) lawful = absurd lawful
scalars-lawful true (esc_dispatch is ig f ∷ calls) lawful = absurd lawful

-- which are below 110000
pub scalar-below : (c : ℕ) → IsScalar c → c < 0x1000000
scalar-below c is = ⊎_elim (λ h. omega (arith, h)) (λ h. omega (arith, h.1)) (scalar_cases c is)

pub all-below : (cs : List ℕ) → AllByRecursion IsScalar cs → AllByRecursion (λ c. c < 0x1000000) cs
all-below [] are = tt
all-below (c ∷ cs) are = (scalar-below c are.0, all-below cs are.1)

-- at most one a call
pub length-characters : (calls : List Call) → length (characters calls) ≤ length calls
length-characters [] = omega arith
length-characters (print c ∷ calls) = omega (arith, length-characters calls)
length-characters (execute b ∷ calls) = omega (arith, length-characters calls)
length-characters (hook gs is ig f ∷ calls) = omega (arith, length-characters calls)
length-characters (put b ∷ calls) = omega (arith, length-characters calls)
length-characters (unhook ∷ calls) = omega (arith, length-characters calls)
length-characters (osc_dispatch parts bell ∷ calls) = omega (arith, length-characters calls)
length-characters (csi_dispatch gs is ig f ∷ calls) = omega (arith, length-characters calls)
length-characters (esc_dispatch is ig f ∷ calls) = omega (arith, length-characters calls)

-- Stripped text is those of the calls of which something is left.
left-execute : (t : Bool) (b : ℕ) (left : List Call) (text : List ℕ) → is_layout b ≡ t → encode_utf8_all (characters left) ≡ text
    → encode_utf8_all (characters (if t then execute b ∷ left else left)) ≡ (if t then b ∷ [] else []) ++ text
left-execute true b left text is same =
    let low = layout-low b is in
    ap₂ (λ x xs. x ++ xs) (encode_one b (omega (arith, low))) same
left-execute false b left text is same = same

pub left-encoded : (calls : List Call) → encode_utf8_all (characters (filter is_left calls)) ≡ stripped calls
left-encoded [] = refl
left-encoded (print c ∷ calls) = ap (λ t. encode_utf8 c ++ t) (left-encoded calls)
left-encoded (execute b ∷ calls) = left-execute (is_layout b) b (filter is_left calls) (stripped calls) refl (left-encoded calls)
left-encoded (hook gs is ig f ∷ calls) = left-encoded calls
left-encoded (put b ∷ calls) = left-encoded calls
left-encoded (unhook ∷ calls) = left-encoded calls
left-encoded (osc_dispatch parts bell ∷ calls) = left-encoded calls
left-encoded (csi_dispatch gs is ig f ∷ calls) = left-encoded calls
left-encoded (esc_dispatch is ig f ∷ calls) = left-encoded calls

-- so safe text of which all is left stays as it is
pub safe-stays : (text : List ℕ) (calls : List Call) → AreLawful calls → IsSafe text → stripped calls ≡ text → filter is_left calls ≡ calls → safe calls ≡ text
safe-stays text calls lawful is_safe strips all =
    let encoded : encode_utf8_all (characters calls) ≡ text = ap (λ l. encode_utf8_all (characters l)) (sym all) ∙ (left-encoded calls ∙ strips) in
    let same : chars text ≡ characters calls = ap chars (sym encoded) ∙ chars-encodes (characters calls) (all-scalars (characters calls) (scalars-lawful false calls lawful)) in
    ap encode_utf8_all (safe-from 0 (characters calls) (subst (AreSafeFrom 0) same is_safe)) ∙ encoded

-- the characters of the calls of a text are its own
pub characters-prints : (cs : List ℕ) → characters (map print cs) ≡ cs
characters-prints [] = refl
characters-prints (c ∷ cs) = ap (λ l. c ∷ l) (characters-prints cs)

pub characters-layout : (cs : List ℕ) → characters (map layout_call cs) ≡ cs
characters-layout [] = refl
characters-layout (c ∷ cs) = by (is_layout c) ∙ ap (λ l. c ∷ l) (characters-layout cs)
  where
    by : (t : Bool) → characters_of (if t then execute c else print c) ++ characters (map layout_call cs) ≡ c ∷ characters (map layout_call cs)
    by true = refl
    by false = refl
