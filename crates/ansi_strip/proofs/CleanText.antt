-- Clean text is the canonical text of its characters, each printed or executed: so all of it is left.
use Rattle.std.proofs.Common.{◌≡◌, ◌<◌, ◌≤◌, ℕ, Bool, true, false, ◌||◌, eqb, List, [], ◌∷◌, ◌++◌, map, refl, sym, ap, ◌∙◌, subst, ⊎_elim, arith, IsTrue}
use Rattle.std.specs.Prelude.{encode_utf8, if◌then◌else◌, nat_le}
use Rattle.std.specs.Char.{IsScalar}
use Rattle.std.specs.List.{AllByRecursion}
use Rattle.std.specs.Str.{encode_utf8_all, all_scalars}
use Rattle.std.proofs.lemmas.Bool.{and_parts, or_cases, or_left, or_right, leb-true, le-leb, eqb-true, cases_lt, false≢true}
use lib.Utf8.{scalar_cases}
use Rattle.anstyle_parse.specs.Stream.Bytes.{is_within, is_control}
use Rattle.anstyle_parse.specs.Stream.Call.{Call, print, execute}
use Rattle.anstyle_parse.specs.Stream.Calls.{AreCalls, is_executed}
use Rattle.anstyle_parse.specs.Stream.Canon.{call_text, canon}
use Rattle.anstyle_parse.specs.Laws.Lawful.{is_character, AreLawful}
use Rattle.anstyle_parse.proofs.Characters.Encoding.{encode_one, within}
use Rattle.anstyle_parse.proofs.Canonical.Twice.{replay-only}
use Rattle.ansi_strip.specs.Strip.{is_layout, is_clean, IsClean, stripped_call, stripped}

-- the call of a character, by whether it is from the space on
abbrev pub call_by : Bool → ℕ → Call
call_by true c = print c
call_by false c = execute c

abbrev pub call_of : ℕ → Call
call_of c = call_by (nat_le 0x20 c) c

-- which is printed, or a control that is left
abbrev pub IsLeft : Bool → ℕ → Type 0
IsLeft true c = is_character c ≡ true
IsLeft false c = (c < 0x20) × (is_layout c ≡ true)

abbrev pub AreLeft : List ℕ → Type 0
AreLeft characters = AllByRecursion (λ c. IsLeft (nat_le 0x20 c) c) characters

-- the bytes of each of two texts are clean
clean-parts : (first second : List ℕ) → AllByRecursion (λ b. IsTrue (is_clean b)) (first ++ second)
    → AllByRecursion (λ b. IsTrue (is_clean b)) first × AllByRecursion (λ b. IsTrue (is_clean b)) second
clean-parts [] second all = (tt, all)
clean-parts (b ∷ first) second all = let rest = clean-parts first second all.1 in ((all.0, rest.0), rest.1)

-- a scalar value from the space on can be printed
pub character-scalar : (c : ℕ) → IsScalar c → 0x20 ≤ c → is_character c ≡ true
unfolding is_character
character-scalar c is low =
    ⊎_elim
    (λ h. or_left (is_within 0x20 0xD7FF c) (is_within 0xE000 0x10FFFF c) (within 0x20 0xD7FF c low (omega (arith, h))))
    (λ h. or_right (is_within 0x20 0xD7FF c) (is_within 0xE000 0x10FFFF c) (within 0xE000 0x10FFFF c h.0 (omega (arith, h.1))))
    (scalar_cases c is)

-- below it, a clean byte is one of the controls that are left
layout-clean : (c : ℕ) → nat_le 0x20 c ≡ false → IsTrue (is_clean c) → is_layout c ≡ true
unfolding is_clean
layout-clean c low clean =
    ⊎_elim (λ high. absurd (false≢true (sym low ∙ high))) (λ layout. layout) (or_cases (nat_le 0x20 c) (is_layout c) clean)

pub below-space : (c : ℕ) → nat_le 0x20 c ≡ false → c < 0x20
below-space c low = ⊎_elim (λ h. h) (λ h. absurd (false≢true (sym low ∙ le-leb 0x20 c h))) (cases_lt c 0x20)

left-by : (c : ℕ) (t : Bool) → nat_le 0x20 c ≡ t → IsScalar c → AllByRecursion (λ b. IsTrue (is_clean b)) (encode_utf8 c) → IsLeft t c
left-by c true e is clean = character-scalar c is (leb-true 0x20 c e)
left-by c false e is clean =
    let low = below-space c e in
    (low, layout-clean c e (subst (λ l. AllByRecursion (λ b. IsTrue (is_clean b)) l) (encode_one c (omega (arith, low))) clean).0)

-- the characters of clean text are left
AreLeft-clean : (characters : List ℕ) → all_scalars characters ≡ true → AllByRecursion (λ b. IsTrue (is_clean b)) (encode_utf8_all characters) → AreLeft characters
AreLeft-clean [] are clean = tt
AreLeft-clean (c ∷ characters) are clean =
    let each = and_parts _ (all_scalars characters) are in
    let parts = clean-parts (encode_utf8 c) (encode_utf8_all characters) clean in
    (left-by c (nat_le 0x20 c) refl each.0 parts.0, AreLeft-clean characters each.1 parts.1)

-- the controls that are left are executed
executed-layout : (c : ℕ) → is_layout c ≡ true → IsTrue (is_executed c)
unfolding is_executed is_control is_within
executed-layout c is =
    let at : (k : ℕ) → IsTrue (is_executed k) → eqb c k ≡ true → IsTrue (is_executed c) = λ k h e. subst (λ b. IsTrue (is_executed b)) (sym (eqb-true c k e)) h in
    ⊎_elim (λ either. ⊎_elim (at 0x09 refl) (at 0x0A refl) (or_cases (eqb c 0x09) (eqb c 0x0A) either)) (at 0x0D refl)
    (or_cases (eqb c 0x09 || eqb c 0x0A) (eqb c 0x0D) is)

-- the canonical text of a call so made, what is left of it, and that it may stand first
call_text-by : (t : Bool) (c : ℕ) → IsLeft t c → call_text (call_by t c) ≡ encode_utf8 c
call_text-by true c left = refl
call_text-by false c left = sym (encode_one c (omega (arith, left.0)))

stripped-by : (t : Bool) (c : ℕ) → IsLeft t c → stripped_call (call_by t c) ≡ encode_utf8 c
stripped-by true c left = refl
stripped-by false c left = ap (λ t. if t then c ∷ [] else []) left.1 ∙ sym (encode_one c (omega (arith, left.0)))

lawful-by : (t : Bool) (c : ℕ) (calls : List Call) → IsLeft t c → AreLawful calls → AreLawful (call_by t c ∷ calls)
lawful-by true c calls left are = (left, are)
lawful-by false c calls left are = (executed-layout c left.1, are)

canon-left : (characters : List ℕ) → AreLeft characters → canon (map call_of characters) ≡ encode_utf8_all characters
canon-left [] left = refl
canon-left (c ∷ characters) left =
    ap (λ l. l ++ canon (map call_of characters)) (call_text-by (nat_le 0x20 c) c left.0) ∙ ap (λ l. encode_utf8 c ++ l) (canon-left characters left.1)

pub stripped-left : (characters : List ℕ) → AreLeft characters → stripped (map call_of characters) ≡ encode_utf8_all characters
stripped-left [] left = refl
stripped-left (c ∷ characters) left =
    ap (λ l. l ++ stripped (map call_of characters)) (stripped-by (nat_le 0x20 c) c left.0) ∙ ap (λ l. encode_utf8 c ++ l) (stripped-left characters left.1)

lawful-left : (characters : List ℕ) → AreLeft characters → AreLawful (map call_of characters)
lawful-left [] left = tt
lawful-left (c ∷ characters) left = lawful-by (nat_le 0x20 c) c (map call_of characters) left.0 (lawful-left characters left.1)

-- the calls of the characters that are left
pub calls-left : (characters : List ℕ) (calls : List Call) → AreLeft characters → AreCalls (encode_utf8_all characters) calls → calls ≡ map call_of characters
calls-left characters calls left are =
    replay-only (map call_of characters) calls (lawful-left characters left) (subst (λ (l : List ℕ). AreCalls l calls) (sym (canon-left characters left)) are)

-- clean text stays as it is
pub stripped-clean : (text : List ℕ) (calls : List Call) → IsClean text → AreCalls text calls → stripped calls ≡ text
stripped-clean text calls clean are =
    let characters = clean.0.0 in
    let spelt = clean.0.1.1 in
    let left = AreLeft-clean characters clean.0.1.0 (subst (λ l. AllByRecursion (λ b. IsTrue (is_clean b)) l) (sym spelt) clean.1) in
    let same = calls-left characters calls left (subst (λ (l : List ℕ). AreCalls l calls) (sym spelt) are) in
    ap stripped same ∙ (stripped-left characters left ∙ spelt)
