-- Inert text is read as it is, also at its end.
use Rattle.std.proofs.Common.{◌≡◌, ◌≢◌, ◌<◌, ◌≤◌, ℕ, true, List, [], ◌∷◌, ◌++◌, IsTrue, refl, sym, ap, ◌∙◌, subst, ⊎_elim, arith}
use Rattle.std.specs.Prelude.{encode_utf8}
use Rattle.std.specs.Char.{IsScalar}
use Rattle.std.specs.List.{AllByRecursion}
use Rattle.std.specs.Str.{chars, encode_utf8_all, all_scalars}
use lib.Utf8.{scalar_cases}
use Rattle.std.proofs.lemmas.Bool.{cases_lt, false≢true, and_parts}
use Rattle.std.proofs.lemmas.Str.{encodes-chars, scalars-chars}
use Rattle.anstyle_parse.specs.Machine.AsRead.{is_stray, read_from, as_read, as_read_whole, break_in}
use Rattle.anstyle_parse.specs.Machine.Decoder.{decoded}
use Rattle.anstyle_parse.specs.Machine.Step.{Machine, new_machine, step, machine_after}
use Rattle.anstyle_parse.specs.Machine.Table.{change_at}
use Rattle.anstyle_parse.specs.Stream.Bytes.{is_within}
use Rattle.anstyle_parse.specs.Stream.Items.{EachIs}
use Rattle.anstyle_parse.specs.Stream.Texts.{is_layout}
use Rattle.anstyle_parse.specs.Views.Parser.{AreBelow}
use Rattle.anstyle_parse.proofs.Characters.Encoding.{encode_one, encode_two, encode_three, encode_four}
use Rattle.anstyle_parse.proofs.Machine.AsReadText.{as_read_whole-text}
use Rattle.ansi_strip.specs.Inert.{is_driving, is_inert_character, IsInertText}

-- bytes, none of which is ESC
abbrev AreKept : List ℕ → Type 0
AreKept bytes = AllByRecursion (λ b. (b < 0x100) × (b ≢ 0x1B)) bytes

kept-append : (first second : List ℕ) → AreKept first → AreKept second → AreKept (first ++ second)
kept-append [] second one two = two
kept-append (b ∷ first) second one two = (one.0, kept-append first second one.1 two)

kept-below : (bytes : List ℕ) → AreKept bytes → AreBelow 0x100 bytes
kept-below [] kept = tt
kept-below (b ∷ bytes) kept = (kept.0.0, kept-below bytes kept.1)

kept-no_escape : (bytes : List ℕ) → AreKept bytes → AllByRecursion (λ b. b ≢ 0x1B) bytes
kept-no_escape [] kept = tt
kept-no_escape (b ∷ bytes) kept = (kept.0.1, kept-no_escape bytes kept.1)

high-kept : (b : ℕ) → 0x80 ≤ b → b < 0x100 → (b < 0x100) × (b ≢ 0x1B)
high-kept b high small = (small, λ is. omega (arith, high, is))

inert-no_escape : (c : ℕ) → is_inert_character c ≡ true → c ≢ 0x1B
unfolding is_inert_character is_driving
inert-no_escape c inert = λ is. false≢true (sym (ap is_inert_character is) ∙ inert)

scalar-end : (c : ℕ) → IsScalar c → c < 0x110000
scalar-end c scalar = ⊎_elim (λ low. omega (arith, low)) (λ above. omega (arith, above.1)) (scalar_cases c scalar)

character-kept : (c : ℕ) → IsScalar c → is_inert_character c ≡ true → AreKept (encode_utf8 c)
character-kept c scalar inert =
    let end = scalar-end c scalar in
    ⊎_elim
    (λ (one : c < 0x80). subst AreKept (sym (encode_one c one)) ((omega (arith, one), inert-no_escape c inert), tt))
    (λ (k : 0x80 ≤ c). ⊎_elim
    (λ (two : c < 0x800). subst AreKept (sym (encode_two c k two)) (high-kept _ (omega arith) (omega arith), (high-kept _ (omega arith) (omega arith), tt)))
    (λ (j : 0x800 ≤ c). ⊎_elim
    (λ (three : c < 0x10000). subst AreKept (sym (encode_three c j three))
    (high-kept _ (omega arith) (omega arith), (high-kept _ (omega arith) (omega arith), (high-kept _ (omega arith) (omega arith), tt))))
    (λ (four : 0x10000 ≤ c). subst AreKept (sym (encode_four c four))
    (high-kept _ (omega arith) (omega (arith, end)), (high-kept _ (omega arith) (omega arith), (high-kept _ (omega arith) (omega arith), (high-kept _ (omega arith) (omega arith), tt)))))
    (cases_lt c 0x10000))
    (cases_lt c 0x800))
    (cases_lt c 0x80)

characters-kept : (cs : List ℕ) → all_scalars cs ≡ true → EachIs is_inert_character cs → AreKept (encode_utf8_all cs)
characters-kept [] scalars inert = tt
characters-kept (c ∷ cs) scalars inert =
    let each = and_parts _ _ scalars in
    kept-append (encode_utf8 c) (encode_utf8_all cs) (character-kept c each.0 inert.0) (characters-kept cs each.1 inert.1)

pub as_read_whole-inert : (text : List ℕ) → IsInertText text → as_read_whole text ≡ text
as_read_whole-inert text inert =
    let kept = subst AreKept (encodes-chars text inert.0) (characters-kept (chars text) (scalars-chars text inert.0) inert.1) in
    as_read_whole-text text (kept-below text kept) inert.0 (kept-no_escape text kept)

-- ESC is read as it is at the front of a log, and alone
pub as_read_whole-begins : (bytes : List ℕ) → (more : List ℕ) × (as_read_whole (0x1B ∷ bytes) ≡ 0x1B ∷ more)
unfolding as_read as_read_whole is_stray is_within
as_read_whole-begins bytes =
    let m : Machine (List ℕ) = new_machine [] in
    (read_from decoded (step decoded 0x1B m) bytes ++ break_in (machine_after decoded (read_from decoded m (0x1B ∷ bytes)) m).state, refl)

pub as_read_whole-escape : as_read_whole (0x1B ∷ []) ≡ 0x1B ∷ []
unfolding as_read as_read_whole is_stray is_within step change_at
as_read_whole-escape = refl
