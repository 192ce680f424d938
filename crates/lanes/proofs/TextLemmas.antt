-- Texts may be cut before and after characters of ASCII that pass a test.
use Rattle.std.proofs.Common.{◌≡◌, ℕ, ◌+◌, ◌-◌, ◌<◌, ◌≤◌, ⊎_elim, Bool, true, false, IsTrue, List, [], ◌∷◌, ◌++◌, length, get_or, take, drop, refl, sym, ap, ◌∙◌, subst, arith, append_assoc, append-nil}
use Rattle.std.specs.Prelude.{not}
use Rattle.std.specs.List.{prefix_len, position_or_len}
use Rattle.std.specs.Str.{IsUtf8, IsAscii, IsCharBoundary}
use Rattle.std.proofs.lemmas.Bool.{cases_lt}
use Rattle.std.proofs.lemmas.Grind.{get_or_after_one}
use Rattle.std.proofs.lemmas.List.{length-drop}
use Rattle.std.proofs.lemmas.List.Sums.{prefix_len-le-length, prefix_len_stops}
use Rattle.std.proofs.lemmas.Str.{IsUtf8-from_ascii, IsCharBoundary-from_take, IsCharBoundary-end, IsCharBoundary-before_ascii}
use Rattle.std.proofs.lemmas.Str.Ascii.{IsAscii-nil, IsAscii-cons}
use Rattle.anstyle_parse.specs.Stream.Items.{EachIs}
use Rattle.anstyle_parse.proofs.Machine.Lanes.{EachIs-prefix}

from_not : (t : Bool) → not t ≡ false → t ≡ true
from_not true is = refl
from_not false is = sym is

module _ (test : ℕ → Bool) (low : (b : ℕ) → IsTrue (test b) → b < 0x80) where
  pub run-ascii : (run : List ℕ) → EachIs test run → IsAscii run
  run-ascii [] are = IsAscii-nil
  run-ascii (b ∷ run) are = IsAscii-cons b run (low b are.0) (run-ascii run are.1)

  pub run-utf8 : (run : List ℕ) → EachIs test run → IsUtf8 run
  run-utf8 run are = IsUtf8-from_ascii run (run-ascii run are)

  module _ (text bytes rest : List ℕ) (same : bytes ≡ text) where
    -- after those at the front
    after-front : rest ≡ drop (prefix_len test bytes) bytes → prefix_len test bytes ≡ length bytes - length rest
    after-front is = omega (arith, prefix_len-le-length test bytes, ap length is, length-drop (prefix_len test bytes) bytes)

    pub cut-after : IsUtf8 text → rest ≡ drop (prefix_len test bytes) bytes → IsCharBoundary text (length bytes - length rest)
    cut-after utf8 is =
        let inside : prefix_len test bytes ≤ length text = omega (arith, prefix_len-le-length test bytes, ap length same) in
        let front = ap (take (prefix_len test bytes)) same in
        subst (IsCharBoundary text) (after-front is)
        (IsCharBoundary-from_take text (prefix_len test bytes) utf8 inside (subst IsUtf8 front (run-utf8 (take (prefix_len test bytes) bytes) (EachIs-prefix test bytes))))

    pub each-before : rest ≡ drop (prefix_len test bytes) bytes → EachIs test (take (length bytes - length rest) bytes)
    each-before is = subst (λ n. EachIs test (take n bytes)) (after-front is) (EachIs-prefix test bytes)

    -- before the first one after the first byte
    pub cut-before : (others : List ℕ) → 0 < length text → others ≡ drop 1 bytes → rest ≡ drop (position_or_len test others) others
        → IsCharBoundary text (length bytes - length rest)
    cut-before others some first is =
        let n : ℕ = position_or_len test others in
        let within = prefix_len-le-length (λ b. not (test b)) others in
        let after : length others ≡ length bytes - 1 = omega (arith, ap length first, length-drop 1 bytes) in
        let at : 1 + n ≡ length bytes - length rest = omega (arith, within, after, ap length is, length-drop n others, ap length same, some) in
        subst (IsCharBoundary text) at (⊎_elim
        (λ (inside : n < length others).
        let passes : test (get_or others n 0) ≡ true = from_not (test (get_or others n 0)) (prefix_len_stops (λ b. not (test b)) others 0 inside) in
        let there : get_or text (1 + n) 0 ≡ get_or others n 0 =
        sym (ap (λ l. get_or l n 0) (first ∙ ap (drop 1) same) ∙ get_or_after_one text n 0) in
        IsCharBoundary-before_ascii text (1 + n) (omega (arith, inside, after, ap length same)) (let small = low (get_or others n 0) passes in omega (arith, small, there)))
        (λ (end : length others ≤ n).
        let all : length text ≡ 1 + n = omega (arith, within, end, after, ap length same, some) in
        subst (IsCharBoundary text) all (IsCharBoundary-end text))
        (cases_lt n (length others)))

-- of a text that is taken in parts: a run of the kind and what stands to the next one more, and a run at its end
pub two-parts-taken : (text passed rest run after others further : List ℕ) → text ≡ passed ++ rest → rest ≡ run ++ after → after ≡ others ++ further
    → text ≡ (passed ++ (run ++ others)) ++ further
two-parts-taken text passed rest run after others further a b d =
    a
    ∙ (ap (λ l. passed ++ l) (b ∙ (ap (λ l. run ++ l) d ∙ sym (append_assoc run others further)))
    ∙ sym (append_assoc passed (run ++ others) further))

pub last-part-taken : (text passed rest run after : List ℕ) → text ≡ passed ++ rest → rest ≡ run ++ after → after ≡ [] → text ≡ passed ++ run
last-part-taken text passed rest run after a b d = a ∙ ap (λ l. passed ++ l) (b ∙ (ap (λ l. run ++ l) d ∙ append-nil run))
