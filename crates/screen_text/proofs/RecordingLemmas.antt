-- The first line of a stream, and the size that it says.
use Rattle.std.proofs.Common.{◌≡◌, ℕ, zero, suc, ◌+◌, ◌<◌, ◌≤◌, ◌-◌, min, Bool, true, false, ◌||◌, List, [], ◌∷◌, ◌++◌, ◌⊎◌, inl, inr, length, take, drop, get_or, refl, sym, ap, ◌∙◌, arith, append-nil}
use Rattle.std.proofs.lemmas.Bool.{leb-true, ne_eqb}
use Rattle.std.proofs.lemmas.List.{take_min, take_all, drop_more, length-drop}
use Rattle.std.specs.Prelude.{◌==◌, nat_le, Option, None, Some, if◌then◌else◌}
use Rattle.std.specs.List.{list_any}
use Rattle.std.specs.Option.{option_or, unwrap_or}
use Rattle.ansi_screen.specs.declared.size.Size.{Size}
use Rattle.screen_text.specs.declared.recording.ShownSize.{ShownSize}
use Rattle.screen_text.specs.declared.recording.ShownSize.TheVariants.{Recorded, Fixed}
use Rattle.screen_text.specs.Recording.{most_front, first_line, after_text, size_of_end, size_of_line, recorded_size, after_line, given_after, without_line, of_a_log, size_for, is_decided}

-- What comes after so many bytes, or after a line feed, changes no first line.
line-on : (b : ℕ) (n : ℕ) (front rest : List ℕ) (t : Bool) → (b == 0x0A) ≡ t → (n ≤ length front) ⊎ (list_any (λ c. c == 0x0A) (b ∷ front) ≡ true)
    → ((n ≤ length front) ⊎ (list_any (λ c. c == 0x0A) front ≡ true) → first_line (take n (front ++ rest)) ≡ first_line (take n front))
    → first_line (b ∷ take n (front ++ rest)) ≡ first_line (b ∷ take n front)
line-on b n front rest true is enough more = rw is refl
line-on b n front rest false is (inl long) more = rw (is, more (inl long)) refl
line-on b n front rest false is (inr has) more =
    let later : list_any (λ c. c == 0x0A) front ≡ true = ap (λ t. t || list_any (λ c. c == 0x0A) front) (sym is) ∙ has in
    rw (is, more (inr later)) refl

pub line-stays : (n : ℕ) (front rest : List ℕ) → (n ≤ length front) ⊎ (list_any (λ c. c == 0x0A) front ≡ true)
    → first_line (take n (front ++ rest)) ≡ first_line (take n front)
line-stays zero front rest enough = refl
line-stays (suc n) [] rest (inl long) = absurd (omega (arith, long))
line-stays (suc n) [] rest (inr has) = absurd (let clash : false ≡ true = has in cc)
line-stays (suc n) (b ∷ front) rest (inl long) = line-on b n front rest (b == 0x0A) refl (inl (omega (arith, long))) (line-stays n front rest)
line-stays (suc n) (b ∷ front) rest (inr has) = line-on b n front rest (b == 0x0A) refl (inr has) (line-stays n front rest)

-- as many as there are of so many
pub take-min : (n : ℕ) (bytes : List ℕ) → take (min (length bytes) n) bytes ≡ take n bytes
take-min n bytes =
    let turned : min (length bytes) n ≡ min n (length bytes) = omega arith in
    ap (λ k. take k bytes) turned ∙ take_min n bytes

-- Bytes at the front decide the first line.
line-decided : (front : List ℕ) → is_decided Recorded front ≡ true → (most_front ≤ length front) ⊎ (list_any (λ c. c == 0x0A) front ≡ true)
line-decided front is = by_length (nat_le most_front (length front)) refl is
  where
    by_length : (t : Bool) → nat_le most_front (length front) ≡ t → (nat_le most_front (length front) || list_any (λ c. c == 0x0A) front) ≡ true
        → (most_front ≤ length front) ⊎ (list_any (λ c. c == 0x0A) front ≡ true)
    by_length true long is = inl (leb-true most_front (length front) long)
    by_length false long is = inr (ap (λ t. t || list_any (λ c. c == 0x0A) front) (sym long) ∙ is)

-- A size begins with a space: of what begins with another byte, the rest says what is said.
no-size-here : (b : ℕ) (bytes : List ℕ) → ¬ (b ≡ 0x20) → size_of_end (b ∷ bytes) ≡ None
unfolding size_of_end after_text
no-size-here b bytes other = rw (ne_eqb 0x20 b (λ is. other (sym is))) refl

pub passed-over : (b : ℕ) (bytes : List ℕ) → ¬ (b ≡ 0x20) → size_of_line (b ∷ bytes) ≡ size_of_line bytes
passed-over b bytes other = ap (λ said. option_or said (size_of_line bytes)) (no-size-here b bytes other)

-- what a stream says does not change
pub recorded-stays : (front rest : List ℕ) → (is_decided Recorded front ≡ true) ⊎ (rest ≡ []) → recorded_size (front ++ rest) ≡ recorded_size front
recorded-stays front rest (inl decided) = ap size_of_line (line-stays most_front front rest (line-decided front decided))
recorded-stays front rest (inr none) = ap recorded_size (ap (λ l. front ++ l) none ∙ append-nil front)

-- the size does not change
pub size-stays : (shown : ShownSize) (front rest : List ℕ) → (is_decided shown front ≡ true) ⊎ (rest ≡ []) → size_for shown (front ++ rest) ≡ size_for shown front
size-stays (Fixed size) front rest enough = refl
size-stays Recorded front rest enough = ap (λ said. unwrap_or said of_a_log) (recorded-stays front rest enough)

-- What comes after the first line of a stream comes after that of its front, and then the rest.
after-on : (b : ℕ) (n : ℕ) (front rest : List ℕ) (t : Bool) → (b == 0x0A) ≡ t → (n ≤ length front) ⊎ (list_any (λ c. c == 0x0A) (b ∷ front) ≡ true)
    → ((n ≤ length front) ⊎ (list_any (λ c. c == 0x0A) front ≡ true) → after_line n (front ++ rest) ≡ after_line n front ++ rest)
    → after_line (suc n) (b ∷ (front ++ rest)) ≡ after_line (suc n) (b ∷ front) ++ rest
after-on b n front rest true is enough more = rw is refl
after-on b n front rest false is (inl long) more = rw is (more (inl long))
after-on b n front rest false is (inr has) more =
    let later : list_any (λ c. c == 0x0A) front ≡ true = ap (λ t. t || list_any (λ c. c == 0x0A) front) (sym is) ∙ has in
    rw is (more (inr later))

after-stays : (n : ℕ) (front rest : List ℕ) → (n ≤ length front) ⊎ (list_any (λ c. c == 0x0A) front ≡ true)
    → after_line n (front ++ rest) ≡ after_line n front ++ rest
after-stays zero front rest enough = refl
after-stays (suc n) [] rest (inl long) = absurd (omega (arith, long))
after-stays (suc n) [] rest (inr has) = absurd (let clash : false ≡ true = has in cc)
after-stays (suc n) (b ∷ front) rest (inl long) = after-on b n front rest (b == 0x0A) refl (inl (omega (arith, long))) (after-stays n front rest)
after-stays (suc n) (b ∷ front) rest (inr has) = after-on b n front rest (b == 0x0A) refl (inr has) (after-stays n front rest)

pub line-left : (front rest : List ℕ) → (is_decided Recorded front ≡ true) ⊎ (rest ≡ []) → after_line most_front (front ++ rest) ≡ after_line most_front front ++ rest
line-left front rest (inl decided) = after-stays most_front front rest (line-decided front decided)
line-left front rest (inr none) =
    ap (after_line most_front) (ap (λ l. front ++ l) none ∙ append-nil front) ∙ sym (ap (λ l. after_line most_front front ++ l) none ∙ append-nil (after_line most_front front))

-- what its terminal was given, where the front says a size or not
pub given-stays : (front rest : List ℕ) (said : Option Size) → recorded_size front ≡ said → (is_decided Recorded front ≡ true) ⊎ (rest ≡ [])
    → without_line (front ++ rest) ≡ given_after said front ++ rest
given-stays front rest None said enough = ap (λ o. given_after o (front ++ rest)) (recorded-stays front rest enough ∙ said)
given-stays front rest (Some size) said enough = ap (λ o. given_after o (front ++ rest)) (recorded-stays front rest enough ∙ said) ∙ line-left front rest enough

-- The rest of a list from a place on.
rest-whole : (k : ℕ) (bytes : List ℕ) → take (length bytes - k) (drop k bytes) ≡ drop k bytes
rest-whole k bytes = take_all (length bytes - k) (drop k bytes) (omega (arith, length-drop k bytes))

-- One byte more, which is a line feed or none.
after-at : (n i : ℕ) (bytes : List ℕ) → i < length bytes → i < n
    → after_line (n - i) (drop i bytes) ≡ (if get_or bytes i 0 == 0x0A then drop (i + 1) bytes else after_line (n - (i + 1)) (drop (i + 1) bytes))
after-at n i bytes inside below =
    let one : n - i ≡ suc (n - (i + 1)) = omega (arith, below) in
    ap (after_line (n - i)) (drop_more bytes i 0 inside) ∙ ap (λ k. after_line k (get_or bytes i 0 ∷ drop (i + 1) bytes)) one

pub after-next : (n i : ℕ) (bytes : List ℕ) → i < length bytes → i < n → (get_or bytes i 0 == 0x0A) ≡ false
    → after_line (n - i) (drop i bytes) ≡ after_line n bytes → after_line (n - (i + 1)) (drop (i + 1) bytes) ≡ after_line n bytes
after-next n i bytes inside below other before =
    sym (after-at n i bytes inside below ∙ ap (λ t. if t then drop (i + 1) bytes else after_line (n - (i + 1)) (drop (i + 1) bytes)) other) ∙ before

pub after-here : (n i : ℕ) (bytes : List ℕ) → i < length bytes → i < n → (get_or bytes i 0 == 0x0A) ≡ true
    → after_line (n - i) (drop i bytes) ≡ after_line n bytes → take (length bytes - (i + 1)) (drop (i + 1) bytes) ≡ after_line n bytes
after-here n i bytes inside below is before =
    rest-whole (i + 1) bytes
    ∙ (sym (after-at n i bytes inside below ∙ ap (λ t. if t then drop (i + 1) bytes else after_line (n - (i + 1)) (drop (i + 1) bytes)) is) ∙ before)

-- and where there is no further one
after-none : (k : ℕ) (rest : List ℕ) → min (length rest) k ≡ 0 → rest ≡ after_line k rest
after-none zero rest none = refl
after-none (suc k) [] none = refl
after-none (suc k) (b ∷ rest) none = absurd (omega (arith, none))

pub after-all : (n i : ℕ) (bytes : List ℕ) → i ≡ min (length bytes) n → after_line (n - i) (drop i bytes) ≡ after_line n bytes
    → take (length bytes - i) (drop i bytes) ≡ after_line n bytes
after-all n i bytes is before =
    rest-whole i bytes ∙ (after-none (n - i) (drop i bytes) (omega (arith, is, length-drop i bytes)) ∙ before)
