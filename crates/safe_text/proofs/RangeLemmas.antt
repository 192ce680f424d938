-- Ranges that end one after another.
use Rattle.std.proofs.Common.{◌≡◌, ℕ, zero, suc, ◌+◌, ◌<◌, ◌≤◌, true, false, List, [], ◌∷◌, length, get_or, drop, refl, ap, ◌∙◌, subst, arith}
use Rattle.std.proofs.lemmas.Bool.{and_parts, leb-true, lt-leb, le-leb}
use Rattle.std.specs.Prelude.{nat_le}
use Rattle.std.proofs.lemmas.List.{drop_more, drop_all}
use Rattle.safe_text.specs.Classes.{is_among, ends_from}

pub ends-le : (from : ℕ) (ranges : List (ℕ × ℕ)) (k : ℕ) (d : ℕ × ℕ) → ends_from from ranges ≡ true → k < length ranges → from ≤ (get_or ranges k d).1
ends-le from [] k d ascend within = absurd (omega arith)
ends-le from (range ∷ ranges) zero d ascend within =
    let parts : (nat_le from range.1 ≡ true) × (ends_from range.1 ranges ≡ true) = and_parts _ _ ascend in
    leb-true from range.1 parts.0
ends-le from (range ∷ ranges) (suc k) d ascend within =
    let parts : (nat_le from range.1 ≡ true) × (ends_from range.1 ranges ≡ true) = and_parts _ _ ascend in
    let first : from ≤ range.1 = leb-true from range.1 parts.0 in
    let later : range.1 ≤ (get_or ranges k d).1 = ends-le range.1 ranges k d parts.1 (omega arith) in
    omega arith

-- where one ends below a number, neither it nor those before it decide about the number
pub is_among-drop : (n from : ℕ) (ranges : List (ℕ × ℕ)) (k : ℕ) (d : ℕ × ℕ) → ends_from from ranges ≡ true → k < length ranges
    → (get_or ranges k d).1 < n → is_among n ranges ≡ is_among n (drop (suc k) ranges)
unfolding is_among
is_among-drop n from [] k d ascend within below = absurd (omega arith)
is_among-drop n from (range ∷ ranges) zero d ascend within below = rw (lt-leb n range.1 below)
is_among-drop n from (range ∷ ranges) (suc k) d ascend within below =
    let parts : (nat_le from range.1 ≡ true) × (ends_from range.1 ranges ≡ true) = and_parts _ _ ascend in
    let inside : k < length ranges = omega arith in
    let later : range.1 ≤ (get_or ranges k d).1 = ends-le range.1 ranges k d parts.1 inside in
    let small : range.1 < n = omega arith in
    rw (lt-leb n range.1 small) (is_among-drop n range.1 ranges k d parts.1 inside below)

-- past the last range there is nothing
is_among-nothing : (n : ℕ) → is_among n [] ≡ false
unfolding is_among
is_among-nothing n = refl

pub is_among-past : (n : ℕ) (ranges : List (ℕ × ℕ)) (k : ℕ) → length ranges ≤ k → is_among n (drop k ranges) ≡ false
is_among-past n ranges k past = ap (is_among n) (drop_all k ranges past) ∙ is_among-nothing n

-- the first range decides, where it ends at the number or past it
is_among-first : (n : ℕ) (range : ℕ × ℕ) (ranges : List (ℕ × ℕ)) → n ≤ range.1 → is_among n (range ∷ ranges) ≡ nat_le range.0 n
unfolding is_among
is_among-first n range ranges reached = rw (le-leb n range.1 reached) refl

pub is_among-at : (n : ℕ) (ranges : List (ℕ × ℕ)) (low high : ℕ) (d : ℕ × ℕ) → high ≡ low → low < length ranges
    → (high < length ranges → n ≤ (get_or ranges high d).1) → is_among n (drop low ranges) ≡ nat_le (get_or ranges low d).0 n
is_among-at n ranges low high d same inside reached =
    let reached_here : n ≤ (get_or ranges low d).1 = subst (λ k. k < length ranges → n ≤ (get_or ranges k d).1) same reached inside in
    ap (is_among n) (drop_more ranges low d inside) ∙ is_among-first n (get_or ranges low d) (drop (low + 1) ranges) reached_here
