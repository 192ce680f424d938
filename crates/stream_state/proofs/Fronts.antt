-- The front of sixteen bytes: what is chosen lane by lane, and what is put over a room.
use Rattle.std.proofs.Common.{◌≡◌, ◌≤◌, ◌+◌, ◌-◌, ℕ, zero, suc, Bool, true, false, cond, List, [], ◌∷◌, ◌++◌, length, take, drop, refl, sym, ap, ap₂, ◌∙◌, arith, take-append-drop, append_assoc, length-drop}
use Rattle.std.specs.Prelude.{nat_lt}
use Rattle.std.specs.Simd.Lanes.{top, sel_l}
use Rattle.std.proofs.lemmas.Bool.{lt-ltb, le-ltb}
use Rattle.std.proofs.lemmas.List.{drop-drop, drop-append-le, length-take-le}

-- whether the number of each lane from one on is below a count
abbrev lanes_below : (count from lanes : ℕ) → List Bool
lanes_below count from zero = []
lanes_below count from (suc lanes) = top 7 (cond (nat_lt from count) 255 0) ∷ lanes_below count (suc from) lanes

selected-from : (count from n : ℕ) (xs ys : List ℕ) → n ≡ count - from → length xs ≡ length ys → sel_l (lanes_below count from (length xs)) xs ys ≡ take n xs ++ drop n ys
selected-from count from zero [] [] is same = refl
selected-from count from (suc n) [] [] is same = refl
selected-from count from n [] (y ∷ ys) is same = absurd (omega (arith, same))
selected-from count from n (x ∷ xs) [] is same = absurd (omega (arith, same))
selected-from count from zero (x ∷ xs) (y ∷ ys) is same =
    let other : nat_lt from count ≡ false = le-ltb from count (omega arith) in
    ap₂ (λ t l. cond (top 7 (cond t 255 0)) x y ∷ l) other (selected-from count (suc from) zero xs ys (omega arith) (omega (arith, same)))
selected-from count from (suc n) (x ∷ xs) (y ∷ ys) is same =
    let below : nat_lt from count ≡ true = lt-ltb from count (omega arith) in
    ap₂ (λ t l. cond (top 7 (cond t 255 0)) x y ∷ l) below (selected-from count (suc from) n xs ys (omega arith) (omega (arith, same)))

-- the lanes below a count are chosen of one block, and the others of another one
pub selected : (count : ℕ) (xs ys : List ℕ) → length xs ≡ 16 → length ys ≡ 16 → sel_l (lanes_below count 0 16) xs ys ≡ take count xs ++ drop count ys
selected count xs ys long as_long =
    let all : count - 0 ≡ count = omega arith in
    ap (λ n. sel_l (lanes_below count 0 n) xs ys) (sym long) ∙ selected-from count 0 count xs ys (sym all) (long ∙ sym as_long)

-- A short text is put over a room: the bytes behind it are as they stood there.
module _ (place size : ℕ) (room text there moved : List ℕ) (short : length text ≤ size) (fits : place + size ≤ length room)
    (stood : there ≡ take size (drop place room)) (are : moved ≡ text ++ drop (length text) there) where
  abbrev after : List ℕ
  after = drop size (drop place room)

  behind : drop (length text) there ++ after ≡ drop (place + length text) room
  behind =
      let left = drop place room in
      ap (λ l. drop (length text) l ++ after) stood
      ∙ sym (drop-append-le (length text) (take size left) after (omega (arith, length-take-le size left (omega (arith, length-drop place room)))))
      ∙ ap (drop (length text)) (take-append-drop size left)
      ∙ drop-drop (length text) place room

  pub put_over-text : take place room ++ (moved ++ after) ≡ take place room ++ text ++ drop (place + length text) room
  put_over-text =
      ap (λ l. take place room ++ (l ++ after)) are
      ∙ ap (λ l. take place room ++ l) (append_assoc text (drop (length text) there) after ∙ ap (λ l. text ++ l) behind)
      ∙ sym (append_assoc (take place room) text (drop (place + length text) room))
