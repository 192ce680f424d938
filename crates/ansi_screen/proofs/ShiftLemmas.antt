-- Numbers that move by one place, sixteen at once.
use Rattle.std.proofs.Common.{◌≡◌, ℕ, ◌+◌, ◌-◌, ◌<◌, ◌≤◌, List, ◌++◌, length, take, drop, ap, ap₂, sym, ◌∙◌, arith}
use Rattle.std.specs.Simd.Lanes.{chunk, put_chunk}
use Rattle.std.proofs.lemmas.List.{append_assoc, drop-drop, length-drop, length-take-le, take_all, take_at, drop_at, take-take, take-append-drop}
use Rattle.std.proofs.lemmas.Simd.{put_chunk_is}
use Rattle.std.proofs.Math.Seq.{take-add}

-- What is read at one place is written at another.
module _ (read at size : ℕ) (order : List ℕ) (there : read + size ≤ length order) (room : at + size ≤ length order) where
  many : length (chunk read size order) ≡ size
  many = length-take-le size (drop read order) (omega (arith, length-drop read order, there))

  front : length (take at order) ≡ at
  front = length-take-le at order (omega (arith, room))

  moved-is : put_chunk at order (chunk read size order) ≡ take at order ++ (chunk read size order ++ drop (at + size) order)
  moved-is =
      put_chunk_is at order (chunk read size order) (omega (arith, many, room))
      ∙ ap (λ l. take at order ++ (chunk read size order ++ l))
      (drop-drop (length (chunk read size order)) at order ∙ ap (λ n. drop (at + n) order) many)

  pub before-moved : take at (put_chunk at order (chunk read size order)) ≡ take at order
  before-moved = ap (take at) moved-is ∙ take_at (take at order) _ at front

  pub from-moved : drop at (put_chunk at order (chunk read size order)) ≡ take size (drop read order) ++ drop (at + size) order
  from-moved = ap (drop at) moved-is ∙ drop_at (take at order) _ at front

  pub up-to-moved : take (at + size) (put_chunk at order (chunk read size order)) ≡ take at order ++ take size (drop read order)
  up-to-moved =
      take-add at size _
      ∙ (ap (λ l. l ++ take size (drop at (put_chunk at order (chunk read size order)))) before-moved
      ∙ ap (λ l. take at order ++ l) (ap (take size) from-moved ∙ take_at _ (drop (at + size) order) size many))

  pub after-moved : drop (at + size) (put_chunk at order (chunk read size order)) ≡ drop (at + size) order
  after-moved =
      sym (drop-drop size at _) ∙ (ap (drop size) from-moved ∙ drop_at _ (drop (at + size) order) size many)

-- two lists that are the same from a place on
pub same-from : (at more : ℕ) (xs ys : List ℕ) → drop at xs ≡ drop at ys → drop (at + more) xs ≡ drop (at + more) ys
same-from at more xs ys same = sym (drop-drop more at xs) ∙ (ap (drop more) same ∙ drop-drop more at ys)

-- two lists that are the same up to a place
pub same-up-to : (fewer past : ℕ) (xs ys : List ℕ) → fewer ≤ past → take past xs ≡ take past ys → take fewer xs ≡ take fewer ys
same-up-to fewer past xs ys few same =
    sym (take-take fewer past xs few) ∙ (ap (take fewer) same ∙ take-take fewer past ys few)

-- a list without its first, from a place on
pub past-first : (at : ℕ) (xs : List ℕ) → drop (at + 1) xs ≡ drop at (drop 1 xs)
past-first at xs = let on : at + 1 ≡ 1 + at = omega arith in ap (λ n. drop n xs) on ∙ sym (drop-drop at 1 xs)

-- The last ones of a list, as they stood, come a place nearer to the front, where all before them have.
module _ (at size : ℕ) (old now : List ℕ) (inside : at < length old) (long : length now ≡ length old)
    (front : take at now ≡ take at (drop 1 old)) (rest : drop at now ≡ drop at old) (many : size < length old)
    (few : length old - size - 1 ≤ at) where
  abbrev place : ℕ
  place = length old - size - 1

  last : chunk (length old - size) size old ≡ drop place (drop 1 old)
  last =
      take_all size (drop (length old - size) old) (omega (arith, length-drop (length old - size) old))
      ∙ (let on : length old - size ≡ place + 1 = omega (arith, many) in ap (λ n. drop n old) on ∙ past-first place old)

  count : length (chunk (length old - size) size old) ≡ size
  count = length-take-le size (drop (length old - size) old) (omega (arith, length-drop (length old - size) old, many))

  pub closed : put_chunk (length old - size - 1) now (chunk (length old - size) size old) ≡ drop 1 old ++ drop (length old - 1) old
  closed =
      put_chunk_is place now (chunk (length old - size) size old) (omega (arith, count, long, many))
      ∙ (sym (append_assoc (take place now) (chunk (length old - size) size old) _)
      ∙ ap₂ (λ a b. a ++ b)
      (ap₂ (λ a b. a ++ b) (same-up-to place at now (drop 1 old) few front) last ∙ take-append-drop place (drop 1 old))
      (drop-drop (length (chunk (length old - size) size old)) place now
      ∙ (let on : place + length (chunk (length old - size) size old) ≡ at + (length old - 1 - at) = omega (arith, count, many, inside) in
      ap (λ n. drop n now) on
      ∙ (same-from at (length old - 1 - at) now old rest
      ∙ (let back : at + (length old - 1 - at) ≡ length old - 1 = omega (arith, inside) in ap (λ n. drop n old) back)))))

-- The first ones of a list, as they stood, go a place further, where all after them have.
module _ (past size : ℕ) (old now : List ℕ) (inside : past < length old) (long : length now ≡ length old)
    (front : take (past + 1) now ≡ take (past + 1) old) (rest : drop (past + 1) now ≡ drop past (take (length old - 1) old))
    (many : size < length old) (few : past ≤ size) where
  abbrev others : List ℕ
  others = take (length old - 1) old

  first_ones : chunk 0 size old ≡ take size others
  first_ones = sym (take-take size (length old - 1) old (omega (arith, many)))

  all : length (chunk 0 size old) ≡ size
  all = length-take-le size old (omega (arith, many))

  pub opened : put_chunk 1 now (chunk 0 size old) ≡ take 1 old ++ take (length old - 1) old
  opened =
      put_chunk_is 1 now (chunk 0 size old) (omega (arith, all, long, many))
      ∙ ap₂ (λ a b. a ++ b) (same-up-to 1 (past + 1) now old (omega arith) front)
      (ap₂ (λ a b. a ++ b) first_ones
      (drop-drop (length (chunk 0 size old)) 1 now
      ∙ (let on : 1 + length (chunk 0 size old) ≡ past + 1 + (size - past) = omega (arith, all, few) in
      ap (λ n. drop n now) on
      ∙ (sym (drop-drop (size - past) (past + 1) now)
      ∙ (ap (drop (size - past)) rest
      ∙ (drop-drop (size - past) past others
      ∙ (let back : past + (size - past) ≡ size = omega (arith, few) in ap (λ n. drop n others) back))))))
      ∙ take-append-drop size others)
