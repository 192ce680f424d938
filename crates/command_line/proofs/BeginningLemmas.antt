-- Bytes that come after others stand after them.
use Rattle.std.proofs.Common.{◌≡◌, ℕ, ◌+◌, ◌-◌, ◌≤◌, min, List, [], ◌∷◌, ◌++◌, length, take, drop, refl, sym, ap, ◌∙◌, arith, append-nil}
use Rattle.std.proofs.lemmas.List.{length-take-le, take-append-le, take_min}
use Rattle.std.proofs.Math.Seq.{take-append-add}
use borrow.Rule.Slice.PartMut.{put_mid, post_of}

-- so many of two lists, where all of the first are among them
pub take-both : (most : ℕ) (bytes piece : List ℕ) → length bytes ≤ most
    → take most (bytes ++ piece) ≡ bytes ++ take (min (length piece) (most - length bytes)) piece
take-both most bytes piece fits =
    let all : most ≡ length bytes + (most - length bytes) = omega (arith, fits) in
    let turned : min (length piece) (most - length bytes) ≡ min (most - length bytes) (length piece) = omega arith in
    ap (λ n. take n (bytes ++ piece)) all
    ∙ (take-append-add bytes piece (most - length bytes)
    ∙ ap (λ l. bytes ++ l) (sym (ap (λ n. take n piece) turned ∙ take_min (most - length bytes) piece)))

-- bytes that are put after the first so many
pub put-after : (count more : ℕ) (bytes piece : List ℕ) → count ≤ length bytes → length piece ≡ more
    → take (count + more) (put_mid count more bytes piece) ≡ take count bytes ++ piece
put-after count more bytes piece inside long =
    let front : length (take count bytes) ≡ count = length-take-le count bytes inside in
    ap (λ n. take (n + more) (put_mid count more bytes piece)) (sym front)
    ∙ (take-append-add (take count bytes) (piece ++ post_of count more bytes) more
    ∙ ap (λ l. take count bytes ++ l) (take-append-le more piece (post_of count more bytes) (omega (arith, long))
    ∙ (ap (λ n. take n piece) (sym long) ∙ all piece)))
  where
    all : (l : List ℕ) → take (length l) l ≡ l
    all [] = refl
    all (b ∷ l) = ap (λ r. b ∷ r) (all l)

-- what a piece adds, where that many bytes of it have room
pub joined : (count more : ℕ) (bytes piece : List ℕ) → length bytes ≡ 14 → count ≤ 14 → more ≡ min (length piece) (14 - count)
    → take 14 (take count bytes ++ piece) ≡ take count bytes ++ take more piece
joined count more bytes piece long within is =
    let front : length (take count bytes) ≡ count = length-take-le count bytes (omega (arith, long, within)) in
    take-both 14 (take count bytes) piece (omega (arith, front, within))
    ∙ ap (λ n. take count bytes ++ take n piece) (ap (λ n. min (length piece) (14 - n)) front ∙ sym is)

pub none-added : (count more : ℕ) (bytes piece : List ℕ) → length bytes ≡ 14 → count ≤ 14 → more ≡ min (length piece) (14 - count) → more ≡ 0
    → take count bytes ≡ take 14 (take count bytes ++ piece)
none-added count more bytes piece long within is none =
    sym (joined count more bytes piece long within is ∙ (ap (λ n. take count bytes ++ take n piece) none ∙ append-nil (take count bytes)))

pub some-added : (count more : ℕ) (bytes piece copied : List ℕ) → length bytes ≡ 14 → count ≤ 14 → more ≡ min (length piece) (14 - count)
    → copied ≡ take more piece
    → take (count + more) (put_mid count (count + more - count) bytes copied) ≡ take 14 (take count bytes ++ piece)
some-added count more bytes piece copied long within is same =
    let counted : count + more - count ≡ more = omega arith in
    let fits : length copied ≡ more = ap length same ∙ length-take-le more piece (omega (arith, is)) in
    ap (λ n. take (count + more) (put_mid count n bytes copied)) counted
    ∙ (put-after count more bytes copied (omega (arith, long, within)) fits
    ∙ (ap (λ l. take count bytes ++ l) same ∙ sym (joined count more bytes piece long within is)))
