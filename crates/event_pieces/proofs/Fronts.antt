-- The front of a block of sixteen bytes: what comes before layout, what is chosen lane by lane, what is moved.
use Rattle.std.proofs.Common.{◌≡◌, ◌≢◌, ◌<◌, ◌≤◌, ◌+◌, ◌-◌, ℕ, zero, suc, Bool, List, length, map, take, drop, get_or, refl, sym, ap, ◌∙◌, subst, arith, take_all}
use Rattle.std.specs.Prelude.{not, IsTrue}
use Rattle.std.specs.List.{prefix_len}
use Rattle.std.specs.Simd.Lanes.{mask_l}
use Rattle.std.proofs.Math.Seq.{take-add}
use Rattle.std.proofs.lemmas.Simd.{run_in_chunk_stops}
use Rattle.anstyle_parse.specs.Stream.Items.{EachIs}
use Rattle.anstyle_parse.specs.Stream.Texts.{is_layout}
use Rattle.anstyle_parse.proofs.Bytes.Passing.{EachIs-parts}
use Rattle.anstyle_parse.proofs.Machine.Lanes.{before_lowest, each_before, each_before_lowest}
use lib.Count.{count_trailing_zeros}
use Prim.Native.Nat.{min}

-- fewer of the first bytes pass too
pub EachIs-fewer : (test : ℕ → Bool) (few many : ℕ) (bytes : List ℕ) → few ≤ many → EachIs test (take many bytes) → EachIs test (take few bytes)
EachIs-fewer test few many bytes within each =
    let sums : many ≡ few + (many - few) = omega arith in
    let parted = ap (λ n. take n bytes) sums ∙ take-add few (many - few) bytes in
    (EachIs-parts test (take few bytes) (take (many - few) (drop few bytes)) (subst (EachIs test) parted each)).0

-- how many bytes come before the first layout control, by the mask of them
module _ (block : List ℕ) (count n : ℕ) (long : length block ≡ 16) (few : count ≤ 16) where
  pub front-shown : (found : ℕ) → found ≡ mask_l (map is_layout block) → n ≡ min (count_trailing_zeros 64 found) count
      → EachIs (λ b. not (is_layout b)) (take n block)
  front-shown zero is least =
      EachIs-fewer (λ b. not (is_layout b)) n 16 block (omega (arith, least))
      (subst (EachIs (λ b. not (is_layout b))) (sym (take_all 16 block (omega arith))) (each_before is_layout block 0 long is refl))
  front-shown (suc k) is least =
      EachIs-fewer (λ b. not (is_layout b)) n (count_trailing_zeros 64 (suc k)) block (omega (arith, least)) (each_before_lowest is_layout block (suc k) long is (λ none. omega (arith, none)))

  pub front-ends : (found : ℕ) → found ≡ mask_l (map is_layout block) → n ≡ min (count_trailing_zeros 64 found) count
      → n < count → IsTrue (is_layout (get_or block n 0))
  unfolding count_trailing_zeros
  front-ends zero is least within =
      let none : count_trailing_zeros 64 0 ≡ 64 = refl in
      absurd (omega (arith, least, none, within))
  front-ends (suc k) is least within =
      let some : suc k ≢ 0 = λ none. omega (arith, none) in
      let counted : n ≡ prefix_len (λ b. not (is_layout b)) block = (let lowest : n ≡ count_trailing_zeros 64 (suc k) = omega (arith, least) in lowest) ∙ before_lowest is_layout block (suc k) long is some in
      let from_start : 0 + n ≡ n = omega arith in
      ap (λ k. is_layout (get_or block k 0)) (sym from_start) ∙ run_in_chunk_stops is_layout block 0 16 n 0 (omega arith) (counted ∙ ap (prefix_len (λ b. not (is_layout b))) (sym (take_all 16 block (omega arith)))) (omega arith)
