-- How many bytes come before the first that does not pass a test, by the mask of the sixteen at the front.
use lib.Count.{count_trailing_zeros}
use Rattle.std.proofs.Common.{◌≡◌, ◌≢◌, ℕ, ◌+◌, ◌<◌, Bool, true, false, cond, eqb, List, [], ◌∷◌, length, take, drop, map, refl, sym, ap, ap₂, ◌∙◌, arith}
use Rattle.std.specs.Prelude.{not}
use Rattle.std.specs.List.{prefix_len}
use Rattle.std.specs.Simd.Lanes.{mask_l}
use Rattle.std.proofs.Math.Seq.{drop-append-add}
use Rattle.std.proofs.lemmas.Bool.{ne_eqb, eq-eqb, cond-true, cond-false}
use Rattle.std.proofs.lemmas.List.Folds.{prefix_len-append}
use Rattle.std.proofs.lemmas.Simd.{leading_from_mask_l, trailing_mask_l}
use Rattle.anstyle_parse.proofs.Machine.Lanes.{lowest_within}
use Rattle.anstyle_parse.proofs.Machine.Runs.{chunk_and_rest, length-first_chunk}

not-not : (t : Bool) → not (not t) ≡ t
not-not true = refl
not-not false = refl

prefix_len-not_not : (test : ℕ → Bool) (bytes : List ℕ) → prefix_len (λ b. not (not (test b))) bytes ≡ prefix_len test bytes
prefix_len-not_not test [] = refl
prefix_len-not_not test (b ∷ bytes) = ap₂ (λ t n. cond t (1 + n) 0) (not-not (test b)) (prefix_len-not_not test bytes)

module _ (test : ℕ → Bool) (rest chunk further : List ℕ) (front : chunk ≡ take 16 rest) (back : further ≡ drop 16 rest) (room : length further + 16 ≡ length rest)
    (mask : ℕ) (is : mask ≡ mask_l (map (λ b. not (test b)) chunk)) where
  long : length chunk ≡ 16
  long = length-first_chunk 16 rest chunk further front room

  parted : prefix_len test rest ≡ cond (eqb (prefix_len test chunk) (length chunk)) (length chunk + prefix_len test further) (prefix_len test chunk)
  parted = ap (prefix_len test) (chunk_and_rest 16 rest chunk further front back) ∙ prefix_len-append test chunk further

  -- A bit is set: the lowest is for the first of the bytes that does not pass.
  pub prefix_len-lowest : mask ≢ 0 → count_trailing_zeros 64 mask ≡ prefix_len test rest
  prefix_len-lowest some =
      let set : 0 < mask_l (map (λ b. not (test b)) chunk) = omega (arith, some, is) in
      let counted = ap (count_trailing_zeros 64) is
      ∙ (trailing_mask_l (λ b. not (test b)) 64 chunk (omega (arith, long)) set ∙ prefix_len-not_not test chunk) in
      let short = lowest_within test chunk mask long is some in
      counted
      ∙ sym (parted ∙ cond-false (eqb (prefix_len test chunk) (length chunk)) _ _ (ne_eqb (prefix_len test chunk) (length chunk) (omega (arith, counted, short))))

  -- None is: what comes after those that pass is the same without the sixteen.
  pub after-chunk : mask ≡ 0 → drop (prefix_len test further) further ≡ drop (prefix_len test rest) rest
  after-chunk none =
      let all = sym (prefix_len-not_not test chunk) ∙ leading_from_mask_l (λ b. not (test b)) chunk (sym is ∙ none) in
      let counted = parted ∙ cond-true (eqb (prefix_len test chunk) (length chunk)) _ _ (eq-eqb (prefix_len test chunk) (length chunk) all) in
      sym (ap₂ (λ n l. drop n l) counted (chunk_and_rest 16 rest chunk further front back) ∙ drop-append-add chunk further (prefix_len test further))
