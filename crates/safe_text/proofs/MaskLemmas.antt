-- Sixteen bytes, tested at once.
use lib.Count.{count_trailing_zeros}
use Rattle.std.proofs.Common.{◌≡◌, bit_and, bit_or, ℕ, ◌+◌, ◌-◌, ◌≤◌, ◌%◌, ◌^◌, Bool, true, false, cond, eqb, leb, List, [], ◌∷◌, length, map, replicate, take, refl, ap, ap₂, ◌∙◌, subst, arith, w8, Fits}
use Rattle.std.specs.Prelude.{not}
use Rattle.std.specs.List.{prefix_len}
use Rattle.std.specs.Simd.Lanes.{zip2, mask_l, top, Each1}
use Rattle.std.proofs.lemmas.Bool.{leb-true}
use Rattle.std.proofs.lemmas.List.{length-map, take-take}
use Rattle.std.proofs.lemmas.Simd.{zip2_splat, splat_is_map, zip2_of_maps, mask_l-mod, first_set_mask_l}
use Rattle.anstyle_parse.specs.Stream.Bytes.{is_within}
use Rattle.anstyle_parse.specs.Stream.Items.{EachIs}
use Rattle.anstyle_parse.proofs.Bytes.Passing.{EachIs-weaker}
use Rattle.anstyle_parse.proofs.Lists.Parts.{AllByRecursion-take}
use Rattle.anstyle_parse.proofs.Machine.Lanes.{EachIs-prefix}
use Rattle.anstyle_parse.proofs.Machine.Table.{same_below}
use Rattle.safe_text.specs.Plain.{is_plain}

-- a lane of a comparison
abbrev on : Bool → ℕ
on s = cond s 255 0

abbrev hit : ℕ → ℕ → ℕ
hit a b = on (eqb a b)

-- what a subtraction and a comparison are, and whether a byte is none of plain text: so it is for each of the 256
abbrev minus : ℕ → ℕ → ℕ
minus a b = (a + (256 - b)) % 256

abbrev at_most : ℕ → ℕ → ℕ
at_most a b = on (leb a b)

abbrev other_lane : ℕ → ℕ
other_lane b = bit_or (bit_and (at_most 0x5F (minus b 0x20)) (at_most 2 (minus b 0x09))) (hit b 0x3C)

other_lanes : (bytes : List ℕ) → Each1 (Fits w8) bytes → map (top 7) (map other_lane bytes) ≡ map (λ b. not (is_plain b)) bytes
unfolding is_within
other_lanes [] fits = refl
other_lanes (b ∷ bytes) fits =
    ap₂ (λ x xs. x ∷ xs) (same_below (λ n. top 7 (other_lane n)) (λ n. not (is_plain n)) 0x100 b refl fits.0.fits) (other_lanes bytes fits.1)

not-not : (t : Bool) → not (not t) ≡ true → t ≡ true
not-not true is = refl
not-not false is = is

module _ (bytes : List ℕ) (long : length bytes ≡ 16) where
  outside : (from count : ℕ) → zip2 at_most (replicate 16 count) (zip2 minus bytes (replicate 16 from)) ≡ map (λ b. at_most count (minus b from)) bytes
  outside from count = zip2_of_maps at_most (λ b. count) (λ b. minus b from) bytes (splat_is_map bytes 16 count long) (zip2_splat minus bytes 16 from long)

  pub mask-others : Each1 (Fits w8) bytes
      → mask_l (map (top 7) (zip2 bit_or
      (zip2 bit_and (zip2 at_most (replicate 16 0x5F) (zip2 minus bytes (replicate 16 0x20))) (zip2 at_most (replicate 16 2) (zip2 minus bytes (replicate 16 0x09))))
      (zip2 hit bytes (replicate 16 0x3C)))) % 2 ^ 64
      ≡ mask_l (map (λ b. not (is_plain b)) bytes)
  mask-others fits =
      let unshown = zip2_of_maps bit_and (λ b. at_most 0x5F (minus b 0x20)) (λ b. at_most 2 (minus b 0x09)) bytes (outside 0x20 0x5F) (outside 0x09 2) in
      let is = zip2_of_maps bit_or (λ b. bit_and (at_most 0x5F (minus b 0x20)) (at_most 2 (minus b 0x09))) (λ b. hit b 0x3C) bytes unshown (zip2_splat hit bytes 16 0x3C long) in
      ap (λ l. mask_l l % 2 ^ 64) (ap (map (top 7)) is ∙ other_lanes bytes fits)
      ∙ mask_l-mod (map (λ b. not (is_plain b)) bytes) 64 (omega (arith, length-map bytes (λ b. not (is_plain b))))

  -- The first of them are plain text, where no bit for one of them is set.
  pub front-plain : (count : ℕ) → count ≤ 16 → leb count (count_trailing_zeros 64 (mask_l (map (λ b. not (is_plain b)) bytes))) ≡ true
      → EachIs is_plain (take count bytes)
  front-plain count few unset =
      let passes : ℕ → Bool = λ b. not (not (is_plain b)) in
      let within : count ≤ prefix_len passes bytes =
      subst (λ k. count ≤ k) (first_set_mask_l (λ b. not (is_plain b)) bytes 16 long (omega arith)) (by (eqb (mask_l (map (λ b. not (is_plain b)) bytes)) 0)) in
      EachIs-weaker passes is_plain (λ b is. not-not (is_plain b) is) (take count bytes)
      (subst (EachIs passes) (take-take count (prefix_len passes bytes) bytes within) (AllByRecursion-take _ count (take (prefix_len passes bytes) bytes) (EachIs-prefix passes bytes)))
    where
      by : (t : Bool) → count ≤ cond t 16 (count_trailing_zeros 64 (mask_l (map (λ b. not (is_plain b)) bytes)))
      by true = few
      by false = leb-true count _ unset
