-- Sixteen bytes, tested at once.
use Rattle.std.proofs.Common.{◌≡◌, ◌||◌, ◌&&◌, bit_and, bit_or, ℕ, ◌+◌, ◌-◌, ◌%◌, ◌^◌, Bool, true, false, cond, eqb, leb, ltb, List, [], ◌∷◌, ◌++◌, length, map, replicate, refl, ap, ap₂, ◌∙◌, arith, w8, Fits}
use Rattle.std.specs.Prelude.{not}
use Rattle.std.specs.List.{list_all}
use Rattle.std.specs.Simd.Lanes.{zip2, mask_l, top, Each1}
use Rattle.std.proofs.lemmas.List.{length-map}
use Rattle.std.proofs.lemmas.Simd.{zip2_splat, zip2_splat_left, splat_is_map, zip2_of_maps, mask_l-mod}
use Rattle.anstyle_parse.specs.Stream.Items.{EachIs}
use Rattle.anstyle_parse.proofs.Machine.Table.{same_below}
use Rattle.ansi_html.specs.Grammar.{is_special, is_text_byte, AreClear}
use Rattle.ansi_html.specs.Verbatim.{is_verbatim}
use Rattle.ansi_html.specs.Links.{is_visible}
use Rattle.ansi_html.proofs.HtmlLemmas.{false-from_not}

-- a lane of a comparison
abbrev on : Bool → ℕ
on s = cond s 255 0

abbrev hit : ℕ → ℕ → ℕ
hit a b = on (eqb a b)

abbrev below : ℕ → ℕ → ℕ
below a b = on (ltb a b)

top-on : (s : Bool) → top 7 (on s) ≡ s
top-on true = refl
top-on false = refl

or-on : (s t : Bool) → bit_or (on s) (on t) ≡ on (s || t)
or-on true true = refl
or-on true false = refl
or-on false true = refl
or-on false false = refl

map_as : (f g : ℕ → ℕ) → ((b : ℕ) → f b ≡ g b) → (bytes : List ℕ) → map f bytes ≡ map g bytes
map_as f g same [] = refl
map_as f g same (b ∷ bytes) = ap₂ (λ x xs. x ∷ xs) (same b) (map_as f g same bytes)

tops : (s : ℕ → Bool) (bytes : List ℕ) → map (top 7) (map (λ b. on (s b)) bytes) ≡ map s bytes
tops s [] = refl
tops s (b ∷ bytes) = ap₂ (λ x xs. x ∷ xs) (top-on (s b)) (tops s bytes)

-- what a subtraction and a comparison are, and whether a byte is none of verbatim text: so it is for each of the 256
abbrev minus : ℕ → ℕ → ℕ
minus a b = (a + (256 - b)) % 256

abbrev at_most : ℕ → ℕ → ℕ
at_most a b = on (leb a b)

abbrev not_verbatim_lane : ℕ → ℕ
not_verbatim_lane b =
    bit_or (bit_and (at_most 0x60 (minus b 0x20)) (at_most 2 (minus b 0x09)))
    (bit_or (hit (bit_and b 0xFB) 0x22) (bit_or (hit b 0x27) (hit (bit_and b 0xFD) 0x3C)))

not_verbatim_lanes : (bytes : List ℕ) → Each1 (Fits w8) bytes → map (top 7) (map not_verbatim_lane bytes) ≡ map (λ b. not (is_verbatim b)) bytes
unfolding is_verbatim is_text_byte is_special
not_verbatim_lanes [] fits = refl
not_verbatim_lanes (b ∷ bytes) fits =
    ap₂ (λ x xs. x ∷ xs) (same_below (λ n. top 7 (not_verbatim_lane n)) (λ n. not (is_verbatim n)) 0x100 b refl fits.0.fits) (not_verbatim_lanes bytes fits.1)

module _ (bytes : List ℕ) (long : length bytes ≡ 16) where
  hits : (a : ℕ) → zip2 hit bytes (replicate 16 a) ≡ map (λ b. on (eqb b a)) bytes
  hits a = zip2_splat hit bytes 16 a long

  either : (s t : ℕ → Bool) {xs ys : List ℕ} → xs ≡ map (λ b. on (s b)) bytes → ys ≡ map (λ b. on (t b)) bytes
      → zip2 bit_or xs ys ≡ map (λ b. on (s b || t b)) bytes
  either s t is are =
      zip2_of_maps bit_or (λ b. on (s b)) (λ b. on (t b)) bytes is are
      ∙ map_as (λ b. bit_or (on (s b)) (on (t b))) (λ b. on (s b || t b)) (λ b. or-on (s b) (t b)) bytes

  mask : (s : ℕ → Bool) {xs : List ℕ} → xs ≡ map (λ b. on (s b)) bytes → mask_l (map (top 7) xs) % 2 ^ 64 ≡ mask_l (map s bytes)
  mask s is =
      ap (λ l. mask_l (map (top 7) l) % 2 ^ 64) is
      ∙ ap (λ l. mask_l l % 2 ^ 64) (tops s bytes)
      ∙ mask_l-mod (map s bytes) 64 (omega (arith, length-map bytes s))

  -- whether a byte has a meaning in HTML
  pub mask-specials :
      mask_l (map (top 7) (zip2 bit_or (zip2 hit bytes (replicate 16 0x26)) (zip2 bit_or (zip2 hit bytes (replicate 16 0x3C))
      (zip2 bit_or (zip2 hit bytes (replicate 16 0x3E)) (zip2 bit_or (zip2 hit bytes (replicate 16 0x22))
      (zip2 bit_or (zip2 hit bytes (replicate 16 0x27)) (zip2 hit bytes (replicate 16 0x0D)))))))) % 2 ^ 64
      ≡ mask_l (map is_special bytes)
  unfolding is_special
  mask-specials =
      mask is_special
      (either (λ b. eqb b 0x26) (λ b. eqb b 0x3C || (eqb b 0x3E || (eqb b 0x22 || (eqb b 0x27 || eqb b 0x0D)))) (hits 0x26)
      (either (λ b. eqb b 0x3C) (λ b. eqb b 0x3E || (eqb b 0x22 || (eqb b 0x27 || eqb b 0x0D))) (hits 0x3C)
      (either (λ b. eqb b 0x3E) (λ b. eqb b 0x22 || (eqb b 0x27 || eqb b 0x0D)) (hits 0x3E)
      (either (λ b. eqb b 0x22) (λ b. eqb b 0x27 || eqb b 0x0D) (hits 0x22)
      (either (λ b. eqb b 0x27) (λ b. eqb b 0x0D) (hits 0x27) (hits 0x0D))))))

  -- whether it is not visible
  pub mask-invisibles :
      mask_l (map (top 7) (zip2 bit_or (zip2 below bytes (replicate 16 0x21)) (zip2 below (replicate 16 0x7E) bytes))) % 2 ^ 64
      ≡ mask_l (map (λ b. not (is_visible b)) bytes)
  mask-invisibles =
      mask (λ b. not (is_visible b))
      (either (λ b. ltb b 0x21) (λ b. ltb 0x7E b) (zip2_splat below bytes 16 0x21 long) (zip2_splat_left below 0x7E 16 bytes long)
      ∙ map_as (λ b. on (ltb b 0x21 || ltb 0x7E b)) (λ b. on (not (is_visible b))) (λ b. ap on (outside b)) bytes)
    where
      outside : (b : ℕ) → (ltb b 0x21 || ltb 0x7E b) ≡ not (is_visible b)
      outside b = grind arith

  -- whether it is none of verbatim text
  outside : (from count : ℕ) → zip2 at_most (replicate 16 count) (zip2 minus bytes (replicate 16 from)) ≡ map (λ b. at_most count (minus b from)) bytes
  outside from count = zip2_of_maps at_most (λ b. count) (λ b. minus b from) bytes (splat_is_map bytes 16 count long) (zip2_splat minus bytes 16 from long)

  kept_hits : (kept a : ℕ) → zip2 hit (zip2 bit_and bytes (replicate 16 kept)) (replicate 16 a) ≡ map (λ b. hit (bit_and b kept) a) bytes
  kept_hits kept a = zip2_of_maps hit (λ b. bit_and b kept) (λ b. a) bytes (zip2_splat bit_and bytes 16 kept long) (splat_is_map bytes 16 a long)

  pub mask-not_verbatim : Each1 (Fits w8) bytes
      → mask_l (map (top 7) (zip2 bit_or
      (zip2 bit_and (zip2 at_most (replicate 16 0x60) (zip2 minus bytes (replicate 16 0x20))) (zip2 at_most (replicate 16 2) (zip2 minus bytes (replicate 16 0x09))))
      (zip2 bit_or (zip2 hit (zip2 bit_and bytes (replicate 16 0xFB)) (replicate 16 0x22))
      (zip2 bit_or (zip2 hit bytes (replicate 16 0x27)) (zip2 hit (zip2 bit_and bytes (replicate 16 0xFD)) (replicate 16 0x3C)))))) % 2 ^ 64
      ≡ mask_l (map (λ b. not (is_verbatim b)) bytes)
  mask-not_verbatim fits =
      let unshown = zip2_of_maps bit_and (λ b. at_most 0x60 (minus b 0x20)) (λ b. at_most 2 (minus b 0x09)) bytes (outside 0x20 0x60) (outside 0x09 2) in
      let quotes = zip2_of_maps bit_or (λ b. hit b 0x27) (λ b. hit (bit_and b 0xFD) 0x3C) bytes (hits 0x27) (kept_hits 0xFD 0x3C) in
      let special = zip2_of_maps bit_or (λ b. hit (bit_and b 0xFB) 0x22) (λ b. bit_or (hit b 0x27) (hit (bit_and b 0xFD) 0x3C)) bytes (kept_hits 0xFB 0x22) quotes in
      let is = zip2_of_maps bit_or (λ b. bit_and (at_most 0x60 (minus b 0x20)) (at_most 2 (minus b 0x09)))
      (λ b. bit_or (hit (bit_and b 0xFB) 0x22) (bit_or (hit b 0x27) (hit (bit_and b 0xFD) 0x3C))) bytes unshown special in
      ap (λ l. mask_l l % 2 ^ 64) (ap (map (top 7)) is ∙ not_verbatim_lanes bytes fits)
      ∙ mask_l-mod (map (λ b. not (is_verbatim b)) bytes) 64 (omega (arith, length-map bytes (λ b. not (is_verbatim b))))

pub AreClear-each : (bytes : List ℕ) → EachIs (λ b. not (is_special b)) bytes → AreClear bytes
AreClear-each [] are = tt
AreClear-each (b ∷ bytes) are = (false-from_not (is_special b) are.0, AreClear-each bytes are.1)

-- where those in front pass a test, all do if those behind do
pub all_behind : (test : ℕ → Bool) (front back : List ℕ) → EachIs test front → list_all test (front ++ back) ≡ list_all test back
all_behind test [] back are = refl
all_behind test (b ∷ front) back are = ap (λ t. t && list_all test (front ++ back)) are.0 ∙ all_behind test front back are.1
