-- How long an address is, and what begins a scheme.
use Rattle.std.proofs.Common.{◌≡◌, ◌<◌, ◌≤◌, ◌-◌, ℕ, zero, suc, Bool, true, false, ◌||◌, ◌&&◌, List, [], ◌∷◌, ◌++◌, ◌⊎◌, inl, inr, length, take, drop, refl, sym, ap, ap₂, ◌∙◌, subst, take-append-drop, length-append, length-take, arith}
use Rattle.std.specs.Prelude.{nat_eq, nat_lt, if◌then◌else◌}
use Rattle.std.proofs.lemmas.Bool.{ltb-true, ltb-false}
use Rattle.std.proofs.lemmas.List.{take_at, drop_at}
use Rattle.std.specs.Char.{is_ascii_alphanumeric}
use Rattle.html_urls.specs.Addresses.{last_of, is_behind, ends_entity, parts_entity, goes_past, address_length, address_of, behind_address, IsAddressOf}

pub address_length-less : (n : ℕ) (text : List ℕ) → 0 < n → goes_past (take n text) (drop n text) ≡ true → address_length n text ≡ address_length (n - 1) text
address_length-less zero text some behind = absurd (omega (arith, some))
address_length-less (suc n) text some behind =
    let one : n ≡ suc n - 1 = omega arith in
    ap (λ (t : Bool). if t then address_length n text else suc n) behind ∙ ap (λ k. address_length k text) one

pub address_length-whole : (n : ℕ) (text : List ℕ) → 0 < n → goes_past (take n text) (drop n text) ≡ false → address_length n text ≡ n
address_length-whole zero text some behind = absurd (omega (arith, some))
address_length-whole (suc n) text some behind = ap (λ (t : Bool). if t then address_length n text else suc n) behind

pub last_of-is : (front : List ℕ) (b : ℕ) → last_of (front ++ b ∷ []) ≡ b
last_of-is [] b = refl
last_of-is (x ∷ []) b = refl
last_of-is (x ∷ y ∷ front) b = last_of-is (y ∷ front) b

-- the longest front of so many bytes that ends well
record IsCut (count : ℕ) (run : List ℕ) (k : ℕ) : Type 0 where
  most : k ≤ count
  ends : (k ≡ 0) ⊎ (goes_past (take k run) (drop k run) ≡ false)
  longest : (n : ℕ) → k < n → n ≤ count → goes_past (take n run) (drop n run) ≡ true

one-more : (count k : ℕ) (run : List ℕ) → IsCut count run k → goes_past (take (suc count) run) (drop (suc count) run) ≡ true
    → (n : ℕ) → k < n → n ≤ suc count → (t : Bool) → nat_lt count n ≡ t → goes_past (take n run) (drop n run) ≡ true
one-more count k run cut behind n above below true over =
    let past = ltb-true count n over in
    let same : suc count ≡ n = omega (arith, past, below) in
    subst (λ (m : ℕ). goes_past (take m run) (drop m run) ≡ true) same behind
one-more count k run cut behind n above below false within = cut.longest n above (ltb-false count n within)

cut-of : (count : ℕ) (run : List ℕ) → IsCut count run (address_length count run)
cut-of zero run = record { most = omega arith; ends = inl refl; longest = λ n above below. absurd (omega (arith, above, below)) }
cut-of (suc count) run = by (cut-of count run) (goes_past (take (suc count) run) (drop (suc count) run)) refl
  where
    by : IsCut count run (address_length count run) → (t : Bool) → goes_past (take (suc count) run) (drop (suc count) run) ≡ t
        → IsCut (suc count) run (if t then address_length count run else suc count)
    by cut true behind = record {
      most = let most = cut.most in omega (arith, most);
      ends = cut.ends;
      longest = λ n above below. one-more count (address_length count run) run cut behind n above below (nat_lt count n) refl;
    }
    by cut false well = record { most = omega arith; ends = inr well; longest = λ n above below. absurd (omega (arith, above, below)) }

none-taken : (run : List ℕ) (k : ℕ) → (k ≡ 0) ⊎ (goes_past (take k run) (drop k run) ≡ false)
    → (take k run ≡ []) ⊎ (goes_past (take k run) (drop k run) ≡ false)
none-taken run k (inl none) = inl (ap (λ (m : ℕ). take m run) none)
none-taken run k (inr well) = inr well

pub address-is : (run : List ℕ) → IsAddressOf run (address_of run)
address-is run =
    let k = address_length (length run) run in
    let cut = cut-of (length run) run in
    let most = cut.most in
    let taken : length (address_of run) ≡ k = omega (arith, length-take k run, most) in
    record {
      behind = behind_address run;
      joined = sym (take-append-drop k run);
      ends = none-taken run k cut.ends;
      longest = λ n above below. cut.longest n (subst (λ (m : ℕ). m < n) taken above) below;
    }

-- So it is where the text is parted at a place.
module _ (text front behind before : List ℕ) (last : ℕ) (is_parted : Bool) (joined : text ≡ front ++ behind) (split : front ≡ before ++ last ∷ [])
    (parted : is_parted ≡ parts_entity front behind) where
  pub past-is : goes_past (take (length front) text) (drop (length front) text) ≡ (is_behind front last || is_parted)
  past-is =
      let n = length front in
      ap₂ (λ (l m : List ℕ). goes_past l m) (ap (take n) joined ∙ take_at front behind n refl) (ap (drop n) joined ∙ drop_at front behind n refl)
      ∙ ap₂ (λ (s t : Bool). s || t) (ap (is_behind front) (ap last_of split ∙ last_of-is before last)) (sym parted)

  pub length-front : length front ≡ suc (length before)
  length-front = let count = ap length split in omega (arith, count, length-append before (last ∷ []))

  pub parts-before : (if nat_eq last 0x3B then ends_entity false false before else is_ascii_alphanumeric last && is_parted) ≡ parts_entity before (last ∷ behind)
  parts-before =
      ap (λ (t : Bool). if nat_eq last 0x3B then ends_entity false false before else is_ascii_alphanumeric last && t)
      (parted ∙ ap (λ (l : List ℕ). parts_entity l behind) split)
