-- The canonical header of a control sequence shows the arguments that it was made of.
use Rattle.std.proofs.Common.{◌≡◌, ℕ, ◌<◌, ◌≤◌, Bool, true, not, List, [], ◌∷◌, ◌++◌, length, refl, ap, ◌∙◌, arith, append-nil}
use Rattle.std.specs.List.{filter, list_all}
use Rattle.std.proofs.lemmas.Bool.{not-true, cond-true, cond-false, and_from}
use Rattle.std.proofs.lemmas.List.Elements.{filter-append}
use Rattle.anstyle_parse.specs.Stream.Bytes.{is_within, is_intermediate, is_parameter, is_marker, is_significant}
use Rattle.anstyle_parse.specs.Stream.Arguments.{after_marker, after_parameters, has_shape, significant}
use Rattle.anstyle_parse.specs.Stream.Items.{EachIs, is_header_byte}
use Rattle.anstyle_parse.proofs.Bytes.Passing.{EachIs-append, EachIs-weaker}
use Rattle.anstyle_parse.proofs.Lists.Passing.{implied, filter_all, filter_none}
use Rattle.anstyle_parse.proofs.Characters.Encoding.{within_parts}

-- a byte of a range of bytes is one
pub below_within : (low high b : ℕ) → high < 256 → is_within low high b ≡ true → b < 256
below_within low high b small e = omega (arith, (within_parts low high b e).1)

-- the three kinds of header bytes are apart
pub parameter-not_marker : (b : ℕ) → is_parameter b ≡ true → not (is_marker b) ≡ true
unfolding is_parameter is_marker is_within
parameter-not_marker b e = implied is_parameter (λ x. not (is_marker x)) 256 b refl (below_within 0x30 0x3B b (omega arith) e) e

parameter-not_intermediate : (b : ℕ) → is_parameter b ≡ true → not (is_intermediate b) ≡ true
unfolding is_parameter is_intermediate is_within
parameter-not_intermediate b e = implied is_parameter (λ x. not (is_intermediate x)) 256 b refl (below_within 0x30 0x3B b (omega arith) e) e

pub marker-not_parameter : (b : ℕ) → is_marker b ≡ true → not (is_parameter b) ≡ true
unfolding is_parameter is_marker is_within
marker-not_parameter b e = implied is_marker (λ x. not (is_parameter x)) 256 b refl (below_within 0x3C 0x3F b (omega arith) e) e

marker-not_intermediate : (b : ℕ) → is_marker b ≡ true → not (is_intermediate b) ≡ true
unfolding is_marker is_intermediate is_within
marker-not_intermediate b e = implied is_marker (λ x. not (is_intermediate x)) 256 b refl (below_within 0x3C 0x3F b (omega arith) e) e

pub intermediate-not_marker : (b : ℕ) → is_intermediate b ≡ true → not (is_marker b) ≡ true
unfolding is_marker is_intermediate is_within
intermediate-not_marker b e = implied is_intermediate (λ x. not (is_marker x)) 256 b refl (below_within 0x20 0x2F b (omega arith) e) e

intermediate-not_parameter : (b : ℕ) → is_intermediate b ≡ true → not (is_parameter b) ≡ true
unfolding is_parameter is_intermediate is_within
intermediate-not_parameter b e = implied is_intermediate (λ x. not (is_parameter x)) 256 b refl (below_within 0x20 0x2F b (omega arith) e) e

-- and all are header bytes
marker-header : (b : ℕ) → is_marker b ≡ true → is_header_byte b ≡ true
unfolding is_marker is_header_byte is_within
marker-header b e = implied is_marker is_header_byte 256 b refl (below_within 0x3C 0x3F b (omega arith) e) e

parameter-header : (b : ℕ) → is_parameter b ≡ true → is_header_byte b ≡ true
unfolding is_parameter is_header_byte is_within
parameter-header b e = implied is_parameter is_header_byte 256 b refl (below_within 0x30 0x3B b (omega arith) e) e

pub intermediate-header : (b : ℕ) → is_intermediate b ≡ true → is_header_byte b ≡ true
unfolding is_intermediate is_header_byte is_within
intermediate-header b e = implied is_intermediate is_header_byte 256 b refl (below_within 0x20 0x2F b (omega arith) e) e

-- which are significant
header-significant : (b : ℕ) → is_header_byte b ≡ true → is_significant b ≡ true
unfolding is_significant is_header_byte is_within
header-significant b e = implied is_header_byte is_significant 256 b refl (below_within 0x20 0x3F b (omega arith) e) e

-- a space is an intermediate
pub space_is : is_intermediate 0x20 ≡ true
unfolding is_intermediate is_within
space_is = refl

-- a marker, parameter bytes and intermediates
pub record IsInOrder (marker parameters intermediates : List ℕ) : Type 0 where
  pub one : length marker ≤ 1
  pub markers : EachIs is_marker marker
  pub fields : EachIs is_parameter parameters
  pub rest : EachIs is_intermediate intermediates

-- the three in order
abbrev pub in_order : List ℕ → List ℕ → List ℕ → List ℕ
in_order marker parameters intermediates = marker ++ (parameters ++ intermediates)

-- a filter of such a list, part by part
filter-in_order : (p : ℕ → Bool) (marker parameters intermediates x y z : List ℕ) → filter p marker ≡ x → filter p parameters ≡ y → filter p intermediates ≡ z → filter p (in_order marker parameters intermediates) ≡ in_order x y z
filter-in_order p marker parameters intermediates x y z e f g =
    filter-append p marker (parameters ++ intermediates) ∙ (ap (λ l. l ++ filter p (parameters ++ intermediates)) e
    ∙ ap (λ l. x ++ l) (filter-append p parameters intermediates ∙ (ap (λ l. l ++ filter p intermediates) f ∙ ap (λ l. y ++ l) g)))

-- what passes a test apart from it is left out
none : (p q : ℕ → Bool) → ((b : ℕ) → q b ≡ true → not (p b) ≡ true) → (bytes : List ℕ) → EachIs q bytes → filter p bytes ≡ []
none p q apart bytes h = filter_none p bytes (EachIs-weaker q (λ b. not (p b)) apart bytes h)

-- each filter gives one of the parts, and all are significant header bytes
module _ (marker parameters intermediates : List ℕ) (order : IsInOrder marker parameters intermediates) where
  pub filter-markers : filter is_marker (in_order marker parameters intermediates) ≡ marker
  filter-markers =
      filter-in_order is_marker marker parameters intermediates marker [] [] (filter_all is_marker marker order.markers)
      (none is_marker is_parameter parameter-not_marker parameters order.fields) (none is_marker is_intermediate intermediate-not_marker intermediates order.rest)
      ∙ append-nil marker

  pub filter-parameters : filter is_parameter (in_order marker parameters intermediates) ≡ parameters
  filter-parameters =
      filter-in_order is_parameter marker parameters intermediates [] parameters [] (none is_parameter is_marker marker-not_parameter marker order.markers)
      (filter_all is_parameter parameters order.fields) (none is_parameter is_intermediate intermediate-not_parameter intermediates order.rest)
      ∙ append-nil parameters

  pub filter-intermediates : filter is_intermediate (in_order marker parameters intermediates) ≡ intermediates
  filter-intermediates =
      filter-in_order is_intermediate marker parameters intermediates [] [] intermediates (none is_intermediate is_marker marker-not_intermediate marker order.markers)
      (none is_intermediate is_parameter parameter-not_intermediate parameters order.fields) (filter_all is_intermediate intermediates order.rest)

  pub header_bytes : EachIs is_header_byte (in_order marker parameters intermediates)
  header_bytes =
      EachIs-append is_header_byte marker (parameters ++ intermediates) (EachIs-weaker is_marker is_header_byte marker-header marker order.markers)
      (EachIs-append is_header_byte parameters intermediates (EachIs-weaker is_parameter is_header_byte parameter-header parameters order.fields)
      (EachIs-weaker is_intermediate is_header_byte intermediate-header intermediates order.rest))

  pub significant-in_order : significant (in_order marker parameters intermediates) ≡ in_order marker parameters intermediates
  significant-in_order = filter_all is_significant (in_order marker parameters intermediates) (EachIs-weaker is_header_byte is_significant header-significant (in_order marker parameters intermediates) header_bytes)

-- without a marker, nothing is left out at the head
pub after_marker-unmarked : (bytes : List ℕ) → EachIs (λ b. not (is_marker b)) bytes → after_marker bytes ≡ bytes
after_marker-unmarked [] h = refl
after_marker-unmarked (b ∷ bytes) h = cond-false (is_marker b) bytes (b ∷ bytes) (not-true (is_marker b) h.0)

-- what is after a marker
pub after_marker-in_order : (marker bytes : List ℕ) → length marker ≤ 1 → EachIs is_marker marker → EachIs (λ b. not (is_marker b)) bytes → after_marker (marker ++ bytes) ≡ bytes
after_marker-in_order [] bytes one h k = after_marker-unmarked bytes k
after_marker-in_order (b ∷ []) bytes one h k = cond-true (is_marker b) bytes (b ∷ bytes) h.0
after_marker-in_order (b ∷ c ∷ marker) bytes one h k = absurd (omega arith)

after_parameters-append : (parameters bytes : List ℕ) → EachIs is_parameter parameters → after_parameters (parameters ++ bytes) ≡ after_parameters bytes
after_parameters-append [] bytes h = refl
after_parameters-append (b ∷ parameters) bytes h =
    cond-true (is_parameter b) (after_parameters (parameters ++ bytes)) (b ∷ (parameters ++ bytes)) h.0 ∙ after_parameters-append parameters bytes h.1

after_parameters-none : (bytes : List ℕ) → EachIs (λ b. not (is_parameter b)) bytes → after_parameters bytes ≡ bytes
after_parameters-none [] h = refl
after_parameters-none (b ∷ bytes) h = cond-false (is_parameter b) (after_parameters bytes) (b ∷ bytes) (not-true (is_parameter b) h.0)

-- where each passes, the test of all does
pub list_all-each : (p : ℕ → Bool) (bytes : List ℕ) → EachIs p bytes → list_all p bytes ≡ true
list_all-each p [] h = refl
list_all-each p (b ∷ bytes) h = and_from (p b) (list_all p bytes) h.0 (list_all-each p bytes h.1)

-- a marker, parameter bytes and intermediates have the shape of a header
pub has_shape-in_order : (marker parameters intermediates : List ℕ) → IsInOrder marker parameters intermediates → has_shape (in_order marker parameters intermediates) ≡ true
has_shape-in_order marker parameters intermediates order =
    let unmarked = EachIs-append (λ b. not (is_marker b)) parameters intermediates
    (EachIs-weaker is_parameter (λ b. not (is_marker b)) parameter-not_marker parameters order.fields)
    (EachIs-weaker is_intermediate (λ b. not (is_marker b)) intermediate-not_marker intermediates order.rest) in
    let unparametered = EachIs-weaker is_intermediate (λ b. not (is_parameter b)) intermediate-not_parameter intermediates order.rest in
    let rest = ap after_parameters (after_marker-in_order marker (parameters ++ intermediates) order.one order.markers unmarked)
    ∙ (after_parameters-append parameters intermediates order.fields ∙ after_parameters-none intermediates unparametered) in
    ap (list_all is_intermediate) rest ∙ list_all-each is_intermediate intermediates order.rest
