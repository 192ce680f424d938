-- Layout controls, and texts with layout.
use Rattle.std.proofs.Common.{◌≡◌, ℕ, suc, ◌+◌, ◌<◌, ◌≤◌, arith, Bool, IsTrue, true, false, eqb, eqb-true, cond, refl, List, length, length-append, get_or, take, drop, [], ◌∷◌, ◌++◌, ⊎_elim, map, ap, ap₂, sym, ◌∙◌, subst, append_assoc}
use Rattle.std.specs.Prelude.{encode_utf8, not, ◌||◌}
use Rattle.std.specs.List.{prefix_len}
use Rattle.std.specs.Str.{IsUtf8, IsCharBoundary, chars, encode_utf8_all}
use Rattle.std.proofs.Math.Seq.{get_or-append_seam}
use Rattle.std.proofs.Math.Utf8.{low_scalar}
use Rattle.std.proofs.lemmas.Bool.{cases_lt, false≢true, or_cases}
use Rattle.std.proofs.lemmas.List.{map-append, take_at, drop_at}
use Rattle.std.proofs.lemmas.Str.{chars-nil, chars-append, chars_past_char, encodes-chars, IsUtf8-nil, IsUtf8-append, IsUtf8-encode, IsUtf8-past_char, IsUtf8-take, IsUtf8-drop, IsCharBoundary-before_ascii, IsCharBoundary-after_ascii}
use Rattle.anstyle_parse.specs.Stream.Bytes.{is_within}
use Rattle.anstyle_parse.specs.Stream.Call.{Call, print, execute}
use Rattle.anstyle_parse.specs.Stream.Items.{EachIs}
use Rattle.anstyle_parse.specs.Stream.Texts.{text_calls, is_layout, layout_call, layout_calls}
use Rattle.anstyle_parse.specs.Views.Texts.{AreAtLayout, is_text_byte}
use Rattle.anstyle_parse.proofs.Bytes.Passing.{EachIs-parts}
use Rattle.anstyle_parse.proofs.Characters.Encoding.{encode_one, within_parts}

-- they are C0 controls
pub layout-low : (b : ℕ) → is_layout b ≡ true → b < 0x0E
layout-low b is =
    let at : (k : ℕ) → k < 0x0E → eqb b k ≡ true → b < 0x0E = λ k low e. let same = eqb-true b k e in omega arith in
    ⊎_elim (λ either. ⊎_elim (at 0x09 (omega arith)) (at 0x0A (omega arith)) (or_cases (eqb b 0x09) (eqb b 0x0A) either)) (at 0x0D (omega arith))
    (or_cases (eqb b 0x09 || eqb b 0x0A) (eqb b 0x0D) is)

pub no_layout-high : (c : ℕ) → 0x20 ≤ c → is_layout c ≡ false
no_layout-high c high = by (is_layout c) refl
  where
    by : (t : Bool) → is_layout c ≡ t → t ≡ false
    by true is = let low = layout-low c is in absurd (omega arith)
    by false is = refl

-- what a character of a text is called by
pub layout_call-layout : (c : ℕ) → is_layout c ≡ true → layout_call c ≡ execute c
layout_call-layout c is = ap (λ t. cond t (execute c) (print c)) is

pub layout_call-other : (c : ℕ) → is_layout c ≡ false → layout_call c ≡ print c
layout_call-other c is = ap (λ t. cond t (execute c) (print c)) is

-- a text of whose bytes none is a layout control is printed
from_not : (t : Bool) → IsTrue (not t) → t ≡ false
from_not true is = absurd (false≢true is)
from_not false is = refl

no_layout-character : (c : ℕ) → EachIs (λ b. not (is_layout b)) (encode_utf8 c) → is_layout c ≡ false
no_layout-character c each =
    ⊎_elim
    (λ (low : c < 0x80). from_not (is_layout c) (subst (EachIs (λ b. not (is_layout b))) (encode_one c low) each).0)
    (λ (high : 0x80 ≤ c). no_layout-high c (omega (arith, high)))
    (cases_lt c 0x80)

prints : (cs : List ℕ) → EachIs (λ b. not (is_layout b)) (encode_utf8_all cs) → map layout_call cs ≡ map print cs
prints [] each = refl
prints (c ∷ cs) each =
    let parts = EachIs-parts (λ b. not (is_layout b)) (encode_utf8 c) (encode_utf8_all cs) each in
    ap₂ (λ x xs. x ∷ xs) (layout_call-other c (no_layout-character c parts.0)) (prints cs parts.1)

pub layout_calls-printed : (text : List ℕ) → IsUtf8 text → EachIs (λ b. not (is_layout b)) text → layout_calls text ≡ text_calls text
layout_calls-printed text utf8 each = prints (chars text) (subst (EachIs (λ b. not (is_layout b))) (sym (encodes-chars text utf8)) each)

-- the calls of two texts, one after another
pub layout_calls-append : (front back : List ℕ) → IsUtf8 front → layout_calls (front ++ back) ≡ layout_calls front ++ layout_calls back
layout_calls-append front back utf8 = ap (map layout_call) (chars-append front back utf8) ∙ map-append layout_call (chars front) (chars back)

-- a text that begins with a layout control
module _ (b : ℕ) (behind : List ℕ) (is : is_layout b ≡ true) (utf8 : IsUtf8 (b ∷ behind)) where
  first_encoded : b ∷ behind ≡ encode_utf8 b ++ behind
  first_encoded = let low = layout-low b is in ap (λ l. l ++ behind) (sym (encode_one b (omega arith)))

  pub IsUtf8-behind_layout : IsUtf8 behind
  IsUtf8-behind_layout = IsUtf8-past_char (b ∷ behind) behind b utf8 first_encoded

  pub layout_calls-layout : layout_calls (b ∷ behind) ≡ execute b ∷ layout_calls behind
  layout_calls-layout =
      ap (map layout_call) (chars_past_char (b ∷ behind) behind b utf8 first_encoded)
      ∙ ap (λ x. x ∷ layout_calls behind) (layout_call-layout b is)

-- the bytes before the first layout control, where there is one
pub AreAtLayout-prefix : (bytes more : List ℕ) → prefix_len (λ b. not (is_layout b)) bytes < length bytes
    → AreAtLayout (drop (prefix_len (λ b. not (is_layout b)) bytes) (bytes ++ more))
AreAtLayout-prefix [] more short = absurd (omega (arith, short))
AreAtLayout-prefix (b ∷ bytes) more short = by (AreAtLayout-prefix bytes more) (is_layout b) refl short
  where
    by : (prefix_len (λ x. not (is_layout x)) bytes < length bytes → AreAtLayout (drop (prefix_len (λ x. not (is_layout x)) bytes) (bytes ++ more)))
        → (layout : Bool) → is_layout b ≡ layout → cond (not layout) (1 + prefix_len (λ x. not (is_layout x)) bytes) 0 < length (b ∷ bytes)
        → AreAtLayout (drop (cond (not layout) (1 + prefix_len (λ x. not (is_layout x)) bytes) 0) (b ∷ (bytes ++ more)))
    by rest true is shorter = is
    by rest false is shorter =
        let counted : suc (prefix_len (λ x. not (is_layout x)) bytes) ≡ 1 + prefix_len (λ x. not (is_layout x)) bytes = omega arith in
        subst (λ k. AreAtLayout (drop k (b ∷ (bytes ++ more)))) counted (rest (omega (arith, shorter)))

-- a text parted at a byte
module _ (text passed : List ℕ) (b : ℕ) (more : List ℕ) (joined : text ≡ passed ++ b ∷ more) where
  pub within-parted : length passed < length text
  within-parted = omega (arith, ap length joined, length-append passed (b ∷ more))

  pub byte-parted : get_or text (length passed) 0 ≡ b
  byte-parted = ap (λ l. get_or l (length passed) 0) joined ∙ get_or-append_seam passed b more 0

  pub front-parted : take (length passed) text ≡ passed
  front-parted = ap (take (length passed)) joined ∙ take_at passed (b ∷ more) (length passed) refl

  pub back-parted : drop (length passed + 1) text ≡ more
  back-parted =
      ap (drop (length passed + 1)) (joined ∙ sym (append_assoc passed (b ∷ []) more))
      ∙ drop_at (passed ++ b ∷ []) more (length passed + 1) (length-append passed (b ∷ []))

  -- at one of ASCII both parts are text
  module _ (utf8 : IsUtf8 text) (low : b < 0x80) where
    pub IsCharBoundary-parted : IsCharBoundary text (length passed + 1)
    IsCharBoundary-parted = IsCharBoundary-after_ascii text (length passed) utf8 within-parted (omega (arith, byte-parted))

    pub IsUtf8-front : IsUtf8 passed
    IsUtf8-front =
        subst IsUtf8 front-parted
        (IsUtf8-take text (length passed) utf8 (IsCharBoundary-before_ascii text (length passed) within-parted (omega (arith, byte-parted))))

    pub IsUtf8-back : IsUtf8 more
    IsUtf8-back = subst IsUtf8 back-parted (IsUtf8-drop text (length passed + 1) utf8 IsCharBoundary-parted)

-- ASCII is UTF-8, and so is a layout control
pub IsUtf8-byte : (b : ℕ) → b < 0x80 → IsUtf8 (b ∷ [])
IsUtf8-byte b low = subst IsUtf8 (encode_one b low) (IsUtf8-encode b (low_scalar b (omega arith)))

pub IsUtf8-layout : (b : ℕ) → is_layout b ≡ true → IsUtf8 (b ∷ [])
IsUtf8-layout b is = let low = layout-low b is in IsUtf8-byte b (omega arith)

-- and so are bytes of a text of which each is a character
pub IsUtf8-text_bytes : (bytes : List ℕ) → EachIs is_text_byte bytes → IsUtf8 bytes
IsUtf8-text_bytes [] each = IsUtf8-nil
IsUtf8-text_bytes (b ∷ bytes) each =
    let low : b < 0x80 = ⊎_elim
    (λ printed. let bounds = within_parts 0x20 0x7F b printed in omega (arith, bounds.1))
    (λ layout. let low = layout-low b layout in omega arith)
    (or_cases (is_within 0x20 0x7F b) (is_layout b) each.0) in
    IsUtf8-append (b ∷ []) bytes (IsUtf8-byte b low) (IsUtf8-text_bytes bytes each.1)

-- the calls of a text, piece by piece
module _ {P : Type 0} (receives : P → List Call → P → Type 0) (none : (performer : P) → receives performer [] performer)
    (more : (old middle new : P) (calls further : List Call) → receives old calls middle → receives middle further new → receives old (calls ++ further) new) where
  pub receives-layout_none : (performer : P) → receives performer (layout_calls []) performer
  receives-layout_none performer = subst (λ calls. receives performer calls performer) (sym (ap (map layout_call) chars-nil)) (none performer)

  pub receives-text_none : (performer : P) (text : List ℕ) → text ≡ [] → receives performer (text_calls text) performer
  receives-text_none performer text is = subst (λ calls. receives performer calls performer) (sym (ap text_calls is ∙ ap (map print) chars-nil)) (none performer)

  module _ (first before after : P) (passed : List ℕ) (utf8 : IsUtf8 passed) (received : receives first (layout_calls passed) before) where
    -- one with no layout
    pub receives-printed : (text : List ℕ) → IsUtf8 text → EachIs (λ b. not (is_layout b)) text → receives before (text_calls text) after
        → receives first (layout_calls (passed ++ text)) after
    receives-printed text is_text each shown =
        subst (λ calls. receives first calls after)
        (ap (λ calls. layout_calls passed ++ calls) (sym (layout_calls-printed text is_text each)) ∙ sym (layout_calls-append passed text utf8))
        (more first before after (layout_calls passed) (text_calls text) received shown)

    -- one of a layout control
    pub receives-layout : (b : ℕ) → is_layout b ≡ true → receives before (execute b ∷ []) after
        → receives first (layout_calls (passed ++ b ∷ [])) after
    receives-layout b is executed =
        subst (λ calls. receives first calls after)
        (ap (λ calls. layout_calls passed ++ execute b ∷ calls) (sym (ap (map layout_call) chars-nil))
        ∙ ap (λ calls. layout_calls passed ++ calls) (sym (layout_calls-layout b [] is (IsUtf8-layout b is)))
        ∙ sym (layout_calls-append passed (b ∷ []) utf8))
        (more first before after (layout_calls passed) (execute b ∷ []) received executed)
