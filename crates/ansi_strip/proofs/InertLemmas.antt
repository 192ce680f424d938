-- The inert calls: a lawful list, whose text has inert characters alone.
use Rattle.std.proofs.Common.{◌≡◌, ◌<◌, ◌≤◌, ◌+◌, ℕ, Bool, true, false, ◌&&◌, cond, List, [], ◌∷◌, ◌++◌, length, map, filter, IsTrue, refl, sym, ap, ◌∙◌, subst, append-nil, length-append, ⊎_elim, arith, lit≤}
use Rattle.std.specs.Prelude.{encode_utf8, not, nat_le}
use Rattle.std.specs.Char.{IsScalar}
use Rattle.std.specs.List.{AllByRecursion}
use Rattle.std.specs.Str.{chars, all_scalars}
use Rattle.std.proofs.lemmas.Bool.{and_parts, and_from, or_cases, or_left, or_right, leb-true, le-leb, false≢true}
use Rattle.std.proofs.lemmas.Str.{chars-nil, chars-append, chars_past_char, encodes-chars, scalars-chars, IsUtf8-nil, IsUtf8-append, IsUtf8-encode}
use Rattle.std.proofs.lemmas.Grind.{flat_map-append}
use Rattle.std.proofs.lemmas.List.Elements.{filter-append}
use Rattle.anstyle_parse.specs.Stream.Call.{Call, print, execute, hook, put, unhook, osc_dispatch, csi_dispatch, esc_dispatch}
use Rattle.anstyle_parse.specs.Stream.Calls.{AreCalls}
use Rattle.anstyle_parse.specs.Stream.Items.{EachIs}
use Rattle.anstyle_parse.specs.Laws.Lawful.{is_character, AreLawfulFrom, AreLawful}
use Rattle.anstyle_parse.proofs.Bytes.Passing.{EachIs-append}
use Rattle.anstyle_parse.proofs.Characters.Encoding.{character_range, encode_one}
use Rattle.anstyle_parse.proofs.Characters.Layout.{layout-low}
use Rattle.ansi_strip.specs.EightBit.{is_shown}
use Rattle.ansi_strip.specs.Inert.{is_driving, is_inert, inert_text, is_inert_character, IsInertText}
use Rattle.ansi_strip.specs.Strip.{is_layout, is_left, stripped_call, stripped}
use Rattle.ansi_strip.proofs.CleanText.{call_by, call_of, IsLeft, AreLeft, calls-left, character-scalar, below-space, stripped-left}
use Rattle.ansi_strip.proofs.DrivingLemmas.{no_driving-low, filter-all}
use Rattle.ansi_strip.proofs.Showable.{AreShowable, AreShowable-lawful, AreShowable-later, scalar_below, IsScalar-character}

-- they are lawful
lawful-print : (t : Bool) (c : ℕ) (calls : List Call) → is_character c ≡ true → AreLawful calls → AreLawful (cond t (print c ∷ calls) calls)
lawful-print true c calls is lawful = (is, lawful)
lawful-print false c calls is lawful = lawful

pub lawful-inert : (hooked : Bool) (calls : List Call) → AreLawfulFrom hooked calls → AreLawfulFrom hooked (filter is_inert calls)
lawful-inert hooked [] lawful = tt
lawful-inert false (print c ∷ calls) lawful = lawful-print (not (is_driving c)) c (filter is_inert calls) lawful.0 (lawful-inert false calls lawful.1)
lawful-inert false (execute b ∷ calls) lawful = (lawful.0, lawful-inert false calls lawful.1)
lawful-inert false (hook gs is ig f ∷ calls) lawful = (lawful.0, lawful-inert true calls lawful.1)
lawful-inert false (osc_dispatch parts bell ∷ calls) lawful = (lawful.0, lawful-inert false calls lawful.1)
lawful-inert false (csi_dispatch gs is ig f ∷ calls) lawful = (lawful.0, lawful-inert false calls lawful.1)
lawful-inert false (esc_dispatch is ig f ∷ calls) lawful = (lawful.0, lawful-inert false calls lawful.1)
lawful-inert true (put b ∷ calls) lawful = (lawful.0, lawful-inert true calls lawful.1)
lawful-inert true (unhook ∷ calls) lawful = lawful-inert false calls lawful
lawful-inert false (put b ∷ calls) lawful = absurd lawful
lawful-inert false (unhook ∷ calls) lawful = absurd lawful
lawful-inert true (print c ∷ calls) lawful = absurd lawful
lawful-inert true (execute b ∷ calls) lawful = absurd lawful
lawful-inert true (hook gs is ig f ∷ calls) lawful = absurd lawful
lawful-inert true (osc_dispatch parts bell ∷ calls) lawful = absurd lawful
lawful-inert true (csi_dispatch gs is ig f ∷ calls) lawful = absurd lawful
lawful-inert true (esc_dispatch is ig f ∷ calls) lawful = absurd lawful

-- a character that is printed and drives nothing is one of inert text; and none of inert text drives anything
inert-printed : (c : ℕ) → is_character c ≡ true → not (is_driving c) ≡ true → is_inert_character c ≡ true
unfolding is_inert_character
inert-printed c is inert =
    let range = character_range c is in
    or_right (is_layout c) (nat_le 0x20 c && not (is_driving c)) (and_from (nat_le 0x20 c) (not (is_driving c)) (le-leb 0x20 c range.0) inert)

pub no_driving-inert : (c : ℕ) → is_inert_character c ≡ true → not (is_driving c) ≡ true
unfolding is_inert_character
no_driving-inert c is =
    ⊎_elim
    (λ layout. ap not (no_driving-low c (omega (arith, layout-low c layout))))
    (λ shown. (and_parts (nat_le 0x20 c) (not (is_driving c)) shown).1)
    (or_cases (is_layout c) (nat_le 0x20 c && not (is_driving c)) is)

inert-layout : (c : ℕ) → is_layout c ≡ true → is_inert_character c ≡ true
unfolding is_inert_character
inert-layout c is = or_left (is_layout c) (nat_le 0x20 c && not (is_driving c)) is

-- what is left of inert calls is shown
abbrev AreShown : List Call → Type 0
AreShown calls = AllByRecursion (λ call. IsTrue (is_shown call)) calls

shown-print : (t : Bool) (c : ℕ) → not (is_driving c) ≡ t → is_character c ≡ true → (calls : List Call) → AreShown (filter is_left calls)
    → AreShown (filter is_left (cond t (print c ∷ calls) calls))
shown-print true c inert is calls shown = (inert-printed c is inert, shown)
shown-print false c inert is calls shown = shown

shown-execute : (t : Bool) (b : ℕ) → is_layout b ≡ t → (left : List Call) → AreShown left → AreShown (cond t (execute b ∷ left) left)
shown-execute true b is left shown = (is, shown)
shown-execute false b is left shown = shown

pub AreShown-lawful : (hooked : Bool) (calls : List Call) → AreLawfulFrom hooked calls → AreShown (filter is_left (filter is_inert calls))
AreShown-lawful hooked [] lawful = tt
AreShown-lawful false (print c ∷ calls) lawful =
    shown-print (not (is_driving c)) c refl lawful.0 (filter is_inert calls) (AreShown-lawful false calls lawful.1)
AreShown-lawful false (execute b ∷ calls) lawful = shown-execute (is_layout b) b refl (filter is_left (filter is_inert calls)) (AreShown-lawful false calls lawful.1)
AreShown-lawful false (hook gs is ig f ∷ calls) lawful = AreShown-lawful true calls lawful.1
AreShown-lawful false (osc_dispatch parts bell ∷ calls) lawful = AreShown-lawful false calls lawful.1
AreShown-lawful false (csi_dispatch gs is ig f ∷ calls) lawful = AreShown-lawful false calls lawful.1
AreShown-lawful false (esc_dispatch is ig f ∷ calls) lawful = AreShown-lawful false calls lawful.1
AreShown-lawful true (put b ∷ calls) lawful = AreShown-lawful true calls lawful.1
AreShown-lawful true (unhook ∷ calls) lawful = AreShown-lawful false calls lawful
AreShown-lawful false (put b ∷ calls) lawful = absurd lawful
AreShown-lawful false (unhook ∷ calls) lawful = absurd lawful
AreShown-lawful true (print c ∷ calls) lawful = absurd lawful
AreShown-lawful true (execute b ∷ calls) lawful = absurd lawful
AreShown-lawful true (hook gs is ig f ∷ calls) lawful = absurd lawful
AreShown-lawful true (osc_dispatch parts bell ∷ calls) lawful = absurd lawful
AreShown-lawful true (csi_dispatch gs is ig f ∷ calls) lawful = absurd lawful
AreShown-lawful true (esc_dispatch is ig f ∷ calls) lawful = absurd lawful

-- and what is shown is inert
inert-shown : (call : Call) → is_shown call ≡ true → is_inert call ≡ true
inert-shown (print c) is = no_driving-inert c is
inert-shown (execute b) is = refl
inert-shown (hook gs is ig f) e = refl
inert-shown (put b) is = refl
inert-shown unhook is = refl
inert-shown (osc_dispatch parts bell) is = refl
inert-shown (csi_dispatch gs is ig f) e = refl
inert-shown (esc_dispatch is ig f) e = refl

each-inert : (calls : List Call) → AreShown calls → AllByRecursion (λ call. IsTrue (is_inert call)) calls
each-inert [] shown = tt
each-inert (call ∷ calls) shown = (inert-shown call shown.0, each-inert calls shown.1)

pub inert-all_shown : (calls : List Call) → AreShown calls → filter is_inert calls ≡ calls
inert-all_shown calls shown = filter-all is_inert calls (each-inert calls shown)

-- inert text, piece by piece
pub IsInertText-nil : IsInertText []
IsInertText-nil = (IsUtf8-nil, subst (EachIs is_inert_character) (sym chars-nil) tt)

pub IsInertText-append : (first second : List ℕ) → IsInertText first → IsInertText second → IsInertText (first ++ second)
IsInertText-append first second one two = (
  IsUtf8-append first second one.0 two.0,
  subst (EachIs is_inert_character) (sym (chars-append first second one.0)) (EachIs-append is_inert_character (chars first) (chars second) one.1 two.1),
)

pub IsInertText-encode : (c : ℕ) → IsScalar c → is_inert_character c ≡ true → IsInertText (encode_utf8 c)
IsInertText-encode c scalar is =
    let utf8 = IsUtf8-encode c scalar in
    let one = chars_past_char (encode_utf8 c) [] c utf8 (sym (append-nil (encode_utf8 c))) ∙ ap (λ l. c ∷ l) chars-nil in
    (utf8, subst (EachIs is_inert_character) (sym one) (is, tt))

IsInertText-print : (t : Bool) (c : ℕ) → not (is_driving c) ≡ t → is_character c ≡ true → (calls : List Call) → IsInertText (stripped calls)
    → IsInertText (stripped (cond t (print c ∷ calls) calls))
IsInertText-print true c inert is calls rest =
    IsInertText-append (encode_utf8 c) (stripped calls) (IsInertText-encode c (IsScalar-character c is) (inert-printed c is inert)) rest
IsInertText-print false c inert is calls rest = rest

IsInertText-execute : (t : Bool) (b : ℕ) → is_layout b ≡ t → (text : List ℕ) → IsInertText text → IsInertText (cond t (b ∷ []) [] ++ text)
IsInertText-execute true b is text rest =
    let low = layout-low b is in
    let small : b < 0x80 = omega (arith, low) in
    subst (λ l. IsInertText (l ++ text)) (encode_one b small)
    (IsInertText-append (encode_utf8 b) text (IsInertText-encode b (scalar_below b (omega (arith, low))) (inert-layout b is)) rest)
IsInertText-execute false b is text rest = rest

pub IsInertText-showable : (calls : List Call) → AreShowable calls → IsInertText (inert_text calls)
IsInertText-showable [] are = IsInertText-nil
IsInertText-showable (print c ∷ calls) are = IsInertText-print (not (is_driving c)) c refl are.0 (filter is_inert calls) (IsInertText-showable calls are.1)
IsInertText-showable (execute b ∷ calls) are = IsInertText-execute (is_layout b) b refl (inert_text calls) (IsInertText-showable calls are.1)
IsInertText-showable (hook gs is ig f ∷ calls) are = IsInertText-showable calls are.1
IsInertText-showable (put b ∷ calls) are = IsInertText-showable calls are.1
IsInertText-showable (unhook ∷ calls) are = IsInertText-showable calls are.1
IsInertText-showable (osc_dispatch parts bell ∷ calls) are = IsInertText-showable calls are.1
IsInertText-showable (csi_dispatch gs is ig f ∷ calls) are = IsInertText-showable calls are.1
IsInertText-showable (esc_dispatch is ig f ∷ calls) are = IsInertText-showable calls are.1

pub IsInertText-lawful : (calls : List Call) → AreLawful calls → IsInertText (inert_text calls)
IsInertText-lawful calls lawful = IsInertText-showable calls (AreShowable-lawful false calls lawful)

pub IsInertText-later : (first calls : List Call) → AreLawful (first ++ calls) → IsInertText (inert_text calls)
IsInertText-later first calls lawful = IsInertText-showable calls (AreShowable-later first calls lawful)

-- it is no longer than stripped text
length-print : (t : Bool) (c : ℕ) (calls : List Call) (rest : ℕ) → length (stripped calls) ≤ rest
    → length (stripped (cond t (print c ∷ calls) calls)) ≤ length (encode_utf8 c) + rest
length-print true c calls rest few = omega (arith, few, length-append (encode_utf8 c) (stripped calls))
length-print false c calls rest few = omega (arith, few)

length-kept : (call : Call) (calls : List Call) (rest : ℕ) → length (stripped calls) ≤ rest → length (stripped (call ∷ calls)) ≤ length (stripped_call call) + rest
length-kept call calls rest few = omega (arith, few, length-append (stripped_call call) (stripped calls))

length-inert_call : (call : Call) (calls : List Call) (rest : ℕ) → length (stripped calls) ≤ rest
    → length (stripped (cond (is_inert call) (call ∷ calls) calls)) ≤ length (stripped_call call) + rest
length-inert_call (print c) calls rest few = length-print (not (is_driving c)) c calls rest few
length-inert_call (execute b) calls rest few = length-kept (execute b) calls rest few
length-inert_call (hook gs is ig f) calls rest few = length-kept (hook gs is ig f) calls rest few
length-inert_call (put b) calls rest few = length-kept (put b) calls rest few
length-inert_call unhook calls rest few = length-kept unhook calls rest few
length-inert_call (osc_dispatch parts bell) calls rest few = length-kept (osc_dispatch parts bell) calls rest few
length-inert_call (csi_dispatch gs is ig f) calls rest few = length-kept (csi_dispatch gs is ig f) calls rest few
length-inert_call (esc_dispatch is ig f) calls rest few = length-kept (esc_dispatch is ig f) calls rest few

pub length-inert : (calls : List Call) → length (inert_text calls) ≤ length (stripped calls)
length-inert [] = lit≤ tt
length-inert (call ∷ calls) =
    omega (arith, length-inert_call call (filter is_inert calls) (length (stripped calls)) (length-inert calls), length-append (stripped_call call) (stripped calls))

-- inert text stays as it is
left-inert : (c : ℕ) (t : Bool) → nat_le 0x20 c ≡ t → IsScalar c → is_inert_character c ≡ true → IsLeft t c
unfolding is_inert_character
left-inert c true e scalar is = character-scalar c scalar (leb-true 0x20 c e)
left-inert c false e scalar is = (
  below-space c e,
  ⊎_elim (λ layout. layout) (λ high. absurd (false≢true (sym e ∙ (and_parts (nat_le 0x20 c) (not (is_driving c)) high).0)))
      (or_cases (is_layout c) (nat_le 0x20 c && not (is_driving c)) is),
)

AreLeft-inert : (characters : List ℕ) → all_scalars characters ≡ true → EachIs is_inert_character characters → AreLeft characters
AreLeft-inert [] scalars each = tt
AreLeft-inert (c ∷ characters) scalars each =
    let parts = and_parts _ (all_scalars characters) scalars in
    (left-inert c (nat_le 0x20 c) refl parts.0 each.0, AreLeft-inert characters parts.1 each.1)

inert-call_by : (t : Bool) (c : ℕ) → is_inert_character c ≡ true → is_inert (call_by t c) ≡ true
inert-call_by true c is = no_driving-inert c is
inert-call_by false c is = refl

each-call_of : (characters : List ℕ) → EachIs is_inert_character characters → AllByRecursion (λ call. IsTrue (is_inert call)) (map call_of characters)
each-call_of [] each = tt
each-call_of (c ∷ characters) each = (inert-call_by (nat_le 0x20 c) c each.0, each-call_of characters each.1)

pub inert_text-clean : (text : List ℕ) (calls : List Call) → IsInertText text → AreCalls text calls → inert_text calls ≡ text
inert_text-clean text calls inert are =
    let spelt = encodes-chars text inert.0 in
    let left = AreLeft-inert (chars text) (scalars-chars text inert.0) inert.1 in
    let same = calls-left (chars text) calls left (subst (λ (l : List ℕ). AreCalls l calls) (sym spelt) are) in
    ap inert_text same
    ∙ ap stripped (filter-all is_inert (map call_of (chars text)) (each-call_of (chars text) inert.1))
    ∙ stripped-left (chars text) left
    ∙ spelt

-- the text of two lists, one after another
pub inert_text-append : (first second : List Call) → inert_text (first ++ second) ≡ inert_text first ++ inert_text second
inert_text-append first second =
    ap stripped (filter-append is_inert first second) ∙ flat_map-append stripped_call (filter is_inert first) (filter is_inert second)
