-- The items of canonical texts, and what they call.
use Rattle.std.proofs.Common.{◌≡◌, ℕ, ◌<◌, ◌≤◌, ⊎_elim, Bool, true, false, not, ◌||◌, cond, List, [], ◌∷◌, ◌++◌, length, take, map, refl, sym, ap, ap₂, ◌∙◌, subst, ltb, le-ltb, lt-ltb, arith, append-nil, length-append, take_all, take_at, encode_utf8}
use Rattle.std.specs.List.{list_any}
use Rattle.std.proofs.lemmas.Bool.{not-true, and_from, or_left, or_right, cond-true, cond-false, cases_lt}
use Rattle.std.proofs.lemmas.Bool.Decides.{nat_tests}
use Rattle.anstyle_parse.specs.Stream.Bytes.{is_within, is_escape, is_cancel, is_control, is_intermediate, is_noise, is_final, bell, string_terminator, escape_byte}
use Rattle.anstyle_parse.specs.Stream.Characters.{is_lead}
use Rattle.anstyle_parse.specs.Stream.Arguments.{significant, has_shape, groups_of, collected_of, ignore_of, parts_of, max_collected}
use Rattle.anstyle_parse.specs.Stream.Call.{Call, print, execute, osc_dispatch, csi_dispatch, esc_dispatch}
use Rattle.anstyle_parse.specs.Stream.Items.{escape, csi, osc, sos_pm_apc, complete, broken_off, Item, single, character, sequence, item_text, EachIs, is_header_byte, is_text_byte, is_introducer, is_string_kind, IsHeader, IsItem, MayPrecede}
use Rattle.anstyle_parse.specs.Stream.Calls.{is_executed, is_printed, single_calls, executes, escape_dispatch, control_dispatch, item_calls, AreCalls}
use Rattle.anstyle_parse.specs.Stream.Canon.{escape_text}
use Rattle.anstyle_parse.specs.Laws.Lawful.{is_character, IsEscapeCall}
use Rattle.anstyle_parse.proofs.Bytes.Passing.{EachIs-append, EachIs-weaker}
use Rattle.anstyle_parse.proofs.Lists.Passing.{implied, filter_all, filter_none}
use Rattle.anstyle_parse.proofs.Canonical.Headers.{intermediate-header, space_is}
use Rattle.anstyle_parse.proofs.Canonical.Shown.{Shows}
use Rattle.anstyle_parse.proofs.Characters.Encoding.{within, within_parts, character_range, encode_one, encode-stands}

-- no bytes make no calls
pub AreCalls-nil : AreCalls [] []
AreCalls-nil = ([], record { whole = refl; each = tt; joined = tt }, refl)

-- an item before a text that it may precede makes its calls first
pub AreCalls-item : (item : Item) (text : List ℕ) (own : List Call) (bytes : List ℕ) (calls : List Call) → item_text item ≡ text → item_calls item ≡ own
    → IsItem item → MayPrecede item bytes → AreCalls bytes calls → AreCalls (text ++ bytes) (own ++ calls)
AreCalls-item item text own bytes calls says does is may rest = (
  item ∷ rest.0,
  record {
    whole = ap₂ (λ a b. a ++ b) says rest.1.whole;
    each = (is, rest.1.each);
    joined = (subst (MayPrecede item) (sym rest.1.whole) may, rest.1.joined);
  },
  ap₂ (λ a b. a ++ b) (sym does) rest.2,
)

printed-single : (b : ℕ) → is_printed b ≡ true → not (is_escape b || is_lead b) ≡ true
unfolding is_printed is_within is_escape is_lead
printed-single b e = implied is_printed (λ x. not (is_escape x || is_lead x)) 256 b refl (omega (arith, (within_parts 0x20 0x7F b e).1)) e

-- what is executed or printed is no ESC and begins no character
pub executed-below : (b : ℕ) → is_executed b ≡ true → b < 256
unfolding is_executed is_control is_cancel is_within
executed-below b e = grind (arith, nat_tests)

executed-single : (b : ℕ) → is_executed b ≡ true → not (is_escape b || is_lead b) ≡ true
unfolding is_executed is_control is_cancel is_within is_escape is_lead
executed-single b e = implied is_executed (λ x. not (is_escape x || is_lead x)) 256 b refl (executed-below b e) e

executed-not_printed : (b : ℕ) → is_executed b ≡ true → not (is_printed b) ≡ true
unfolding is_executed is_control is_cancel is_within is_printed
executed-not_printed b e = implied is_executed (λ x. not (is_printed x)) 256 b refl (executed-below b e) e

single_calls-printed : (b : ℕ) → is_printed b ≡ true → single_calls b ≡ print b ∷ []
unfolding single_calls
single_calls-printed b e = cond-true (is_printed b) (print b ∷ []) (cond (is_executed b) (execute b ∷ []) []) e

single_calls-executed : (b : ℕ) → is_executed b ≡ true → single_calls b ≡ execute b ∷ []
unfolding single_calls
single_calls-executed b e =
    cond-false (is_printed b) (print b ∷ []) (cond (is_executed b) (execute b ∷ []) []) (not-true (is_printed b) (executed-not_printed b e))
    ∙ cond-true (is_executed b) (execute b ∷ []) [] e

module _ (bytes : List ℕ) (calls : List Call) (rest : AreCalls bytes calls) where
  pub AreCalls-execute : (b : ℕ) → is_executed b ≡ true → AreCalls (b ∷ bytes) (execute b ∷ calls)
  AreCalls-execute b e = AreCalls-item (single b) (b ∷ []) (execute b ∷ []) bytes calls refl (single_calls-executed b e) (executed-single b e) tt rest

  pub AreCalls-print : (c : ℕ) → is_character c ≡ true → AreCalls (encode_utf8 c ++ bytes) (print c ∷ calls)
  AreCalls-print c e =
      let range = character_range c e in
      ⊎_elim
      (λ (ascii : c < 0x80).
      let p : is_printed c ≡ true = unfold is_printed in within 0x20 0x7F c range.0 (omega arith) in
      AreCalls-item (single c) (encode_utf8 c) (print c ∷ []) bytes calls (sym (encode_one c ascii)) (single_calls-printed c p) (printed-single c p) tt rest)
      (λ (beyond : 0x80 ≤ c).
      let stands = encode-stands c e beyond in
      AreCalls-item (character (encode_utf8 c)) (encode_utf8 c) (print c ∷ []) bytes calls refl (ap (λ x. print x ∷ []) stands.1) stands.0 tt rest)
      (cases_lt c 0x80)

header-not_control : (b : ℕ) → is_header_byte b ≡ true → not (is_control b) ≡ true
unfolding is_header_byte is_control is_within
header-not_control b e = implied is_header_byte (λ x. not (is_control x)) 256 b refl (omega (arith, (within_parts 0x20 0x3F b e).1)) e

-- header bytes execute nothing
executes-header : (bytes : List ℕ) → EachIs is_header_byte bytes → executes bytes ≡ []
executes-header bytes h = ap (map execute) (filter_none is_control bytes (EachIs-weaker is_header_byte (λ b. not (is_control b)) header-not_control bytes h))

-- they make a header
pub IsHeader-each : (bytes : List ℕ) → EachIs is_header_byte bytes → IsHeader bytes
IsHeader-each bytes h = EachIs-weaker is_header_byte (λ b. is_noise b || is_header_byte b) (λ b e. or_right (is_noise b) (is_header_byte b) e) bytes h

-- a control sequence whose header shows these arguments
pub AreCalls-csi : (header : List ℕ) (groups : List (List ℕ)) (intermediates : List ℕ) (ignore : Bool) (final : ℕ) (bytes : List ℕ) (calls : List Call)
    → Shows header groups intermediates ignore → is_final final ≡ true → AreCalls bytes calls
    → AreCalls ((escape_byte ∷ 0x5B ∷ (header ++ final ∷ [])) ++ bytes) (csi_dispatch groups intermediates ignore final ∷ calls)
AreCalls-csi header groups intermediates ignore final bytes calls shows ends rest =
    let dispatched =
    cond-true (has_shape header) (csi_dispatch (groups_of header) (collected_of header) (ignore_of header) final ∷ []) [] shows.shaped
    ∙ ap (λ c. c ∷ []) (ap (λ g. csi_dispatch g (collected_of header) (ignore_of header) final) shows.shows_groups
    ∙ (ap (λ c. csi_dispatch groups c (ignore_of header) final) shows.shows_collected ∙ ap (λ i. csi_dispatch groups intermediates i final) shows.shows_ignore)) in
    AreCalls-item (sequence (csi [] header) (complete final)) (escape_byte ∷ 0x5B ∷ (header ++ final ∷ [])) (csi_dispatch groups intermediates ignore final ∷ []) bytes calls refl
    (ap (λ e. e ++ control_dispatch (significant header) final) (executes-header header shows.bytes_are)
    ∙ (ap (λ h. control_dispatch h final) shows.all_significant ∙ dispatched))
    ((tt, IsHeader-each header shows.bytes_are), ends) tt rest

-- the intermediates of an escape sequence with what makes it ignore one
pub escape_text-each : (intermediates : List ℕ) (ignore : Bool) → EachIs is_intermediate intermediates → EachIs is_intermediate (escape_text intermediates ignore)
unfolding escape_text
escape_text-each intermediates true h = EachIs-append is_intermediate intermediates (0x20 ∷ []) h (space_is, tt)
escape_text-each intermediates false h = EachIs-append is_intermediate intermediates [] h tt

escape_text-shows : (intermediates : List ℕ) (ignore : Bool) → length intermediates ≤ max_collected → (ignore ≡ true → length intermediates ≡ max_collected)
    → (take max_collected (escape_text intermediates ignore) ≡ intermediates) × (ltb max_collected (length (escape_text intermediates ignore)) ≡ ignore)
unfolding escape_text
escape_text-shows intermediates true few full = (
  take_at intermediates (0x20 ∷ []) max_collected (full refl),
  lt-ltb max_collected (length (intermediates ++ 0x20 ∷ [])) (omega (arith, full refl, length-append intermediates (0x20 ∷ []))),
)
escape_text-shows intermediates false few full = (
  ap (take max_collected) (append-nil intermediates) ∙ take_all max_collected intermediates few,
  le-ltb max_collected (length (intermediates ++ [])) (omega (arith, few, length-append intermediates [])),
)

any_intermediate : (bytes : List ℕ) (ignore : Bool) (final : ℕ) → EachIs is_intermediate bytes → (ignore ≡ true → length bytes ≡ max_collected) → (bytes ≡ [] → not (is_introducer final) ≡ true)
    → (list_any is_intermediate (escape_text bytes ignore) || not (is_introducer final)) ≡ true
unfolding escape_text
any_intermediate [] true final h full begins = or_right (list_any is_intermediate (0x20 ∷ [])) (not (is_introducer final)) (begins refl)
any_intermediate [] false final h full begins = begins refl
any_intermediate (b ∷ bytes) ignore final h full begins =
    or_left (list_any is_intermediate (b ∷ (bytes ++ cond ignore (0x20 ∷ []) []))) (not (is_introducer final))
    (or_left (is_intermediate b) (list_any is_intermediate (bytes ++ cond ignore (0x20 ∷ []) [])) h.0)

-- an escape sequence
pub AreCalls-esc : (intermediates : List ℕ) (ignore : Bool) (final : ℕ) (bytes : List ℕ) (calls : List Call) → IsEscapeCall intermediates ignore final → AreCalls bytes calls
    → AreCalls ((escape_byte ∷ (escape_text intermediates ignore ++ final ∷ [])) ++ bytes) (esc_dispatch intermediates ignore final ∷ calls)
AreCalls-esc intermediates ignore final bytes calls call rest =
    let text = escape_text intermediates ignore in
    let each = escape_text-each intermediates ignore call.collected_are in
    let kept = filter_all is_intermediate text each in
    let shows = escape_text-shows intermediates ignore call.collected_fit call.ignores in
    AreCalls-item (sequence (escape text) (complete final)) (escape_byte ∷ (text ++ final ∷ [])) (esc_dispatch intermediates ignore final ∷ []) bytes calls refl
    (ap (λ e. e ++ escape_dispatch text final ∷ []) (executes-header text (EachIs-weaker is_intermediate is_header_byte intermediate-header text each))
    ∙ ap (λ c. c ∷ []) (ap (λ l. esc_dispatch (take max_collected l) (ltb max_collected (length l)) final) kept
    ∙ (ap (λ i. esc_dispatch i (ltb max_collected (length text)) final) shows.0 ∙ ap (λ i. esc_dispatch intermediates i final) shows.1))) (
      EachIs-weaker is_intermediate (λ b. is_noise b || is_intermediate b) (λ b e. or_right (is_noise b) (is_intermediate b) e) text each,
      and_from (is_within 0x30 0x7E final) (list_any is_intermediate text || not (is_introducer final)) call.is_finished
          (any_intermediate intermediates ignore final call.collected_are call.ignores call.begins_nothing),
    )
    tt rest

-- an operating system command that BEL ends, and one that ESC breaks off
pub AreCalls-bell : (text : List ℕ) (bytes : List ℕ) (calls : List Call) → EachIs (is_text_byte bell) text → AreCalls bytes calls
    → AreCalls ((escape_byte ∷ 0x5D ∷ (text ++ bell ∷ [])) ++ bytes) (osc_dispatch (parts_of text) true ∷ calls)
AreCalls-bell text bytes calls h rest =
    AreCalls-item (sequence (osc [] text) (complete bell)) (escape_byte ∷ 0x5D ∷ (text ++ bell ∷ [])) (osc_dispatch (parts_of text) true ∷ []) bytes calls refl refl
    ((tt, h), refl) tt rest

escape_is : is_escape escape_byte ≡ true
unfolding is_escape
escape_is = refl

pub AreCalls-broken_off : (text : List ℕ) (bytes : List ℕ) (calls : List Call) → EachIs (is_text_byte bell) text → AreCalls (escape_byte ∷ bytes) calls
    → AreCalls ((escape_byte ∷ 0x5D ∷ text) ++ escape_byte ∷ bytes) (osc_dispatch (parts_of text) false ∷ calls)
AreCalls-broken_off text bytes calls h rest =
    AreCalls-item (sequence (osc [] text) broken_off) (escape_byte ∷ 0x5D ∷ text) (osc_dispatch (parts_of text) false ∷ []) (escape_byte ∷ bytes) calls
    (append-nil (escape_byte ∷ 0x5D ∷ text)) refl ((tt, h), tt) escape_is rest

string_is : is_string_kind 0x58 ≡ true
unfolding is_string_kind
string_is = refl

-- ESC X and ST make no call
pub AreCalls-ignored : (bytes : List ℕ) (calls : List Call) → AreCalls bytes calls → AreCalls (escape_byte ∷ 0x58 ∷ string_terminator ∷ bytes) calls
AreCalls-ignored bytes calls rest =
    AreCalls-item (sequence (sos_pm_apc [] 0x58 []) (complete string_terminator)) (escape_byte ∷ 0x58 ∷ string_terminator ∷ []) [] bytes calls refl refl ((tt, string_is, tt), refl) tt rest
