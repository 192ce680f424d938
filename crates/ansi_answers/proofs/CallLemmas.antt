-- The calls of a control sequence, of a device control string that ESC \ ends, and of a command.
use Rattle.std.proofs.Common.{◌≡◌, ℕ, Bool, true, false, List, [], ◌∷◌, ◌++◌, map, refl, ap, ap₂, ◌∙◌, subst, append_assoc, append-nil, arith}
use Rattle.std.specs.Prelude.{if◌then◌else◌}
use Rattle.std.specs.List.{join_with_byte}
use Rattle.std.proofs.lemmas.Bool.{false≢true}
use Rattle.anstyle_parse.specs.Stream.Bytes.{is_within, is_control, is_escape, is_cancel, is_final, semicolon, bell, string_terminator, escape_byte}
use Rattle.anstyle_parse.specs.Stream.Arguments.{after_marker, has_shape, groups_of, collected_of, ignore_of, parts_of}
use Rattle.anstyle_parse.specs.Stream.Call.{hook, put, unhook, osc_dispatch, csi_dispatch}
use Rattle.anstyle_parse.specs.Stream.Items.{dcs, broken_off, sequence, EachIs, is_introducer, is_string_kind, is_text_byte, IsBody}
use Rattle.anstyle_parse.specs.Stream.Calls.{is_put, body_calls, AreCalls}
use Rattle.anstyle_parse.specs.Stream.Canon.{leading_marker, header_text, escape_text}
use Rattle.anstyle_parse.specs.Stream.Groups.{groups_text}
use Rattle.anstyle_parse.specs.Laws.Lawful.{IsHeaderCall, IsEscapeCall, AreParts}
use Rattle.anstyle_parse.proofs.Bytes.Passing.{EachIs-weaker}
use Rattle.anstyle_parse.proofs.Lists.Passing.{implied, filter_all}
use Rattle.anstyle_parse.proofs.Canonical.Shown.{Shows, header_text-Shows}
use Rattle.anstyle_parse.proofs.Canonical.Parts.{parts-text, parts_of-join}
use Rattle.anstyle_parse.proofs.Canonical.Replay.{passed-below}
use Rattle.anstyle_parse.proofs.Canonical.Items.{AreCalls-nil, AreCalls-item, AreCalls-csi, AreCalls-esc, AreCalls-bell, AreCalls-broken_off, IsHeader-each}
use Rattle.ansi_answers.specs.Calls.{terminator, string, command}
use Rattle.ansi_answers.specs.Calls.{sequence as one_sequence}

-- the text of a control sequence
sequence-text : (groups : List (List ℕ)) (marks : List ℕ) (final : ℕ) → (escape_byte ∷ 0x5B ∷ (header_text groups marks false ++ final ∷ [])) ++ []
    ≡ escape_byte ∷ 0x5B ∷ (leading_marker marks ++ (groups_text groups ++ (after_marker marks ++ final ∷ [])))
unfolding header_text
sequence-text groups marks final =
    let mark = leading_marker marks in
    let text = groups_text groups in
    let after = after_marker marks in
    ap (λ l. escape_byte ∷ 0x5B ∷ l)
    (append-nil ((mark ++ ((text ++ []) ++ (after ++ []))) ++ final ∷ [])
    ∙ (append_assoc mark ((text ++ []) ++ (after ++ [])) (final ∷ [])
    ∙ ap (λ l. mark ++ l) (ap₂ (λ a b. (a ++ b) ++ final ∷ []) (append-nil text) (append-nil after) ∙ append_assoc text after (final ∷ []))))

-- its calls
pub AreCalls-sequence : (groups : List (List ℕ)) (marks : List ℕ) (final : ℕ) (text : List ℕ) → IsHeaderCall groups marks false final
    → escape_byte ∷ 0x5B ∷ (leading_marker marks ++ (groups_text groups ++ (after_marker marks ++ final ∷ []))) ≡ text
    → AreCalls text (one_sequence groups marks final)
AreCalls-sequence groups marks final text is same =
    subst (λ bytes. AreCalls bytes (csi_dispatch groups marks false final ∷ [])) (sequence-text groups marks final ∙ same)
    (AreCalls-csi (header_text groups marks false) groups marks false final [] [] (header_text-Shows groups marks false final is) is.is_finished AreCalls-nil)

passed-text : (b : ℕ) → is_put b ≡ true → is_text_byte string_terminator b ≡ true
unfolding is_put is_control is_within is_text_byte is_escape is_cancel
passed-text b e = implied is_put (is_text_byte string_terminator) 256 b refl (passed-below b e) e

escape_is : is_escape escape_byte ≡ true
unfolding is_escape
escape_is = refl

-- ESC \
IsEscapeCall-terminator : IsEscapeCall [] false 0x5C
unfolding is_within is_introducer is_string_kind
IsEscapeCall-terminator = record {
  collected_fit = omega arith;
  collected_are = tt;
  ignores = λ e. absurd (false≢true e);
  is_finished = refl;
  begins_nothing = λ e. refl;
}

AreCalls-terminator : AreCalls (escape_byte ∷ 0x5C ∷ []) terminator
unfolding escape_text
AreCalls-terminator = AreCalls-esc [] false 0x5C [] [] IsEscapeCall-terminator AreCalls-nil

-- a device control string with bytes that are passed on
module _ (header : List ℕ) (groups : List (List ℕ)) (marks : List ℕ) (final : ℕ) (shows : Shows header groups marks false) (ends : is_final final ≡ true)
    (text : List ℕ) (each : EachIs is_put text) where
  string-body : IsBody (dcs [] header final text)
  string-body = record {
    begun = record { noise = tt; header_bytes = IsHeader-each header shows.bytes_are; shaped = ap has_shape shows.all_significant ∙ shows.shaped };
    hooked = ends;
    text_bytes = EachIs-weaker is_put (is_text_byte string_terminator) passed-text text each;
  }

  body_calls-string : body_calls (dcs [] header final text) ≡ hook groups marks false final ∷ map put text
  body_calls-string =
      ap₂ (λ c t. c ∷ map put t)
      (ap (λ l. hook (groups_of l) (collected_of l) (ignore_of l) final) shows.all_significant
      ∙ (ap (λ g. hook g (collected_of header) (ignore_of header) final) shows.shows_groups
      ∙ (ap (λ c. hook groups c (ignore_of header) final) shows.shows_collected ∙ ap (λ i. hook groups marks i final) shows.shows_ignore)))
      (filter_all is_put text each)

  pub AreCalls-string : AreCalls (escape_byte ∷ 0x50 ∷ (header ++ final ∷ (text ++ escape_byte ∷ 0x5C ∷ []))) (string groups marks final text)
  AreCalls-string =
      subst (λ bytes. AreCalls bytes (string groups marks final text))
      (ap (λ l. escape_byte ∷ 0x50 ∷ l) (append_assoc header (final ∷ text) (escape_byte ∷ 0x5C ∷ [])))
      (subst (AreCalls ((escape_byte ∷ 0x50 ∷ (header ++ final ∷ text)) ++ escape_byte ∷ 0x5C ∷ []))
      (append_assoc (hook groups marks false final ∷ map put text) (unhook ∷ []) terminator)
      (AreCalls-item (sequence (dcs [] header final text) broken_off) (escape_byte ∷ 0x50 ∷ (header ++ final ∷ text))
      ((hook groups marks false final ∷ map put text) ++ unhook ∷ []) (escape_byte ∷ 0x5C ∷ []) terminator
      (append-nil (escape_byte ∷ 0x50 ∷ (header ++ final ∷ text))) (ap (λ c. c ++ unhook ∷ []) body_calls-string)
      (string-body, tt) escape_is AreCalls-terminator))

-- a command, which BEL ends or ESC \
pub AreCalls-command : (parts : List (List ℕ)) (ends : Bool) → AreParts parts
    → AreCalls (escape_byte ∷ 0x5D ∷ (join_with_byte semicolon parts ++ (if ends then bell ∷ [] else escape_byte ∷ 0x5C ∷ []))) (command parts ends)
AreCalls-command parts true are =
    subst (λ p. AreCalls (escape_byte ∷ 0x5D ∷ (join_with_byte semicolon parts ++ bell ∷ [])) (osc_dispatch p true ∷ [])) (parts_of-join parts are)
    (subst (λ bytes. AreCalls bytes (osc_dispatch (parts_of (join_with_byte semicolon parts)) true ∷ [])) (append-nil (escape_byte ∷ 0x5D ∷ (join_with_byte semicolon parts ++ bell ∷ [])))
    (AreCalls-bell (join_with_byte semicolon parts) [] [] (parts-text parts are) AreCalls-nil))
AreCalls-command parts false are =
    subst (λ p. AreCalls (escape_byte ∷ 0x5D ∷ (join_with_byte semicolon parts ++ escape_byte ∷ 0x5C ∷ [])) (osc_dispatch p false ∷ terminator)) (parts_of-join parts are)
    (AreCalls-broken_off (join_with_byte semicolon parts) (0x5C ∷ []) terminator (parts-text parts are) AreCalls-terminator)
