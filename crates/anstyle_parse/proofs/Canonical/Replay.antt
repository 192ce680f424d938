-- Replay: the calls of the canonical text of a lawful list of calls are that list.
use Rattle.std.proofs.Common.{◌≡◌, ℕ, ◌<◌, Bool, true, false, List, [], ◌∷◌, ◌++◌, map, refl, sym, ap, ap₂, ◌∙◌, subst, arith, append_assoc, append-nil}
use Rattle.std.specs.List.{join_with_byte}
use Rattle.std.proofs.lemmas.List.{map-append}
use Rattle.std.proofs.lemmas.Bool.Decides.{nat_tests}
use Rattle.anstyle_parse.specs.Stream.Bytes.{is_within, is_escape, is_cancel, is_control, is_final, semicolon, bell, string_terminator, escape_byte}
use Rattle.anstyle_parse.specs.Stream.Arguments.{has_shape, groups_of, collected_of, ignore_of}
use Rattle.anstyle_parse.specs.Stream.Call.{Call, print, execute, hook, put, unhook, osc_dispatch, csi_dispatch, esc_dispatch}
use Rattle.anstyle_parse.specs.Stream.Items.{dcs, complete, unfinished, sequence, EachIs, is_text_byte, IsBody}
use Rattle.anstyle_parse.specs.Stream.Calls.{is_put, body_calls, AreCalls}
use Rattle.anstyle_parse.specs.Stream.Canon.{header_text, canon, command_end}
use Rattle.anstyle_parse.specs.Laws.Lawful.{AreLawfulFrom, AreLawful, AreParts}
use Rattle.anstyle_parse.proofs.Bytes.Passing.{EachIs-append, EachIs-weaker}
use Rattle.anstyle_parse.proofs.Lists.Passing.{implied, filter_all}
use Rattle.anstyle_parse.proofs.Canonical.Shown.{Shows, header_text-Shows}
use Rattle.anstyle_parse.proofs.Canonical.Parts.{parts-text, parts_of-join}
use Rattle.anstyle_parse.proofs.Canonical.Items.{AreCalls-nil, AreCalls-item, AreCalls-execute, AreCalls-print, AreCalls-csi, AreCalls-esc, AreCalls-bell, AreCalls-broken_off, AreCalls-ignored, IsHeader-each}

-- what is passed on is a byte, and can stand in the text
pub passed-below : (b : ℕ) → is_put b ≡ true → b < 256
unfolding is_put is_control is_within
passed-below b e = grind (arith, nat_tests)

passed-text : (b : ℕ) → is_put b ≡ true → is_text_byte string_terminator b ≡ true
unfolding is_put is_control is_within is_text_byte is_escape is_cancel
passed-text b e = implied is_put (is_text_byte string_terminator) 256 b refl (passed-below b e) e

-- a hooked string with the bytes that it passed, up to its end
module _ (header : List ℕ) (groups : List (List ℕ)) (intermediates : List ℕ) (ignore : Bool) (final : ℕ) (shows : Shows header groups intermediates ignore) (ends : is_final final ≡ true) where
  hooked_text : List ℕ → List ℕ
  hooked_text text = escape_byte ∷ 0x50 ∷ (header ++ final ∷ text)

  hooked_calls : List ℕ → List Call
  hooked_calls text = hook groups intermediates ignore final ∷ map put text

  hooked-body : (text : List ℕ) → EachIs is_put text → IsBody (dcs [] header final text)
  hooked-body text h = record {
    begun = record { noise = tt; header_bytes = IsHeader-each header shows.bytes_are; shaped = ap has_shape shows.all_significant ∙ shows.shaped };
    hooked = ends;
    text_bytes = EachIs-weaker is_put (is_text_byte string_terminator) passed-text text h;
  }

  body_calls-hooked : (text : List ℕ) → EachIs is_put text → body_calls (dcs [] header final text) ≡ hooked_calls text
  unfolding hooked_calls
  body_calls-hooked text h =
      ap₂ (λ c t. c ∷ map put t)
      (ap (λ l. hook (groups_of l) (collected_of l) (ignore_of l) final) shows.all_significant
      ∙ (ap (λ g. hook g (collected_of header) (ignore_of header) final) shows.shows_groups
      ∙ (ap (λ c. hook groups c (ignore_of header) final) shows.shows_collected ∙ ap (λ i. hook groups intermediates i final) shows.shows_ignore)))
      (filter_all is_put text h)

  open-end : (text : List ℕ) → EachIs is_put text → AreCalls (hooked_text text) (hooked_calls text)
  unfolding hooked_text hooked_calls
  open-end text h =
      subst (λ bs. AreCalls bs (hooked_calls text)) (append-nil (hooked_text text))
      (subst (λ cs. AreCalls (hooked_text text ++ []) cs) (append-nil (hooked_calls text))
      (AreCalls-item (sequence (dcs [] header final text) unfinished) (hooked_text text) (hooked_calls text) [] []
      (append-nil (hooked_text text)) (append-nil (body_calls (dcs [] header final text)) ∙ body_calls-hooked text h)
      (hooked-body text h, tt) refl AreCalls-nil))

  closed-end : (text bytes : List ℕ) (calls : List Call) → EachIs is_put text → AreCalls bytes calls
      → AreCalls (hooked_text (text ++ string_terminator ∷ bytes)) (hooked_calls text ++ unhook ∷ calls)
  unfolding hooked_text hooked_calls
  closed-end text bytes calls h rest =
      subst (λ bs. AreCalls bs (hooked_calls text ++ unhook ∷ calls))
      (ap (λ l. escape_byte ∷ 0x50 ∷ l) (append_assoc (header ++ final ∷ text) (string_terminator ∷ []) bytes ∙ append_assoc header (final ∷ text) (string_terminator ∷ bytes)))
      (subst (λ cs. AreCalls ((hooked_text text ++ string_terminator ∷ []) ++ bytes) cs) (append_assoc (hooked_calls text) (unhook ∷ []) calls)
      (AreCalls-item (sequence (dcs [] header final text) (complete string_terminator)) (hooked_text text ++ string_terminator ∷ []) (hooked_calls text ++ unhook ∷ []) bytes calls
      refl (ap (λ c. c ++ unhook ∷ []) (body_calls-hooked text h))
      (hooked-body text h, refl) tt rest))

-- What is shown of a list of calls: outside a hooked string, that its text makes it; inside
-- one, that a hooked string with its text after makes the hook, the bytes passed, and it.
abbrev Replayed : Bool → List Call → Type 0
Replayed false calls = AreCalls (canon calls) calls
Replayed true calls =
    (header : List ℕ) (groups : List (List ℕ)) (intermediates : List ℕ) (ignore : Bool) (final : ℕ) (shows : Shows header groups intermediates ignore) (ends : is_final final ≡ true)
    (text : List ℕ) → EachIs is_put text
    → AreCalls (hooked_text header groups intermediates ignore final shows ends (text ++ canon calls)) (hooked_calls header groups intermediates ignore final shows ends text ++ calls)

-- the parts of a lawful command are those of its text
replay-osc : (parts : List (List ℕ)) (bell_terminated : Bool) (bytes : List ℕ) (calls : List Call) → AreParts parts → AreCalls bytes calls
    → AreCalls ((escape_byte ∷ 0x5D ∷ (join_with_byte semicolon parts ++ command_end bell_terminated)) ++ bytes) (osc_dispatch parts bell_terminated ∷ calls)
replay-osc parts true bytes calls are rest =
    subst (λ p. AreCalls ((escape_byte ∷ 0x5D ∷ (join_with_byte semicolon parts ++ bell ∷ [])) ++ bytes) (osc_dispatch p true ∷ calls)) (parts_of-join parts are)
    (AreCalls-bell (join_with_byte semicolon parts) bytes calls (parts-text parts are) rest)
replay-osc parts false bytes calls are rest =
    subst (λ bs. AreCalls bs (osc_dispatch parts false ∷ calls))
    (ap (λ l. escape_byte ∷ 0x5D ∷ l) (sym (append_assoc (join_with_byte semicolon parts) (escape_byte ∷ 0x58 ∷ string_terminator ∷ []) bytes)))
    (subst (λ p. AreCalls (escape_byte ∷ 0x5D ∷ (join_with_byte semicolon parts ++ escape_byte ∷ 0x58 ∷ string_terminator ∷ bytes)) (osc_dispatch p false ∷ calls)) (parts_of-join parts are)
    (AreCalls-broken_off (join_with_byte semicolon parts) (0x58 ∷ string_terminator ∷ bytes) calls (parts-text parts are) (AreCalls-ignored bytes calls rest)))

replay_from : (dcs : Bool) (calls : List Call) → AreLawfulFrom dcs calls → Replayed dcs calls
unfolding hooked_text hooked_calls
replay_from false [] h = AreCalls-nil
replay_from false (print character ∷ calls) h = AreCalls-print (canon calls) calls (replay_from false calls h.1) character h.0
replay_from false (execute byte ∷ calls) h = AreCalls-execute (canon calls) calls (replay_from false calls h.1) byte h.0
replay_from false (hook groups intermediates ignore final ∷ calls) h =
    subst (λ bs. AreCalls bs (hook groups intermediates ignore final ∷ calls))
    (ap (λ l. escape_byte ∷ 0x50 ∷ l) (sym (append_assoc (header_text groups intermediates ignore) (final ∷ []) (canon calls))))
    (replay_from true calls h.1 (header_text groups intermediates ignore) groups intermediates ignore final
    (header_text-Shows groups intermediates ignore final h.0) h.0.is_finished [] tt)
replay_from false (osc_dispatch parts bell_terminated ∷ calls) h = replay-osc parts bell_terminated (canon calls) calls h.0 (replay_from false calls h.1)
replay_from false (csi_dispatch groups intermediates ignore final ∷ calls) h =
    AreCalls-csi (header_text groups intermediates ignore) groups intermediates ignore final (canon calls) calls
    (header_text-Shows groups intermediates ignore final h.0) h.0.is_finished (replay_from false calls h.1)
replay_from false (esc_dispatch intermediates ignore final ∷ calls) h =
    AreCalls-esc intermediates ignore final (canon calls) calls h.0 (replay_from false calls h.1)
replay_from false (put byte ∷ calls) h = absurd h
replay_from false (unhook ∷ calls) h = absurd h
replay_from true [] h = λ header groups intermediates ignore final shows ends text each.
    subst (λ bs. AreCalls (hooked_text header groups intermediates ignore final shows ends bs) (hooked_calls header groups intermediates ignore final shows ends text ++ [])) (sym (append-nil text))
    (subst (AreCalls (hooked_text header groups intermediates ignore final shows ends text)) (sym (append-nil (hooked_calls header groups intermediates ignore final shows ends text)))
    (open-end header groups intermediates ignore final shows ends text each))
replay_from true (put byte ∷ calls) h = λ header groups intermediates ignore final shows ends text each.
    subst (λ bs. AreCalls (hooked_text header groups intermediates ignore final shows ends bs) (hooked_calls header groups intermediates ignore final shows ends text ++ put byte ∷ calls)) (append_assoc text (byte ∷ []) (canon calls))
    (subst (AreCalls (hooked_text header groups intermediates ignore final shows ends ((text ++ byte ∷ []) ++ canon calls)))
    (ap (λ c. hook groups intermediates ignore final ∷ (c ++ calls)) (map-append put text (byte ∷ [])) ∙ append_assoc (hook groups intermediates ignore final ∷ map put text) (put byte ∷ []) calls)
    (replay_from true calls h.1 header groups intermediates ignore final shows ends (text ++ byte ∷ []) (EachIs-append is_put text (byte ∷ []) each (h.0, tt))))
replay_from true (unhook ∷ calls) h = λ header groups intermediates ignore final shows ends text each.
    closed-end header groups intermediates ignore final shows ends text (canon calls) calls each (replay_from false calls h)
replay_from true (print character ∷ calls) h = absurd h
replay_from true (execute byte ∷ calls) h = absurd h
replay_from true (hook groups intermediates ignore final ∷ calls) h = absurd h
replay_from true (osc_dispatch parts bell_terminated ∷ calls) h = absurd h
replay_from true (csi_dispatch groups intermediates ignore final ∷ calls) h = absurd h
replay_from true (esc_dispatch intermediates ignore final ∷ calls) h = absurd h

-- the canonical text of a lawful list of calls makes that list
pub replay : (calls : List Call) → AreLawful calls → AreCalls (canon calls) calls
replay calls lawful = replay_from false calls lawful
