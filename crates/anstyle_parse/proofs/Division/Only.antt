-- A list of bytes has one division, and one list of calls.
use Rattle.std.proofs.Common.{◌≡◌, ℕ, true, false, not, ◌&&◌, ◌||◌, List, [], ◌∷◌, ◌++◌, IsTrue, refl, sym, ap, ◌∙◌, subst, append_assoc, append-nil, ⊎_elim}
use Rattle.std.specs.Prelude.{if◌then◌else◌}
use Rattle.std.specs.List.{AllByRecursion, list_any}
use Rattle.std.proofs.lemmas.Bool.{false≢true, not-true, or_parts, or_cases, cond-true, cond-false, both_ways, false_from_ne_true}
use Rattle.anstyle_parse.specs.Stream.Bytes.{is_cancel, is_escape, is_intermediate}
use Rattle.anstyle_parse.specs.Stream.Characters.{is_lead, is_well_formed, is_proper_front, IsFront}
use Rattle.anstyle_parse.specs.Stream.Items.{Body, escape, csi, dcs_header, dcs, dcs_ignored, osc, sos_pm_apc, complete, cancelled, broken_off, unfinished, Item, single, character, broken, begun, sequence, body_text, item_text, items_text, IsBody, completes, IsItem, BeginsWithEscape, BeginsWithBreak, MayPrecede, AreJoined, IsDivision, is_introducer}
use Rattle.anstyle_parse.specs.Stream.Call.{Call}
use Rattle.anstyle_parse.specs.Stream.Calls.{items_calls, AreCalls}
use Rattle.anstyle_parse.proofs.Bytes.Classes.{Class, bell_byte, cancel_byte, esc_byte, device_byte, string_byte, control_introducer, command_byte, final_byte, terminator_byte, lead_byte, class_of, is_cancel_at, is_escape_at, is_final_at, is_lead_at, is_introducer_at, is_last_at, is_terminator_at, is_bell_at, is_cancel-class, is_escape-class, is_final-class, is_lead-class, is_introducer-class, is_last-class, is_terminator-class, is_bell-class}
use Rattle.anstyle_parse.proofs.Division.Grow.{Open, nothing, front, inside, more, done, start, break_off, ended, introduce, grow_body, grow, divide, last_items, open_text, open_after}
use Rattle.anstyle_parse.proofs.Division.Split.{divide-append}
use Rattle.anstyle_parse.proofs.Characters.Table.{is_front-well_formed, is_front-proper, is_proper_front-before, is_proper_front-lead, is_lead-front, is_well_formed-nil, is_well_formed-proper}
use Rattle.anstyle_parse.proofs.Characters.Tests.{IsFront-test, IsProperFront-test}
use Rattle.anstyle_parse.proofs.Division.Exists.{IsOpen}
use Rattle.anstyle_parse.proofs.Division.Steps.{Runs, Runs-open}

-- after a run the division goes on from what is open
divide-run : (o p : Open) (a rest : List ℕ) → Runs o a p → divide o (a ++ rest) ≡ divide p rest
divide-run o p a rest r = divide-append o a rest ∙ (ap (λ items. items ++ divide (open_after o a) rest) r.none ∙ ap (λ x. divide x rest) r.reaches)

-- a byte that makes an item whole
divide-done : (o : Open) (b : ℕ) (rest : List ℕ) (item : Item) → grow o b ≡ done item → divide o (b ∷ rest) ≡ item ∷ divide nothing rest
divide-done o b rest item e = ap (λ g. g.items ++ divide g.next rest) e

-- the text of an open item, and the byte that makes it whole
divide-whole : (o : Open) (b : ℕ) (rest : List ℕ) (item : Item) → IsOpen o → grow o b ≡ done item
    → divide nothing ((open_text o ++ b ∷ []) ++ rest) ≡ item ∷ divide nothing rest
divide-whole o b rest item h e =
    ap (λ text. divide nothing text) (append_assoc (open_text o) (b ∷ []) rest)
    ∙ (divide-run nothing o (open_text o) (b ∷ rest) (Runs-open o h) ∙ divide-done o b rest item e)

-- the byte that completes a body
introduce-after : (bytes : List ℕ) (b : ℕ) (body : Body) → (list_any is_intermediate bytes || false) ≡ true → introduce bytes b body ≡ ended (escape bytes) b
introduce-after bytes b body t = cond-true (list_any is_intermediate bytes) (ended (escape bytes) b) (more (inside body))
    (⊎_elim (λ some. some) (λ no. absurd (false≢true no)) (or_cases (list_any is_intermediate bytes) false t))

-- a byte that completes an escape sequence ends it
ended_escape : (bytes : List ℕ) (b : ℕ) (c : Class) → (is_last_at c && (list_any is_intermediate bytes || not (is_introducer_at c))) ≡ true
    → grow_body (escape bytes) b c ≡ ended (escape bytes) b
ended_escape bytes b device_byte t = introduce-after bytes b (dcs_header bytes []) t
ended_escape bytes b string_byte t = introduce-after bytes b (sos_pm_apc bytes b []) t
ended_escape bytes b control_introducer t = introduce-after bytes b (csi bytes []) t
ended_escape bytes b command_byte t = introduce-after bytes b (osc bytes []) t
ended_escape bytes b c t = cc

-- and a control sequence
ended_control : (between header : List ℕ) (b : ℕ) (c : Class) → is_final_at c ≡ true → grow_body (csi between header) b c ≡ ended (csi between header) b
ended_control between header b final_byte t = refl
ended_control between header b c t = cc

-- and a hooked device control string
ended_hooked : (between header : List ℕ) (final : ℕ) (text : List ℕ) (b : ℕ) (c : Class) → is_terminator_at c ≡ true
    → grow_body (dcs between header final text) b c ≡ ended (dcs between header final text) b
ended_hooked between header final text b terminator_byte t = refl
ended_hooked between header final text b c t = cc

-- and one that is ignored
ended_dropped : (between header : List ℕ) (byte : ℕ) (text : List ℕ) (b : ℕ) (c : Class) → is_terminator_at c ≡ true
    → grow_body (dcs_ignored between header byte text) b c ≡ ended (dcs_ignored between header byte text) b
ended_dropped between header byte text b terminator_byte t = refl
ended_dropped between header byte text b c t = cc

-- and an operating system command
ended_command : (between text : List ℕ) (b : ℕ) (c : Class) → is_bell_at c ≡ true → grow_body (osc between text) b c ≡ ended (osc between text) b
ended_command between text b bell_byte t = refl
ended_command between text b c t = cc

-- and an ignored string
ended_ignored : (between : List ℕ) (kind : ℕ) (text : List ℕ) (b : ℕ) (c : Class) → is_terminator_at c ≡ true
    → grow_body (sos_pm_apc between kind text) b c ≡ ended (sos_pm_apc between kind text) b
ended_ignored between kind text b terminator_byte t = refl
ended_ignored between kind text b c t = cc

-- a byte that completes a body ends it
pub grow-complete : (body : Body) (b : ℕ) → IsTrue (completes body b) → grow (inside body) b ≡ ended body b
unfolding grow
grow-complete (escape bytes) b h = ended_escape bytes b (class_of b)
    (sym (ap (λ t. t && (list_any is_intermediate bytes || not (is_introducer b))) (is_last-class b)
    ∙ ap (λ t. is_last_at (class_of b) && (list_any is_intermediate bytes || not t)) (is_introducer-class b)) ∙ h)
grow-complete (csi between header) b h = ended_control between header b (class_of b) (sym (is_final-class b) ∙ h)
grow-complete (dcs_header between header) b h = absurd (false≢true h)
grow-complete (dcs between header final text) b h = ended_hooked between header final text b (class_of b) (sym (is_terminator-class b) ∙ h)
grow-complete (dcs_ignored between header byte text) b h = ended_dropped between header byte text b (class_of b) (sym (is_terminator-class b) ∙ h)
grow-complete (osc between text) b h = ended_command between text b (class_of b) (sym (is_bell-class b) ∙ h)
grow-complete (sos_pm_apc between kind text) b h = ended_ignored between kind text b (class_of b) (sym (is_terminator-class b) ∙ h)

-- a byte that cancels a body, and ESC, which breaks it off
cancel_body : (body : Body) (b : ℕ) (c : Class) → is_cancel_at c ≡ true → grow_body body b c ≡ done (sequence body (cancelled b))
cancel_body body b cancel_byte t = refl
cancel_body body b c t = cc

pub grow-cancel : (body : Body) (b : ℕ) → IsTrue (is_cancel b) → grow (inside body) b ≡ done (sequence body (cancelled b))
unfolding grow
grow-cancel body b h = cancel_body body b (class_of b) (sym (is_cancel-class b) ∙ h)

-- ESC closes the body and begins what it begins after nothing
close_body : (body : Body) (b : ℕ) (rest : List ℕ) (c : Class) → is_escape_at c ≡ true
    → (grow_body body b c).items ++ divide (grow_body body b c).next rest ≡ sequence body broken_off ∷ ((start b c).items ++ divide (start b c).next rest)
close_body body b rest esc_byte t = refl
close_body body b rest c t = cc

-- so ESC divides what is open from what follows
divide-escape : (body : Body) (b : ℕ) (rest : List ℕ) → IsTrue (is_escape b) → divide (inside body) (b ∷ rest) ≡ sequence body broken_off ∷ divide nothing (b ∷ rest)
unfolding grow
divide-escape body b rest h = close_body body b rest (class_of b) (sym (is_escape-class b) ∙ h)

-- a single byte
start-single : (b : ℕ) (c : Class) → is_escape_at c ≡ false → is_lead_at c ≡ false → start b c ≡ done (single b)
start-single b esc_byte s t = cc
start-single b lead_byte s t = cc
start-single b c s t = refl

-- a byte that begins nothing is an item
pub grow-single : (b : ℕ) → IsTrue (not (is_escape b || is_lead b)) → grow nothing b ≡ done (single b)
unfolding grow
grow-single b h =
    let parts = or_parts (is_escape b) (is_lead b) (not-true (is_escape b || is_lead b) h) in
    start-single b (class_of b) (sym (is_escape-class b) ∙ parts.0) (sym (is_lead-class b) ∙ parts.1)

-- the last byte of a character
pub grow-whole : (bytes : List ℕ) (b : ℕ) → IsTrue (is_well_formed (bytes ++ b ∷ [])) → grow (front bytes) b ≡ done (character (bytes ++ b ∷ []))
unfolding grow
grow-whole bytes b h = cond-true (is_well_formed (bytes ++ b ∷ [])) (done (character (bytes ++ b ∷ [])))
    (if is_proper_front (bytes ++ b ∷ []) then more (front (bytes ++ b ∷ [])) else break_off bytes (grow nothing b)) h

-- a byte with which no character begins breaks the front, and begins what it begins after nothing
pub grow-broken : (bytes : List ℕ) (b : ℕ) → ¬ IsFront (bytes ++ b ∷ []) → grow (front bytes) b ≡ break_off bytes (grow nothing b)
unfolding grow
grow-broken bytes b h =
    let is = IsFront-test (bytes ++ b ∷ []) in
    cond-false (is_well_formed (bytes ++ b ∷ [])) (done (character (bytes ++ b ∷ [])))
    (if is_proper_front (bytes ++ b ∷ []) then more (front (bytes ++ b ∷ [])) else break_off bytes (grow nothing b))
    (false_from_ne_true (is_well_formed (bytes ++ b ∷ [])) (λ w. h (is.0 (is_front-well_formed (bytes ++ b ∷ []) w))))
    ∙ cond-false (is_proper_front (bytes ++ b ∷ [])) (more (front (bytes ++ b ∷ []))) (break_off bytes (grow nothing b))
    (false_from_ne_true (is_proper_front (bytes ++ b ∷ [])) (λ p. h (is.0 (is_front-proper (bytes ++ b ∷ []) p))))

-- a list that is not empty, as what stands before its last byte, and that byte
pub ends_in : (b : ℕ) (x : List ℕ) → (front : List ℕ) × (last : ℕ) × (b ∷ x ≡ front ++ last ∷ [])
ends_in b [] = ([], b, refl)
ends_in b (c ∷ x) = let others = ends_in c x in (b ∷ others.0, others.1, ap (λ y. b ∷ y) others.2)

-- one byte alone is no character
pub one_byte : (b : ℕ) → IsTrue (is_well_formed (b ∷ [])) → ⊥
one_byte b h = both_ways (is_well_formed (b ∷ []))
    (is_well_formed-proper (b ∷ []) (is_proper_front-lead b (is_lead-front b [] (is_front-well_formed (b ∷ []) h)))) h

-- a character is divided into itself
divide-character : (bytes rest : List ℕ) → IsTrue (is_well_formed bytes) → divide nothing (bytes ++ rest) ≡ character bytes ∷ divide nothing rest
divide-character [] rest h = absurd (both_ways (is_well_formed []) is_well_formed-nil h)
divide-character (a ∷ []) rest h = absurd (one_byte a h)
divide-character (a ∷ (b ∷ x)) rest h =
    let parts = ends_in b x in
    let same : a ∷ (b ∷ x) ≡ a ∷ (parts.0 ++ parts.1 ∷ []) = ap (λ y. a ∷ y) parts.2 in
    let whole : is_well_formed (a ∷ (parts.0 ++ parts.1 ∷ [])) ≡ true = sym (ap is_well_formed same) ∙ h in
    subst (λ y. divide nothing (y ++ rest) ≡ character y ∷ divide nothing rest) (sym same)
    (divide-whole (front (a ∷ parts.0)) parts.1 rest (character (a ∷ (parts.0 ++ parts.1 ∷ [])))
    (is_proper_front-before a parts.0 parts.1 [] whole) (grow-whole (a ∷ parts.0) parts.1 whole))

-- an open item at the end of the list
divide-last : (o : Open) → IsOpen o → divide nothing (open_text o) ≡ last_items o
divide-last o h = ap (λ text. divide nothing text) (sym (append-nil (open_text o))) ∙ divide-run nothing o (open_text o) [] (Runs-open o h)

-- a sequence that is broken off, and what breaks it off
divide-broken_off : (body : Body) (rest : List ℕ) → IsBody body → BeginsWithEscape rest
    → divide nothing ((body_text body ++ []) ++ rest) ≡ sequence body broken_off ∷ divide nothing rest
divide-broken_off body [] h m = absurd m
divide-broken_off body (b ∷ rest) h m =
    ap (λ text. divide nothing (text ++ b ∷ rest)) (append-nil (body_text body))
    ∙ (divide-run nothing (inside body) (body_text body) (b ∷ rest) (Runs-open (inside body) h) ∙ divide-escape body b rest m)

-- a character that is broken, and what breaks it
divide-broken : (bytes rest : List ℕ) → IsTrue (is_proper_front bytes) → BeginsWithBreak bytes rest
    → divide nothing (bytes ++ rest) ≡ broken bytes ∷ divide nothing rest
divide-broken bytes [] h m = absurd m
divide-broken bytes (b ∷ rest) h m =
    divide-run nothing (front bytes) bytes (b ∷ rest) (Runs-open (front bytes) h)
    ∙ ap (λ g. g.items ++ divide g.next rest) (grow-broken bytes b m)

-- An item's text is divided into that item, and what stands after it by itself.
divide-item : (item : Item) (rest : List ℕ) → IsItem item → MayPrecede item rest → divide nothing (item_text item ++ rest) ≡ item ∷ divide nothing rest
divide-item (single b) rest h m = divide-done nothing b rest (single b) (grow-single b h)
divide-item (character bytes) rest h m = divide-character bytes rest h
divide-item (broken bytes) rest h m = divide-broken bytes rest ((IsProperFront-test bytes).1 h) m
divide-item (begun bytes) rest h m =
    subst (λ r. divide nothing (bytes ++ r) ≡ begun bytes ∷ divide nothing r) (sym m)
    (ap (λ text. divide nothing text) (append-nil bytes) ∙ divide-last (front bytes) ((IsProperFront-test bytes).1 h))
divide-item (sequence body (complete b)) rest h m = divide-whole (inside body) b rest (sequence body (complete b)) h.0 (grow-complete body b h.1)
divide-item (sequence body (cancelled b)) rest h m = divide-whole (inside body) b rest (sequence body (cancelled b)) h.0 (grow-cancel body b h.1)
divide-item (sequence body broken_off) rest h m = divide-broken_off body rest h.0 m
divide-item (sequence body unfinished) rest h m =
    subst (λ r. divide nothing ((body_text body ++ []) ++ r) ≡ sequence body unfinished ∷ divide nothing r) (sym m)
    (ap (λ text. divide nothing text) (append-nil (body_text body ++ []) ∙ append-nil (body_text body)) ∙ divide-last (inside body) h.0)

-- the texts of items that are joined are divided into these items
divide-texts : (items : List Item) → AllByRecursion IsItem items → AreJoined items → divide nothing (items_text items) ≡ items
divide-texts [] each joined = refl
divide-texts (item ∷ items) each joined = divide-item item (items_text items) each.0 joined.0 ∙ ap (λ others. item ∷ others) (divide-texts items each.1 joined.1)

-- a division is the one that is computed
pub IsDivision-only : (items : List Item) (bytes : List ℕ) → IsDivision items bytes → items ≡ divide nothing bytes
IsDivision-only items bytes d = sym (divide-texts items d.each d.joined) ∙ ap (λ text. divide nothing text) d.whole

-- so a list of bytes has one list of calls
pub AreCalls-only : (bytes : List ℕ) (a b : List Call) → AreCalls bytes a → AreCalls bytes b → a ≡ b
AreCalls-only bytes a b p q =
    p.2 ∙ (ap (λ items. items_calls items) (IsDivision-only p.0 bytes p.1 ∙ sym (IsDivision-only q.0 bytes q.1)) ∙ sym q.2)
