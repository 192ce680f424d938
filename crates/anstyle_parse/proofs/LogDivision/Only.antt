-- A log has no second division.
use Rattle.std.proofs.Common.{◌≡◌, ℕ, true, false, eqb, List, [], ◌∷◌, ◌++◌, IsTrue, refl, sym, ap, ◌∙◌, subst, append_assoc, append-nil}
use Rattle.std.specs.Prelude.{not, ⊤}
use Rattle.std.specs.List.{AllByRecursion}
use Rattle.std.proofs.lemmas.Bool.{cond-false, not-true, false≢true, both_ways}
use Rattle.anstyle_parse.specs.Stream.Bytes.{is_cancel, is_escape, bell, string_terminator}
use Rattle.anstyle_parse.specs.Stream.Characters.{is_well_formed, is_proper_front}
use Rattle.anstyle_parse.specs.Stream.Items.{Body, escape, csi, dcs_header, dcs, dcs_ignored, osc, sos_pm_apc, complete, cancelled, broken_off, unfinished, Item, single, character, broken, begun, sequence, body_text, item_text, items_text, EachIs, IsBody, is_text_byte, BeginsWithEscape, BeginsWithBreak, MayPrecede, AreJoined}
use Rattle.anstyle_parse.specs.Laws.LogItems.{heard_text, heard_body, HasNoBell, completes_in_log, IsItemOfLog, IsLogDivision}
use Rattle.anstyle_parse.specs.Machine.AsRead.{heard}
use Rattle.anstyle_parse.proofs.Bytes.Classes.{Class, bell_byte, cancel_byte, esc_byte, terminator_byte, class_of, is_bell_at, is_cancel_at, is_escape_at, is_string_text_at, is_terminator_at, is_bell-class, is_cancel-class, is_escape-class, is_string_text-class, is_terminator-class}
use Rattle.anstyle_parse.proofs.Characters.Table.{is_proper_front-before, is_well_formed-nil}
use Rattle.anstyle_parse.proofs.Characters.Tests.{IsProperFront-test}
use Rattle.anstyle_parse.proofs.Division.Exists.{IsOpen}
use Rattle.anstyle_parse.proofs.Division.Grow.{Open, nothing, front, inside, Growth, more, done, start, into, ended, grow_body, grow, last_items, open_text, done_items}
use Rattle.anstyle_parse.proofs.Division.Only.{ends_in, one_byte, grow-broken, grow-cancel, grow-complete, grow-single, grow-whole}
use Rattle.anstyle_parse.proofs.Division.Steps.{Runs, Runs-open}
use Rattle.anstyle_parse.proofs.LogDivision.Grow.{grow_string, grow_ended, grow_log, divide_log, heard_open, IsQuiet, IsOther, grow_log-other}

both_nil : (xs ys : List Item) → xs ++ ys ≡ [] → (xs ≡ []) × (ys ≡ [])
both_nil [] ys e = (refl, e)
both_nil (x ∷ xs) ys e = absurd (cc (e))

-- A string of which no text has come, where 9C would end it.
abbrev IsBegunBody : Body → Type 0
IsBegunBody (dcs between header final text) = text ≡ []
IsBegunBody (dcs_ignored between header byte text) = text ≡ []
IsBegunBody (sos_pm_apc between kind text) = text ≡ []
IsBegunBody body = ⊤

abbrev IsBegun : Open → Type 0
IsBegun (inside body) = IsBegunBody body
IsBegun o = ⊤

begun-other : (o : Open) → IsOther o → IsBegun o
begun-other nothing other = tt
begun-other (front bytes) other = tt
begun-other (inside (escape bytes)) other = tt
begun-other (inside (csi between header)) other = tt
begun-other (inside (dcs_header between header)) other = tt
begun-other (inside (dcs between header final text)) other = absurd other
begun-other (inside (dcs_ignored between header byte text)) other = absurd other
begun-other (inside (osc between text)) other = tt
begun-other (inside (sos_pm_apc between kind text)) other = absurd other

-- Where a byte makes no item whole, and leaves no text of such a string, none was open before.
some_text : (text : List ℕ) (b : ℕ) → text ++ b ∷ [] ≡ [] → ⊥
some_text [] b e = absurd (cc (e))
some_text (x ∷ text) b e = absurd (cc (e))

back-hooked : (between header : List ℕ) (final : ℕ) (text : List ℕ) (b : ℕ) (c : Class) →
    let g = grow_body (dcs between header final text) b c in
    g.items ≡ [] → IsBegun g.next → ⊥
back-hooked between header final text b esc_byte none begins = absurd (cc (none))
back-hooked between header final text b cancel_byte none begins = absurd (cc (none))
back-hooked between header final text b terminator_byte none begins = absurd (cc (none))
back-hooked between header final text b c none begins = some_text text b begins

back-dropped : (between header : List ℕ) (byte : ℕ) (text : List ℕ) (b : ℕ) (c : Class) →
    let g = grow_body (dcs_ignored between header byte text) b c in
    g.items ≡ [] → IsBegun g.next → ⊥
back-dropped between header byte text b esc_byte none begins = absurd (cc (none))
back-dropped between header byte text b cancel_byte none begins = absurd (cc (none))
back-dropped between header byte text b terminator_byte none begins = absurd (cc (none))
back-dropped between header byte text b c none begins = some_text text b begins

back-ignored : (between : List ℕ) (kind : ℕ) (text : List ℕ) (b : ℕ) (c : Class) →
    let g = grow_body (sos_pm_apc between kind text) b c in
    g.items ≡ [] → IsBegun g.next → ⊥
back-ignored between kind text b esc_byte none begins = absurd (cc (none))
back-ignored between kind text b cancel_byte none begins = absurd (cc (none))
back-ignored between kind text b terminator_byte none begins = absurd (cc (none))
back-ignored between kind text b c none begins = some_text text b begins

back : (o : Open) (b : ℕ) → (grow o b).items ≡ [] → IsBegun (grow o b).next → IsOther o
unfolding grow
back nothing b none begins = tt
back (front bytes) b none begins = tt
back (inside (escape bytes)) b none begins = tt
back (inside (csi between header)) b none begins = tt
back (inside (dcs_header between header)) b none begins = tt
back (inside (dcs between header final text)) b none begins = back-hooked between header final text b (class_of b) none begins
back (inside (dcs_ignored between header byte text)) b none begins = back-dropped between header byte text b (class_of b) none begins
back (inside (osc between text)) b none begins = tt
back (inside (sos_pm_apc between kind text)) b none begins = back-ignored between kind text b (class_of b) none begins

-- so bytes that run to what is open run to it in a log
RunsInLog : Open → List ℕ → Open → Type 0
RunsInLog o bytes p = (rest : List ℕ) → divide_log o (bytes ++ rest) ≡ divide_log p rest

runs_in_log : (o : Open) (bytes : List ℕ) (p : Open) → Runs o bytes p → IsBegun p → IsBegun o × RunsInLog o bytes p
unfolding RunsInLog
runs_in_log o [] p r begins = (subst IsBegun (sym r.reaches) begins, λ rest. ap (λ x. divide_log x rest) r.reaches)
runs_in_log o (b ∷ bytes) p r begins =
    let next = (grow o b).next in
    let none = both_nil (grow o b).items (done_items next bytes) r.none in
    let after = runs_in_log next bytes p (record { none = none.1; reaches = r.reaches }) begins in
    let other = back o b none.0 after.0 in (
      begun-other o other,
      λ rest. ap (λ g. g.items ++ divide_log g.next (bytes ++ rest)) (grow_log-other o b other)
          ∙ ap (λ items. items ++ divide_log next (bytes ++ rest)) none.0 ∙ after.1 rest,
    )

-- Text of a string: no ESC, CAN or SUB, nor, where it is ignored, BEL.
abbrev IsText : ℕ → Type 0
IsText b = IsTrue (is_text_byte string_terminator (heard b))

abbrev IsQuietText : ℕ → Type 0
IsQuietText b = IsText b × IsTrue (not (eqb b bell))

each-text : (text : List ℕ) → EachIs (is_text_byte string_terminator) (heard_text text) → AllByRecursion IsText text
each-text [] each = tt
each-text (b ∷ text) each = (each.0, each-text text each.1)

each-quiet : (text : List ℕ) → EachIs (is_text_byte string_terminator) (heard_text text) → EachIs (λ n. not (eqb n bell)) text → AllByRecursion IsQuietText text
each-quiet [] each quiet = tt
each-quiet (b ∷ text) each quiet = ((each.0, quiet.0), each-quiet text each.1 quiet.1)

heard-other : (b : ℕ) → eqb b string_terminator ≡ false → heard b ≡ b
unfolding heard
heard-other b other = cond-false (eqb b string_terminator) 0x9D b other

no_text : (b : ℕ) (c : Class) → class_of b ≡ c → is_terminator_at c ≡ false → is_string_text_at c ≡ false → IsText b → ⊥
no_text b c class other none text =
    false≢true (sym (ap (is_text_byte string_terminator) (heard-other b (is_terminator-class b ∙ ap is_terminator_at class ∙ other))
    ∙ is_string_text-class b ∙ ap is_string_text_at class ∙ none) ∙ text)

plain-text : (b : ℕ) (c : Class) → class_of b ≡ c → IsText b → (is_escape_at c ≡ false) × (is_cancel_at c ≡ false)
plain-text b esc_byte class text = absurd (no_text b esc_byte class refl refl text)
plain-text b cancel_byte class text = absurd (no_text b cancel_byte class refl refl text)
plain-text b c class text = (refl, refl)

into-string : (body longer : Body) (b : ℕ) (c : Class) → is_escape_at c ≡ false → is_cancel_at c ≡ false → grow_string body longer b c ≡ into longer
into-string body longer b esc_byte one two = cc
into-string body longer b cancel_byte one two = cc
into-string body longer b c one two = refl

into-ended : (body longer : Body) (b : ℕ) (c : Class) → is_escape_at c ≡ false → is_cancel_at c ≡ false → is_bell_at c ≡ false
    → grow_ended body longer b c ≡ into longer
into-ended body longer b bell_byte one two three = cc
into-ended body longer b c one two three = into-string body longer b c one two

text-string : (body longer : Body) (b : ℕ) → IsText b → grow_string body longer b (class_of b) ≡ into longer
text-string body longer b text = let plain = plain-text b (class_of b) refl text in into-string body longer b (class_of b) plain.0 plain.1

text-ended : (body longer : Body) (b : ℕ) → IsQuietText b → grow_ended body longer b (class_of b) ≡ into longer
text-ended body longer b text =
    let plain = plain-text b (class_of b) refl text.0 in
    into-ended body longer b (class_of b) plain.0 plain.1 (sym (is_bell-class b) ∙ not-true (eqb b bell) text.1)

-- Each byte of it makes the string longer.
text-runs : (f : List ℕ → Open) (Holds : ℕ → Type 0) → ((p : List ℕ) (b : ℕ) → Holds b → grow_log (f p) b ≡ more (f (p ++ b ∷ [])))
    → (p text : List ℕ) → AllByRecursion Holds text → RunsInLog (f p) text (f (p ++ text))
unfolding RunsInLog
text-runs f Holds step p [] each = λ rest. ap (λ x. divide_log (f x) rest) (sym (append-nil p))
text-runs f Holds step p (b ∷ text) each = λ rest.
    ap (λ g. g.items ++ divide_log g.next (text ++ rest)) (step p b each.0)
    ∙ text-runs f Holds step (p ++ b ∷ []) text each.1 rest
    ∙ ap (λ x. divide_log (f x) rest) (append_assoc p (b ∷ []) text)

-- a string of which no text has come, and its text
string-runs : (begins body : Body) (text : List ℕ) → IsBody begins → IsBegunBody begins → body_text body ≡ body_text begins ++ text
    → RunsInLog (inside begins) text (inside body) → RunsInLog nothing (body_text body) (inside body)
unfolding RunsInLog
string-runs begins body text is is_begun joined runs = λ rest.
    ap (λ l. divide_log nothing (l ++ rest)) joined
    ∙ ap (λ l. divide_log nothing l) (append_assoc (body_text begins) text rest)
    ∙ (runs_in_log nothing (body_text begins) (inside begins) (Runs-open (inside begins) is) is_begun).1 (text ++ rest)
    ∙ runs rest

other-runs : (o : Open) → IsOpen o → IsOther o → RunsInLog nothing (open_text o) o
other-runs o is other = (runs_in_log nothing (open_text o) o (Runs-open o is) (begun-other o other)).1

runs-open : (o : Open) → IsOpen (heard_open o) → IsQuiet o → RunsInLog nothing (open_text o) o
runs-open nothing is quiet = other-runs nothing is tt
runs-open (front bytes) is quiet = other-runs (front bytes) is tt
runs-open (inside (escape bytes)) is quiet = other-runs (inside (escape bytes)) is tt
runs-open (inside (csi between header)) is quiet = other-runs (inside (csi between header)) is tt
runs-open (inside (dcs_header between header)) is quiet = other-runs (inside (dcs_header between header)) is tt
runs-open (inside (dcs between header final text)) is quiet =
    string-runs (dcs between header final []) (dcs between header final text) text (record { begun = is.begun; hooked = is.hooked; text_bytes = tt }) refl (simp append_assoc)
    (text-runs (λ l. inside (dcs between header final l)) IsText (λ p b. text-string (dcs between header final p) (dcs between header final (p ++ b ∷ [])) b)
    [] text (each-text text is.text_bytes))
runs-open (inside (dcs_ignored between header byte text)) is quiet =
    string-runs (dcs_ignored between header byte []) (dcs_ignored between header byte text) text
    (record { begun = is.begun; header_byte = is.header_byte; unshaped = is.unshaped; text_bytes = tt }) refl (simp append_assoc)
    (text-runs (λ l. inside (dcs_ignored between header byte l)) IsText
    (λ p b. text-string (dcs_ignored between header byte p) (dcs_ignored between header byte (p ++ b ∷ [])) b) [] text (each-text text is.text_bytes))
runs-open (inside (osc between text)) is quiet = other-runs (inside (osc between text)) is tt
runs-open (inside (sos_pm_apc between kind text)) is quiet =
    string-runs (sos_pm_apc between kind []) (sos_pm_apc between kind text) text (is.0, is.1, tt) refl (simp append_assoc)
    (text-runs (λ l. inside (sos_pm_apc between kind l)) IsQuietText (λ p b. text-ended (sos_pm_apc between kind p) (sos_pm_apc between kind (p ++ b ∷ [])) b)
    [] text (each-quiet text is.2 quiet))

open-runs : (o : Open) → IsOpen (heard_open o) → IsQuiet o → (rest : List ℕ) → divide_log nothing (open_text o ++ rest) ≡ divide_log o rest
unfolding RunsInLog
open-runs o is quiet = runs-open o is quiet

-- the text of an open item, and the byte that makes it whole
whole-item : (o : Open) (b : ℕ) (rest : List ℕ) (item : Item) → IsOpen (heard_open o) → IsQuiet o → grow_log o b ≡ done item
    → divide_log nothing ((open_text o ++ b ∷ []) ++ rest) ≡ item ∷ divide_log nothing rest
whole-item o b rest item is quiet e =
    ap (λ text. divide_log nothing text) (append_assoc (open_text o) (b ∷ []) rest)
    ∙ open-runs o is quiet (b ∷ rest) ∙ ap (λ g. g.items ++ divide_log g.next rest) e

-- a byte that completes a body
ended-by : (body longer : Body) (b : ℕ) (c : Class) → is_bell_at c ≡ true → grow_ended body longer b c ≡ ended body b
ended-by body longer b bell_byte t = refl
ended-by body longer b c t = cc

completed : (body : Body) (b : ℕ) → IsTrue (completes_in_log body b) → grow_log (inside body) b ≡ ended body b
completed (escape bytes) b is = grow-complete (escape bytes) b is
completed (csi between header) b is = grow-complete (csi between header) b is
completed (dcs_header between header) b is = absurd (false≢true is)
completed (dcs between header final text) b is = absurd (false≢true is)
completed (dcs_ignored between header byte text) b is = absurd (false≢true is)
completed (osc between text) b is = grow-complete (osc between text) b is
completed (sos_pm_apc between kind text) b is =
    ended-by (sos_pm_apc between kind text) (sos_pm_apc between kind (text ++ b ∷ [])) b (class_of b) (sym (is_bell-class b) ∙ is)

-- one that cancels it
cancel-string : (body longer : Body) (b : ℕ) (c : Class) → is_cancel_at c ≡ true → grow_string body longer b c ≡ done (sequence body (cancelled b))
cancel-string body longer b cancel_byte t = refl
cancel-string body longer b c t = cc

cancel-ended : (body longer : Body) (b : ℕ) (c : Class) → is_cancel_at c ≡ true → grow_ended body longer b c ≡ done (sequence body (cancelled b))
cancel-ended body longer b bell_byte t = cc
cancel-ended body longer b c t = cancel-string body longer b c t

cancel-log : (body : Body) (b : ℕ) → IsTrue (is_cancel b) → grow_log (inside body) b ≡ done (sequence body (cancelled b))
cancel-log (escape bytes) b is = grow-cancel (escape bytes) b is
cancel-log (csi between header) b is = grow-cancel (csi between header) b is
cancel-log (dcs_header between header) b is = grow-cancel (dcs_header between header) b is
cancel-log (dcs between header final text) b is =
    cancel-string (dcs between header final text) (dcs between header final (text ++ b ∷ [])) b (class_of b) (sym (is_cancel-class b) ∙ is)
cancel-log (dcs_ignored between header byte text) b is =
    cancel-string (dcs_ignored between header byte text) (dcs_ignored between header byte (text ++ b ∷ [])) b (class_of b) (sym (is_cancel-class b) ∙ is)
cancel-log (osc between text) b is = grow-cancel (osc between text) b is
cancel-log (sos_pm_apc between kind text) b is =
    cancel-ended (sos_pm_apc between kind text) (sos_pm_apc between kind (text ++ b ∷ [])) b (class_of b) (sym (is_cancel-class b) ∙ is)

-- ESC closes the body and begins what it begins after nothing
abbrev closes : Body → Growth
closes body = record { items = sequence body broken_off ∷ []; next = inside (escape []) }

start-escape : (b : ℕ) (c : Class) → is_escape_at c ≡ true → start b c ≡ more (inside (escape []))
start-escape b esc_byte t = refl
start-escape b c t = cc

closed : (body : Body) (b : ℕ) (c : Class) → is_escape_at c ≡ true → grow_body body b c ≡ closes body
closed body b esc_byte t = refl
closed body b c t = cc

closed-string : (body longer : Body) (b : ℕ) (c : Class) → is_escape_at c ≡ true → grow_string body longer b c ≡ closes body
closed-string body longer b esc_byte t = refl
closed-string body longer b c t = cc

closed-ended : (body longer : Body) (b : ℕ) (c : Class) → is_escape_at c ≡ true → grow_ended body longer b c ≡ closes body
closed-ended body longer b bell_byte t = cc
closed-ended body longer b c t = closed-string body longer b c t

closed-log : (body : Body) (b : ℕ) → is_escape_at (class_of b) ≡ true → grow_log (inside body) b ≡ closes body
unfolding grow
closed-log (escape bytes) b is = closed (escape bytes) b (class_of b) is
closed-log (csi between header) b is = closed (csi between header) b (class_of b) is
closed-log (dcs_header between header) b is = closed (dcs_header between header) b (class_of b) is
closed-log (dcs between header final text) b is =
    closed-string (dcs between header final text) (dcs between header final (text ++ b ∷ [])) b (class_of b) is
closed-log (dcs_ignored between header byte text) b is =
    closed-string (dcs_ignored between header byte text) (dcs_ignored between header byte (text ++ b ∷ [])) b (class_of b) is
closed-log (osc between text) b is = closed (osc between text) b (class_of b) is
closed-log (sos_pm_apc between kind text) b is =
    closed-ended (sos_pm_apc between kind text) (sos_pm_apc between kind (text ++ b ∷ [])) b (class_of b) is

broken_by : (body : Body) (b : ℕ) (rest : List ℕ) → IsTrue (is_escape b) → divide_log (inside body) (b ∷ rest) ≡ sequence body broken_off ∷ divide_log nothing (b ∷ rest)
unfolding grow
broken_by body b rest is =
    let at = sym (is_escape-class b) ∙ is in
    ap (λ g. g.items ++ divide_log g.next rest) (closed-log body b at)
    ∙ ap (λ g. sequence body broken_off ∷ (g.items ++ divide_log g.next rest)) (sym (start-escape b (class_of b) at))

-- each kind of item
of_character : (bytes rest : List ℕ) → IsTrue (is_well_formed bytes) → divide_log nothing (bytes ++ rest) ≡ character bytes ∷ divide_log nothing rest
of_character [] rest is = absurd (both_ways (is_well_formed []) is_well_formed-nil is)
of_character (a ∷ []) rest is = absurd (one_byte a is)
of_character (a ∷ (b ∷ x)) rest is =
    let parts = ends_in b x in
    let same : a ∷ (b ∷ x) ≡ a ∷ (parts.0 ++ parts.1 ∷ []) = ap (λ y. a ∷ y) parts.2 in
    let whole : is_well_formed (a ∷ (parts.0 ++ parts.1 ∷ [])) ≡ true = sym (ap is_well_formed same) ∙ is in
    subst (λ y. divide_log nothing (y ++ rest) ≡ character y ∷ divide_log nothing rest) (sym same)
    (whole-item (front (a ∷ parts.0)) parts.1 rest (character (a ∷ (parts.0 ++ parts.1 ∷ [])))
    (is_proper_front-before a parts.0 parts.1 [] whole) tt (grow-whole (a ∷ parts.0) parts.1 whole))

at_end : (o : Open) → IsOpen (heard_open o) → IsQuiet o → divide_log nothing (open_text o) ≡ last_items o
at_end o is quiet = ap (λ text. divide_log nothing text) (sym (append-nil (open_text o))) ∙ open-runs o is quiet []

of_broken_off : (body : Body) (rest : List ℕ) → IsBody (heard_body body) → HasNoBell body → BeginsWithEscape rest
    → divide_log nothing ((body_text body ++ []) ++ rest) ≡ sequence body broken_off ∷ divide_log nothing rest
of_broken_off body [] is quiet may = absurd may
of_broken_off body (b ∷ rest) is quiet may =
    ap (λ text. divide_log nothing (text ++ b ∷ rest)) (append-nil (body_text body))
    ∙ open-runs (inside body) is quiet (b ∷ rest) ∙ broken_by body b rest may

of_broken : (bytes rest : List ℕ) → IsTrue (is_proper_front bytes) → BeginsWithBreak bytes rest
    → divide_log nothing (bytes ++ rest) ≡ broken bytes ∷ divide_log nothing rest
of_broken bytes [] is may = absurd may
of_broken bytes (b ∷ rest) is may =
    open-runs (front bytes) is tt (b ∷ rest) ∙ ap (λ g. g.items ++ divide_log g.next rest) (grow-broken bytes b may)

-- An item's text is divided into that item, and what stands after it by itself.
of_item : (item : Item) (rest : List ℕ) → IsItemOfLog item → MayPrecede item rest → divide_log nothing (item_text item ++ rest) ≡ item ∷ divide_log nothing rest
of_item (single b) rest is may = ap (λ g. g.items ++ divide_log g.next rest) (grow-single b is)
of_item (character bytes) rest is may = of_character bytes rest is
of_item (broken bytes) rest is may = of_broken bytes rest ((IsProperFront-test bytes).1 is) may
of_item (begun bytes) rest is may =
    subst (λ r. divide_log nothing (bytes ++ r) ≡ begun bytes ∷ divide_log nothing r) (sym may)
    (ap (λ text. divide_log nothing text) (append-nil bytes) ∙ at_end (front bytes) ((IsProperFront-test bytes).1 is) tt)
of_item (sequence body (complete b)) rest is may = whole-item (inside body) b rest (sequence body (complete b)) is.0 is.1 (completed body b is.2)
of_item (sequence body (cancelled b)) rest is may =
    whole-item (inside body) b rest (sequence body (cancelled b)) is.0 is.1 (cancel-log body b is.2)
of_item (sequence body broken_off) rest is may = of_broken_off body rest is.0 is.1 may
of_item (sequence body unfinished) rest is may =
    subst (λ r. divide_log nothing ((body_text body ++ []) ++ r) ≡ sequence body unfinished ∷ divide_log nothing r) (sym may)
    (ap (λ text. divide_log nothing text) (append-nil (body_text body ++ []) ∙ append-nil (body_text body)) ∙ at_end (inside body) is.0 is.1)

of_items : (items : List Item) → AllByRecursion IsItemOfLog items → AreJoined items → divide_log nothing (items_text items) ≡ items
of_items [] each joined = refl
of_items (item ∷ items) each joined = of_item item (items_text items) each.0 joined.0 ∙ ap (λ others. item ∷ others) (of_items items each.1 joined.1)

-- a division is the one that is computed
pub IsLogDivision-only : (items : List Item) (log : List ℕ) → IsLogDivision items log → items ≡ divide_log nothing log
IsLogDivision-only items log d = sym (of_items items d.each d.joined) ∙ ap (λ text. divide_log nothing text) d.whole
