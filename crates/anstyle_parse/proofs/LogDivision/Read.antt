-- What is read of a log, byte by byte, is what is read of the items of its division.
use Rattle.std.proofs.Common.{◌≡◌, ℕ, Bool, true, false, eqb, eqb-true, List, [], ◌∷◌, ◌++◌, refl, sym, ap, ◌∙◌, subst, append_assoc, append-nil, ⊎_elim}
use Rattle.std.specs.Prelude.{◌&&◌, if◌then◌else◌}
use Rattle.std.specs.List.{AllByRecursion, list_any}
use Rattle.std.proofs.lemmas.Bool.{cases_Bool, cond-true, cond-false, and_left, and_parts, false≢true}
use Rattle.std.proofs.lemmas.Grind.{flat_map-append}
use Rattle.anstyle_parse.specs.declared.utf8.Taken.{Taken}
use Rattle.anstyle_parse.specs.declared.utf8.Taken.TheVariants.{More, Char, Broken}
use Rattle.anstyle_parse.specs.declared.state.definitions.State.{State}
use Rattle.anstyle_parse.specs.declared.state.definitions.State.TheVariants.{DcsIgnore, DcsPassthrough, SosPmApcString}
use Rattle.anstyle_parse.specs.Stream.Bytes.{is_escape, is_intermediate, bell, string_terminator, escape_byte}
use Rattle.anstyle_parse.specs.Stream.Arguments.{significant}
use Rattle.anstyle_parse.specs.Stream.Characters.{is_well_formed, is_proper_front, character_of, replacement}
use Rattle.anstyle_parse.specs.Stream.Items.{Body, escape, csi, dcs_header, dcs, dcs_ignored, osc, sos_pm_apc, End, complete, cancelled, broken_off, unfinished, Item, single, character, broken, begun, sequence, body_text, end_text, item_text, items_text}
use Rattle.anstyle_parse.specs.Laws.LogItems.{heard_body, read_end, read_item, read_items, read_item_whole, read_items_whole}
use Rattle.anstyle_parse.specs.Machine.AsRead.{is_stray, is_break, is_at_ground, is_in_ignored_string, is_in_terminated_string, replacement_text, string_end, heard, read_for, read_from, as_read, as_read_whole, break_in}
use Rattle.anstyle_parse.specs.Machine.Decoder.{decoded}
use Rattle.anstyle_parse.specs.Machine.Stands.{counted}
use Rattle.anstyle_parse.specs.Machine.Step.{Machine, step, machine_after}
use Rattle.anstyle_parse.proofs.Agreement.Values.{Phase, misfit, phase_of, fits, fits-phase_of, device_value, registers, body_value, value_at}
use Rattle.anstyle_parse.proofs.Agreement.Whole.{value_at-step, counted-counted, machine_after-append}
use Rattle.anstyle_parse.proofs.Bytes.Classes.{Class, bell_byte, cancel_byte, esc_byte, terminator_byte, silent_byte, class_below, class_of, is_bell_at, is_escape_at, is_terminator_at, is_bell-class, is_escape-class, is_terminator-class}
use Rattle.anstyle_parse.proofs.Canonical.TextLength.{body-inside}
use Rattle.anstyle_parse.proofs.Division.Exists.{IsOpen, Grown-grow}
use Rattle.anstyle_parse.proofs.Division.Grow.{Open, nothing, front, inside, Growth, start, grow, more, done, ended, break_off, last_items, open_text}
use Rattle.anstyle_parse.proofs.LogDivision.Grow.{grow_string, grow_ended, grow_log, divide_log, heard_open, heard-open, heard-push, IsQuiet, IsOtherBody, IsOther, grow_log-other, HoldsAlone, IsQuietItem, quiet-grow, IsWholeItem, grown_in_log}
use Rattle.anstyle_parse.proofs.Machine.Actions.{new_in}
use Rattle.anstyle_parse.proofs.Machine.AsRead.{read_for-stray, read_for-other, read_from-counted}
use Rattle.anstyle_parse.proofs.Machine.Counted.{step_at, step-class, counted-machine}
use Rattle.anstyle_parse.proofs.Machine.LogReading.{stray-begins_none, single-start, inside-elsewhere, grow-stray, outside-at, after-replaced, end-read, after_string, string-step, control-elsewhere, escape-elsewhere, same_state, break_in-inside}

-- An item of any bytes that is no stray byte is read as it is.
abbrev NotStray : ℕ → Type 0
NotStray b = is_stray b ≡ false

body-as_it_is : (body : Body) → IsOtherBody body → heard_body body ≡ body
body-as_it_is (escape bytes) other = refl
body-as_it_is (csi between header) other = refl
body-as_it_is (dcs_header between header) other = refl
body-as_it_is (dcs between header final text) other = absurd other
body-as_it_is (dcs_ignored between header byte text) other = absurd other
body-as_it_is (osc between text) other = refl
body-as_it_is (sos_pm_apc between kind text) other = absurd other

end-as_it_is : (body : Body) (end : End) → IsOtherBody body → read_end body end ≡ end_text end
end-as_it_is (sos_pm_apc between kind text) (complete byte) other = absurd other
end-as_it_is (escape bytes) (complete byte) other = refl
end-as_it_is (csi between header) (complete byte) other = refl
end-as_it_is (dcs_header between header) (complete byte) other = refl
end-as_it_is (dcs between header final text) (complete byte) other = refl
end-as_it_is (dcs_ignored between header byte text) (complete last) other = refl
end-as_it_is (osc between text) (complete byte) other = refl
end-as_it_is body (cancelled byte) other = refl
end-as_it_is body broken_off other = refl
end-as_it_is body unfinished other = refl

item-as_it_is : (item : Item) → IsQuietItem NotStray item → read_item item ≡ item_text item
item-as_it_is (single byte) quiet = cond-false (is_stray byte) replacement_text (byte ∷ []) quiet
item-as_it_is (sequence body end) quiet =
    ap (λ x. body_text x ++ read_end body end) (body-as_it_is body quiet) ∙ ap (λ l. body_text body ++ l) (end-as_it_is body end quiet)
item-as_it_is (character bytes) quiet = refl
item-as_it_is (broken bytes) quiet = refl
item-as_it_is (begun bytes) quiet = refl

items-as_they_are : (items : List Item) → AllByRecursion (IsQuietItem NotStray) items → read_items items ≡ items_text items
items-as_they_are [] quiet = refl
items-as_they_are (item ∷ items) quiet =
    ap (λ l. l ++ read_items items) (item-as_it_is item quiet.0) ∙ ap (λ l. item_text item ++ l) (items-as_they_are items quiet.1)

-- a byte that is not read as U+FFFD is no stray one where it is an item by itself
breaks_by : (whole proper : Bool) (all : List ℕ) → whole ≡ false → proper ≡ false →
    let answer : List ℕ × Taken = if whole then ([], Char (character_of all)) else if proper then (all, More) else ([], Broken replacement) in
    is_break answer.1 ≡ true
breaks_by false false all none neither = refl
breaks_by true proper all none neither = absurd (false≢true (sym none))
breaks_by false true all none neither = absurd (false≢true (sym neither))

not_stray : (at stray : Bool) → at ≡ true → (at && stray) ≡ false → stray ≡ false
not_stray true stray is other = other
not_stray false stray is other = absurd (false≢true is)

alone : (o : Open) (b : ℕ) → IsOpen o → (is_at_ground decoded (value_at o).state (value_at o).accumulator b && is_stray b) ≡ false → HoldsAlone NotStray o b
unfolding is_proper_front
alone nothing b is other = other
alone (front []) b is other = absurd (false≢true is)
alone (front (a ∷ bytes)) b is other = λ none neither.
    not_stray (is_break (decoded (a ∷ bytes) b).1) (is_stray b)
    (breaks_by (is_well_formed (a ∷ (bytes ++ b ∷ []))) (is_proper_front (a ∷ (bytes ++ b ∷ []))) (a ∷ (bytes ++ b ∷ [])) none neither) other
alone (inside body) b is other = tt

-- Where no string is open that 9C would end, the machine is in none.
device-elsewhere : (phase : Phase) (m : Machine (List ℕ)) → fits phase ≡ true → is_in_terminated_string (device_value phase m).state ≡ false
device-elsewhere misfit m fit = absurd (false≢true fit)
device-elsewhere phase m fit = refl

elsewhere : (o : Open) → IsOpen o → IsOther o → is_in_terminated_string (value_at o).state ≡ false
elsewhere nothing is other = refl
elsewhere (front bytes) is other = refl
elsewhere (inside (escape bytes)) is other = escape-elsewhere (list_any is_intermediate bytes)
elsewhere (inside (csi between header)) is other = control-elsewhere (phase_of (significant header)) (registers (significant header))
elsewhere (inside (dcs_header between header)) is other =
    device-elsewhere (phase_of (significant header)) (registers (significant header)) (fits-phase_of (significant header) ∙ is.shaped)
elsewhere (inside (dcs between header final text)) is other = absurd other
elsewhere (inside (dcs_ignored between header byte text)) is other = absurd other
elsewhere (inside (osc between text)) is other = refl
elsewhere (inside (sos_pm_apc between kind text)) is other = absurd other

-- BEL ends only such a string
not_ignored : (state : State) → is_in_terminated_string state ≡ false → is_in_ignored_string state ≡ false
not_ignored SosPmApcString e = absurd (false≢true (sym e))
not_ignored state e = refl

-- What is read of a byte, and where the machine then stands, beside the growth of the division.
record ReadsAs (o : Open) (b : ℕ) (g : Growth) (read : List ℕ) : Type 0 where
  pub text : read_items g.items ++ open_text (heard_open g.next) ≡ open_text (heard_open o) ++ read
  pub stands : counted (machine_after decoded read (value_at o)) ≡ counted (value_at g.next)

-- a stray byte that is an item by itself
stray-start : (b : ℕ) → is_stray b ≡ true → start b (class_of b) ≡ done (single b)
stray-start b stray = single-start b (class_of b) (stray-begins_none b stray)

stray-read : (b : ℕ) → is_stray b ≡ true → read_items (single b ∷ []) ≡ replacement_text
stray-read b stray = append-nil _ ∙ cond-true (is_stray b) replacement_text (b ∷ []) stray

stray_by : (whole proper : Bool) (all bytes : List ℕ) (b : ℕ) →
    let answer : List ℕ × Taken = if whole then ([], Char (character_of all)) else if proper then (all, More) else ([], Broken replacement) in
    let growth : Growth = if whole then done (character all) else if proper then more (front all) else break_off bytes (start b (class_of b)) in
    is_break answer.1 ≡ true → is_stray b ≡ true → read_items growth.items ≡ bytes ++ replacement_text
stray_by true proper all bytes b breaks stray = absurd (false≢true breaks)
stray_by false true all bytes b breaks stray = absurd (false≢true breaks)
stray_by false false all bytes b breaks stray = ap (λ l. bytes ++ l) (ap (λ (g : Growth). read_items g.items) (stray-start b stray) ∙ stray-read b stray)

stray-text : (o : Open) (b : ℕ) → IsOpen o → is_at_ground decoded (value_at o).state (value_at o).accumulator b ≡ true → is_stray b ≡ true
    → read_items (grow o b).items ≡ open_text o ++ replacement_text
unfolding grow is_proper_front
stray-text nothing b is at stray = ap (λ (g : Growth). read_items g.items) (stray-start b stray) ∙ stray-read b stray
stray-text (front []) b is at stray = absurd (false≢true is)
stray-text (front (a ∷ bytes)) b is at stray =
    stray_by (is_well_formed (a ∷ (bytes ++ b ∷ []))) (is_proper_front (a ∷ (bytes ++ b ∷ []))) (a ∷ (bytes ++ b ∷ [])) (a ∷ bytes) b at stray
stray-text (inside body) b is at stray =
    absurd (false≢true (sym (inside-elsewhere (body_value body).state (body_value body).accumulator b (body-inside body)) ∙ at))

module _ (o : Open) (b : ℕ) (is : IsOpen o) (other : IsOther o) where
  abbrev v : Machine (List ℕ)
  v = value_at o

  abbrev at : Bool
  at = is_at_ground decoded v.state v.accumulator b

  -- texts are read as they are
  text-heard : (read : List ℕ) → read_items (grow o b).items ++ open_text (grow o b).next ≡ open_text o ++ read
      → read_items (grow o b).items ++ open_text (heard_open (grow o b).next) ≡ open_text (heard_open o) ++ read
  text-heard read whole =
      ap (λ x. read_items (grow o b).items ++ open_text x) (heard-open (grow o b).next (Grown-grow o b is).next)
      ∙ whole ∙ ap (λ x. open_text x ++ read) (sym (heard-open o is))

  reads-stray : at ≡ true → is_stray b ≡ true → ReadsAs o b (grow o b) replacement_text
  reads-stray ground stray =
      let next = grow-stray o b is ground stray in
      record {
        text = text-heard replacement_text
            (ap (λ x. read_items (grow o b).items ++ open_text x) next ∙ append-nil (read_items (grow o b).items) ∙ stray-text o b is ground stray);
        stands = after-replaced o is (outside-at o b ground) ∙ ap (λ x. counted (value_at x)) (sym next);
      }

  reads-byte : (at && is_stray b) ≡ false → ReadsAs o b (grow o b) (b ∷ [])
  reads-byte kept =
      let grown = Grown-grow o b is in
      let still = quiet-grow NotStray o b other (alone o b is kept) in
      record {
        text = text-heard (b ∷ []) (ap (λ l. l ++ open_text (grow o b).next) (items-as_they_are (grow o b).items still.items) ∙ grown.whole);
        stands = sym (counted-counted (step decoded b v)) ∙ ap counted (value_at-step o b is).0;
      }

  reads-any : ReadsAs o b (grow o b) (read_for decoded v.state v.accumulator b)
  reads-any =
      let P : List ℕ → Type 0 = λ l. ReadsAs o b (grow o b) l in
      let out = elsewhere o is other in
      ⊎_elim
      (λ stray. let both = and_parts at (is_stray b) stray in subst P (sym (read_for-stray decoded v.state v.accumulator b stray)) (reads-stray both.0 both.1))
      (λ kept. subst P (sym (read_for-other decoded v.state v.accumulator b kept (and_left (is_in_ignored_string v.state) (eqb b bell) (not_ignored v.state out)) out)) (reads-byte kept))
      (cases_Bool (at && is_stray b))

  reads-other : ReadsAs o b (grow_log o b) (read_for decoded v.state v.accumulator b)
  reads-other = subst (λ g. ReadsAs o b g (read_for decoded v.state v.accumulator b)) (sym (grow_log-other o b other)) reads-any

-- the class of what is heard
abbrev heard_class : Class → Class
heard_class terminator_byte = silent_byte
heard_class c = c

class-heard : (b : ℕ) (c : Class) → class_of b ≡ c → class_of (heard b) ≡ heard_class c
unfolding heard class_of class_below
class-heard b terminator_byte class = ap class_of (cond-true (eqb b string_terminator) 0x9D b (is_terminator-class b ∙ ap is_terminator_at class))
class-heard b c class = ap class_of (cond-false (eqb b string_terminator) 0x9D b (is_terminator-class b ∙ ap is_terminator_at class)) ∙ class

heard-byte : (b : ℕ) (c : Class) → class_of b ≡ c → is_terminator_at c ≡ false → heard b ≡ b
unfolding heard
heard-byte b c class other = cond-false (eqb b string_terminator) 0x9D b (is_terminator-class b ∙ ap is_terminator_at class ∙ other)

heard-escape : (b : ℕ) → class_of b ≡ esc_byte → heard b ≡ escape_byte
unfolding is_escape
heard-escape b class = heard-byte b esc_byte class refl ∙ eqb-true b escape_byte (is_escape-class b ∙ ap is_escape_at class)

module _ (body longer : Body) (state : State) (b : ℕ) (is : is_in_terminated_string state ≡ true)
    (stands_at : value_at (inside body) ≡ new_in state []) (stays_at : value_at (inside longer) ≡ new_in state [])
    (longer_text : body_text (heard_body longer) ≡ body_text (heard_body body) ++ heard b ∷ []) where
  string-stands : (c : Class) → class_of b ≡ c → counted (step decoded (heard b) (value_at (inside body))) ≡ counted (after_string state (heard_class c))
  string-stands c class =
      ap (λ (m : Machine (List ℕ)). counted (step decoded (heard b) m)) stands_at
      ∙ ap counted (step-class decoded (heard b) (new_in state []))
      ∙ ap (λ x. counted (step_at decoded state x (heard b) (new_in state []))) (class-heard b c class)
      ∙ string-step state is (heard_class c) (heard b)

  reads-string : (c : Class) → class_of b ≡ c → ReadsAs (inside body) b (grow_string body longer b c) (heard b ∷ [])
  unfolding after_string
  reads-string esc_byte class = record {
    text = ap (λ text. text ++ escape_byte ∷ []) (append-nil (body_text (heard_body body) ++ []) ∙ append-nil (body_text (heard_body body)))
        ∙ ap (λ n. body_text (heard_body body) ++ n ∷ []) (sym (heard-escape b class));
    stands = string-stands esc_byte class;
  }
  reads-string cancel_byte class = record {
    text = append-nil ((body_text (heard_body body) ++ b ∷ []) ++ []) ∙ append-nil (body_text (heard_body body) ++ b ∷ [])
        ∙ ap (λ n. body_text (heard_body body) ++ n ∷ []) (sym (heard-byte b cancel_byte class refl));
    stands = string-stands cancel_byte class;
  }
  reads-string c class = record { text = longer_text; stands = string-stands c class ∙ ap counted (sym stays_at) }

longer-hooked : (between header : List ℕ) (final : ℕ) (text : List ℕ) (b : ℕ)
    → body_text (heard_body (dcs between header final (text ++ b ∷ []))) ≡ body_text (heard_body (dcs between header final text)) ++ heard b ∷ []
longer-hooked between header final text b = ap (λ l. body_text (dcs between header final l)) (heard-push text b) ∙ simp append_assoc

longer-dropped : (between header : List ℕ) (byte : ℕ) (text : List ℕ) (b : ℕ)
    → body_text (heard_body (dcs_ignored between header byte (text ++ b ∷ []))) ≡ body_text (heard_body (dcs_ignored between header byte text)) ++ heard b ∷ []
longer-dropped between header byte text b = ap (λ l. body_text (dcs_ignored between header byte l)) (heard-push text b) ∙ simp append_assoc

longer-ignored : (between : List ℕ) (kind : ℕ) (text : List ℕ) (b : ℕ)
    → body_text (heard_body (sos_pm_apc between kind (text ++ b ∷ []))) ≡ body_text (heard_body (sos_pm_apc between kind text)) ++ heard b ∷ []
longer-ignored between kind text b = ap (λ l. body_text (sos_pm_apc between kind l)) (heard-push text b) ∙ simp append_assoc

-- BEL ends one that is ignored, as ESC \ does
reads-ended : (between : List ℕ) (kind : ℕ) (text : List ℕ) (b : ℕ)
    → ReadsAs (inside (sos_pm_apc between kind text)) b (ended (sos_pm_apc between kind text) b) string_end
reads-ended between kind text b =
    let body : Body = sos_pm_apc between kind text in
    record {
      text = append-nil ((body_text (heard_body body) ++ string_end) ++ []) ∙ append-nil (body_text (heard_body body) ++ string_end);
      stands = end-read.1;
    }

reads-ignored : (between : List ℕ) (kind : ℕ) (text : List ℕ) (b : ℕ) (c : Class) → class_of b ≡ c
    → ReadsAs (inside (sos_pm_apc between kind text)) b (grow_ended (sos_pm_apc between kind text) (sos_pm_apc between kind (text ++ b ∷ [])) b c)
    (if eqb b bell then string_end else heard b ∷ [])
reads-ignored between kind text b bell_byte class =
    let P : List ℕ → Type 0 = λ l. ReadsAs (inside (sos_pm_apc between kind text)) b (ended (sos_pm_apc between kind text) b) l in
    subst P (sym (cond-true (eqb b bell) string_end (heard b ∷ []) (is_bell-class b ∙ ap is_bell_at class))) (reads-ended between kind text b)
reads-ignored between kind text b c class =
    let body : Body = sos_pm_apc between kind text in
    let longer : Body = sos_pm_apc between kind (text ++ b ∷ []) in
    let P : List ℕ → Type 0 = λ l. ReadsAs (inside body) b (grow_string body longer b c) l in
    subst P (sym (cond-false (eqb b bell) string_end (heard b ∷ []) (is_bell-class b ∙ ap is_bell_at class)))
    (reads-string body longer SosPmApcString b refl refl refl (longer-ignored between kind text b) c class)

reads_as : (o : Open) (b : ℕ) → IsOpen (heard_open o) → ReadsAs o b (grow_log o b) (read_for decoded (value_at o).state (value_at o).accumulator b)
reads_as nothing b is = reads-other nothing b is tt
reads_as (front bytes) b is = reads-other (front bytes) b is tt
reads_as (inside (escape bytes)) b is = reads-other (inside (escape bytes)) b is tt
reads_as (inside (csi between header)) b is = reads-other (inside (csi between header)) b is tt
reads_as (inside (dcs_header between header)) b is = reads-other (inside (dcs_header between header)) b is tt
reads_as (inside (dcs between header final text)) b is =
    reads-string (dcs between header final text) (dcs between header final (text ++ b ∷ [])) DcsPassthrough b refl refl refl
    (longer-hooked between header final text b) (class_of b) refl
reads_as (inside (dcs_ignored between header byte text)) b is =
    reads-string (dcs_ignored between header byte text) (dcs_ignored between header byte (text ++ b ∷ [])) DcsIgnore b refl refl refl
    (longer-dropped between header byte text b) (class_of b) refl
reads_as (inside (osc between text)) b is = reads-other (inside (osc between text)) b is tt
reads_as (inside (sos_pm_apc between kind text)) b is = reads-ignored between kind text b (class_of b) refl

-- Bytes after what is open, and what is read of them.
last-read : (o : Open) → open_text (heard_open o) ++ [] ≡ read_items (last_items o)
last-read nothing = refl
last-read (front bytes) = refl
last-read (inside body) = ap (λ l. l ++ []) (sym (append-nil (body_text (heard_body body))))

module _ (o : Open) (b : ℕ) (bytes : List ℕ) (is : IsOpen (heard_open o)) where
  abbrev read : List ℕ
  read = read_for decoded (value_at o).state (value_at o).accumulator b

  abbrev next : Open
  next = (grow_log o b).next

  abbrev after : Machine (List ℕ)
  after = machine_after decoded read (value_at o)

  -- what is read after the byte
  others-read : read_from decoded after bytes ≡ read_from decoded (value_at next) bytes
  others-read = read_from-counted decoded after (value_at next) (reads_as o b is).stands bytes

  one-read : (more : List ℕ) → open_text (heard_open o) ++ (read ++ more) ≡ read_items (grow_log o b).items ++ (open_text (heard_open next) ++ more)
  one-read more =
      sym (append_assoc (open_text (heard_open o)) read more)
      ∙ ap (λ l. l ++ more) (sym (reads_as o b is).text)
      ∙ append_assoc (read_items (grow_log o b).items) (open_text (heard_open next)) more

read_on : (o : Open) (bytes : List ℕ) → IsOpen (heard_open o) → IsQuiet o → open_text (heard_open o) ++ read_from decoded (value_at o) bytes ≡ read_items (divide_log o bytes)
read_on o [] is quiet = last-read o
read_on o (b ∷ bytes) is quiet =
    let g = grow_log o b in
    let grown = grown_in_log o b is quiet in
    one-read o b bytes is (read_from decoded (machine_after decoded (read_for decoded (value_at o).state (value_at o).accumulator b) (value_at o)) bytes)
    ∙ ap (λ l. read_items g.items ++ (open_text (heard_open g.next) ++ l)) (others-read o b bytes is)
    ∙ ap (λ l. read_items g.items ++ l) (read_on g.next bytes grown.next grown.quiet)
    ∙ sym (flat_map-append read_item g.items (divide_log g.next bytes))

pub read-divided : (bytes : List ℕ) → as_read bytes ≡ read_items (divide_log nothing bytes)
unfolding as_read
read-divided bytes = read_on nothing bytes tt tt

-- The same with the end of the log.
whole-same : (items : List Item) → AllByRecursion IsWholeItem items → read_items_whole items ≡ read_items items
whole-same [] quiet = refl
whole-same (single byte ∷ items) quiet = ap (λ l. read_item (single byte) ++ l) (whole-same items quiet.1)
whole-same (character bytes ∷ items) quiet = ap (λ l. bytes ++ l) (whole-same items quiet.1)
whole-same (broken bytes ∷ items) quiet = ap (λ l. bytes ++ l) (whole-same items quiet.1)
whole-same (begun bytes ∷ items) quiet = absurd quiet.0
whole-same (sequence body end ∷ items) quiet = ap (λ l. (body_text (heard_body body) ++ read_end body end) ++ l) (whole-same items quiet.1)

last-whole : (o : Open) → open_text (heard_open o) ++ break_in (value_at o).state ≡ read_items_whole (last_items o)
last-whole nothing = refl
last-whole (front bytes) = sym (append-nil (bytes ++ 0xFF ∷ []))
last-whole (inside body) =
    ap (λ l. body_text (heard_body body) ++ l) (break_in-inside (body_value body).state (body-inside body))
    ∙ ap (λ l. l ++ []) (sym (append-nil (body_text (heard_body body))))

-- what is read from a machine on, with the end
abbrev read_whole_from : Machine (List ℕ) → List ℕ → List ℕ
read_whole_from m bytes = read_from decoded m bytes ++ break_in (machine_after decoded (read_from decoded m bytes) m).state

read_whole-counted : (m n : Machine (List ℕ)) → counted m ≡ counted n → (bytes : List ℕ) → read_whole_from m bytes ≡ read_whole_from n bytes
read_whole-counted m n same bytes =
    let read = read_from decoded m bytes in
    let equal : read ≡ read_from decoded n bytes = read_from-counted decoded m n same bytes in
    let states = same_state (machine_after decoded read m) (machine_after decoded read n) (counted-machine read m n same).0 in
    ap (λ s. read ++ break_in s) states
    ∙ ap (λ l. l ++ break_in (machine_after decoded l n).state) equal

read_whole_on : (o : Open) (bytes : List ℕ) → IsOpen (heard_open o) → IsQuiet o → open_text (heard_open o) ++ read_whole_from (value_at o) bytes ≡ read_items_whole (divide_log o bytes)
read_whole_on o [] is quiet = last-whole o
read_whole_on o (b ∷ bytes) is quiet =
    let g = grow_log o b in
    let grown = grown_in_log o b is quiet in
    let read = read_for decoded (value_at o).state (value_at o).accumulator b in
    let after = machine_after decoded read (value_at o) in
    let others = read_from decoded after bytes in
    let split : read_whole_from (value_at o) (b ∷ bytes) ≡ read ++ read_whole_from after bytes =
    ap (λ (m : Machine (List ℕ)). (read ++ others) ++ break_in m.state) (machine_after-append decoded read others (value_at o))
    ∙ append_assoc read others (break_in (machine_after decoded others after).state) in
    ap (λ l. open_text (heard_open o) ++ l) split
    ∙ one-read o b bytes is (read_whole_from after bytes)
    ∙ ap (λ l. read_items g.items ++ (open_text (heard_open g.next) ++ l)) (read_whole-counted after (value_at g.next) (reads_as o b is).stands bytes)
    ∙ ap (λ l. read_items g.items ++ l) (read_whole_on g.next bytes grown.next grown.quiet)
    ∙ ap (λ l. l ++ read_items_whole (divide_log g.next bytes)) (sym (whole-same g.items grown.whole_items))
    ∙ sym (flat_map-append read_item_whole g.items (divide_log g.next bytes))

pub read_whole-divided : (bytes : List ℕ) → as_read_whole bytes ≡ read_items_whole (divide_log nothing bytes)
unfolding as_read as_read_whole
read_whole-divided bytes = read_whole_on nothing bytes tt tt
