-- The division of a log, computed from left to right: BEL ends a string that is ignored, 9C ends no string, and each other
-- byte does as in any bytes.
use Rattle.std.proofs.Common.{◌≡◌, ℕ, Bool, true, false, eqb, eqb-true, List, [], ◌∷◌, ◌++◌, IsTrue, refl, sym, ap, ◌∙◌, subst, append_assoc, append-nil}
use Rattle.std.specs.Prelude.{⊤, not, if◌then◌else◌}
use Rattle.std.specs.List.{AllByRecursion, list_any}
use Rattle.std.proofs.lemmas.Bool.{cond-true, cond-false, not_from_false}
use Rattle.std.proofs.lemmas.List.{map-append}
use Rattle.anstyle_parse.specs.Stream.Bytes.{is_escape, is_cancel, is_intermediate, bell, string_terminator, escape_byte}
use Rattle.anstyle_parse.specs.Stream.Characters.{is_well_formed, is_proper_front}
use Rattle.anstyle_parse.specs.Stream.Arguments.{significant, has_shape}
use Rattle.anstyle_parse.specs.Stream.Items.{Body, escape, csi, dcs_header, dcs, dcs_ignored, osc, sos_pm_apc, End, complete, cancelled, broken_off, unfinished, Item, single, character, broken, begun, sequence, item_text, items_text, body_text, EachIs, IsBody, is_text_byte, MayPrecede, IsEnd, IsItem}
use Rattle.anstyle_parse.specs.Laws.LogItems.{heard_text, heard_body, HasNoBell, IsEndInLog, IsItemOfLog, IsLogDivision}
use Rattle.anstyle_parse.specs.Machine.AsRead.{heard}
use Rattle.anstyle_parse.proofs.Bytes.Classes.{Class, esc_byte, cancel_byte, intermediate_byte, digit_byte, colon_byte, semicolon_byte, marker_byte, device_byte, string_byte, control_introducer, command_byte, final_byte, terminator_byte, bell_byte, lead_byte, class_of, is_escape_at, is_cancel_at, is_string_text_at, is_bell_at, is_terminator_at, is_escape-class, is_cancel-class, is_string_text-class, is_bell-class, is_terminator-class}
use Rattle.anstyle_parse.proofs.Bytes.Passing.{EachIs-push}
use Rattle.anstyle_parse.proofs.Characters.Tests.{IsProperFront-test}
use Rattle.anstyle_parse.proofs.Division.Exists.{IsOpen, Grown-grow, AreJoinedTo}
use Rattle.anstyle_parse.proofs.Division.Grow.{Open, nothing, front, inside, Growth, more, done, start, break_off, into, ended, introduce, grow_escape, grow_control, grow_device, grow_command, grow_within, grow_body, grow, last_items, open_text}

-- a string that 9C would end, and the same with a byte more: what a byte does there
abbrev pub grow_string : (body longer : Body) → ℕ → Class → Growth
grow_string body longer b esc_byte = record { items = sequence body broken_off ∷ []; next = inside (escape []) }
grow_string body longer b cancel_byte = done (sequence body (cancelled b))
grow_string body longer b c = into longer

-- and where BEL ends it
abbrev pub grow_ended : (body longer : Body) → ℕ → Class → Growth
grow_ended body longer b bell_byte = ended body b
grow_ended body longer b c = grow_string body longer b c

-- a byte after an open item
abbrev pub grow_log : Open → ℕ → Growth
grow_log (inside (dcs between header final text)) b =
    grow_string (dcs between header final text) (dcs between header final (text ++ b ∷ [])) b (class_of b)
grow_log (inside (dcs_ignored between header byte text)) b =
    grow_string (dcs_ignored between header byte text) (dcs_ignored between header byte (text ++ b ∷ [])) b (class_of b)
grow_log (inside (sos_pm_apc between kind text)) b =
    grow_ended (sos_pm_apc between kind text) (sos_pm_apc between kind (text ++ b ∷ [])) b (class_of b)
grow_log o b = grow o b

abbrev pub divide_log : Open → List ℕ → List Item
divide_log o [] = last_items o
divide_log o (b ∷ bytes) = (grow_log o b).items ++ divide_log (grow_log o b).next bytes

-- what is open, as it is read
abbrev pub heard_open : Open → Open
heard_open (inside body) = inside (heard_body body)
heard_open o = o

-- Text without the byte 9C is read as it is.
heard-text_byte : (b : ℕ) → IsTrue (is_text_byte string_terminator b) → heard b ≡ b
unfolding heard
heard-text_byte b text =
    cond-false (eqb b string_terminator) 0x9D b (no_terminator b (class_of b) (is_terminator-class b) (sym (is_string_text-class b) ∙ text))
  where
    no_terminator : (b : ℕ) (c : Class) → eqb b string_terminator ≡ is_terminator_at c → is_string_text_at c ≡ true → eqb b string_terminator ≡ false
    no_terminator b terminator_byte is text = cc
    no_terminator b c is text = is

heard-text : (text : List ℕ) → EachIs (is_text_byte string_terminator) text → heard_text text ≡ text
heard-text [] each = refl
heard-text (b ∷ text) each = ap (λ n. n ∷ heard_text text) (heard-text_byte b each.0) ∙ ap (λ l. b ∷ l) (heard-text text each.1)

pub heard-body : (body : Body) → IsBody body → heard_body body ≡ body
heard-body (dcs between header final text) is = ap (λ l. dcs between header final l) (heard-text text is.text_bytes)
heard-body (dcs_ignored between header byte text) is = ap (λ l. dcs_ignored between header byte l) (heard-text text is.text_bytes)
heard-body (sos_pm_apc between kind text) is = ap (λ l. sos_pm_apc between kind l) (heard-text text is.2)
heard-body (escape bytes) is = refl
heard-body (csi between header) is = refl
heard-body (dcs_header between header) is = refl
heard-body (osc between text) is = refl

pub heard-open : (o : Open) → IsOpen o → heard_open o ≡ o
heard-open nothing is = refl
heard-open (front bytes) is = refl
heard-open (inside body) is = ap (λ x. inside x) (heard-body body is)

-- one byte more
pub heard-push : (text : List ℕ) (b : ℕ) → heard_text (text ++ b ∷ []) ≡ heard_text text ++ heard b ∷ []
heard-push text b = map-append (λ n. heard n) text (b ∷ [])

-- no BEL stands in the text of what is open
abbrev pub IsQuiet : Open → Type 0
IsQuiet nothing = ⊤
IsQuiet (front bytes) = ⊤
IsQuiet (inside body) = HasNoBell body

-- no string that 9C would end is open
abbrev pub IsOtherBody : Body → Type 0
IsOtherBody (dcs between header final text) = ⊥
IsOtherBody (dcs_ignored between header byte text) = ⊥
IsOtherBody (sos_pm_apc between kind text) = ⊥
IsOtherBody body = ⊤

abbrev pub IsOther : Open → Type 0
IsOther (inside body) = IsOtherBody body
IsOther o = ⊤

-- there each byte does as in any bytes
pub grow_log-other : (o : Open) (b : ℕ) → IsOther o → grow_log o b ≡ grow o b
grow_log-other nothing b other = refl
grow_log-other (front bytes) b other = refl
grow_log-other (inside (escape bytes)) b other = refl
grow_log-other (inside (csi between header)) b other = refl
grow_log-other (inside (dcs_header between header)) b other = refl
grow_log-other (inside (dcs between header final text)) b other = absurd other
grow_log-other (inside (dcs_ignored between header byte text)) b other = absurd other
grow_log-other (inside (osc between text)) b other = refl
grow_log-other (inside (sos_pm_apc between kind text)) b other = absurd other

-- It makes no such string whole, and leaves none open in which BEL stands; and of the single bytes something holds.
module _ (P : ℕ → Type 0) where
  abbrev pub IsQuietItem : Item → Type 0
  IsQuietItem (sequence body end) = IsOtherBody body
  IsQuietItem (single byte) = P byte
  IsQuietItem (begun bytes) = ⊥
  IsQuietItem item = ⊤

  pub record GrowsQuietly (g : Growth) : Type 0 where
    pub items : AllByRecursion IsQuietItem g.items
    pub next : IsQuiet g.next

  quiet-if : (t : Bool) (g h : Growth) → GrowsQuietly g → GrowsQuietly h → GrowsQuietly (if t then g else h)
  quiet-if true g h first second = first
  quiet-if false g h first second = second

  quiet-start : (b : ℕ) (c : Class) → P b → GrowsQuietly (start b c)
  quiet-start b esc_byte holds = record { items = tt; next = tt }
  quiet-start b lead_byte holds = record { items = tt; next = tt }
  quiet-start b c holds = record { items = (holds, tt); next = tt }

  quiet-front : (whole proper : Bool) (all bytes : List ℕ) (b : ℕ) (c : Class) → (whole ≡ false → proper ≡ false → P b)
      → GrowsQuietly (if whole then done (character all) else if proper then more (front all) else break_off bytes (start b c))
  quiet-front true proper all bytes b c holds = record { items = (tt, tt); next = tt }
  quiet-front false true all bytes b c holds = record { items = tt; next = tt }
  quiet-front false false all bytes b c holds = let begins = quiet-start b c (holds refl refl) in record { items = (tt, begins.items); next = begins.next }

  quiet-introduce : (bytes : List ℕ) (b : ℕ) (body : Body) → HasNoBell body → GrowsQuietly (introduce bytes b body)
  quiet-introduce bytes b body quiet =
      quiet-if (list_any is_intermediate bytes) (ended (escape bytes) b) (into body) (record { items = (tt, tt); next = tt }) (record { items = tt; next = quiet })

  quiet-escape : (bytes : List ℕ) (b : ℕ) (c : Class) → GrowsQuietly (grow_escape bytes b c)
  quiet-escape bytes b digit_byte = record { items = (tt, tt); next = tt }
  quiet-escape bytes b colon_byte = record { items = (tt, tt); next = tt }
  quiet-escape bytes b semicolon_byte = record { items = (tt, tt); next = tt }
  quiet-escape bytes b marker_byte = record { items = (tt, tt); next = tt }
  quiet-escape bytes b final_byte = record { items = (tt, tt); next = tt }
  quiet-escape bytes b device_byte = quiet-introduce bytes b (dcs_header bytes []) tt
  quiet-escape bytes b string_byte = quiet-introduce bytes b (sos_pm_apc bytes b []) tt
  quiet-escape bytes b control_introducer = quiet-introduce bytes b (csi bytes []) tt
  quiet-escape bytes b command_byte = quiet-introduce bytes b (osc bytes []) tt
  quiet-escape bytes b c = record { items = tt; next = tt }

  quiet-control : (between header : List ℕ) (b : ℕ) (c : Class) → GrowsQuietly (grow_control between header b c)
  quiet-control between header b device_byte = record { items = (tt, tt); next = tt }
  quiet-control between header b string_byte = record { items = (tt, tt); next = tt }
  quiet-control between header b control_introducer = record { items = (tt, tt); next = tt }
  quiet-control between header b command_byte = record { items = (tt, tt); next = tt }
  quiet-control between header b final_byte = record { items = (tt, tt); next = tt }
  quiet-control between header b c = record { items = tt; next = tt }

  quiet-header : (between header : List ℕ) (b : ℕ) → GrowsQuietly (grow_device between header b intermediate_byte)
  quiet-header between header b =
      quiet-if (has_shape (significant header ++ b ∷ [])) (into (dcs_header between (header ++ b ∷ []))) (into (dcs_ignored between header b []))
      (record { items = tt; next = tt }) (record { items = tt; next = tt })

  quiet-device : (between header : List ℕ) (b : ℕ) (c : Class) → GrowsQuietly (grow_device between header b c)
  quiet-device between header b intermediate_byte = quiet-header between header b
  quiet-device between header b digit_byte = quiet-header between header b
  quiet-device between header b colon_byte = quiet-header between header b
  quiet-device between header b semicolon_byte = quiet-header between header b
  quiet-device between header b marker_byte = quiet-header between header b
  quiet-device between header b device_byte = record { items = tt; next = tt }
  quiet-device between header b string_byte = record { items = tt; next = tt }
  quiet-device between header b control_introducer = record { items = tt; next = tt }
  quiet-device between header b command_byte = record { items = tt; next = tt }
  quiet-device between header b final_byte = record { items = tt; next = tt }
  quiet-device between header b c = record { items = tt; next = tt }

  quiet-command : (between text : List ℕ) (b : ℕ) (c : Class) → GrowsQuietly (grow_command between text b c)
  quiet-command between text b bell_byte = record { items = (tt, tt); next = tt }
  quiet-command between text b c = record { items = tt; next = tt }

  quiet-within : (body : Body) (b : ℕ) (c : Class) → IsOtherBody body → GrowsQuietly (grow_within body b c)
  quiet-within (escape bytes) b c other = quiet-escape bytes b c
  quiet-within (csi between header) b c other = quiet-control between header b c
  quiet-within (dcs_header between header) b c other = quiet-device between header b c
  quiet-within (dcs between header final text) b c other = absurd other
  quiet-within (dcs_ignored between header byte text) b c other = absurd other
  quiet-within (osc between text) b c other = quiet-command between text b c
  quiet-within (sos_pm_apc between kind text) b c other = absurd other

  quiet-body : (body : Body) (b : ℕ) (c : Class) → IsOtherBody body → GrowsQuietly (grow_body body b c)
  quiet-body body b esc_byte other = record { items = (other, tt); next = tt }
  quiet-body body b cancel_byte other = record { items = (other, tt); next = tt }
  quiet-body body b c other = quiet-within body b c other

  -- where the byte is an item by itself
  abbrev pub HoldsAlone : Open → ℕ → Type 0
  HoldsAlone nothing b = P b
  HoldsAlone (front bytes) b = is_well_formed (bytes ++ b ∷ []) ≡ false → is_proper_front (bytes ++ b ∷ []) ≡ false → P b
  HoldsAlone (inside body) b = ⊤

  pub quiet-grow : (o : Open) (b : ℕ) → IsOther o → HoldsAlone o b → GrowsQuietly (grow o b)
  unfolding grow
  quiet-grow nothing b other holds = quiet-start b (class_of b) holds
  quiet-grow (front bytes) b other holds =
      quiet-front (is_well_formed (bytes ++ b ∷ [])) (is_proper_front (bytes ++ b ∷ [])) (bytes ++ b ∷ []) bytes b (class_of b) holds
  quiet-grow (inside body) b other holds = quiet-body body b (class_of b) other

-- an item of any bytes that is no such string is one of a log
end-in_log : (body : Body) (end : End) → IsOtherBody body → IsEnd body end → IsEndInLog body end
end-in_log (escape bytes) (complete byte) other is = is
end-in_log (csi between header) (complete byte) other is = is
end-in_log (dcs_header between header) (complete byte) other is = is
end-in_log (dcs between header final text) (complete last) other is = absurd other
end-in_log (dcs_ignored between header byte text) (complete last) other is = absurd other
end-in_log (osc between text) (complete byte) other is = is
end-in_log (sos_pm_apc between kind text) (complete byte) other is = absurd other
end-in_log body (cancelled byte) other is = is
end-in_log body broken_off other is = tt
end-in_log body unfinished other is = tt

no_bell-other : (body : Body) → IsOtherBody body → HasNoBell body
no_bell-other (sos_pm_apc between kind text) other = absurd other
no_bell-other (escape bytes) other = tt
no_bell-other (csi between header) other = tt
no_bell-other (dcs_header between header) other = tt
no_bell-other (dcs between header final text) other = tt
no_bell-other (dcs_ignored between header byte text) other = tt
no_bell-other (osc between text) other = tt

-- with any single bytes
abbrev pub Any : ℕ → Type 0
Any b = ⊤

any_alone : (o : Open) (b : ℕ) → HoldsAlone Any o b
any_alone nothing b = tt
any_alone (front bytes) b = λ whole proper. tt
any_alone (inside body) b = tt

of_log : (item : Item) → IsItem item → IsQuietItem Any item → IsItemOfLog item
of_log (sequence body end) is quiet = (subst IsBody (sym (heard-body body is.0)) is.0, no_bell-other body quiet, end-in_log body end quiet is.1)
of_log (single byte) is quiet = is
of_log (character bytes) is quiet = is
of_log (broken bytes) is quiet = is
of_log (begun bytes) is quiet = absurd quiet

all_of_log : (items : List Item) → AllByRecursion IsItem items → AllByRecursion (IsQuietItem Any) items → AllByRecursion IsItemOfLog items
all_of_log [] each quiet = tt
all_of_log (item ∷ items) each quiet = (of_log item each.0 quiet.0, all_of_log items each.1 quiet.1)

-- no character is begun in items
abbrev pub IsWholeItem : Item → Type 0
IsWholeItem (begun bytes) = ⊥
IsWholeItem item = ⊤

whole_items : (items : List Item) → AllByRecursion (IsQuietItem Any) items → AllByRecursion IsWholeItem items
whole_items [] quiet = tt
whole_items (single byte ∷ items) quiet = (tt, whole_items items quiet.1)
whole_items (character bytes ∷ items) quiet = (tt, whole_items items quiet.1)
whole_items (broken bytes ∷ items) quiet = (tt, whole_items items quiet.1)
whole_items (begun bytes ∷ items) quiet = absurd quiet.0
whole_items (sequence body end ∷ items) quiet = (tt, whole_items items quiet.1)

-- A growth keeps to the rules of a log.
pub record GrownInLog (o : Open) (b : ℕ) (g : Growth) : Type 0 where
  pub each : AllByRecursion IsItemOfLog g.items
  pub next : IsOpen (heard_open g.next)
  pub quiet : IsQuiet g.next
  pub whole_items : AllByRecursion IsWholeItem g.items
  pub whole : items_text g.items ++ open_text g.next ≡ open_text o ++ b ∷ []
  pub joined : (rest : List ℕ) → AreJoinedTo g.items (open_text g.next ++ rest)

grown-other : (o : Open) (b : ℕ) → IsOpen o → IsOther o → GrownInLog o b (grow o b)
grown-other o b is other =
    let grown = Grown-grow o b is in
    let still = quiet-grow Any o b other (any_alone o b) in
    record {
      each = all_of_log (grow o b).items grown.each still.items;
      next = subst IsOpen (sym (heard-open (grow o b).next grown.next)) grown.next;
      quiet = still.next;
      whole_items = whole_items (grow o b).items still.items;
      whole = grown.whole;
      joined = grown.joined;
    }

-- text of a string, as it is read
text_heard : (b : ℕ) (c : Class) → class_of b ≡ c → is_escape_at c ≡ false → is_cancel_at c ≡ false → IsTrue (is_text_byte string_terminator (heard b))
unfolding heard is_text_byte is_escape is_cancel
text_heard b esc_byte class one two = cc
text_heard b cancel_byte class one two = cc
text_heard b terminator_byte class one two =
    ap (λ n. is_text_byte string_terminator n) (cond-true (eqb b string_terminator) 0x9D b (is_terminator-class b ∙ ap is_terminator_at class))
text_heard b c class one two =
    let text = is_string_text-class b ∙ ap is_string_text_at class in
    ap (λ n. is_text_byte string_terminator n) (heard-text_byte b text) ∙ text

-- A byte in a string that 9C would end.
module _ (body longer : Body) (b : ℕ) (is : IsBody (heard_body body)) (quiet : HasNoBell body) (longer_text : body_text longer ≡ body_text body ++ b ∷ []) where
  is_escape-byte : is_escape b ≡ true → b ≡ escape_byte
  unfolding is_escape
  is_escape-byte e = eqb-true b escape_byte e

  grown-string : (c : Class) → class_of b ≡ c → (is_escape_at c ≡ false → is_cancel_at c ≡ false → IsBody (heard_body longer) × HasNoBell longer)
      → GrownInLog (inside body) b (grow_string body longer b c)
  unfolding is_escape
  grown-string esc_byte class goes_on = record {
    each = ((is, quiet, tt), tt);
    next = tt;
    quiet = tt;
    whole_items = (tt, tt);
    whole = ap (λ text. text ++ escape_byte ∷ []) (append-nil (body_text body ++ []) ∙ append-nil (body_text body))
        ∙ ap (λ n. body_text body ++ n ∷ []) (sym (is_escape-byte (is_escape-class b ∙ ap is_escape_at class)));
    joined = λ rest. (refl, tt);
  }
  grown-string cancel_byte class goes_on = record {
    each = ((is, quiet, is_cancel-class b ∙ ap is_cancel_at class), tt);
    next = tt;
    quiet = tt;
    whole_items = (tt, tt);
    whole = append-nil ((body_text body ++ b ∷ []) ++ []) ∙ append-nil (body_text body ++ b ∷ []);
    joined = λ rest. (tt, tt);
  }
  grown-string c class goes_on =
      let held = goes_on refl refl in
      record { each = tt; next = held.0; quiet = held.1; whole_items = tt; whole = longer_text; joined = λ rest. tt }

dcs-longer : (between header : List ℕ) (final : ℕ) (text : List ℕ) (b : ℕ) (c : Class) → class_of b ≡ c → IsBody (heard_body (dcs between header final text))
    → is_escape_at c ≡ false → is_cancel_at c ≡ false → IsBody (heard_body (dcs between header final (text ++ b ∷ [])))
dcs-longer between header final text b c class is one two =
    subst (λ l. IsBody (dcs between header final l)) (sym (heard-push text b))
    (record { begun = is.begun; hooked = is.hooked; text_bytes = EachIs-push (is_text_byte string_terminator) (heard_text text) (heard b) is.text_bytes (text_heard b c class one two) })

dropped-longer : (between header : List ℕ) (byte : ℕ) (text : List ℕ) (b : ℕ) (c : Class) → class_of b ≡ c → IsBody (heard_body (dcs_ignored between header byte text))
    → is_escape_at c ≡ false → is_cancel_at c ≡ false → IsBody (heard_body (dcs_ignored between header byte (text ++ b ∷ [])))
dropped-longer between header byte text b c class is one two =
    subst (λ l. IsBody (dcs_ignored between header byte l)) (sym (heard-push text b))
    (record {
      begun = is.begun;
      header_byte = is.header_byte;
      unshaped = is.unshaped;
      text_bytes = EachIs-push (is_text_byte string_terminator) (heard_text text) (heard b) is.text_bytes (text_heard b c class one two);
    })

ignored-longer : (between : List ℕ) (kind : ℕ) (text : List ℕ) (b : ℕ) (c : Class) → class_of b ≡ c → IsBody (heard_body (sos_pm_apc between kind text))
    → is_escape_at c ≡ false → is_cancel_at c ≡ false → IsBody (heard_body (sos_pm_apc between kind (text ++ b ∷ [])))
ignored-longer between kind text b c class is one two =
    subst (λ l. IsBody (sos_pm_apc between kind l)) (sym (heard-push text b))
    (is.0, is.1, EachIs-push (is_text_byte string_terminator) (heard_text text) (heard b) is.2 (text_heard b c class one two))

-- BEL ends one that is ignored
grown-ended : (between : List ℕ) (kind : ℕ) (text : List ℕ) (b : ℕ) → IsBody (heard_body (sos_pm_apc between kind text)) → HasNoBell (sos_pm_apc between kind text)
    → eqb b bell ≡ true → GrownInLog (inside (sos_pm_apc between kind text)) b (ended (sos_pm_apc between kind text) b)
grown-ended between kind text b is quiet bel =
    let body : Body = sos_pm_apc between kind text in
    record {
      each = ((is, quiet, bel), tt);
      next = tt;
      quiet = tt;
      whole_items = (tt, tt);
      whole = append-nil (item_text (sequence body (complete b)) ++ []) ∙ append-nil (item_text (sequence body (complete b)));
      joined = λ rest. (tt, tt);
    }

grown-ignored : (between : List ℕ) (kind : ℕ) (text : List ℕ) (b : ℕ) (c : Class) → class_of b ≡ c → IsBody (heard_body (sos_pm_apc between kind text))
    → HasNoBell (sos_pm_apc between kind text)
    → GrownInLog (inside (sos_pm_apc between kind text)) b (grow_ended (sos_pm_apc between kind text) (sos_pm_apc between kind (text ++ b ∷ [])) b c)
grown-ignored between kind text b bell_byte class is quiet = grown-ended between kind text b is quiet (is_bell-class b ∙ ap is_bell_at class)
grown-ignored between kind text b c class is quiet =
    grown-string (sos_pm_apc between kind text) (sos_pm_apc between kind (text ++ b ∷ [])) b is quiet (simp append_assoc) c class
    (λ one two. (
      ignored-longer between kind text b c class is one two,
      EachIs-push (λ n. not (eqb n bell)) text b quiet (not_from_false (eqb b bell) (is_bell-class b ∙ ap is_bell_at class)),
    ))

pub grown_in_log : (o : Open) (b : ℕ) → IsOpen (heard_open o) → IsQuiet o → GrownInLog o b (grow_log o b)
grown_in_log nothing b is quiet = grown-other nothing b is tt
grown_in_log (front bytes) b is quiet = grown-other (front bytes) b is tt
grown_in_log (inside (escape bytes)) b is quiet = grown-other (inside (escape bytes)) b is tt
grown_in_log (inside (csi between header)) b is quiet = grown-other (inside (csi between header)) b is tt
grown_in_log (inside (dcs_header between header)) b is quiet = grown-other (inside (dcs_header between header)) b is tt
grown_in_log (inside (dcs between header final text)) b is quiet =
    grown-string (dcs between header final text) (dcs between header final (text ++ b ∷ [])) b is tt (simp append_assoc) (class_of b) refl
    (λ one two. (dcs-longer between header final text b (class_of b) refl is one two, tt))
grown_in_log (inside (dcs_ignored between header byte text)) b is quiet =
    grown-string (dcs_ignored between header byte text) (dcs_ignored between header byte (text ++ b ∷ [])) b is tt (simp append_assoc) (class_of b) refl
    (λ one two. (dropped-longer between header byte text b (class_of b) refl is one two, tt))
grown_in_log (inside (osc between text)) b is quiet = grown-other (inside (osc between text)) b is tt
grown_in_log (inside (sos_pm_apc between kind text)) b is quiet = grown-ignored between kind text b (class_of b) refl is quiet

-- items before a division
pub divided-append : (items others : List Item) (rest : List ℕ) → AllByRecursion IsItemOfLog items → AreJoinedTo items rest → IsLogDivision others rest
    → IsLogDivision (items ++ others) (items_text items ++ rest)
divided-append [] others rest each joined d = d
divided-append (item ∷ items) others rest each joined d =
    let after = divided-append items others rest each.1 joined.1 d in
    record {
      whole = ap (λ text. item_text item ++ text) after.whole ∙ sym (append_assoc (item_text item) (items_text items) rest);
      each = (each.0, after.each);
      joined = (subst (λ text. MayPrecede item text) (sym after.whole) joined.0, after.joined);
    }

-- what is open at the end is the last item
divided-last : (o : Open) → IsOpen (heard_open o) → IsQuiet o → IsLogDivision (last_items o) (open_text o)
divided-last nothing is quiet = record { whole = refl; each = tt; joined = tt }
divided-last (front bytes) is quiet = record { whole = append-nil bytes; each = ((IsProperFront-test bytes).0 is, tt); joined = (refl, tt) }
divided-last (inside body) is quiet =
    record { whole = append-nil (body_text body ++ []) ∙ append-nil (body_text body); each = ((is, quiet, tt), tt); joined = (refl, tt) }

pub divided : (o : Open) (bytes : List ℕ) → IsOpen (heard_open o) → IsQuiet o → IsLogDivision (divide_log o bytes) (open_text o ++ bytes)
divided o [] is quiet = subst (λ text. IsLogDivision (last_items o) text) (sym (append-nil (open_text o))) (divided-last o is quiet)
divided o (b ∷ bytes) is quiet =
    let g = grow_log o b in
    let grown = grown_in_log o b is quiet in
    let after = divided g.next bytes grown.next grown.quiet in
    let all = divided-append g.items (divide_log g.next bytes) (open_text g.next ++ bytes) grown.each (grown.joined bytes) after in
    subst (λ text. IsLogDivision (divide_log o (b ∷ bytes)) text)
    (sym (append_assoc (items_text g.items) (open_text g.next) bytes) ∙ (ap (λ text. text ++ bytes) grown.whole ∙ append_assoc (open_text o) (b ∷ []) bytes))
    all
