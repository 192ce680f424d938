-- Each list of bytes has a division: the one that is computed from left to right.
use Rattle.std.proofs.Common.{◌≡◌, ℕ, true, false, not, ◌||◌, List, [], ◌∷◌, ◌++◌, IsTrue, refl, sym, ap, ◌∙◌, subst, append_assoc, append-nil, ⊎_elim}
use Rattle.std.specs.Prelude.{⊤, if◌then◌else◌}
use Rattle.std.specs.List.{AllByRecursion, list_any}
use Rattle.std.proofs.lemmas.Bool.{and_from, or_from, or_left, or_right, eqb-true, cond_both, not_from_false, both_ways}
use Rattle.anstyle_parse.specs.Stream.Bytes.{is_within, is_escape, is_intermediate, is_final, is_significant, is_noise, bell, string_terminator, escape_byte}
use Rattle.anstyle_parse.specs.Stream.Characters.{is_lead, is_well_formed, is_proper_front, IsFront}
use Rattle.anstyle_parse.specs.Stream.Arguments.{significant, has_shape}
use Rattle.anstyle_parse.specs.Stream.Items.{Body, escape, csi, dcs_header, dcs, dcs_ignored, osc, sos_pm_apc, complete, cancelled, broken_off, Item, single, character, sequence, body_text, item_text, items_text, EachIs, IsBody, completes, IsItem, BeginsWithBreak, MayPrecede, IsDivision, is_introducer, is_header_byte, is_text_byte}
use Rattle.anstyle_parse.proofs.Bytes.Classes.{Class, bell_byte, cancel_byte, esc_byte, intermediate_byte, digit_byte, colon_byte, semicolon_byte, marker_byte, device_byte, string_byte, control_introducer, command_byte, final_byte, terminator_byte, lead_byte, class_of, is_cancel_at, is_escape_at, is_final_at, is_significant_at, is_lead_at, is_header_byte_at, is_string_kind_at, is_introducer_at, is_string_text_at, is_command_text_at, is_last_at, is_terminator_at, is_bell_at, is_device_at, is_control_introducer_at, is_command_at, is_cancel-class, is_escape-class, is_final-class, is_significant-class, is_lead-class, is_header_byte-class, is_string_kind-class, is_introducer-class, is_string_text-class, is_command_text-class, is_last-class, is_terminator-class, is_bell-class, is_device-class, is_control_introducer-class, is_command-class}
use Rattle.anstyle_parse.proofs.Division.Grow.{Open, nothing, front, inside, Growth, more, done, start, break_off, grow_front, into, ended, introduce, grow_header, grow_body, grow, divide, open_after, last_items, open_text}
use Rattle.anstyle_parse.proofs.Characters.Table.{is_front, front_cases, is_proper_front-nil, is_proper_front-lead}
use Rattle.anstyle_parse.proofs.Characters.Tests.{IsFront-test, IsProperFront-test}
use Rattle.anstyle_parse.proofs.Bytes.Passing.{EachIs-push, significant-push, significant_same, is_in_escape_at, is_in_header_at, is_in_escape-class, is_in_header-class, EachIs-noise}

-- the open items that can come about
abbrev pub IsOpen : Open → Type 0
IsOpen nothing = ⊤
IsOpen (front bytes) = IsTrue (is_proper_front bytes)
IsOpen (inside body) = IsBody body

-- each of the items may stand before those that follow it and before the rest
abbrev pub AreJoinedTo : List Item → List ℕ → Type 0
AreJoinedTo [] rest = ⊤
AreJoinedTo (item ∷ items) rest = MayPrecede item (items_text items ++ rest) × AreJoinedTo items rest

-- items before a division
pub IsDivision-append : (items others : List Item) (rest : List ℕ) → AllByRecursion IsItem items → AreJoinedTo items rest → IsDivision others rest
    → IsDivision (items ++ others) (items_text items ++ rest)
IsDivision-append [] others rest each joined d = d
IsDivision-append (item ∷ items) others rest each joined d =
    let after = IsDivision-append items others rest each.1 joined.1 d in
    record {
      whole = ap (λ text. item_text item ++ text) after.whole ∙ sym (append_assoc (item_text item) (items_text items) rest);
      each = (each.0, after.each);
      joined = (subst (λ text. MayPrecede item text) (sym after.whole) joined.0, after.joined);
    }

-- A growth keeps to the rules: its items are items, and no byte is lost.
pub record Grown (o : Open) (b : ℕ) (g : Growth) : Type 0 where
  pub each : AllByRecursion IsItem g.items
  pub next : IsOpen g.next
  pub whole : items_text g.items ++ open_text g.next ≡ open_text o ++ b ∷ []
  pub joined : (rest : List ℕ) → AreJoinedTo g.items (open_text g.next ++ rest)

-- no item is whole yet
Grown-more : (o : Open) (b : ℕ) (next : Open) → IsOpen next → open_text next ≡ open_text o ++ b ∷ [] → Grown o b (more next)
Grown-more o b next h e = record { each = tt; next = h; whole = e; joined = λ rest. tt }

-- an item is whole, and nothing is open after it
Grown-done : (o : Open) (b : ℕ) (item : Item) → IsItem item → item_text item ≡ open_text o ++ b ∷ [] → ((rest : List ℕ) → MayPrecede item rest)
    → Grown o b (done item)
Grown-done o b item h e before = record {
  each = (h, tt);
  next = tt;
  whole = append-nil (item_text item ++ []) ∙ (append-nil (item_text item) ∙ e);
  joined = λ rest. (before rest, tt);
}

-- the byte ends the body
Grown-ended : (body : Body) (b : ℕ) → IsBody body → IsTrue (completes body b) → Grown (inside body) b (ended body b)
Grown-ended body b h e = Grown-done (inside body) b (sequence body (complete b)) (h, e) refl (λ rest. tt)

-- ESC is one byte
is_escape-true : (b : ℕ) → IsTrue (is_escape b) → b ≡ escape_byte
unfolding is_escape
is_escape-true b e = eqb-true b escape_byte e

-- ESC breaks a body off and begins the next
Grown-broken_off : (body : Body) (b : ℕ) → IsBody body → IsTrue (is_escape b) → Grown (inside body) b (record { items = sequence body broken_off ∷ []; next = inside (escape []) })
unfolding is_escape
Grown-broken_off body b h e = record {
  each = ((h, tt), tt);
  next = tt;
  whole = ap (λ text. text ++ escape_byte ∷ []) (append-nil (body_text body ++ []) ∙ append-nil (body_text body))
      ∙ ap (λ n. body_text body ++ n ∷ []) (sym (is_escape-true b e));
  joined = λ rest. (refl, tt);
}

-- a body that a byte makes longer
Grown-into : (body next : Body) (b : ℕ) → IsBody next → body_text next ≡ body_text body ++ b ∷ [] → Grown (inside body) b (into next)
Grown-into body next b h e = Grown-more (inside body) b (inside next) h e

-- a byte that no intermediate stands before begins a body of another kind; else it ends the sequence
Grown-introduce : (bytes : List ℕ) (b : ℕ) (body : Body) → IsBody (escape bytes) → IsTrue (is_within 0x30 0x7E b)
    → (EachIs is_noise bytes → Grown (inside (escape bytes)) b (into body)) → Grown (inside (escape bytes)) b (introduce bytes b body)
Grown-introduce bytes b body h last begins =
    cond_both (list_any is_intermediate bytes) (ended (escape bytes) b) (into body) (λ g. Grown (inside (escape bytes)) b g)
    (λ some. Grown-ended (escape bytes) b h (and_from (is_within 0x30 0x7E b) (list_any is_intermediate bytes || not (is_introducer b)) last
    (or_left (list_any is_intermediate bytes) (not (is_introducer b)) some)))
    (λ none. begins (EachIs-noise bytes h none))

-- a final byte that begins no other sequence
Grown-final : (bytes : List ℕ) (b : ℕ) → IsBody (escape bytes) → IsTrue (is_within 0x30 0x7E b) → is_introducer b ≡ false
    → Grown (inside (escape bytes)) b (ended (escape bytes) b)
Grown-final bytes b h last other = Grown-ended (escape bytes) b h (and_from (is_within 0x30 0x7E b) (list_any is_intermediate bytes || not (is_introducer b)) last
    (or_right (list_any is_intermediate bytes) (not (is_introducer b)) (not_from_false (is_introducer b) other)))

-- a byte of a device control header
Grown-header : (between header : List ℕ) (b : ℕ) → IsBody (dcs_header between header) → IsTrue (is_header_byte b) → is_significant b ≡ true
    → IsTrue (is_noise b || is_header_byte b) → Grown (inside (dcs_header between header)) b (grow_header between header b)
Grown-header between header b h byte counts inner =
    cond_both (has_shape (significant header ++ b ∷ [])) (into (dcs_header between (header ++ b ∷ []))) (into (dcs_ignored between header b []))
    (λ g. Grown (inside (dcs_header between header)) b g)
    (λ fits. Grown-into (dcs_header between header) (dcs_header between (header ++ b ∷ [])) b
    record { noise = h.noise; header_bytes = EachIs-push (λ n. is_noise n || is_header_byte n) header b h.header_bytes inner; shaped = ap has_shape (significant-push header b counts) ∙ fits }
    (simp append_assoc))
    (λ unfit. Grown-into (dcs_header between header) (dcs_ignored between header b []) b
    record { begun = h; header_byte = byte; unshaped = not_from_false (has_shape (significant header ++ b ∷ [])) unfit; text_bytes = tt } (simp append_assoc))

-- a final byte after a device control header
Grown-hooked : (between header : List ℕ) (b : ℕ) → IsBody (dcs_header between header) → IsTrue (is_final b)
    → Grown (inside (dcs_header between header)) b (into (dcs between header b []))
Grown-hooked between header b h e = Grown-into (dcs_header between header) (dcs between header b []) b record { begun = h; hooked = e; text_bytes = tt } (simp append_assoc)

-- Each byte, by its class, after each body.
Grown-body : (body : Body) (b : ℕ) (c : Class) → class_of b ≡ c → IsBody body → Grown (inside body) b (grow_body body b c)
Grown-body body b esc_byte e h = Grown-broken_off body b h (is_escape-class b ∙ ap is_escape_at e)
Grown-body body b cancel_byte e h = Grown-done (inside body) b (sequence body (cancelled b)) (h, is_cancel-class b ∙ ap is_cancel_at e) refl (λ rest. tt)
Grown-body (escape bytes) b digit_byte e h = Grown-final bytes b h (is_last-class b ∙ ap is_last_at e) (is_introducer-class b ∙ ap is_introducer_at e)
Grown-body (escape bytes) b colon_byte e h = Grown-final bytes b h (is_last-class b ∙ ap is_last_at e) (is_introducer-class b ∙ ap is_introducer_at e)
Grown-body (escape bytes) b semicolon_byte e h = Grown-final bytes b h (is_last-class b ∙ ap is_last_at e) (is_introducer-class b ∙ ap is_introducer_at e)
Grown-body (escape bytes) b marker_byte e h = Grown-final bytes b h (is_last-class b ∙ ap is_last_at e) (is_introducer-class b ∙ ap is_introducer_at e)
Grown-body (escape bytes) b final_byte e h = Grown-final bytes b h (is_last-class b ∙ ap is_last_at e) (is_introducer-class b ∙ ap is_introducer_at e)
Grown-body (escape bytes) b device_byte e h = Grown-introduce bytes b (dcs_header bytes []) h (is_last-class b ∙ ap is_last_at e)
    (λ noise. Grown-into (escape bytes) (dcs_header bytes []) b (record { noise = noise; header_bytes = tt; shaped = refl })
    (ap (λ n. escape_byte ∷ (bytes ++ n ∷ [])) (sym (eqb-true b 0x50 (is_device-class b ∙ ap is_device_at e)))))
Grown-body (escape bytes) b string_byte e h = Grown-introduce bytes b (sos_pm_apc bytes b []) h (is_last-class b ∙ ap is_last_at e)
    (λ noise. Grown-into (escape bytes) (sos_pm_apc bytes b []) b (noise, is_string_kind-class b ∙ ap is_string_kind_at e, tt) refl)
Grown-body (escape bytes) b control_introducer e h = Grown-introduce bytes b (csi bytes []) h (is_last-class b ∙ ap is_last_at e)
    (λ noise. Grown-into (escape bytes) (csi bytes []) b (noise, tt)
    (ap (λ n. escape_byte ∷ (bytes ++ n ∷ [])) (sym (eqb-true b 0x5B (is_control_introducer-class b ∙ ap is_control_introducer_at e)))))
Grown-body (escape bytes) b command_byte e h = Grown-introduce bytes b (osc bytes []) h (is_last-class b ∙ ap is_last_at e)
    (λ noise. Grown-into (escape bytes) (osc bytes []) b (noise, tt)
    (ap (λ n. escape_byte ∷ (bytes ++ n ∷ [])) (sym (eqb-true b 0x5D (is_command-class b ∙ ap is_command_at e)))))
Grown-body (escape bytes) b c e h = Grown-into (escape bytes) (escape (bytes ++ b ∷ [])) b
    (EachIs-push (λ n. is_noise n || is_intermediate n) bytes b h (is_in_escape-class b ∙ ap is_in_escape_at e)) refl
Grown-body (csi between header) b device_byte e h = Grown-ended (csi between header) b h (is_final-class b ∙ ap is_final_at e)
Grown-body (csi between header) b string_byte e h = Grown-ended (csi between header) b h (is_final-class b ∙ ap is_final_at e)
Grown-body (csi between header) b control_introducer e h = Grown-ended (csi between header) b h (is_final-class b ∙ ap is_final_at e)
Grown-body (csi between header) b command_byte e h = Grown-ended (csi between header) b h (is_final-class b ∙ ap is_final_at e)
Grown-body (csi between header) b final_byte e h = Grown-ended (csi between header) b h (is_final-class b ∙ ap is_final_at e)
Grown-body (csi between header) b c e h = Grown-into (csi between header) (csi between (header ++ b ∷ [])) b
    (h.0, EachIs-push (λ n. is_noise n || is_header_byte n) header b h.1 (is_in_header-class b ∙ ap is_in_header_at e)) (simp append_assoc)
Grown-body (dcs_header between header) b device_byte e h = Grown-hooked between header b h (is_final-class b ∙ ap is_final_at e)
Grown-body (dcs_header between header) b string_byte e h = Grown-hooked between header b h (is_final-class b ∙ ap is_final_at e)
Grown-body (dcs_header between header) b control_introducer e h = Grown-hooked between header b h (is_final-class b ∙ ap is_final_at e)
Grown-body (dcs_header between header) b command_byte e h = Grown-hooked between header b h (is_final-class b ∙ ap is_final_at e)
Grown-body (dcs_header between header) b final_byte e h = Grown-hooked between header b h (is_final-class b ∙ ap is_final_at e)
Grown-body (dcs_header between header) b intermediate_byte e h = Grown-header between header b h (is_header_byte-class b ∙ ap is_header_byte_at e) (is_significant-class b ∙ ap is_significant_at e) (is_in_header-class b ∙ ap is_in_header_at e)
Grown-body (dcs_header between header) b digit_byte e h = Grown-header between header b h (is_header_byte-class b ∙ ap is_header_byte_at e) (is_significant-class b ∙ ap is_significant_at e) (is_in_header-class b ∙ ap is_in_header_at e)
Grown-body (dcs_header between header) b colon_byte e h = Grown-header between header b h (is_header_byte-class b ∙ ap is_header_byte_at e) (is_significant-class b ∙ ap is_significant_at e) (is_in_header-class b ∙ ap is_in_header_at e)
Grown-body (dcs_header between header) b semicolon_byte e h = Grown-header between header b h (is_header_byte-class b ∙ ap is_header_byte_at e) (is_significant-class b ∙ ap is_significant_at e) (is_in_header-class b ∙ ap is_in_header_at e)
Grown-body (dcs_header between header) b marker_byte e h = Grown-header between header b h (is_header_byte-class b ∙ ap is_header_byte_at e) (is_significant-class b ∙ ap is_significant_at e) (is_in_header-class b ∙ ap is_in_header_at e)
Grown-body (dcs_header between header) b c e h = Grown-into (dcs_header between header) (dcs_header between (header ++ b ∷ [])) b (record {
  noise = h.noise;
  header_bytes = EachIs-push (λ n. is_noise n || is_header_byte n) header b h.header_bytes (is_in_header-class b ∙ ap is_in_header_at e);
  shaped = ap has_shape (significant_same header b (is_significant-class b ∙ ap is_significant_at e)) ∙ h.shaped;
}) (simp append_assoc)
Grown-body (dcs between header final text) b terminator_byte e h = Grown-ended (dcs between header final text) b h (is_terminator-class b ∙ ap is_terminator_at e)
Grown-body (dcs between header final text) b c e h = Grown-into (dcs between header final text) (dcs between header final (text ++ b ∷ [])) b
    (record { begun = h.begun; hooked = h.hooked; text_bytes = EachIs-push (is_text_byte string_terminator) text b h.text_bytes (is_string_text-class b ∙ ap is_string_text_at e) }) (simp append_assoc)
Grown-body (dcs_ignored between header byte text) b terminator_byte e h = Grown-ended (dcs_ignored between header byte text) b h (is_terminator-class b ∙ ap is_terminator_at e)
Grown-body (dcs_ignored between header byte text) b c e h = Grown-into (dcs_ignored between header byte text) (dcs_ignored between header byte (text ++ b ∷ [])) b
    (record { begun = h.begun; header_byte = h.header_byte; unshaped = h.unshaped; text_bytes = EachIs-push (is_text_byte string_terminator) text b h.text_bytes (is_string_text-class b ∙ ap is_string_text_at e) }) (simp append_assoc)
Grown-body (osc between text) b bell_byte e h = Grown-ended (osc between text) b h (is_bell-class b ∙ ap is_bell_at e)
Grown-body (osc between text) b c e h = Grown-into (osc between text) (osc between (text ++ b ∷ [])) b
    (h.0, EachIs-push (is_text_byte bell) text b h.1 (is_command_text-class b ∙ ap is_command_text_at e)) (simp append_assoc)
Grown-body (sos_pm_apc between kind text) b terminator_byte e h = Grown-ended (sos_pm_apc between kind text) b h (is_terminator-class b ∙ ap is_terminator_at e)
Grown-body (sos_pm_apc between kind text) b c e h = Grown-into (sos_pm_apc between kind text) (sos_pm_apc between kind (text ++ b ∷ [])) b
    (h.0, h.1, EachIs-push (is_text_byte string_terminator) text b h.2 (is_string_text-class b ∙ ap is_string_text_at e)) (simp append_assoc)

-- a list that is neither a whole nor a proper prefix is no prefix
not_front : (bytes : List ℕ) → is_well_formed bytes ≡ false → is_proper_front bytes ≡ false
    → (a : ℕ) (x : List ℕ) → bytes ≡ a ∷ x → ¬ IsFront bytes
not_front bytes whole part a x e f =
    ⊎_elim (λ w. both_ways (is_well_formed (a ∷ x)) (sym (ap is_well_formed e) ∙ whole) w)
    (λ p. both_ways (is_proper_front (a ∷ x)) (sym (ap is_proper_front e) ∙ part) p)
    (front_cases a x (sym (ap is_front e) ∙ (IsFront-test bytes).1 f))

-- a byte where no item is open
Grown-start : (b : ℕ) (c : Class) → class_of b ≡ c → Grown nothing b (start b c)
Grown-start b esc_byte e = Grown-more nothing b (inside (escape [])) tt (ap (λ n. n ∷ []) (sym (is_escape-true b (is_escape-class b ∙ ap is_escape_at e))))
Grown-start b lead_byte e = Grown-more nothing b (front (b ∷ [])) (is_proper_front-lead b (is_lead-class b ∙ ap is_lead_at e)) refl
Grown-start b c e = Grown-done nothing b (single b)
    (not_from_false (is_escape b || is_lead b) (or_from (is_escape b) (is_lead b) (is_escape-class b ∙ ap is_escape_at e) (is_lead-class b ∙ ap is_lead_at e)))
    refl (λ rest. tt)

-- a byte that breaks the front of a character begins what it begins where no item is open
Grown-broken : (bytes : List ℕ) (b : ℕ) (g : Growth) → IsTrue (is_proper_front bytes) → ¬ IsFront (bytes ++ b ∷ []) → Grown nothing b g
    → Grown (front bytes) b (break_off bytes g)
Grown-broken bytes b g h breaks grown = record {
  each = ((IsProperFront-test bytes).0 h, grown.each);
  next = grown.next;
  whole = append_assoc bytes (items_text g.items) (open_text g.next) ∙ ap (λ text. bytes ++ text) grown.whole;
  joined = λ rest. (
    subst (λ text. BeginsWithBreak bytes text)
        (sym (sym (append_assoc (items_text g.items) (open_text g.next) rest) ∙ ap (λ text. text ++ rest) grown.whole)) breaks,
    grown.joined rest,
  );
}

-- a byte after the front of a character makes it whole, or longer, or breaks it
Grown-front : (bytes : List ℕ) (b : ℕ) → IsTrue (is_proper_front bytes) → Grown (front bytes) b (grow_front bytes b (class_of b))
Grown-front [] b h = absurd (both_ways (is_proper_front []) is_proper_front-nil h)
Grown-front (a ∷ x) b h =
    let breaks : Growth = break_off (a ∷ x) (start b (class_of b)) in
    cond_both (is_well_formed (a ∷ (x ++ b ∷ []))) (done (character (a ∷ (x ++ b ∷ []))))
    (if is_proper_front (a ∷ (x ++ b ∷ [])) then more (front (a ∷ (x ++ b ∷ []))) else breaks)
    (λ g. Grown (front (a ∷ x)) b g)
    (λ whole. Grown-done (front (a ∷ x)) b (character (a ∷ (x ++ b ∷ []))) whole refl (λ rest. tt))
    (λ other. cond_both (is_proper_front (a ∷ (x ++ b ∷ []))) (more (front (a ∷ (x ++ b ∷ [])))) breaks
    (λ g. Grown (front (a ∷ x)) b g)
    (λ part. Grown-more (front (a ∷ x)) b (front (a ∷ (x ++ b ∷ []))) part refl)
    (λ neither. Grown-broken (a ∷ x) b (start b (class_of b)) h
    (not_front (a ∷ (x ++ b ∷ [])) other neither a (x ++ b ∷ []) refl) (Grown-start b (class_of b) refl)))

-- a byte after any open item
pub Grown-grow : (o : Open) (b : ℕ) → IsOpen o → Grown o b (grow o b)
unfolding grow
Grown-grow nothing b h = Grown-start b (class_of b) refl
Grown-grow (front bytes) b h = Grown-front bytes b h
Grown-grow (inside body) b h = Grown-body body b (class_of b) refl h

-- what is open after some bytes can come about
pub IsOpen-open_after : (o : Open) (bytes : List ℕ) → IsOpen o → IsOpen (open_after o bytes)
IsOpen-open_after o [] h = h
IsOpen-open_after o (b ∷ bytes) h = IsOpen-open_after (grow o b).next bytes (Grown-grow o b h).next

-- what is open at the end is the last item
IsDivision-last : (o : Open) → IsOpen o → IsDivision (last_items o) (open_text o)
IsDivision-last nothing h = record { whole = refl; each = tt; joined = tt }
IsDivision-last (front bytes) h = record { whole = append-nil bytes; each = ((IsProperFront-test bytes).0 h, tt); joined = (refl, tt) }
IsDivision-last (inside body) h = record { whole = append-nil (body_text body ++ []) ∙ append-nil (body_text body); each = ((h, tt), tt); joined = (refl, tt) }

-- the bytes of an open item and those after it are divided
pub IsDivision-divide_after : (o : Open) (bytes : List ℕ) → IsOpen o → IsDivision (divide o bytes) (open_text o ++ bytes)
IsDivision-divide_after o [] h = subst (λ text. IsDivision (last_items o) text) (sym (append-nil (open_text o))) (IsDivision-last o h)
IsDivision-divide_after o (b ∷ bytes) h =
    let g = Grown-grow o b h in
    let after = IsDivision-divide_after (grow o b).next bytes g.next in
    let all = IsDivision-append (grow o b).items (divide (grow o b).next bytes) (open_text (grow o b).next ++ bytes) g.each (g.joined bytes) after in
    subst (λ text. IsDivision (divide o (b ∷ bytes)) text)
    (sym (append_assoc (items_text (grow o b).items) (open_text (grow o b).next) bytes) ∙ (ap (λ text. text ++ bytes) g.whole ∙ append_assoc (open_text o) (b ∷ []) bytes))
    all

-- so the bytes of a list are divided
pub IsDivision-divide : (bytes : List ℕ) → IsDivision (divide nothing bytes) bytes
IsDivision-divide bytes = IsDivision-divide_after nothing bytes tt
