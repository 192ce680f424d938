-- Runs: bytes that make no item whole and take one open item to another. The text of an
-- open item that keeps to the rules runs from nothing to that item.
use Rattle.std.proofs.Common.{◌≡◌, ℕ, Bool, true, false, ◌||◌, List, [], ◌∷◌, ◌++◌, IsTrue, refl, sym, ap, ◌∙◌, subst, append_assoc, append-nil}
use Rattle.std.specs.Prelude.{⊤, if◌then◌else◌}
use Rattle.std.specs.List.{list_any}
use Rattle.std.proofs.lemmas.Bool.{not-true, or_left, cond-true, cond-false, both_ways}
use Rattle.anstyle_parse.specs.Stream.Bytes.{is_within, is_intermediate, is_significant, is_noise, bell, string_terminator, escape_byte}
use Rattle.anstyle_parse.specs.Stream.Characters.{is_lead, is_well_formed, is_proper_front}
use Rattle.anstyle_parse.specs.Stream.Arguments.{significant, has_shape}
use Rattle.anstyle_parse.specs.Stream.Items.{Body, escape, csi, dcs_header, dcs, dcs_ignored, osc, sos_pm_apc, character, body_text, EachIs, IsBody, is_header_byte, is_text_byte}
use Rattle.anstyle_parse.proofs.Bytes.Classes.{Class, control_byte, bell_byte, intermediate_byte, digit_byte, colon_byte, semicolon_byte, marker_byte, string_byte, final_byte, terminator_byte, lead_byte, class_below, class_of, is_noise_at, is_intermediate_at, is_final_at, is_significant_at, is_lead_at, is_header_byte_at, is_string_kind_at, is_string_text_at, is_command_text_at, is_noise-class, is_intermediate-class, is_final-class, is_significant-class, is_lead-class, is_header_byte-class, is_string_kind-class, is_string_text-class, is_command_text-class}
use Rattle.anstyle_parse.proofs.Division.Grow.{Open, nothing, front, inside, more, done, start, break_off, into, ended, introduce, grow_header, grow_body, grow, open_text, open_after, done_items}
use Rattle.anstyle_parse.proofs.Division.Split.{open_after-append, done_items-append}
use Rattle.anstyle_parse.proofs.Characters.Table.{is_lead-front, EachIs-front, is_front-proper, is_well_formed-proper, is_proper_front-prefix, is_proper_front-nil}
use Rattle.anstyle_parse.proofs.Bytes.Passing.{EachIs-weaker, list_any-none, significant-push, has_shape-significant, is_in_escape_at, is_in_header_at, is_in_escape-class, is_in_header-class}
use Rattle.anstyle_parse.proofs.Division.Exists.{IsOpen}

-- the bytes make no item whole and lead from one open item to another
pub record Runs (o : Open) (bytes : List ℕ) (next : Open) : Type 0 where
  pub none : done_items o bytes ≡ []
  pub reaches : open_after o bytes ≡ next

-- one run after another
pub Runs-append : (o p q : Open) (a b : List ℕ) → Runs o a p → Runs p b q → Runs o (a ++ b) q
Runs-append o p q a b r s = record {
  none = done_items-append o a b
      ∙ (ap (λ items. items ++ done_items (open_after o a) b) r.none ∙ (ap (λ x. done_items x b) r.reaches ∙ s.none));
  reaches = open_after-append o a b ∙ (ap (λ x. open_after x b) r.reaches ∙ s.reaches);
}

-- one byte that makes no item whole
pub Runs-one : (o : Open) (b : ℕ) (next : Open) → grow o b ≡ more next → Runs o (b ∷ []) next
Runs-one o b next e = record { none = ap (λ g. g.items ++ []) e; reaches = ap (λ g. g.next) e }

-- Each byte makes a part longer, as long as the part keeps what holds of its prefixes.
pub Runs-each : (f : List ℕ → Open) (test : ℕ → Bool) (Holds : List ℕ → Type 0) → ((a b : List ℕ) → Holds (a ++ b) → Holds a)
    → ((p : List ℕ) (b : ℕ) → IsTrue (test b) → Holds (p ++ b ∷ []) → grow (f p) b ≡ more (f (p ++ b ∷ [])))
    → (p bytes : List ℕ) → EachIs test bytes → Holds (p ++ bytes) → Runs (f p) bytes (f (p ++ bytes))
Runs-each f test Holds closed step p [] each h = record { none = refl; reaches = ap f (sym (append-nil p)) }
Runs-each f test Holds closed step p (b ∷ bytes) each h =
    let same : (p ++ b ∷ []) ++ bytes ≡ p ++ b ∷ bytes = append_assoc p (b ∷ []) bytes in
    let held : Holds ((p ++ b ∷ []) ++ bytes) = subst Holds (sym same) h in
    let first = Runs-one (f p) b (f (p ++ b ∷ [])) (step p b each.0 (closed (p ++ b ∷ []) bytes held)) in
    let others = Runs-each f test Holds closed step (p ++ b ∷ []) bytes each.1 held in
    subst (λ x. Runs (f p) (b ∷ bytes) (f x)) same
    (Runs-append (f p) (f (p ++ b ∷ [])) (f ((p ++ b ∷ []) ++ bytes)) (b ∷ []) bytes first others)

-- the same with nothing to keep
Runs-free : (f : List ℕ → Open) (test : ℕ → Bool) → ((p : List ℕ) (b : ℕ) → IsTrue (test b) → grow (f p) b ≡ more (f (p ++ b ∷ [])))
    → (bytes : List ℕ) → EachIs test bytes → Runs (f []) bytes (f bytes)
Runs-free f test step bytes each = Runs-each f test (λ x. ⊤) (λ a b h. h) (λ p b t h. step p b t) [] bytes each tt

-- what a byte does after a body, by its class
into_escape : (p : List ℕ) (b : ℕ) (c : Class) → is_in_escape_at c ≡ true → grow_body (escape p) b c ≡ into (escape (p ++ b ∷ []))
into_escape p b control_byte t = refl
into_escape p b c t = cc

into_control : (between p : List ℕ) (b : ℕ) (c : Class) → is_in_header_at c ≡ true → grow_body (csi between p) b c ≡ into (csi between (p ++ b ∷ []))
into_control between p b control_byte t = refl
into_control between p b c t = cc

-- a significant byte that fits a header
grow_header-fits : (between p : List ℕ) (b : ℕ) → is_significant b ≡ true → has_shape (significant (p ++ b ∷ [])) ≡ true
    → grow_header between p b ≡ into (dcs_header between (p ++ b ∷ []))
grow_header-fits between p b counts fits =
    cond-true (has_shape (significant p ++ b ∷ [])) (into (dcs_header between (p ++ b ∷ []))) (into (dcs_ignored between p b [])) (sym (ap has_shape (significant-push p b counts)) ∙ fits)

-- a byte that leaves a device control header in shape
into_device : (between p : List ℕ) (b : ℕ) (c : Class) → class_of b ≡ c → is_in_header_at c ≡ true → has_shape (significant (p ++ b ∷ [])) ≡ true
    → grow_body (dcs_header between p) b c ≡ into (dcs_header between (p ++ b ∷ []))
into_device between p b intermediate_byte e t s = grow_header-fits between p b (is_significant-class b ∙ ap is_significant_at e) s
into_device between p b digit_byte e t s = grow_header-fits between p b (is_significant-class b ∙ ap is_significant_at e) s
into_device between p b colon_byte e t s = grow_header-fits between p b (is_significant-class b ∙ ap is_significant_at e) s
into_device between p b semicolon_byte e t s = grow_header-fits between p b (is_significant-class b ∙ ap is_significant_at e) s
into_device between p b marker_byte e t s = grow_header-fits between p b (is_significant-class b ∙ ap is_significant_at e) s
into_device between p b c e t s = cc

-- a byte of the text of a hooked string
into_hooked : (between header : List ℕ) (final : ℕ) (p : List ℕ) (b : ℕ) (c : Class) → is_string_text_at c ≡ true
    → grow_body (dcs between header final p) b c ≡ into (dcs between header final (p ++ b ∷ []))
into_hooked between header final p b terminator_byte t = cc
into_hooked between header final p b c t = cc

-- of one that is ignored
into_dropped : (between header : List ℕ) (byte : ℕ) (p : List ℕ) (b : ℕ) (c : Class) → is_string_text_at c ≡ true
    → grow_body (dcs_ignored between header byte p) b c ≡ into (dcs_ignored between header byte (p ++ b ∷ []))
into_dropped between header byte p b terminator_byte t = cc
into_dropped between header byte p b c t = cc

-- of an operating system command
into_command : (between p : List ℕ) (b : ℕ) (c : Class) → is_command_text_at c ≡ true → grow_body (osc between p) b c ≡ into (osc between (p ++ b ∷ []))
into_command between p b bell_byte t = cc
into_command between p b c t = cc

-- of an ignored string
into_ignored : (between : List ℕ) (kind : ℕ) (p : List ℕ) (b : ℕ) (c : Class) → is_string_text_at c ≡ true
    → grow_body (sos_pm_apc between kind p) b c ≡ into (sos_pm_apc between kind (p ++ b ∷ []))
into_ignored between kind p b terminator_byte t = cc
into_ignored between kind p b c t = cc

-- a final byte after a device control header, and a byte that does not fit it
final_device : (between header : List ℕ) (b : ℕ) (c : Class) → is_final_at c ≡ true → grow_body (dcs_header between header) b c ≡ into (dcs between header b [])
final_device between header b final_byte t = refl
final_device between header b c t = cc

-- a header byte that does not fit
unfit_device : (between header : List ℕ) (b : ℕ) (c : Class) → is_header_byte_at c ≡ true → has_shape (significant header ++ b ∷ []) ≡ false
    → grow_body (dcs_header between header) b c ≡ into (dcs_ignored between header b [])
unfit_device between header b intermediate_byte t s = cond-false (has_shape (significant header ++ b ∷ [])) (into (dcs_header between (header ++ b ∷ []))) (into (dcs_ignored between header b [])) s
unfit_device between header b digit_byte t s = cond-false (has_shape (significant header ++ b ∷ [])) (into (dcs_header between (header ++ b ∷ []))) (into (dcs_ignored between header b [])) s
unfit_device between header b colon_byte t s = cond-false (has_shape (significant header ++ b ∷ [])) (into (dcs_header between (header ++ b ∷ []))) (into (dcs_ignored between header b [])) s
unfit_device between header b semicolon_byte t s = cond-false (has_shape (significant header ++ b ∷ [])) (into (dcs_header between (header ++ b ∷ []))) (into (dcs_ignored between header b [])) s
unfit_device between header b marker_byte t s = cond-false (has_shape (significant header ++ b ∷ [])) (into (dcs_header between (header ++ b ∷ []))) (into (dcs_ignored between header b [])) s
unfit_device between header b c t s = cc

-- noise holds no intermediate
not_intermediate : (c : Class) → is_noise_at c ≡ true → is_intermediate_at c ≡ false
not_intermediate intermediate_byte t = cc
not_intermediate c t = cc

-- so a list of noise holds none
no_intermediate : (between : List ℕ) → EachIs is_noise between → list_any is_intermediate between ≡ false
no_intermediate between noise = list_any-none is_noise is_intermediate
    (λ b t. is_intermediate-class b ∙ not_intermediate (class_of b) (sym (is_noise-class b) ∙ t)) between noise

-- after noise a byte that begins another body does so
introduce-noise : (between : List ℕ) (b : ℕ) (body : Body) → EachIs is_noise between → introduce between b body ≡ into body
introduce-noise between b body noise = cond-false (list_any is_intermediate between) (ended (escape between) b) (into body) (no_intermediate between noise)

-- 5B after ESC and noise
begin_control : (between : List ℕ) → EachIs is_noise between → grow (inside (escape between)) 0x5B ≡ into (csi between [])
unfolding grow class_of class_below
begin_control between noise = introduce-noise between 0x5B (csi between []) noise

-- 50 there
begin_device : (between : List ℕ) → EachIs is_noise between → grow (inside (escape between)) 0x50 ≡ into (dcs_header between [])
unfolding grow class_of class_below
begin_device between noise = introduce-noise between 0x50 (dcs_header between []) noise

-- 5D there
begin_command : (between : List ℕ) → EachIs is_noise between → grow (inside (escape between)) 0x5D ≡ into (osc between [])
unfolding grow class_of class_below
begin_command between noise = introduce-noise between 0x5D (osc between []) noise

-- 58, 5E and 5F there
begin_ignored : (between : List ℕ) (kind : ℕ) (c : Class) → is_string_kind_at c ≡ true → EachIs is_noise between
    → grow_body (escape between) kind c ≡ into (sos_pm_apc between kind [])
begin_ignored between kind string_byte t noise = introduce-noise between kind (sos_pm_apc between kind []) noise
begin_ignored between kind c t noise = cc

-- ESC after nothing
begin_escape : grow nothing escape_byte ≡ into (escape [])
unfolding grow class_of class_below
begin_escape = refl

-- The parts of a body run.
grow-inside : (body : Body) (b : ℕ) → grow (inside body) b ≡ grow_body body b (class_of b)
unfolding grow
grow-inside body b = refl

-- ESC and what an escape sequence may hold
Runs-escape : (bytes : List ℕ) → EachIs (λ b. is_noise b || is_intermediate b) bytes → Runs nothing (escape_byte ∷ bytes) (inside (escape bytes))
Runs-escape bytes each = Runs-append nothing (inside (escape [])) (inside (escape bytes)) (escape_byte ∷ []) bytes
    (Runs-one nothing escape_byte (inside (escape [])) begin_escape)
    (Runs-free (λ x. inside (escape x)) (λ b. is_noise b || is_intermediate b)
    (λ p b t. grow-inside (escape p) b ∙ into_escape p b (class_of b) (sym (is_in_escape-class b) ∙ t)) bytes each)

-- after ESC and noise comes a body of another kind
Runs-between : (between : List ℕ) (b : ℕ) (part : List ℕ) (first body : Body) → EachIs is_noise between → grow (inside (escape between)) b ≡ into first
    → Runs (inside first) part (inside body) → Runs nothing (escape_byte ∷ (between ++ b ∷ part)) (inside body)
Runs-between between b part first body noise begins r =
    Runs-append nothing (inside (escape between)) (inside body) (escape_byte ∷ between) (b ∷ part)
    (Runs-escape between (EachIs-weaker is_noise (λ n. is_noise n || is_intermediate n) (λ n t. or_left (is_noise n) (is_intermediate n) t) between noise))
    (Runs-append (inside (escape between)) (inside first) (inside body) (b ∷ []) part (Runs-one (inside (escape between)) b (inside first) begins) r)

-- the header of a device control string
Runs-device : (between header : List ℕ) → IsBody (dcs_header between header) → Runs (inside (dcs_header between [])) header (inside (dcs_header between header))
Runs-device between header h = Runs-each (λ x. inside (dcs_header between x)) (λ b. is_noise b || is_header_byte b) (λ x. IsTrue (has_shape (significant x)))
    (λ a b s. has_shape-significant a b s)
    (λ p b t s. grow-inside (dcs_header between p) b ∙ into_device between p b (class_of b) refl (sym (is_in_header-class b) ∙ t) s) [] header h.header_bytes h.shaped

-- a byte after a device control header, and the text after that
Runs-after : (between header : List ℕ) (b : ℕ) (text : List ℕ) (first body : Body) → IsBody (dcs_header between header)
    → grow_body (dcs_header between header) b (class_of b) ≡ into first → Runs (inside first) text (inside body)
    → Runs (inside (dcs_header between [])) (header ++ b ∷ text) (inside body)
Runs-after between header b text first body h begins r =
    Runs-append (inside (dcs_header between [])) (inside (dcs_header between header)) (inside body) header (b ∷ text) (Runs-device between header h)
    (Runs-append (inside (dcs_header between header)) (inside first) (inside body) (b ∷ []) text
    (Runs-one (inside (dcs_header between header)) b (inside first) (grow-inside (dcs_header between header) b ∙ begins)) r)

-- the text of a body runs to it
pub Runs-body : (body : Body) → IsBody body → Runs nothing (body_text body) (inside body)
Runs-body (escape bytes) h = Runs-escape bytes h
Runs-body (csi between header) h = Runs-between between 0x5B header (csi between []) (csi between header) h.0 (begin_control between h.0)
    (Runs-free (λ x. inside (csi between x)) (λ b. is_noise b || is_header_byte b)
    (λ p b t. grow-inside (csi between p) b ∙ into_control between p b (class_of b) (sym (is_in_header-class b) ∙ t)) header h.1)
Runs-body (dcs_header between header) h = Runs-between between 0x50 header (dcs_header between []) (dcs_header between header) h.noise (begin_device between h.noise) (Runs-device between header h)
Runs-body (dcs between header final text) h =
    Runs-between between 0x50 (header ++ final ∷ text) (dcs_header between []) (dcs between header final text) h.begun.noise (begin_device between h.begun.noise)
    (Runs-after between header final text (dcs between header final []) (dcs between header final text) h.begun
    (final_device between header final (class_of final) (sym (is_final-class final) ∙ h.hooked))
    (Runs-free (λ x. inside (dcs between header final x)) (is_text_byte string_terminator)
    (λ p b t. grow-inside (dcs between header final p) b ∙ into_hooked between header final p b (class_of b) (sym (is_string_text-class b) ∙ t)) text h.text_bytes))
Runs-body (dcs_ignored between header byte text) h =
    Runs-between between 0x50 (header ++ byte ∷ text) (dcs_header between []) (dcs_ignored between header byte text) h.begun.noise (begin_device between h.begun.noise)
    (Runs-after between header byte text (dcs_ignored between header byte []) (dcs_ignored between header byte text) h.begun
    (unfit_device between header byte (class_of byte) (sym (is_header_byte-class byte) ∙ h.header_byte) (not-true (has_shape (significant header ++ byte ∷ [])) h.unshaped))
    (Runs-free (λ x. inside (dcs_ignored between header byte x)) (is_text_byte string_terminator)
    (λ p b t. grow-inside (dcs_ignored between header byte p) b ∙ into_dropped between header byte p b (class_of b) (sym (is_string_text-class b) ∙ t)) text h.text_bytes))
Runs-body (osc between text) h = Runs-between between 0x5D text (osc between []) (osc between text) h.0 (begin_command between h.0)
    (Runs-free (λ x. inside (osc between x)) (is_text_byte bell)
    (λ p b t. grow-inside (osc between p) b ∙ into_command between p b (class_of b) (sym (is_command_text-class b) ∙ t)) text h.1)
Runs-body (sos_pm_apc between kind text) h = Runs-between between kind text (sos_pm_apc between kind []) (sos_pm_apc between kind text) h.0
    (grow-inside (escape between) kind ∙ begin_ignored between kind (class_of kind) (sym (is_string_kind-class kind) ∙ h.1) h.0)
    (Runs-free (λ x. inside (sos_pm_apc between kind x)) (is_text_byte string_terminator)
    (λ p b t. grow-inside (sos_pm_apc between kind p) b ∙ into_ignored between kind p b (class_of b) (sym (is_string_text-class b) ∙ t)) text h.2)

-- the front of a character
start-lead : (b : ℕ) (c : Class) → is_lead_at c ≡ true → start b c ≡ more (front (b ∷ []))
start-lead b lead_byte t = refl
start-lead b c t = cc

-- a lead byte after nothing
begin_front : (b : ℕ) → IsTrue (is_lead b) → grow nothing b ≡ more (front (b ∷ []))
unfolding grow
begin_front b t = start-lead b (class_of b) (sym (is_lead-class b) ∙ t)

-- a byte that leaves a proper prefix
grow-front_part : (bytes : List ℕ) (b : ℕ) → IsTrue (is_proper_front (bytes ++ b ∷ [])) → grow (front bytes) b ≡ more (front (bytes ++ b ∷ []))
unfolding grow
grow-front_part bytes b h =
    cond-false (is_well_formed (bytes ++ b ∷ [])) (done (character (bytes ++ b ∷ [])))
    (if is_proper_front (bytes ++ b ∷ []) then more (front (bytes ++ b ∷ [])) else break_off bytes (start b (class_of b))) (is_well_formed-proper (bytes ++ b ∷ []) h)
    ∙ cond-true (is_proper_front (bytes ++ b ∷ [])) (more (front (bytes ++ b ∷ []))) (break_off bytes (start b (class_of b))) h

-- a proper prefix runs to the front of a character
pub Runs-front : (bytes : List ℕ) → IsTrue (is_proper_front bytes) → Runs nothing bytes (front bytes)
Runs-front [] h = absurd (both_ways (is_proper_front []) is_proper_front-nil h)
Runs-front (a ∷ x) h =
    Runs-append nothing (front (a ∷ [])) (front (a ∷ x)) (a ∷ []) x
    (Runs-one nothing a (front (a ∷ [])) (begin_front a (is_lead-front a x (is_front-proper (a ∷ x) h))))
    (Runs-each (λ y. front (a ∷ y)) (is_within 0x80 0xBF) (λ y. IsTrue (is_proper_front (a ∷ y)))
    (λ p y s. is_proper_front-prefix a p y s) (λ p b t s. grow-front_part (a ∷ p) b s)
    [] x (EachIs-front a x (is_front-proper (a ∷ x) h)) h)

-- the text of each open item that can come about
pub Runs-open : (o : Open) → IsOpen o → Runs nothing (open_text o) o
Runs-open nothing h = record { none = refl; reaches = refl }
Runs-open (front bytes) h = Runs-front bytes h
Runs-open (inside body) h = Runs-body body h
