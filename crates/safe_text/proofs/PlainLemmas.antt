-- Plain text is written as it is.
use Rattle.std.proofs.Common.{◌≡◌, ℕ, suc, ◌-◌, Bool, true, false, List, [], ◌∷◌, ◌++◌, length, eqb-true, refl, sym, ap, ◌∙◌, subst, arith}
use Rattle.std.specs.Prelude.{Some, slice_get, not, ◌==◌, ◌&&◌, ◌||◌}
use Rattle.std.specs.Str.{encode_utf8_all}
use Rattle.std.proofs.lemmas.Str.{encodes-IsAscii}
use Rattle.anstyle_parse.specs.declared.io.devices.Sink.{Ghosts as SinkOf}
use Rattle.anstyle_parse.specs.Stream.Bytes.{is_within}
use Rattle.anstyle_parse.specs.Stream.Items.{EachIs}
use Rattle.anstyle_parse.specs.Io.Output.{Adds}
use Rattle.anstyle_parse.proofs.Machine.Table.{same_below}
use Rattle.safe_text.specs.declared.performer.SafeWriter.{SafeWriter}
use Rattle.safe_text.specs.Classes.{is_among, is_shown, is_joiner}
use Rattle.safe_text.specs.Safe.{next_of, is_line_end, is_safe, written, last_written}
use Rattle.safe_text.specs.Decided.{waits, is_decided, decided_from, waiting, last_from}
use Rattle.safe_text.specs.Plain.{is_plain}
use Rattle.safe_text.specs.TakingProof.{plain-low, safe-by, waits-parts, not-true}
use Rattle.safe_text.specs.Writer.{output_of, before_in, held_in, Takes}
use Rattle.lanes.proofs.TextLemmas.{run-ascii}
use Rattle.safe_text.proofs.WriterLemmas.{written-line_end, written-safe}

-- so it is for each byte below 80
both-when : (s t : Bool) → s ≡ true → (s && not t) ≡ false → t ≡ true
both-when true true is none = refl
both-when true false is none = absurd (cc none)
both-when false t is none = absurd (cc is)

plain-shown : (c : ℕ) → is_plain c ≡ true → is_shown c ≡ true
unfolding is_within is_shown is_among
plain-shown c is = both-when (is_plain c) (is_shown c) is (same_below (λ n. is_plain n && not (is_shown n)) (λ n. false) 0x80 c refl (plain-low c is))

plain-free : (c : ℕ) → is_plain c ≡ true → waits c ≡ false
unfolding is_within is_joiner
plain-free c is =
    not-true (waits c) (both-when (is_plain c) (not (waits c)) is (same_below (λ n. is_plain n && not (not (waits n))) (λ n. false) 0x80 c refl (plain-low c is)))

-- a line feed is the only end of a line among it
plain-feed : (c : ℕ) → is_plain c ≡ true → is_line_end c ≡ true → c ≡ 0x0A
unfolding is_within
plain-feed c is ends =
    eqb-true c 0x0A
    (both-when (is_plain c && is_line_end c) (c == 0x0A) (rw (is, ends) refl)
    (same_below (λ n. (is_plain n && is_line_end n) && not (n == 0x0A)) (λ n. false) 0x80 c refl (plain-low c is)))

pub plain-written : (before c : ℕ) (after : List ℕ) → is_plain c ≡ true → (written before c after ≡ c ∷ []) × (last_written before c after ≡ c)
plain-written before c after is = by (is_line_end c) refl
  where
    parts : ((c == 0x0D) ≡ false) × ((c == 0x3C) ≡ false) × (is_joiner c ≡ false)
    parts = waits-parts c (plain-free c is)

    safe : is_safe before c after ≡ true
    safe = safe-by before c after parts.1 parts.2 ∙ ap (λ t. t && true || false) (plain-shown c is)

    by : (t : Bool) → is_line_end c ≡ t → (written before c after ≡ c ∷ []) × (last_written before c after ≡ c)
    by true ends =
        let feed = plain-feed c is ends in
        let at = written-line_end before c after ends in
        (at.0 ∙ ap (λ b. b ∷ []) (sym feed), at.1 ∙ sym feed)
    by false ends = written-safe before c after ends (ap (λ t. t && next_of after == 0x0A) parts.0) safe

plain-decided : (c : ℕ) (after : List ℕ) → is_plain c ≡ true → is_decided c after ≡ true
unfolding is_decided
plain-decided c [] is = ap not (plain-free c is)
plain-decided c (u ∷ []) is = ap (λ t. not (t && u == 0x55)) (waits-parts c (plain-free c is)).1
plain-decided c (u ∷ v ∷ after) is = refl

-- what is written last
abbrev pub last_of : ℕ → List ℕ → ℕ
last_of before [] = before
last_of before (c ∷ cs) = last_of c cs

pub plain-all : (before : ℕ) (text : List ℕ) → EachIs is_plain text
    → (decided_from before text ≡ text) × (last_from before text ≡ last_of before text) × (waiting text ≡ [])
plain-all before [] are = (refl, refl, refl)
plain-all before (c ∷ text) are =
    let rest = plain-all c text are.1 in
    let one = plain-written before c text are.0 in
    rw (plain-decided c text are.0, one.0, one.1) (ap (λ l. c ∷ l) rest.0, rest.1, rest.2)

module _ {W : Type 0} (sink : SinkOf W) (old new : SafeWriter W) (text : List ℕ) where
  pub plain-taken : held_in old ≡ [] → EachIs is_plain text → held_in new ≡ held_in old → before_in new ≡ last_of (before_in old) text → Adds sink text (output_of old) (output_of new) → Takes sink old text new
  plain-taken nothing are held before added =
      let at : held_in old ++ text ≡ text = ap (λ h. h ++ text) nothing in
      let all = plain-all (before_in old) text are in
      record {
        added = subst (λ t. Adds sink t (output_of old) (output_of new))
            (sym (ap (λ l. encode_utf8_all (decided_from (before_in old) l)) at ∙ (ap encode_utf8_all all.0 ∙ encodes-IsAscii text (run-ascii is_plain plain-low text are)))) added;
        before = before ∙ sym (ap (last_from (before_in old)) at ∙ all.1);
        held = held ∙ (nothing ∙ sym (ap waiting at ∙ all.2));
      }

-- the last byte of a text is written last
pub last-slice : (before : ℕ) (text : List ℕ) (x : ℕ) → Some x ≡ slice_get text (length text - 1) → x ≡ last_of before text
last-slice before [] x is = absurd (cc is)
last-slice before (c ∷ []) x is = cc
last-slice before (c ∷ d ∷ text) x is =
    let here : length (c ∷ d ∷ text) - 1 ≡ suc (length (d ∷ text) - 1) = omega arith in
    last-slice c (d ∷ text) x (is ∙ ap (slice_get (c ∷ d ∷ text)) here)
