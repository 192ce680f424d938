-- No definition, but proofs: the language wants those of a trait's laws among the specs.
-- Characters that a writer of safe text takes one after another are one list of characters.
use Rattle.std.specs.Str.{encode_utf8_all}
use Rattle.std.proofs.Common.{◌≡◌, ℕ, ◌<◌, ⊎_elim, arith, Bool, true, false, List, [], ◌∷◌, ◌++◌, refl, sym, ap, ap₂, ◌∙◌, subst, append_assoc, append-nil}
use Rattle.std.specs.Prelude.{◌&&◌, ◌||◌, ◌==◌, not, if◌then◌else◌}
use Rattle.std.proofs.lemmas.Bool.{or_cases}
use Rattle.std.proofs.lemmas.Grind.{flat_map-append}
use Rattle.std.proofs.lemmas.Str.{encodes-append}
use Rattle.anstyle_parse.specs.declared.io.devices.Sink.{Ghosts as SinkOf}
use Rattle.anstyle_parse.specs.Stream.Bytes.{is_within}
use Rattle.anstyle_parse.specs.Stream.Call.{Call}
use Rattle.anstyle_parse.specs.Stream.Texts.{FollowsCalls}
use Rattle.anstyle_parse.specs.Io.Output.{Adds}
use Rattle.anstyle_parse.proofs.Characters.Encoding.{within_parts}
use Rattle.anstyle_parse.proofs.Written.Output.{Adds-nil, Adds-append}
use Rattle.safe_text.specs.declared.held.Held.{Held}
use Rattle.safe_text.specs.declared.held.Held.TheVariants.{Nothing, Return, Less, LessU, Space, NonJoiner, Joiner, TextSelector, EmojiSelector}
use Rattle.safe_text.specs.declared.performer.SafeWriter.{SafeWriter}
use Rattle.safe_text.specs.Classes.{is_shown, is_joiner, stays}
use Rattle.safe_text.specs.Plain.{is_plain}
use Rattle.safe_text.specs.Safe.{characters_of, characters, next_of, is_line_end, is_of_line_end, is_safe, written_as, written, last_as, last_written, safe_from}
use Rattle.safe_text.specs.Decided.{waits, is_decided, decided_from, waiting, last_from, undecided_from}
use Rattle.safe_text.specs.Held.{held_characters}
use Rattle.safe_text.specs.Writer.{output_of, before_in, held_in, text_by, text_from, ending_from, Takes}

-- plain text is ASCII
pub plain-low : (b : ℕ) → is_plain b ≡ true → b < 0x80
plain-low b is =
    ⊎_elim
    (λ either.
    ⊎_elim (λ h. let range = within_parts 0x09 0x0A b h in omega (arith, range.1)) (λ h. let range = within_parts 0x20 0x3B b h in omega (arith, range.1))
    (or_cases (is_within 0x09 0x0A b) (is_within 0x20 0x3B b) either))
    (λ h. let range = within_parts 0x3D 0x7E b h in omega (arith, range.1))
    (or_cases (is_within 0x09 0x0A b || is_within 0x20 0x3B b) (is_within 0x3D 0x7E b) is)

pub not-true : (t : Bool) → not t ≡ true → t ≡ false
not-true true is = sym is
not-true false is = refl

pub or-false : (s t : Bool) → (s || t) ≡ false → (s ≡ false) × (t ≡ false)
or-false true t is = absurd (cc is)
or-false false t is = (refl, is)

pub waits-parts : (c : ℕ) → waits c ≡ false → ((c == 0x0D) ≡ false) × ((c == 0x3C) ≡ false) × (is_joiner c ≡ false)
waits-parts c free =
    let a = or-false (c == 0x0D || c == 0x3C) (is_joiner c) free in
    let b = or-false (c == 0x0D) (c == 0x3C) a.0 in
    (b.0, b.1, a.1)

and-more : (s t u : Bool) → (s && t) ≡ false → (s && (t && u)) ≡ false
and-more true true u is = absurd (cc is)
and-more true false u is = refl
and-more false t u is = refl

-- one that does not wait is no joiner, so it stays nowhere
pub stays-none : (before c next : ℕ) → is_joiner c ≡ false → stays before c next ≡ false
unfolding is_joiner stays
stays-none before c next none =
    let f = or-false (c == 0x200B || c == 0x200C || c == 0x200D || c == 0xFE0E) (c == 0xFE0F) none in
    let e = or-false (c == 0x200B || c == 0x200C || c == 0x200D) (c == 0xFE0E) f.0 in
    let d = or-false (c == 0x200B || c == 0x200C) (c == 0x200D) e.0 in
    let b = or-false (c == 0x200B) (c == 0x200C) d.0 in
    rw (b.0, b.1, d.1, e.1, f.1) refl

pub safe-by : (before c : ℕ) (after : List ℕ) → (c == 0x3C) ≡ false → is_joiner c ≡ false → is_safe before c after ≡ (is_shown c && true || false)
safe-by before c after less none = rw (less, stays-none before c (next_of after) none) refl

-- what is decided stays so, whatever comes
same-tests : (before c : ℕ) (cs more : List ℕ) → is_decided c cs ≡ true
    → (is_of_line_end c (cs ++ more) ≡ is_of_line_end c cs) × (is_safe before c (cs ++ more) ≡ is_safe before c cs)
unfolding is_decided
same-tests before c [] more is =
    let parts = waits-parts c (not-true (waits c) is) in
    (ap (λ t. t && next_of more == 0x0A) parts.0 ∙ sym (ap (λ t. t && 0 == 0x0A) parts.0), safe-by before c more parts.1 parts.2 ∙ sym (safe-by before c [] parts.1 parts.2))
same-tests before c (u ∷ []) more is =
    let free = not-true (c == 0x3C && u == 0x55) is in
    let none : (after : List ℕ) → (c == 0x3C && (u == 0x55 && next_of after == 0x2B)) ≡ false = λ after. and-more (c == 0x3C) (u == 0x55) (next_of after == 0x2B) free in
    (refl, ap (λ t. is_shown c && not t || stays before c u) (none more ∙ sym (none [])))
same-tests before c (u ∷ v ∷ cs) more is = (refl, refl)

pub decided-more : (c : ℕ) (cs more : List ℕ) → is_decided c cs ≡ true → is_decided c (cs ++ more) ≡ true
unfolding is_decided
decided-more c [] [] is = is
decided-more c [] (u ∷ []) is =
    let parts = waits-parts c (not-true (waits c) is) in
    ap (λ t. not (t && u == 0x55)) parts.1
decided-more c [] (u ∷ v ∷ more) is = refl
decided-more c (u ∷ []) [] is = is
decided-more c (u ∷ []) (v ∷ more) is = refl
decided-more c (u ∷ v ∷ cs) more is = refl

pub written-more : (before c : ℕ) (cs more : List ℕ) → is_decided c cs ≡ true → written before c (cs ++ more) ≡ written before c cs
unfolding written
written-more before c cs more is =
    let same = same-tests before c cs more is in
    ap₂ (λ s t. written_as (is_line_end c) s t c) same.0 same.1

pub last_written-more : (before c : ℕ) (cs more : List ℕ) → is_decided c cs ≡ true → last_written before c (cs ++ more) ≡ last_written before c cs
unfolding last_written
last_written-more before c cs more is =
    let same = same-tests before c cs more is in
    ap₂ (λ s t. last_as (is_line_end c) s t before c) same.0 same.1

-- characters and then others
pub decided_from-append : (before : ℕ) (cs more : List ℕ)
    → decided_from before (cs ++ more) ≡ decided_from before cs ++ decided_from (last_from before cs) (waiting cs ++ more)
decided_from-append before [] more = refl
decided_from-append before (c ∷ cs) more = by (decided_from-append (last_written before c cs) cs more) (is_decided c cs) refl
  where
    by : decided_from (last_written before c cs) (cs ++ more) ≡ decided_from (last_written before c cs) cs ++ decided_from (last_from (last_written before c cs) cs) (waiting cs ++ more)
        → (t : Bool) → is_decided c cs ≡ t → decided_from before (c ∷ (cs ++ more))
        ≡ (if t then written before c cs ++ decided_from (last_written before c cs) cs else [])
        ++ decided_from (if t then last_from (last_written before c cs) cs else before) ((if t then waiting cs else c ∷ cs) ++ more)
    by rest true is =
        rw (decided-more c cs more is, written-more before c cs more is, last_written-more before c cs more is)
        (ap (λ l. written before c cs ++ l) rest
        ∙ sym (append_assoc (written before c cs) (decided_from (last_written before c cs) cs) (decided_from (last_from (last_written before c cs) cs) (waiting cs ++ more))))
    by rest false is = refl

pub waiting-append : (cs more : List ℕ) → waiting (cs ++ more) ≡ waiting (waiting cs ++ more)
waiting-append [] more = refl
waiting-append (c ∷ cs) more = by (waiting-append cs more) (is_decided c cs) refl
  where
    by : waiting (cs ++ more) ≡ waiting (waiting cs ++ more) → (t : Bool) → is_decided c cs ≡ t
        → waiting (c ∷ (cs ++ more)) ≡ waiting ((if t then waiting cs else c ∷ cs) ++ more)
    by rest true is = rw (decided-more c cs more is) rest
    by rest false is = refl

pub last_from-append : (before : ℕ) (cs more : List ℕ) → last_from before (cs ++ more) ≡ last_from (last_from before cs) (waiting cs ++ more)
last_from-append before [] more = refl
last_from-append before (c ∷ cs) more = by (last_from-append (last_written before c cs) cs more) (is_decided c cs) refl
  where
    by : last_from (last_written before c cs) (cs ++ more) ≡ last_from (last_from (last_written before c cs) cs) (waiting cs ++ more)
        → (t : Bool) → is_decided c cs ≡ t → last_from before (c ∷ (cs ++ more))
        ≡ last_from (if t then last_from (last_written before c cs) cs else before) ((if t then waiting cs else c ∷ cs) ++ more)
    by rest true is = rw (decided-more c cs more is, last_written-more before c cs more is) rest
    by rest false is = refl

-- the characters that are held wait
pub held-waits : (held : Held) (before : ℕ)
    → (decided_from before (held_characters held) ≡ []) × (waiting (held_characters held) ≡ held_characters held) × (last_from before (held_characters held) ≡ before)
unfolding is_decided is_joiner
held-waits Nothing before = (refl, refl, refl)
held-waits Return before = (refl, refl, refl)
held-waits Less before = (refl, refl, refl)
held-waits LessU before = (refl, refl, refl)
held-waits Space before = (refl, refl, refl)
held-waits NonJoiner before = (refl, refl, refl)
held-waits Joiner before = (refl, refl, refl)
held-waits TextSelector before = (refl, refl, refl)
held-waits EmojiSelector before = (refl, refl, refl)

module _ {W : Type 0} (sink : SinkOf W) where
  pub Takes-none : (performer : SafeWriter W) → Takes sink performer [] performer
  Takes-none performer =
      let at = held-waits performer.held (before_in performer) in
      let end : held_in performer ++ [] ≡ held_in performer = append-nil (held_in performer) in
      record {
        added = subst (λ t. Adds sink t (output_of performer) (output_of performer))
            (sym (ap encode_utf8_all (ap (decided_from (before_in performer)) end ∙ at.0))) (Adds-nil sink (output_of performer));
        before = sym (ap (last_from (before_in performer)) end ∙ at.2);
        held = sym (ap waiting end ∙ at.1);
      }

  -- also where the output hands on what its writer holds back
  pub Takes-passed : (old new : SafeWriter W) → before_in new ≡ before_in old → held_in new ≡ held_in old → Adds sink [] (output_of old) (output_of new) → Takes sink old [] new
  Takes-passed old new before held added =
      let none = Takes-none old in
      let at = held-waits old.held (before_in old) in
      record {
        added = subst (λ t. Adds sink t (output_of old) (output_of new))
            (sym (ap encode_utf8_all (ap (decided_from (before_in old)) (append-nil (held_in old)) ∙ at.0))) added;
        before = before ∙ none.before;
        held = held ∙ none.held;
      }

  pub Takes-append : (old middle new : SafeWriter W) (cs more : List ℕ) → Takes sink old cs middle → Takes sink middle more new → Takes sink old (cs ++ more) new
  Takes-append old middle new cs more first second =
      let l : List ℕ = held_in old ++ cs in
      let joined : held_in old ++ (cs ++ more) ≡ l ++ more = sym (append_assoc (held_in old) cs more) in
      record {
        added = subst (λ t. Adds sink t (output_of old) (output_of new))
            (sym (ap encode_utf8_all (ap (decided_from (before_in old)) joined ∙ decided_from-append (before_in old) l more)
            ∙ encodes-append (decided_from (before_in old) l) (decided_from (last_from (before_in old) l) (waiting l ++ more))))
            (Adds-append sink (text_by old cs) (encode_utf8_all (decided_from (last_from (before_in old) l) (waiting l ++ more))) (output_of old) (output_of middle) (output_of new) first.added
            (subst (λ t. Adds sink t (output_of middle) (output_of new))
            (ap₂ (λ b h. encode_utf8_all (decided_from b (h ++ more))) first.before first.held) second.added));
        before = second.before
            ∙ (ap₂ (λ b h. last_from b (h ++ more)) first.before first.held
            ∙ (sym (last_from-append (before_in old) l more) ∙ ap (last_from (before_in old)) (sym joined)));
        held = second.held ∙ (ap (λ h. waiting (h ++ more)) first.held ∙ (sym (waiting-append l more) ∙ ap waiting (sym joined)));
      }

  -- by calls
  pub TakesCalls-one : (old : SafeWriter W) (call : Call) (new : SafeWriter W) → Takes sink old (characters_of call) new → Takes sink old (characters (call ∷ [])) new
  TakesCalls-one old call new takes = subst (λ cs. Takes sink old cs new) (sym (append-nil (characters_of call))) takes

  pub TakesCalls-more : (old middle new : SafeWriter W) (calls more : List Call) → Takes sink old (characters calls) middle → Takes sink middle (characters more) new
      → Takes sink old (characters (calls ++ more)) new
  TakesCalls-more old middle new calls more first second =
      subst (λ cs. Takes sink old cs new) (sym (flat_map-append characters_of calls more))
      (Takes-append old middle new (characters calls) (characters more) first second)

  -- what lists of calls do to it agrees with what each call means
  pub TakesCalls-follows : FollowsCalls (λ (old : SafeWriter W) call new. Takes sink old (characters_of call) new)
      (λ old calls new. Takes sink old (characters calls) new)
  TakesCalls-follows = record { none = Takes-none; one = TakesCalls-one; more = TakesCalls-more }

  -- what is then to be written at the end
  pub ends-taken : (old : SafeWriter W) (calls : List Call) (new : SafeWriter W) → Takes sink old (characters calls) new → ending_from new [] ≡ ending_from old calls
  ends-taken old calls new takes =
      let at = held-waits new.held (before_in new) in
      let end : held_in new ++ [] ≡ held_in new = append-nil (held_in new) in
      ap (λ l. encode_utf8_all (undecided_from (before_in new) l)) end
      ∙ (ap₂ (λ b h. encode_utf8_all (safe_from b h)) at.2 at.1
      ∙ ap₂ (λ b h. encode_utf8_all (safe_from b h)) takes.before takes.held)

-- one that has received no call
pub text_of-new : {W : Type 0} (performer : SafeWriter W) → before_in performer ≡ 0 → held_in performer ≡ []
    → (calls : List Call) → text_from performer calls ≡ encode_utf8_all (decided_from 0 (characters calls))
text_of-new performer before held calls = ap₂ (λ b h. encode_utf8_all (decided_from b (h ++ characters calls))) before held

pub ending_of-new : {W : Type 0} (performer : SafeWriter W) → before_in performer ≡ 0 → held_in performer ≡ []
    → (calls : List Call) → ending_from performer calls ≡ encode_utf8_all (undecided_from 0 (characters calls))
ending_of-new performer before held calls = ap₂ (λ b h. encode_utf8_all (undecided_from b (h ++ characters calls))) before held
