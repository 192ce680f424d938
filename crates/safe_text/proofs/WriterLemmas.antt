-- How single characters are written, and what a writer does with them.
use Rattle.std.proofs.Common.{◌≡◌, ℕ, Bool, true, false, eqb-true, List, [], ◌∷◌, ◌++◌, refl, sym, ap, ap₂, ◌∙◌, subst, ⊎_elim, append-nil, append_assoc}
use Rattle.std.specs.Prelude.{not, ◌==◌, ◌&&◌, ◌||◌, encode_utf8, if◌then◌else◌}
use Rattle.std.specs.Str.{encode_utf8_all}
use Rattle.std.proofs.lemmas.Bool.{or_cases}
use Rattle.std.proofs.lemmas.Str.{encodes-append}
use Rattle.anstyle_parse.specs.declared.io.devices.Sink.{Ghosts as SinkOf}
use Rattle.anstyle_parse.specs.Io.Output.{Adds}
use Rattle.anstyle_parse.proofs.Written.Output.{Adds-nil, Adds-append}
use Rattle.safe_text.specs.declared.held.Held.{Held}
use Rattle.safe_text.specs.declared.held.Held.TheVariants.{Nothing, Return, Less, LessU, Space, NonJoiner, Joiner, TextSelector, EmojiSelector}
use Rattle.safe_text.specs.declared.performer.SafeWriter.{SafeWriter}
use Rattle.safe_text.specs.Classes.{is_among, is_shown, is_joiner, space_stays, non_joiner_stays, joiner_stays, selector_stays, stays}
use Rattle.safe_text.specs.Safe.{visible, next_of, is_line_end, is_of_line_end, is_safe, written, last_written, safe_from}
use Rattle.safe_text.specs.Decided.{waits, is_decided, decided_from, waiting, last_from, undecided_from, written_before, last_before}
use Rattle.safe_text.specs.Marks.{mark_of}
use Rattle.safe_text.specs.Held.{held_characters, goes_on}
use Rattle.safe_text.specs.TakingProof.{safe-by, waits-parts, held-waits}
use Rattle.safe_text.specs.Writer.{output_of, before_in, held_in, ending_from, Takes, Releases}
use Rattle.safe_text.proofs.VisibleLemmas.{encode-visible}

-- what is written of one character, by the tests
module _ (before c : ℕ) (after : List ℕ) where
  pub written-line_end : is_line_end c ≡ true → (written before c after ≡ 0x0A ∷ []) × (last_written before c after ≡ 0x0A)
  unfolding written last_written
  written-line_end ends = rw ends (refl, refl)

  pub written-nothing : is_line_end c ≡ false → is_of_line_end c after ≡ true → (written before c after ≡ []) × (last_written before c after ≡ before)
  unfolding written last_written
  written-nothing ends gone = rw (ends, gone) (refl, refl)

  pub written-safe : is_line_end c ≡ false → is_of_line_end c after ≡ false → is_safe before c after ≡ true
      → (written before c after ≡ c ∷ []) × (last_written before c after ≡ c)
  unfolding written last_written
  written-safe ends gone safe = rw (ends, gone, safe) (refl, refl)

  pub written-visible : is_line_end c ≡ false → is_of_line_end c after ≡ false → is_safe before c after ≡ false
      → (written before c after ≡ visible c) × (last_written before c after ≡ 0x3E)
  unfolding written last_written
  written-visible ends gone safe = rw (ends, gone, safe) (refl, refl)

-- one that is a joiner
joiner-is : (P : ℕ → Type 0) → P 0x200B → P 0x200C → P 0x200D → P 0xFE0E → P 0xFE0F → (c : ℕ) → is_joiner c ≡ true → P c
unfolding is_joiner
joiner-is P a b d e f c is =
    let at : (k : ℕ) → P k → (c == k) ≡ true → P c = λ k p same. subst P (sym (eqb-true c k same)) p in
    ⊎_elim
    (λ h. ⊎_elim (λ i. ⊎_elim (λ j. ⊎_elim (at 0x200B a) (at 0x200C b) (or_cases (c == 0x200B) (c == 0x200C) j)) (at 0x200D d) (or_cases (c == 0x200B || c == 0x200C) (c == 0x200D) i)) (at 0xFE0E e)
    (or_cases (c == 0x200B || c == 0x200C || c == 0x200D) (c == 0xFE0E) h))
    (at 0xFE0F f)
    (or_cases (c == 0x200B || c == 0x200C || c == 0x200D || c == 0xFE0E) (c == 0xFE0F) is)

joiner-parts : (c : ℕ) → is_joiner c ≡ true → (is_line_end c ≡ false) × ((c == 0x0D) ≡ false) × (is_shown c ≡ false)
unfolding is_shown is_among
joiner-parts c is =
    joiner-is (λ c. (is_line_end c ≡ false) × ((c == 0x0D) ≡ false) × (is_shown c ≡ false)) (refl, refl, refl) (refl, refl, refl) (refl, refl, refl) (refl, refl, refl) (refl, refl, refl) c is

pub joiner-safe : (before c : ℕ) (after : List ℕ) → is_joiner c ≡ true → is_safe before c after ≡ stays before c (next_of after)
joiner-safe before c after is = rw (joiner-parts c is).2 refl

-- a text of one character
encode-one : (c : ℕ) → encode_utf8_all (c ∷ []) ≡ encode_utf8 c
encode-one c = append-nil (encode_utf8 c)

module _ {W : Type 0} (sink : SinkOf W) (old new : SafeWriter W) (n : ℕ) where
  -- one character that waits is written as it is, or visibly
  one-released : (c : ℕ) (text : List ℕ) (last : ℕ) → held_in old ≡ c ∷ [] → (written (before_in old) c (n ∷ []) ≡ text) × (last_written (before_in old) c (n ∷ []) ≡ last)
      → held_in new ≡ [] → before_in new ≡ last → Adds sink (encode_utf8_all text) (output_of old) (output_of new) → Releases sink old (n ∷ []) new
  one-released c text last held is nothing before added = record {
    added = subst (λ t. Adds sink t (output_of old) (output_of new))
        (sym (ap (λ h. encode_utf8_all (written_before (before_in old) h (n ∷ []))) held ∙ ap encode_utf8_all (append-nil (written (before_in old) c (n ∷ [])) ∙ is.0))) added;
    before = before ∙ sym (ap (λ h. last_before (before_in old) h (n ∷ [])) held ∙ is.1);
    held = nothing;
  }

  -- A carriage return,
  pub return-gone : (n == 0x0A) ≡ true → held_in old ≡ 0x0D ∷ [] → held_in new ≡ [] → before_in new ≡ before_in old → output_of new ≡ output_of old → Releases sink old (n ∷ []) new
  return-gone feed held nothing before same =
      one-released 0x0D [] (before_in old) held (written-nothing (before_in old) 0x0D (n ∷ []) refl feed) nothing before
      (subst (λ o. Adds sink [] (output_of old) o) (sym same) (Adds-nil sink (output_of old)))

  pub return-visible : (n == 0x0A) ≡ false → held_in old ≡ 0x0D ∷ [] → held_in new ≡ [] → before_in new ≡ 0x3E → Adds sink (visible 0x0D) (output_of old) (output_of new) → Releases sink old (n ∷ []) new
  unfolding is_shown is_among stays
  return-visible feed held nothing before added =
      one-released 0x0D (visible 0x0D) 0x3E held (written-visible (before_in old) 0x0D (n ∷ []) refl feed refl) nothing before
      (subst (λ t. Adds sink t (output_of old) (output_of new)) (sym (encode-visible 0x0D)) added)

  -- `<`,
  no_mark : (s : Bool) → (s && false) ≡ false
  no_mark true = refl
  no_mark false = refl

  pub less-released : held_in old ≡ 0x3C ∷ [] → held_in new ≡ [] → before_in new ≡ 0x3C → Adds sink (encode_utf8 0x3C) (output_of old) (output_of new) → Releases sink old (n ∷ []) new
  unfolding is_shown is_among stays
  less-released held nothing before added =
      one-released 0x3C (0x3C ∷ []) 0x3C held
      (written-safe (before_in old) 0x3C (n ∷ []) refl refl (ap (λ t. not t || false) (no_mark (n == 0x55))))
      nothing before (subst (λ t. Adds sink t (output_of old) (output_of new)) (sym (encode-one 0x3C)) added)

  -- a joiner,
  pub joiner-released : (c : ℕ) (kept : Bool) → is_joiner c ≡ true → stays (before_in old) c n ≡ kept → held_in old ≡ c ∷ [] → held_in new ≡ []
      → before_in new ≡ (if not kept then 0x3E else c) → Adds sink (if not kept then visible c else encode_utf8 c) (output_of old) (output_of new) → Releases sink old (n ∷ []) new
  joiner-released c true is stays_there held nothing before added =
      let parts = joiner-parts c is in
      one-released c (c ∷ []) c held
      (written-safe (before_in old) c (n ∷ []) parts.0 (ap (λ t. t && n == 0x0A) parts.1) (joiner-safe (before_in old) c (n ∷ []) is ∙ stays_there)) nothing before
      (subst (λ t. Adds sink t (output_of old) (output_of new)) (sym (encode-one c)) added)
  joiner-released c false is stays_there held nothing before added =
      let parts = joiner-parts c is in
      one-released c (visible c) 0x3E held
      (written-visible (before_in old) c (n ∷ []) parts.0 (ap (λ t. t && n == 0x0A) parts.1) (joiner-safe (before_in old) c (n ∷ []) is ∙ stays_there)) nothing before
      (subst (λ t. Adds sink t (output_of old) (output_of new)) (sym (encode-visible c)) added)

-- and `<U`.
less_u-written : (before n : ℕ) (plus : Bool) → (n == 0x2B) ≡ plus
    → (written_before before (0x3C ∷ 0x55 ∷ []) (n ∷ []) ≡ (if plus then visible 0x3C else 0x3C ∷ []) ++ 0x55 ∷ []) × (last_before before (0x3C ∷ 0x55 ∷ []) (n ∷ []) ≡ 0x55)
unfolding written last_written is_shown is_among stays
less_u-written before n true is = rw is (refl, refl)
less_u-written before n false is = rw is (refl, refl)

encoded-less : (plus : Bool) → encode_utf8_all ((if plus then visible 0x3C else 0x3C ∷ []) ++ 0x55 ∷ []) ≡ (if plus then visible 0x3C else encode_utf8 0x3C) ++ encode_utf8 0x55
encoded-less true = encodes-append (visible 0x3C) (0x55 ∷ []) ∙ ap₂ (λ t u. t ++ u) (encode-visible 0x3C) (encode-one 0x55)
encoded-less false = ap (λ t. encode_utf8 0x3C ++ t) (encode-one 0x55)

module _ {W : Type 0} (sink : SinkOf W) (old middle new : SafeWriter W) (n : ℕ) where
  pub less_u-released : (plus : Bool) → (n == 0x2B) ≡ plus → held_in old ≡ 0x3C ∷ 0x55 ∷ [] → held_in new ≡ [] → before_in new ≡ 0x55
      → Adds sink (if plus then visible 0x3C else encode_utf8 0x3C) (output_of old) (output_of middle) → Adds sink (encode_utf8 0x55) (output_of middle) (output_of new) → Releases sink old (n ∷ []) new
  less_u-released plus is held nothing before first second =
      let all = less_u-written (before_in old) n plus is in
      record {
        added = subst (λ t. Adds sink t (output_of old) (output_of new))
            (sym (ap (λ h. encode_utf8_all (written_before (before_in old) h (n ∷ []))) held ∙ (ap encode_utf8_all all.0 ∙ encoded-less plus)))
            (Adds-append sink (if plus then visible 0x3C else encode_utf8 0x3C) (encode_utf8 0x55) (output_of old) (output_of middle) (output_of new) first second);
        before = before ∙ sym (ap (λ h. last_before (before_in old) h (n ∷ [])) held ∙ all.1);
        held = nothing;
      }

-- a character that comes where none waits
module _ {W : Type 0} (sink : SinkOf W) (old new : SafeWriter W) (c : ℕ) (nothing : held_in old ≡ []) where
  free-taken : (text : List ℕ) (last : ℕ) → waits c ≡ false → (written (before_in old) c [] ≡ text) × (last_written (before_in old) c [] ≡ last)
      → held_in new ≡ held_in old → before_in new ≡ last → Adds sink (encode_utf8_all text) (output_of old) (output_of new) → Takes sink old (c ∷ []) new
  unfolding is_decided
  free-taken text last free is held before added =
      let at : held_in old ++ c ∷ [] ≡ c ∷ [] = ap (λ h. h ++ c ∷ []) nothing in
      let decided : is_decided c [] ≡ true = ap not free in
      let all : decided_from (before_in old) (c ∷ []) ≡ text = rw decided (append-nil (written (before_in old) c []) ∙ is.0) in
      let last_one : last_from (before_in old) (c ∷ []) ≡ last = rw decided is.1 in
      let none : waiting (c ∷ []) ≡ [] = rw decided refl in
      record {
        added = subst (λ t. Adds sink t (output_of old) (output_of new)) (sym (ap (λ l. encode_utf8_all (decided_from (before_in old) l)) at ∙ ap encode_utf8_all all)) added;
        before = before ∙ sym (ap (last_from (before_in old)) at ∙ last_one);
        held = held ∙ (nothing ∙ sym (ap waiting at ∙ none));
      }

  pub line_end-taken : waits c ≡ false → is_line_end c ≡ true → held_in new ≡ held_in old → before_in new ≡ 0x0A → Adds sink (encode_utf8 0x0A) (output_of old) (output_of new) → Takes sink old (c ∷ []) new
  line_end-taken free ends held before added =
      free-taken (0x0A ∷ []) 0x0A free (written-line_end (before_in old) c [] ends) held before
      (subst (λ t. Adds sink t (output_of old) (output_of new)) (sym (encode-one 0x0A)) added)

  free-safe : waits c ≡ false → (shown : Bool) → is_shown c ≡ shown → is_safe (before_in old) c [] ≡ shown
  free-safe free shown is =
      let parts = waits-parts c free in
      safe-by (before_in old) c [] parts.1 parts.2 ∙ (ap (λ t. t && true || false) is ∙ by shown)
    where
      by : (t : Bool) → (t && true || false) ≡ t
      by true = refl
      by false = refl

  pub shown-taken : waits c ≡ false → is_line_end c ≡ false → is_shown c ≡ true → held_in new ≡ held_in old → before_in new ≡ c → Adds sink (encode_utf8 c) (output_of old) (output_of new) → Takes sink old (c ∷ []) new
  shown-taken free ends shown held before added =
      let parts = waits-parts c free in
      free-taken (c ∷ []) c free (written-safe (before_in old) c [] ends (ap (λ t. t && false) parts.0) (free-safe free true shown)) held before
      (subst (λ t. Adds sink t (output_of old) (output_of new)) (sym (encode-one c)) added)

  pub hidden-taken : waits c ≡ false → is_line_end c ≡ false → is_shown c ≡ false → held_in new ≡ held_in old → before_in new ≡ 0x3E → Adds sink (visible c) (output_of old) (output_of new) → Takes sink old (c ∷ []) new
  hidden-taken free ends shown held before added =
      let parts = waits-parts c free in
      free-taken (visible c) 0x3E free (written-visible (before_in old) c [] ends (ap (λ t. t && false) parts.0) (free-safe free false shown)) held before
      (subst (λ t. Adds sink t (output_of old) (output_of new)) (sym (encode-visible c)) added)

  -- or waits
  pub held-taken : waits c ≡ true → held_in new ≡ c ∷ [] → before_in new ≡ before_in old → output_of new ≡ output_of old → Takes sink old (c ∷ []) new
  unfolding is_decided
  held-taken is held before same =
      let at : held_in old ++ c ∷ [] ≡ c ∷ [] = ap (λ h. h ++ c ∷ []) nothing in
      let undecided : is_decided c [] ≡ false = ap not is in
      let none : decided_from (before_in old) (c ∷ []) ≡ [] = rw undecided refl in
      let last_one : last_from (before_in old) (c ∷ []) ≡ before_in old = rw undecided refl in
      let one : waiting (c ∷ []) ≡ c ∷ [] = rw undecided refl in
      record {
        added = subst (λ t. Adds sink t (output_of old) (output_of new)) (sym (ap (λ l. encode_utf8_all (decided_from (before_in old) l)) at ∙ ap encode_utf8_all none))
            (subst (λ o. Adds sink [] (output_of old) o) (sym same) (Adds-nil sink (output_of old)));
        before = before ∙ sym (ap (last_from (before_in old)) at ∙ last_one);
        held = held ∙ sym (ap waiting at ∙ one);
      }

-- what waits is decided once another comes, but `<` before `U`
AllDecided : List ℕ → (after : List ℕ) → Type 0
AllDecided [] after = Unit {0}
AllDecided (c ∷ cs) after = (is_decided c (cs ++ after) ≡ true) × AllDecided cs after

decided-before : (before : ℕ) (cs after : List ℕ) → AllDecided cs after
    → (decided_from before (cs ++ after) ≡ written_before before cs after ++ decided_from (last_before before cs after) after)
    × (last_from before (cs ++ after) ≡ last_from (last_before before cs after) after) × (waiting (cs ++ after) ≡ waiting after)
unfolding AllDecided
decided-before before [] after all = (refl, refl, refl)
decided-before before (c ∷ cs) after all =
    let rest = decided-before (last_written before c (cs ++ after)) cs after all.1 in
    rw all.0 (
      ap (λ l. written before c (cs ++ after) ++ l) rest.0
          ∙ sym (append_assoc (written before c (cs ++ after)) (written_before (last_written before c (cs ++ after)) cs after)
          (decided_from (last_before (last_written before c (cs ++ after)) cs after) after)),
      rest.1,
      rest.2,
    )

held-decided : (held : Held) (c : ℕ) → goes_on held c ≡ false → AllDecided (held_characters held) (c ∷ [])
unfolding AllDecided is_decided
held-decided Nothing c not_on = tt
held-decided Return c not_on = (refl, tt)
held-decided Less c not_on = (ap not not_on, tt)
held-decided LessU c not_on = (refl, (refl, tt))
held-decided Space c not_on = (refl, tt)
held-decided NonJoiner c not_on = (refl, tt)
held-decided Joiner c not_on = (refl, tt)
held-decided TextSelector c not_on = (refl, tt)
held-decided EmojiSelector c not_on = (refl, tt)

-- and `<` before `U` waits with it
held-on : (held : Held) (before c : ℕ) → goes_on held c ≡ true
    → (decided_from before (held_characters held ++ c ∷ []) ≡ []) × (last_from before (held_characters held ++ c ∷ []) ≡ before) × (0x3C ∷ 0x55 ∷ [] ≡ waiting (held_characters held ++ c ∷ []))
unfolding is_decided is_joiner
held-on Less before c on = subst
    (λ u. (decided_from before (0x3C ∷ u ∷ []) ≡ []) × (last_from before (0x3C ∷ u ∷ []) ≡ before) × (0x3C ∷ 0x55 ∷ [] ≡ waiting (0x3C ∷ u ∷ [])))
    (sym (eqb-true c 0x55 on)) (refl, refl, refl)
held-on Nothing before c on = absurd (cc on)
held-on Return before c on = absurd (cc on)
held-on LessU before c on = absurd (cc on)
held-on Space before c on = absurd (cc on)
held-on NonJoiner before c on = absurd (cc on)
held-on Joiner before c on = absurd (cc on)
held-on TextSelector before c on = absurd (cc on)
held-on EmojiSelector before c on = absurd (cc on)

module _ {W : Type 0} (sink : SinkOf W) where
  pub less_u-taken : (old new : SafeWriter W) (c : ℕ) → goes_on old.held c ≡ true → held_in new ≡ 0x3C ∷ 0x55 ∷ [] → before_in new ≡ before_in old → output_of new ≡ output_of old → Takes sink old (c ∷ []) new
  less_u-taken old new c on held before same =
      let at = held-on old.held (before_in old) c on in
      record {
        added = subst (λ t. Adds sink t (output_of old) (output_of new)) (sym (ap encode_utf8_all at.0)) (subst (λ o. Adds sink [] (output_of old) o) (sym same) (Adds-nil sink (output_of old)));
        before = before ∙ sym at.1;
        held = held ∙ at.2;
      }

  -- what waits is written, and then the character is taken
  pub released-taken : (old middle new : SafeWriter W) (c : ℕ) → goes_on old.held c ≡ false → Releases sink old (c ∷ []) middle → Takes sink middle (c ∷ []) new → Takes sink old (c ∷ []) new
  released-taken old middle new c not_on first second =
      let at = decided-before (before_in old) (held_in old) (c ∷ []) (held-decided old.held c not_on) in
      let there : held_in middle ++ c ∷ [] ≡ c ∷ [] = ap (λ h. h ++ c ∷ []) first.held in
      record {
        added = subst (λ t. Adds sink t (output_of old) (output_of new))
            (sym (ap encode_utf8_all at.0 ∙ encodes-append (written_before (before_in old) (held_in old) (c ∷ [])) (decided_from (last_before (before_in old) (held_in old) (c ∷ [])) (c ∷ []))))
            (Adds-append sink (encode_utf8_all (written_before (before_in old) (held_in old) (c ∷ []))) (encode_utf8_all (decided_from (last_before (before_in old) (held_in old) (c ∷ [])) (c ∷ [])))
            (output_of old) (output_of middle) (output_of new) first.added
            (subst (λ t. Adds sink t (output_of middle) (output_of new)) (ap₂ (λ b l. encode_utf8_all (decided_from b l)) first.before there) second.added));
        before = second.before ∙ (ap₂ last_from first.before there ∙ sym at.1);
        held = second.held ∙ (ap waiting there ∙ sym at.2);
      }

-- a mark comes as no character would that a joiner, a carriage return or `<U` stays before
as-none : (held : Held) (before : ℕ) (hidden : Bool)
    → (written_before before (held_characters held) (mark_of hidden ∷ []) ≡ written_before before (held_characters held) (0 ∷ []))
    × (last_before before (held_characters held) (mark_of hidden ∷ []) ≡ last_before before (held_characters held) (0 ∷ []))
    × (goes_on held (mark_of hidden) ≡ false)
unfolding written last_written is_shown is_among stays space_stays non_joiner_stays joiner_stays selector_stays
as-none Nothing before hidden = (refl, refl, refl)
as-none Return before true = (refl, refl, refl)
as-none Return before false = (refl, refl, refl)
as-none Less before true = (refl, refl, refl)
as-none Less before false = (refl, refl, refl)
as-none LessU before true = (refl, refl, refl)
as-none LessU before false = (refl, refl, refl)
as-none Space before true = (refl, refl, refl)
as-none Space before false = (refl, refl, refl)
as-none NonJoiner before true = (refl, refl, refl)
as-none NonJoiner before false = (refl, refl, refl)
as-none Joiner before true = (refl, refl, refl)
as-none Joiner before false = (refl, refl, refl)
as-none TextSelector before true = (refl, refl, refl)
as-none TextSelector before false = (refl, refl, refl)
as-none EmojiSelector before true = (refl, refl, refl)
as-none EmojiSelector before false = (refl, refl, refl)

-- a mark waits for nothing, ends no line and does not show
mark-parts : (hidden : Bool) → (waits (mark_of hidden) ≡ false) × (is_line_end (mark_of hidden) ≡ false) × (is_shown (mark_of hidden) ≡ false)
unfolding is_shown is_among is_joiner
mark-parts true = (refl, refl, refl)
mark-parts false = (refl, refl, refl)

pub mark-taken : {W : Type 0} (sink : SinkOf W) (old middle new : SafeWriter W) (hidden : Bool) → Releases sink old (0 ∷ []) middle
    → held_in new ≡ held_in middle → before_in new ≡ 0x3E → Adds sink (visible (mark_of hidden)) (output_of middle) (output_of new) → Takes sink old (mark_of hidden ∷ []) new
mark-taken sink old middle new hidden released held before added =
    let same = as-none old.held (before_in old) hidden in
    let parts = mark-parts hidden in
    let then_released : Releases sink old (mark_of hidden ∷ []) middle =
    record {
      added = subst (λ l. Adds sink (encode_utf8_all l) (output_of old) (output_of middle)) (sym same.0) released.added;
      before = released.before ∙ sym same.1;
      held = released.held;
    } in
    released-taken sink old middle new (mark_of hidden) same.2 then_released
    (hidden-taken sink middle new (mark_of hidden) released.held parts.0 parts.1 parts.2 held before added)

-- at the end no more comes, and what waits is written
ending-held : (held : Held) (before : ℕ) → written_before before (held_characters held) (0 ∷ []) ≡ safe_from before (held_characters held)
unfolding written last_written is_shown is_among stays
ending-held Nothing before = refl
ending-held Return before = refl
ending-held Less before = refl
ending-held LessU before = refl
ending-held Space before = refl
ending-held NonJoiner before = refl
ending-held Joiner before = refl
ending-held TextSelector before = refl
ending-held EmojiSelector before = refl

pub ending-released : {W : Type 0} (sink : SinkOf W) (old new : SafeWriter W) → Releases sink old (0 ∷ []) new → Adds sink (ending_from old []) (output_of old) (output_of new)
ending-released sink old new releases =
    let at = held-waits old.held (before_in old) in
    let end : held_in old ++ [] ≡ held_in old = append-nil (held_in old) in
    subst (λ t. Adds sink t (output_of old) (output_of new))
    (sym (ap (λ l. encode_utf8_all (undecided_from (before_in old) l)) end
    ∙ (ap₂ (λ b h. encode_utf8_all (safe_from b h)) at.2 at.1 ∙ ap encode_utf8_all (sym (ending-held old.held (before_in old))))))
    releases.added
