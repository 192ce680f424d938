-- Where all keys are told, the bytes of a key say which it is, and what is held.
use Rattle.std.proofs.Common.{◌≡◌, ◌≢◌, ℕ, ◌^◌, ◌<◌, ◌≤◌, Bool, true, false, not, ◌&&◌, ◌||◌, List, [], ◌∷◌, ◌++◌, refl, sym, ap, ◌∙◌, eqb, arith, lit<, lit≤}
use Rattle.std.specs.Prelude.{Option, Some, if◌then◌else◌}
use Rattle.std.proofs.lemmas.Bool.{and_parts, cond_both, eqb-true}
use Rattle.terminal_keys.specs.declared.key.Key.{Key}
use Rattle.terminal_keys.specs.declared.key.Key.TheVariants.{Character}
use Rattle.terminal_keys.specs.declared.key.Event.{Event}
use Rattle.terminal_keys.specs.declared.key.Event.TheVariants.{Press, Repeat, Release}
use Rattle.terminal_keys.specs.declared.key.Modifiers.{Modifiers}
use Rattle.terminal_keys.specs.declared.key.Stroke.{Stroke}
use Rattle.terminal_keys.specs.declared.modes.Flags.{Flags}
use Rattle.terminal_keys.specs.declared.modes.KeyModes.{KeyModes}
use Rattle.terminal_keys.specs.declared.text.Sequence.{Sequence}
use Rattle.terminal_keys.specs.declared.text.KeyText.TheVariants.{Nothing, Control}
use Rattle.terminal_keys.specs.Keys.{is_typed, is_key, is_plain, is_release, number_of_event, number_of_modifiers}
use Rattle.terminal_keys.specs.Modes.{is_enhanced}
use Rattle.terminal_keys.specs.Tables.{plain_key}
use Rattle.terminal_keys.specs.Text.{part, is_short, number_text, has_second, second_text, sequence_text, key_bytes, told_event as event_text}
use Rattle.terminal_keys.specs.Legacy.{legacy}
use Rattle.terminal_keys.specs.Enhanced.{is_line_key, is_character_key, is_press, is_told_by, is_as_before, told_key, asked_shifted, told_shifted, types, told_modifiers, sequence_of, enhanced, key_text}
use Rattle.terminal_keys.specs.Laws.{is_own, TellsAll, AreApart}
use Rattle.terminal_keys.proofs.SequenceLemmas.{body, IsBody, body-once}
use Rattle.terminal_keys.proofs.ModifierLemmas.{modifiers-few, modifiers-once}
use Rattle.terminal_keys.proofs.CodeLemmas.{key-read, code-once, typed-few}

-- a sequence that tells no text
bare-text : (s : Sequence) → s.text ≡ 0
    → sequence_text s ≡ 0x1B ∷ 0x5B ∷ body (is_short s) (has_second s) s.number s.shifted s.modifiers (event_text s) s.last
bare-text s e =
    ap (λ t. 0x1B ∷ 0x5B ∷ (number_text s ++ (part 0x3A s.shifted ++ ((if has_second s then second_text s else if eqb t 0 then [] else 0x3B ∷ [])
    ++ (part 0x3B t ++ s.last ∷ []))))) e

clash : (b : Bool) → b ≡ true → b ≡ false → ⊥
clash b holds fails = cc

-- what has to hold for a test to come out so
must : (b : Bool) (test : Bool → Bool) → test false ≡ false → test b ≡ true → b ≡ true
must true test fails holds = refl
must false test fails holds = absurd (clash (test false) holds fails)

must_not : (b : Bool) (test : Bool → Bool) → test false ≡ true → test b ≡ false → b ≡ true
must_not true test holds fails = refl
must_not false test holds fails = absurd (clash (test false) holds fails)

short-one : (n h m e t : ℕ) → (eqb n 1 && eqb h 0 && eqb m 1 && eqb e 1 && eqb t 0) ≡ true → n ≡ 1
short-one n h m e t holds = eqb-true n 1 (must (eqb n 1) (λ b. b && eqb h 0 && eqb m 1 && eqb e 1 && eqb t 0) refl holds)

second-one : (m e : ℕ) → (not (eqb m 1) || not (eqb e 1)) ≡ false → m ≡ 1
second-one m e fails = eqb-true m 1 (must_not (eqb m 1) (λ b. not b || not (eqb e 1)) refl fails)

shifted-few : (key : Key) (shifted : Option ℕ) (asked : Bool) → asked_shifted key shifted asked < 2 ^ 64
shifted-few (Character c) (Some x) asked =
    cond_both (asked && is_typed x) x 0 (λ n. n < 2 ^ 64) (λ e. omega (arith, typed-few x (and_parts asked (is_typed x) e).1)) (λ e. lit< tt)
shifted-few key shifted asked = lit< tt

event-few : (e : Event) (told : Bool) → (if told then number_of_event e else 1) ≤ 3
event-few Press true = lit≤ tt
event-few Repeat true = lit≤ tt
event-few Release true = lit≤ tt
event-few e false = lit≤ tt

part-few : (e : ℕ) → e ≤ 3 → (if eqb e 1 then 0 else e) < 2 ^ 64
part-few e h = elim (eqb e 1) as (λ b. (if b then 0 else e) < 2 ^ 64) [ true ↦ lit< tt | false ↦ omega (arith, h) ]

told-few : (m : Modifiers) (types : Bool) → told_modifiers m types < 2 ^ 64
told-few m true = omega (arith, modifiers-few (record m { caps_lock = false; num_lock = false }))
told-few m false = omega (arith, modifiers-few m)

sequence-body : (s : Stroke) (flags : Flags) → is_own s.key ≡ true
    → let q = sequence_of s.key s flags in IsBody (is_short q) (has_second q) q.number q.shifted q.modifiers (event_text q) q.last
unfolding told_shifted
sequence-body s flags own =
    let q = sequence_of s.key s flags in
    let r = key-read s.key own in
    record {
      few = r.fits;
      few_shifted = shifted-few s.key s.shifted (flags.alternates && s.modifiers.shift);
      few_modifiers = told-few s.modifiers (not flags.all && (is_line_key s.key || is_character_key s.key));
      few_events = part-few q.event (event-few s.event flags.events);
      final = r.final;
      one = λ e. short-one q.number q.shifted q.modifiers q.event q.text e;
      none = λ e. second-one q.modifiers q.event e;
    }

no-text : (a b c d : Bool) (n : ℕ) → b ≡ false → (if a && b && c && d then n else 0) ≡ 0
no-text true b c d n e = ap (λ x. if x && c && d then n else 0) e
no-text false b c d n e = refl

-- each key is told
told : (s : Stroke) (modes : KeyModes) → TellsAll modes → key_bytes (key_text s modes) ≢ []
    → key_text s modes ≡ Control (sequence_of s.key s modes.flags)
told s modes tells some =
    let flags = modes.flags in
    let before = legacy s.key s modes 0 in
    let plain = legacy s.key s modes (if is_enhanced flags then 0 else modes.other_keys) in
    let all : (if is_told_by flags s.event then enhanced s modes else plain) ≡ Control (sequence_of s.key s flags) =
    ap (λ b. if b || flags.disambiguates || (flags.events && not (is_press s.event)) then enhanced s modes else plain) tells.all
    ∙ (ap (λ b. if not b && not (is_release s.event) && is_as_before (told_key s.key flags) s then before
    else if not b && is_release s.event && is_line_key (told_key s.key flags) then Nothing
    else Control (sequence_of (told_key s.key flags) s flags)) tells.all
    ∙ ap (λ b. Control (sequence_of (if b then s.key else plain_key s.key) s flags)) tells.apart) in
    (elim (not (is_key s.key) || (is_release s.event && not flags.events))
    as (λ b. key_bytes (if b then Nothing else if is_told_by flags s.event then enhanced s modes else plain) ≢ []
    → (if b then Nothing else if is_told_by flags s.event then enhanced s modes else plain) ≡ Control (sequence_of s.key s flags))
    [ true ↦ λ h. absurd (h refl) | false ↦ λ h. all ]) some

whole-number : (s : Stroke) (modes : KeyModes) → TellsAll modes → (sequence_of s.key s modes.flags).modifiers ≡ number_of_modifiers s.modifiers
whole-number s modes tells =
    ap (λ b. told_modifiers s.modifiers (not b && (is_line_key s.key || is_character_key s.key))) tells.all

sequence-text : (s : Stroke) (modes : KeyModes) → TellsAll modes
    → let q = sequence_of s.key s modes.flags in
    key_bytes (Control q) ≡ 0x1B ∷ 0x5B ∷ body (is_short q) (has_second q) q.number q.shifted q.modifiers (event_text q) q.last
sequence-text s modes tells =
    bare-text (sequence_of s.key s modes.flags)
    (no-text modes.flags.all modes.flags.text (is_plain s.modifiers) (not (is_release s.event)) (types s.key s) tells.bare)

same_body : (a b : List ℕ) → ◌≡◌ {A = List ℕ} (0x1B ∷ 0x5B ∷ a) (0x1B ∷ 0x5B ∷ b) → a ≡ b
same_body a b e = cc

pub keys-apart : (modes : KeyModes) (s t : Stroke) → TellsAll modes → is_own s.key ≡ true → is_own t.key ≡ true → AreApart modes s t
keys-apart modes s t tells own_s own_t = λ some same.
    let q = sequence_of s.key s modes.flags in
    let r = sequence_of t.key t modes.flags in
    let also : key_bytes (key_text t modes) ≢ [] = λ none. some (same ∙ none) in
    let texts : key_bytes (Control q) ≡ key_bytes (Control r) =
    ap key_bytes (sym (told s modes tells some)) ∙ (same ∙ ap key_bytes (told t modes tells also)) in
    let bodies = same_body (body (is_short q) (has_second q) q.number q.shifted q.modifiers (event_text q) q.last)
    (body (is_short r) (has_second r) r.number r.shifted r.modifiers (event_text r) r.last)
    (sym (sequence-text s modes tells) ∙ (texts ∙ sequence-text t modes tells)) in
    let one = body-once (is_short q) (is_short r) (has_second q) (has_second r) q.number r.number q.shifted r.shifted q.modifiers r.modifiers
    (event_text q) (event_text r) q.last r.last (sequence-body s modes.flags own_s) (sequence-body t modes.flags own_t) bodies in (
      code-once s.key t.key own_s own_t one.numbers one.lasts,
      modifiers-once s.modifiers t.modifiers (sym (whole-number s modes tells) ∙ (one.held ∙ whole-number t modes tells)),
    )
