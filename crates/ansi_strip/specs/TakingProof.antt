-- No definition, but proofs: the language wants those of a trait's laws among the specs.
-- Texts that a writer of lines takes one after another are one text.
use Rattle.std.proofs.Common.{◌≡◌, ℕ, Bool, true, false, List, [], ◌∷◌, ◌++◌, refl, sym, ap, ◌∙◌, subst, append_assoc, append-nil}
use Rattle.std.specs.Prelude.{◌==◌, if◌then◌else◌}
use Rattle.std.proofs.lemmas.Grind.{flat_map-append}
use Rattle.anstyle_parse.specs.declared.io.devices.Sink.{Ghosts as SinkOf}
use Rattle.anstyle_parse.specs.Stream.Call.{Call}
use Rattle.anstyle_parse.specs.Stream.Texts.{FollowsCalls}
use Rattle.anstyle_parse.specs.Io.Output.{Adds}
use Rattle.anstyle_parse.proofs.Written.Output.{Adds-nil, Adds-append}
use Rattle.ansi_strip.specs.declared.line_feeds.LineFeeds.{LineFeeds}
use Rattle.ansi_strip.specs.LineFeeds.{waiting, is_back, decided}
use Rattle.ansi_strip.specs.LineWriter.{output_of, held_in, text_from, ending_from, Takes}
use Rattle.ansi_strip.specs.Strip.{stripped_call, stripped}

-- a text and then another
pub decided-append : (text more : List ℕ) → decided (text ++ more) ≡ decided text ++ decided (waiting text ++ more)
decided-append [] more = refl
decided-append (byte ∷ []) more = by (byte == 0x0D) refl
  where
    by : (t : Bool) → byte == 0x0D ≡ t → decided (byte ∷ more) ≡ decided (byte ∷ []) ++ decided (waiting (byte ∷ []) ++ more)
    by true is = rw is refl
    by false is = at more
      where
        at : (more : List ℕ) → decided (byte ∷ more) ≡ decided (byte ∷ []) ++ decided (waiting (byte ∷ []) ++ more)
        at [] = rw is refl
        at (next ∷ more) = rw is refl
decided-append (byte ∷ next ∷ text) more = by (decided-append (next ∷ text) more) (is_back byte (next ∷ text))
  where
    rest : List ℕ
    rest = decided (waiting (next ∷ text) ++ more)

    by : decided (next ∷ (text ++ more)) ≡ decided (next ∷ text) ++ rest → (t : Bool)
        → (if t then decided (next ∷ (text ++ more)) else byte ∷ decided (next ∷ (text ++ more)))
        ≡ (if t then decided (next ∷ text) else byte ∷ decided (next ∷ text)) ++ rest
    by joined true = joined
    by joined false = ap (λ l. byte ∷ l) joined

pub waiting-append : (text more : List ℕ) → waiting (text ++ more) ≡ waiting (waiting text ++ more)
waiting-append [] more = refl
waiting-append (byte ∷ []) more = by (byte == 0x0D) refl
  where
    by : (t : Bool) → byte == 0x0D ≡ t → waiting (byte ∷ more) ≡ waiting (waiting (byte ∷ []) ++ more)
    by true is = rw is refl
    by false is = at more
      where
        at : (more : List ℕ) → waiting (byte ∷ more) ≡ waiting (waiting (byte ∷ []) ++ more)
        at [] = rw is refl
        at (next ∷ more) = rw is refl
waiting-append (byte ∷ next ∷ text) more = waiting-append (next ∷ text) more

-- what is held waits
pub held-waits : {W : Type 0} (performer : LineFeeds W) → (decided (held_in performer) ≡ []) × (waiting (held_in performer) ≡ held_in performer)
held-waits performer = by performer.waits
  where
    by : (t : Bool) → (decided (if t then 0x0D ∷ [] else []) ≡ []) × (waiting (if t then 0x0D ∷ [] else []) ≡ (if t then 0x0D ∷ [] else []))
    by true = (refl, refl)
    by false = (refl, refl)

module _ {W : Type 0} (sink : SinkOf W) where
  -- none, also where the output hands on what its writer holds back
  pub Takes-passed : (old new : LineFeeds W) → held_in new ≡ held_in old → Adds sink [] (output_of old) (output_of new) → Takes sink old [] new
  Takes-passed old new held added =
      let at = held-waits old in
      let end : held_in old ++ [] ≡ held_in old = append-nil (held_in old) in
      record {
        added = subst (λ t. Adds sink t (output_of old) (output_of new)) (sym (ap decided end ∙ at.0)) added;
        held = held ∙ sym (ap waiting end ∙ at.1);
      }

  pub Takes-none : (performer : LineFeeds W) → Takes sink performer [] performer
  Takes-none performer = Takes-passed performer performer refl (Adds-nil sink (output_of performer))

  pub Takes-append : (old middle new : LineFeeds W) (text more : List ℕ) → Takes sink old text middle → Takes sink middle more new → Takes sink old (text ++ more) new
  Takes-append old middle new text more first second =
      let l : List ℕ = held_in old ++ text in
      let joined : held_in old ++ (text ++ more) ≡ l ++ more = sym (append_assoc (held_in old) text more) in
      record {
        added = subst (λ t. Adds sink t (output_of old) (output_of new)) (sym (ap decided joined ∙ decided-append l more))
            (Adds-append sink (decided l) (decided (waiting l ++ more)) (output_of old) (output_of middle) (output_of new) first.added
            (subst (λ h. Adds sink (decided (h ++ more)) (output_of middle) (output_of new)) first.held second.added));
        held = second.held ∙ (ap (λ h. waiting (h ++ more)) first.held ∙ (sym (waiting-append l more) ∙ ap waiting (sym joined)));
      }

  -- by calls
  pub TakesCalls-one : (old : LineFeeds W) (call : Call) (new : LineFeeds W) → Takes sink old (stripped_call call) new → Takes sink old (stripped (call ∷ [])) new
  TakesCalls-one old call new takes = subst (λ t. Takes sink old t new) (sym (append-nil (stripped_call call))) takes

  pub TakesCalls-more : (old middle new : LineFeeds W) (calls more : List Call) → Takes sink old (stripped calls) middle → Takes sink middle (stripped more) new
      → Takes sink old (stripped (calls ++ more)) new
  TakesCalls-more old middle new calls more first second =
      subst (λ t. Takes sink old t new) (sym (flat_map-append stripped_call calls more))
      (Takes-append old middle new (stripped calls) (stripped more) first second)

  -- what lists of calls do to it agrees with what each call means
  pub TakesCalls-follows : FollowsCalls (λ (old : LineFeeds W) call new. Takes sink old (stripped_call call) new)
      (λ old calls new. Takes sink old (stripped calls) new)
  TakesCalls-follows = record { none = Takes-none; one = TakesCalls-one; more = TakesCalls-more }

  -- what is then to be written at the end
  pub ends-taken : (old : LineFeeds W) (calls : List Call) (new : LineFeeds W) → Takes sink old (stripped calls) new → ending_from new [] ≡ ending_from old calls
  ends-taken old calls new takes = ap waiting (append-nil (held_in new)) ∙ ((held-waits new).1 ∙ takes.held)

-- one that has received no call
pub text_of-new : {W : Type 0} (performer : LineFeeds W) → held_in performer ≡ [] → (calls : List Call) → text_from performer calls ≡ decided (stripped calls)
text_of-new performer held calls = ap (λ h. decided (h ++ stripped calls)) held

pub ending_of-new : {W : Type 0} (performer : LineFeeds W) → held_in performer ≡ [] → (calls : List Call) → ending_from performer calls ≡ waiting (stripped calls)
ending_of-new performer held calls = ap (λ h. waiting (h ++ stripped calls)) held
