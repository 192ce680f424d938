-- Carriage returns in a text, and the lines between them.
use Rattle.std.proofs.Common.{◌≡◌, ℕ, ◌%◌, ◌^◌, Bool, true, false, cond, eqb, eqb-true, List, [], ◌∷◌, ◌++◌, length, map, replicate, refl, sym, ap, ap₂, ◌∙◌, subst, arith}
use Rattle.std.specs.Prelude.{◌&&◌, ◌==◌, if◌then◌else◌}
use Rattle.std.specs.Simd.Lanes.{zip2, mask_l, top}
use Rattle.std.proofs.lemmas.Bool.{not-true}
use Rattle.std.proofs.lemmas.List.{length-map}
use Rattle.std.proofs.lemmas.Simd.{zip2_splat, mask_l-mod}
use Rattle.anstyle_parse.specs.declared.io.devices.Sink.{Ghosts as SinkOf}
use Rattle.anstyle_parse.specs.Io.Output.{Adds}
use Rattle.anstyle_parse.specs.Stream.Items.{EachIs}
use Rattle.anstyle_parse.proofs.Written.Output.{Adds-append}
use Rattle.ansi_strip.specs.declared.line_feeds.LineFeeds.{LineFeeds}
use Rattle.ansi_strip.specs.LineFeeds.{goes, without_returns, HasNone, waiting, decided, is_of_line}
use Rattle.ansi_strip.specs.LineWriter.{output_of, held_in, Takes}

-- sixteen bytes, tested at once
abbrev pub is_return : ℕ → Bool
is_return byte = byte == 0x0D

abbrev hit : ℕ → ℕ → ℕ
hit a b = cond (eqb a b) 255 0

top-hit : (t : Bool) → top 7 (cond t 255 0) ≡ t
top-hit true = refl
top-hit false = refl

return_lanes : (bytes : List ℕ) → map (top 7) (map (λ b. hit b 0x0D) bytes) ≡ map is_return bytes
return_lanes [] = refl
return_lanes (b ∷ bytes) = ap₂ (λ x xs. x ∷ xs) (top-hit (eqb b 0x0D)) (return_lanes bytes)

pub mask-returns : (bytes : List ℕ) → length bytes ≡ 16
    → mask_l (map (top 7) (zip2 hit bytes (replicate 16 0x0D))) % 2 ^ 64 ≡ mask_l (map is_return bytes)
mask-returns bytes long =
    ap (λ l. mask_l l % 2 ^ 64) (ap (map (top 7)) (zip2_splat hit bytes 16 0x0D long) ∙ return_lanes bytes)
    ∙ mask_l-mod (map is_return bytes) 64 (omega (arith, long, length-map bytes is_return))

-- a line is written as it is, and nothing of it waits
pub decided-line : (line : List ℕ) → EachIs is_of_line line → decided line ≡ line
decided-line [] each = refl
decided-line (byte ∷ []) each = rw (not-true (byte == 0x0D) each.0) refl
decided-line (byte ∷ next ∷ line) each = rw (not-true (byte == 0x0D) each.0) (ap (λ l. byte ∷ l) (decided-line (next ∷ line) each.1))

pub waiting-line : (line : List ℕ) → EachIs is_of_line line → waiting line ≡ []
waiting-line [] each = refl
waiting-line (byte ∷ []) each = rw (not-true (byte == 0x0D) each.0) refl
waiting-line (byte ∷ next ∷ line) each = waiting-line (next ∷ line) each.1

-- the same after what waits, which is written unless the line begins with a line feed
abbrev held : Bool → List ℕ
held waits = if waits then 0x0D ∷ [] else []

decided-held : (waits : Bool) (first : ℕ) (line : List ℕ) → EachIs is_of_line (first ∷ line)
    → decided (held waits ++ first ∷ line) ≡ (if first == 0x0A then [] else held waits) ++ first ∷ line
decided-held true first line each = by (first == 0x0A) (decided-line (first ∷ line) each)
  where
    by : (t : Bool) → decided (first ∷ line) ≡ first ∷ line
        → (if t then decided (first ∷ line) else 0x0D ∷ decided (first ∷ line)) ≡ (if t then [] else 0x0D ∷ []) ++ first ∷ line
    by true is = is
    by false is = ap (λ l. 0x0D ∷ l) is
decided-held false first line each = by (first == 0x0A)
  where
    by : (t : Bool) → decided (first ∷ line) ≡ (if t then [] else []) ++ first ∷ line
    by true = decided-line (first ∷ line) each
    by false = decided-line (first ∷ line) each

waiting-held : (waits : Bool) (first : ℕ) (line : List ℕ) → EachIs is_of_line (first ∷ line) → waiting (held waits ++ first ∷ line) ≡ []
waiting-held true first line each = waiting-line (first ∷ line) each
waiting-held false first line each = waiting-line (first ∷ line) each

pub line-taken : {W : Type 0} (sink : SinkOf W) (old released new : LineFeeds W) (line : List ℕ) (first : ℕ) (rest : List ℕ) → line ≡ first ∷ rest
    → EachIs is_of_line line → Adds sink (if first == 0x0A then [] else held_in old) (output_of old) (output_of released)
    → Adds sink line (output_of released) (output_of new) → held_in new ≡ [] → Takes sink old line new
line-taken sink old released new line first rest is each before added none =
    let parts = subst (EachIs is_of_line) is each in
    record {
      added = subst (λ t. Adds sink t (output_of old) (output_of new))
          (sym (ap (λ l. decided (held_in old ++ l)) is ∙ decided-held old.waits first rest parts ∙ ap (λ l. (if first == 0x0A then [] else held_in old) ++ l) (sym is)))
          (Adds-append sink (if first == 0x0A then [] else held_in old) line (output_of old) (output_of released) (output_of new) before added);
      held = none ∙ sym (ap (λ l. waiting (held_in old ++ l)) is ∙ waiting-held old.waits first rest parts);
    }

-- what is decided, and then what waits, is the text without the carriage returns that go
pub whole-text : (text : List ℕ) → decided text ++ waiting text ≡ without_returns text
whole-text [] = refl
whole-text (byte ∷ []) = by (byte == 0x0D)
  where
    by : (t : Bool) → (if t then [] else byte ∷ []) ++ (if t then byte ∷ [] else []) ≡ (if t && false then [] else byte ∷ [])
    by true = refl
    by false = refl
whole-text (byte ∷ next ∷ text) = by (goes byte (next ∷ text)) (whole-text (next ∷ text))
  where
    rest : List ℕ
    rest = waiting (next ∷ text)

    by : (t : Bool) → decided (next ∷ text) ++ rest ≡ without_returns (next ∷ text)
        → (if t then decided (next ∷ text) else byte ∷ decided (next ∷ text)) ++ rest
        ≡ (if t then without_returns (next ∷ text) else byte ∷ without_returns (next ∷ text))
    by true is = is
    by false is = ap (λ l. byte ∷ l) is

-- a text that has none is left as it is
pub none-stays : (text : List ℕ) → HasNone text → without_returns text ≡ text
none-stays [] none = refl
none-stays (byte ∷ []) none = by (byte == 0x0D)
  where
    by : (t : Bool) → (if t && false then [] else byte ∷ []) ≡ byte ∷ []
    by true = refl
    by false = refl
none-stays (byte ∷ next ∷ text) none =
    by (byte == 0x0D) refl (next == 0x0A) refl (none-stays (next ∷ text) (λ before after is. none (byte ∷ before) after (ap (λ l. byte ∷ l) is)))
  where
    by : (s : Bool) → byte == 0x0D ≡ s → (t : Bool) → next == 0x0A ≡ t → without_returns (next ∷ text) ≡ next ∷ text
        → (if s && t then without_returns (next ∷ text) else byte ∷ without_returns (next ∷ text)) ≡ byte ∷ next ∷ text
    by true is true feeds rest = absurd (none [] text (ap₂ (λ x y. x ∷ y ∷ text) (eqb-true byte 0x0D is) (eqb-true next 0x0A feeds)))
    by true is false feeds rest = ap (λ l. byte ∷ l) rest
    by false is t feeds rest = ap (λ l. byte ∷ l) rest
