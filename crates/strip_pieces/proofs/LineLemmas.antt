-- A text without the carriage returns that go, byte by byte.
use Rattle.std.proofs.Common.{◌≡◌, ◌<◌, ◌≤◌, ◌+◌, ◌-◌, ℕ, zero, suc, Bool, true, false, eqb-true, List, [], ◌∷◌, ◌++◌, length, take, drop, refl, sym, ap, ap₂, ◌∙◌, subst, arith, append_assoc, append-nil, length-append, length-take}
use Rattle.std.specs.Prelude.{◌==◌, min, if◌then◌else◌}
use Rattle.ansi_strip.specs.LineFeeds.{waiting, is_back, decided}
use Rattle.ansi_strip.specs.TakingProof.{decided-append, waiting-append}
use Rattle.strip_pieces.specs.declared.lines.LineState.{LineState}
use Rattle.strip_pieces.specs.declared.slice_writer.SliceWriter.{SliceWriter}
use Rattle.strip_pieces.specs.Lines.{held_in, StandsForText, Feeds}
use Rattle.strip_pieces.specs.SliceWriter.{with_text, Puts}
use Rattle.strip_pieces.specs.PuttingProof.{Puts-nil, Puts-append}
use Rattle.strip_pieces.proofs.SliceWriterLemmas.{Puts-length, with_text-front, with_text-rest}

abbrev held : Bool → List ℕ
held waits = if waits then 0x0D ∷ [] else []

-- what waits is written, unless a line feed comes, and then the byte, unless it is a carriage return, which waits
decided-byte : (waits : Bool) (byte : ℕ) → decided (held waits ++ byte ∷ []) ≡ (if byte == 0x0A then [] else held waits) ++ (if byte == 0x0D then [] else byte ∷ [])
decided-byte true byte = by (byte == 0x0A)
  where
    by : (t : Bool) → (if t then decided (byte ∷ []) else 0x0D ∷ decided (byte ∷ [])) ≡ (if t then [] else 0x0D ∷ []) ++ decided (byte ∷ [])
    by true = refl
    by false = refl
decided-byte false byte = by (byte == 0x0A)
  where
    by : (t : Bool) → decided (byte ∷ []) ≡ (if t then [] else []) ++ decided (byte ∷ [])
    by true = refl
    by false = refl

waiting-byte : (waits : Bool) (byte : ℕ) → waiting (held waits ++ byte ∷ []) ≡ (if byte == 0x0D then byte ∷ [] else [])
waiting-byte true byte = refl
waiting-byte false byte = refl

-- so a byte is taken: one that waits, and one that is put
module _ (old : LineState) (byte : ℕ) (start released : SliceWriter) (puts : Puts (if byte == 0x0A then [] else held_in old) start released) where
  pub puts-return : (byte == 0x0D) ≡ true → Puts (decided (held_in old ++ byte ∷ [])) start released
  puts-return is =
      subst (λ t. Puts t start released)
      (sym (decided-byte (old.waits == 1) byte ∙ ap (λ t. (if byte == 0x0A then [] else held_in old) ++ (if t then [] else byte ∷ [])) is ∙ append-nil _)) puts

  pub puts-byte : (after : SliceWriter) → (byte == 0x0D) ≡ false → Puts (byte ∷ []) released after → Puts (decided (held_in old ++ byte ∷ [])) start after
  puts-byte after other more =
      subst (λ t. Puts t start after)
      (sym (decided-byte (old.waits == 1) byte ∙ ap (λ t. (if byte == 0x0A then [] else held_in old) ++ (if t then [] else byte ∷ [])) other))
      (Puts-append (if byte == 0x0A then [] else held_in old) (byte ∷ []) start released after puts more)

pub return-waits : (old : LineState) (byte : ℕ) → (byte == 0x0D) ≡ true → 0x0D ∷ [] ≡ waiting (held_in old ++ byte ∷ [])
return-waits old byte is =
    ap (λ b. b ∷ []) (sym (eqb-true byte 0x0D is)) ∙ sym (waiting-byte (old.waits == 1) byte ∙ ap (λ t. if t then byte ∷ [] else []) is)

pub none-waits : (old : LineState) (byte : ℕ) → (byte == 0x0D) ≡ false → [] ≡ waiting (held_in old ++ byte ∷ [])
none-waits old byte other = sym (waiting-byte (old.waits == 1) byte ∙ ap (λ t. if t then byte ∷ [] else []) other)

-- no byte
pub held-waits : (state : LineState) → (decided (held_in state) ≡ []) × (waiting (held_in state) ≡ held_in state)
held-waits state = by (state.waits == 1)
  where
    by : (t : Bool) → (decided (held t) ≡ []) × (waiting (held t) ≡ held t)
    by true = (refl, refl)
    by false = (refl, refl)

-- some text, and then more
module _ (old middle : LineState) (text more : List ℕ) (holds : held_in middle ≡ waiting (held_in old ++ text)) where
  both : held_in old ++ (text ++ more) ≡ (held_in old ++ text) ++ more
  both = sym (append_assoc (held_in old) text more)

  pub decided-both : decided (held_in old ++ (text ++ more)) ≡ decided (held_in old ++ text) ++ decided (held_in middle ++ more)
  decided-both =
      ap decided both ∙ decided-append (held_in old ++ text) more
      ∙ ap (λ h. decided (held_in old ++ text) ++ decided (h ++ more)) (sym holds)

  pub waiting-both : waiting (held_in old ++ (text ++ more)) ≡ waiting (held_in middle ++ more)
  waiting-both = ap waiting both ∙ waiting-append (held_in old ++ text) more ∙ ap (λ h. waiting (h ++ more)) (sym holds)

-- it is no longer than the text, and one byte
length-decided : (text : List ℕ) → length (decided text) ≤ length text
length-decided [] = omega arith
length-decided (byte ∷ []) = by (byte == 0x0D)
  where
    by : (t : Bool) → length (if t then [] else byte ∷ []) ≤ 1
    by true = omega arith
    by false = omega arith
length-decided (byte ∷ next ∷ text) = by (is_back byte (next ∷ text)) (length-decided (next ∷ text))
  where
    by : (t : Bool) → length (decided (next ∷ text)) ≤ length (next ∷ text)
        → length (if t then decided (next ∷ text) else byte ∷ decided (next ∷ text)) ≤ length (byte ∷ next ∷ text)
    by true few = omega (arith, few)
    by false few = omega (arith, few)

length-held : (state : LineState) → length (held_in state) ≤ 1
length-held state = by (state.waits == 1)
  where
    by : (t : Bool) → length (held t) ≤ 1
    by true = omega arith
    by false = omega arith

pub length-lines : (state : LineState) (text : List ℕ) → length (decided (held_in state ++ text)) ≤ length text + 1
length-lines state text =
    omega (arith, length-decided (held_in state ++ text), length-append (held_in state) text, length-held state)

length-none : (state : LineState) (text : List ℕ) → length text ≡ 0 → length (decided (held_in state ++ text)) ≡ 0
length-none state [] none = ap length (ap decided (append-nil (held_in state)) ∙ (held-waits state).0)
length-none state (byte ∷ text) none = absurd (omega (arith, none))

fits-by : (n room lines : ℕ) → n ≤ room - 1 → lines ≤ n + 1 → (n ≡ 0 → lines ≡ 0) → lines ≤ room
fits-by zero room lines few most none = omega (arith, none refl)
fits-by (suc n) room lines few most none = omega (arith, few, most)

-- a state is fed where its lines are put
pub Feeds-lines : (old new : LineState) (text room room_after : List ℕ) (start after : SliceWriter) (taken written : ℕ)
    → start.written ≡ 0 → start.into.now ≡ room → room_after ≡ after.into.now → written ≡ after.written
    → Puts (decided (held_in old ++ take taken text)) start after → held_in new ≡ waiting (held_in old ++ take taken text)
    → taken ≡ min (length text) (length room - 1) → (0 < length text → 2 ≤ length room)
    → Feeds old new text room room_after taken written
Feeds-lines old new text room room_after start after taken written empty begins ends counted puts holds count enough =
    let bytes = take taken text in
    let lines = decided (held_in old ++ bytes) in
    let size = length-take taken text in
    let short = fits-by (length bytes) (length room) (length lines) (omega (arith, count, size)) (length-lines old bytes) (length-none old bytes) in
    let fits : start.written + length lines ≤ length start.into.now = omega (arith, empty, ap length begins, short) in
    let many : written ≡ length lines = omega (arith, counted, empty, puts.written fits) in
    let shown : room_after ≡ with_text 0 lines room = ends ∙ puts.bytes fits ∙ ap (λ n. with_text n lines start.into.now) empty ∙ ap (λ l. with_text 0 lines l) begins in
    let front : take written room_after ≡ lines = ap (λ n. take n room_after) many ∙ ap (λ l. take (length lines) l) shown ∙ with_text-front lines room in
    record {
      enough_room = λ some. omega (arith, enough some);
      taken_fits = omega (arith, count);
      written_fits = omega (arith, many, short);
      stands = λ before is. holds ∙ ap (λ h. waiting (h ++ bytes)) is ∙ sym (waiting-append before bytes);
      lines = λ before is.
          decided-append before bytes ∙ ap (λ h. decided before ++ decided (h ++ bytes)) (sym is) ∙ ap (λ l. decided before ++ l) (sym front);
      untouched = ap (λ n. drop n room_after) many ∙ ap (λ l. drop (length lines) l) shown ∙ with_text-rest lines room ∙ ap (λ n. drop n room) (sym many);
      some_taken = λ some. omega (arith, some, count, enough some);
      taken_at_once = λ roomy. omega (arith, roomy, count);
      bounded = omega (arith, many, length-lines old bytes, size, count);
    }

pub nothing-put : (state : LineState) (room : SliceWriter) → Puts (decided (held_in state ++ [])) room room
nothing-put state room =
    subst (λ t. Puts t room room) (sym (ap decided (append-nil (held_in state)) ∙ (held-waits state).0)) (Puts-nil room)

pub nothing-held : (state : LineState) → held_in state ≡ waiting (held_in state ++ [])
nothing-held state = sym (ap waiting (append-nil (held_in state)) ∙ (held-waits state).1)
