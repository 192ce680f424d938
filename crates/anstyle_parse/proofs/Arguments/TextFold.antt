-- The text of an operating system command, byte by byte: the parts that are kept are those
-- of the whole text.
use Rattle.std.proofs.Common.{◌≡◌, ℕ, suc, zero, ◌+◌, ◌-◌, ◌<◌, ◌≤◌, Bool, true, false, List, [], ◌∷◌, ◌++◌, length, take, filter, refl, sym, ap, ◌∙◌, append_assoc, append-nil, length-append, arith, if◌then◌else◌, ◌==◌}
use Rattle.std.specs.List.{slice_split, concat}
use Rattle.std.proofs.Math.Seq.{take-nil}
use Rattle.std.proofs.lemmas.List.Splits.{slice_split-cons_yes, slice_split-cons_no}
use Rattle.std.proofs.lemmas.Bool.{cond-true, cond-false, eqb-true, eqb-false}
use Rattle.anstyle_parse.specs.Stream.Bytes.{semicolon}
use Rattle.anstyle_parse.specs.Stream.Arguments.{max_osc_bytes, max_osc_parts, is_kept, through_stored, parts_of}
use Rattle.anstyle_parse.specs.Machine.Step.{Machine, stored_count, with_part, after_osc_put}
use Rattle.anstyle_parse.proofs.Lists.Splits.{onto_front, onto_front-onto_first, onto_front-nil, length-concat_push}

-- one byte of a text after another, from the left
abbrev pub text_step : {A : Type 0} → ℕ → Machine A → Machine A
text_step b m = if is_kept b then after_osc_put b m else m

-- and a list of them
abbrev pub text_after : {A : Type 0} → List ℕ → Machine A → Machine A
text_after [] m = m
text_after (b ∷ bytes) m = text_after bytes (text_step b m)

-- the machine without the text of a command
abbrev pub without_text : {A : Type 0} → Machine A → Machine A
without_text m = record m { closed_parts = []; open_part = [] }

pub text_after-append : {A : Type 0} (first second : List ℕ) (m : Machine A) → text_after (first ++ second) m ≡ text_after second (text_after first m)
text_after-append [] second m = refl
text_after-append (b ∷ first) second m = text_after-append first second (text_step b m)

-- one step, by what its tests answer: kept, full of bytes, a separator, full of parts
abbrev text_step_by : {A : Type 0} → Bool → Bool → Bool → Bool → ℕ → Machine A → Machine A
text_step_by kept full separator parts_full b m =
    if kept then
    (if full then m
    else if separator then (if parts_full then m else record m { closed_parts = m.closed_parts ++ m.open_part ∷ []; open_part = [] })
    else record m { open_part = m.open_part ++ b ∷ [] })
    else m

-- a step changes only the text
text_step_by-without : {A : Type 0} (kept full separator parts_full : Bool) (b : ℕ) (m : Machine A) → without_text (text_step_by kept full separator parts_full b m) ≡ without_text m
text_step_by-without false full separator parts_full b m = refl
text_step_by-without true true separator parts_full b m = refl
text_step_by-without true false true true b m = refl
text_step_by-without true false true false b m = refl
text_step_by-without true false false parts_full b m = refl

-- all but the text stays
pub text_after-without : {A : Type 0} (bytes : List ℕ) (m : Machine A) → without_text (text_after bytes m) ≡ without_text m
text_after-without [] m = refl
text_after-without (b ∷ bytes) m =
    text_after-without bytes (text_step b m)
    ∙ text_step_by-without (is_kept b) (stored_count m == max_osc_bytes) (b == semicolon) (length m.closed_parts == max_osc_parts) b m

-- the parts of kept bytes, of which n are stored, after an open part
abbrev parts_after : List ℕ → ℕ → List ℕ → List (List ℕ)
parts_after part n bytes = onto_front part (slice_split (λ b. b == semicolon) (through_stored n bytes))

through_stored-zero : (bytes : List ℕ) → through_stored 0 bytes ≡ []
through_stored-zero [] = refl
through_stored-zero (b ∷ bytes) = refl

-- what each kind of byte does to them, and where no more bytes are stored
parts_after-full : (part : List ℕ) (n : ℕ) (first second : List ℕ) → n ≡ 0 → parts_after part n first ≡ parts_after part n second
parts_after-full part n first second e =
    let none : (bytes : List ℕ) → through_stored n bytes ≡ [] = λ bytes. ap (λ k. through_stored k bytes) e ∙ through_stored-zero bytes in
    ap (λ bytes. onto_front part (slice_split (λ b. b == semicolon) bytes)) (none first ∙ sym (none second))

parts_after-separator : (part : List ℕ) (n b : ℕ) (bytes : List ℕ)
    → 0 < n → (b == semicolon) ≡ true → parts_after part n (b ∷ bytes) ≡ part ∷ parts_after [] n bytes
parts_after-separator part zero b bytes some is = absurd (omega arith)
parts_after-separator part (suc n) b bytes some is =
    let split : List ℕ → List (List ℕ) = slice_split (λ b. b == semicolon) in
    let stored : List ℕ = through_stored (suc n) bytes in
    ap (λ list. onto_front part (split (b ∷ list))) (cond-true (b == semicolon) stored (through_stored n bytes) is)
    ∙ (ap (onto_front part) (slice_split-cons_yes (λ b. b == semicolon) b stored is)
    ∙ (ap (λ list. list ∷ split stored) (append-nil part)
    ∙ ap (λ parts. part ∷ parts) (sym (onto_front-nil (λ b. b == semicolon) stored))))

parts_after-stored : (part : List ℕ) (n b : ℕ) (bytes : List ℕ)
    → (b == semicolon) ≡ false → parts_after part (suc n) (b ∷ bytes) ≡ parts_after (part ++ b ∷ []) n bytes
parts_after-stored part n b bytes is =
    let split : List ℕ → List (List ℕ) = slice_split (λ b. b == semicolon) in
    let stored : List ℕ = through_stored n bytes in
    ap (λ list. onto_front part (split (b ∷ list))) (cond-false (b == semicolon) (through_stored (suc n) bytes) stored is)
    ∙ (ap (onto_front part) (slice_split-cons_no (λ b. b == semicolon) b stored is)
    ∙ onto_front-onto_first part b (split stored))

take-none : {X : Type 0} (n : ℕ) (xs ys : List X) → n ≡ 0 → take n xs ≡ take n ys
take-none n xs ys e = ap (λ k. take k xs) e ∙ sym (ap (λ k. take k ys) e)

-- what is closed, and then as many parts as there is room for
abbrev closing : List (List ℕ) → List (List ℕ) → List (List ℕ)
closing closed parts = closed ++ take (max_osc_parts - length closed) parts

closing-nil : (closed : List (List ℕ)) → closing closed [] ≡ closed
closing-nil closed = ap (λ parts. closed ++ parts) (take-nil (max_osc_parts - length closed)) ∙ append-nil closed

closing-full : (closed first second : List (List ℕ)) → length closed ≡ max_osc_parts → closing closed first ≡ closing closed second
closing-full closed first second e = ap (λ parts. closed ++ parts) (take-none (max_osc_parts - length closed) first second (omega arith))

closing-more : (closed : List (List ℕ)) (part : List ℕ) (parts : List (List ℕ)) → length closed < max_osc_parts → closing (closed ++ part ∷ []) parts ≡ closing closed (part ∷ parts)
closing-more closed part parts room = closing-by (max_osc_parts - length closed) (max_osc_parts - length (closed ++ part ∷ [])) (omega (arith, length-append closed (part ∷ [])))
  where
    closing-by : (n k : ℕ) → n ≡ suc k → (closed ++ part ∷ []) ++ take k parts ≡ closed ++ take n (part ∷ parts)
    closing-by n k e = append_assoc closed (part ∷ []) (take k parts) ∙ sym (ap (λ i. closed ++ take i (part ∷ parts)) e)

-- the parts that the machine keeps
abbrev kept_parts : {A : Type 0} → List ℕ → Machine A → List (List ℕ)
kept_parts bytes m = (with_part (text_after bytes m)).closed_parts

-- from every machine within the limits they are those of all the bytes
abbrev KeepsParts : Type 0 → List ℕ → Type 0
KeepsParts A bytes = (m : Machine A) → stored_count m ≤ max_osc_bytes → length m.closed_parts ≤ max_osc_parts
    → kept_parts bytes m ≡ closing m.closed_parts (parts_after m.open_part (max_osc_bytes - stored_count m) (filter is_kept bytes))

-- at the end of the bytes
kept_last : {A : Type 0} (m : Machine A) (full : Bool) → (length m.closed_parts == max_osc_parts) ≡ full → length m.closed_parts ≤ max_osc_parts
    → (if full then m else record m { closed_parts = m.closed_parts ++ m.open_part ∷ []; open_part = [] }).closed_parts ≡ closing m.closed_parts ((m.open_part ++ []) ∷ [])
kept_last m true e most =
    sym (closing-nil m.closed_parts) ∙ closing-full m.closed_parts [] ((m.open_part ++ []) ∷ []) (eqb-true (length m.closed_parts) max_osc_parts e)
kept_last m false e most =
    let room : length m.closed_parts < max_osc_parts = omega (arith, eqb-false (length m.closed_parts) max_osc_parts e) in
    sym (closing-nil (m.closed_parts ++ m.open_part ∷ []))
    ∙ (closing-more m.closed_parts m.open_part [] room ∙ ap (λ list. closing m.closed_parts (list ∷ [])) (sym (append-nil m.open_part)))

-- one byte before bytes of which it holds
kept_step : {A : Type 0} (b : ℕ) (bytes : List ℕ) (m : Machine A) (kept full separator parts_full : Bool)
    → (stored_count m == max_osc_bytes) ≡ full → (b == semicolon) ≡ separator → (length m.closed_parts == max_osc_parts) ≡ parts_full
    → stored_count m ≤ max_osc_bytes → length m.closed_parts ≤ max_osc_parts → KeepsParts A bytes
    → kept_parts bytes (text_step_by kept full separator parts_full b m)
    ≡ closing m.closed_parts (parts_after m.open_part (max_osc_bytes - stored_count m) (if kept then b ∷ filter is_kept bytes else filter is_kept bytes))
kept_step b bytes m false full separator parts_full e1 e2 e3 l1 l2 each = each m l1 l2
kept_step b bytes m true true separator parts_full e1 e2 e3 l1 l2 each =
    each m l1 l2
    ∙ ap (closing m.closed_parts) (parts_after-full m.open_part (max_osc_bytes - stored_count m) (filter is_kept bytes) (b ∷ filter is_kept bytes) (omega (arith, eqb-true (stored_count m) max_osc_bytes e1)))
kept_step b bytes m true false true true e1 e2 e3 l1 l2 each =
    each m l1 l2 ∙ closing-full m.closed_parts _ _ (eqb-true (length m.closed_parts) max_osc_parts e3)
kept_step b bytes m true false true false e1 e2 e3 l1 l2 each =
    let room : length m.closed_parts < max_osc_parts = omega (arith, eqb-false (length m.closed_parts) max_osc_parts e3) in
    let some : stored_count m < max_osc_bytes = omega (arith, eqb-false (stored_count m) max_osc_bytes e1) in
    let same : length (concat (m.closed_parts ++ m.open_part ∷ [])) + 0 ≡ stored_count m = omega (arith, length-concat_push m.closed_parts m.open_part) in
    each (record m { closed_parts = m.closed_parts ++ m.open_part ∷ []; open_part = [] }) (omega arith) (omega (arith, length-append m.closed_parts (m.open_part ∷ [])))
    ∙ (closing-more m.closed_parts m.open_part _ room
    ∙ (ap (λ n. closing m.closed_parts (m.open_part ∷ parts_after [] (max_osc_bytes - n) (filter is_kept bytes))) same
    ∙ ap (closing m.closed_parts) (sym (parts_after-separator m.open_part (max_osc_bytes - stored_count m) b (filter is_kept bytes) (omega arith) e2))))
kept_step b bytes m true false false parts_full e1 e2 e3 l1 l2 each =
    let some : stored_count m < max_osc_bytes = omega (arith, eqb-false (stored_count m) max_osc_bytes e1) in
    let more : length (concat m.closed_parts) + length (m.open_part ++ b ∷ []) ≡ stored_count m + 1 = omega (arith, length-append m.open_part (b ∷ [])) in
    let behind : max_osc_bytes - stored_count m ≡ suc (max_osc_bytes - (length (concat m.closed_parts) + length (m.open_part ++ b ∷ []))) = omega arith in
    each (record m { open_part = m.open_part ++ b ∷ [] }) (omega arith) l2
    ∙ ap (closing m.closed_parts)
    (sym (ap (λ n. parts_after m.open_part n (b ∷ filter is_kept bytes)) behind
    ∙ parts_after-stored m.open_part _ b (filter is_kept bytes) e2))

kept_each : (A : Type 0) (bytes : List ℕ) → KeepsParts A bytes
kept_each A [] m l1 l2 = kept_last m (length m.closed_parts == max_osc_parts) refl l2
kept_each A (b ∷ bytes) m l1 l2 =
    kept_step b bytes m (is_kept b) (stored_count m == max_osc_bytes) (b == semicolon) (length m.closed_parts == max_osc_parts) refl refl refl l1 l2 (kept_each A bytes)

-- the parts that the machine keeps of a text
pub text_parts : {A : Type 0} (text : List ℕ) (m : Machine A) → (with_part (text_after text (without_text m))).closed_parts ≡ parts_of text
unfolding parts_of
text_parts {A} text m =
    kept_each A text (without_text m) (omega arith) (omega arith)
    ∙ ap (take max_osc_parts) (onto_front-nil (λ b. b == semicolon) (through_stored max_osc_bytes (filter is_kept text)))

pub text_after-state : {A : Type 0} (bytes : List ℕ) (m : Machine A) → (text_after bytes m).state ≡ m.state
text_after-state {A} bytes m = ap (λ (kept : Machine A). kept.state) (text_after-without bytes m)

pub text_after-accumulator : {A : Type 0} (bytes : List ℕ) (m : Machine A) → (text_after bytes m).accumulator ≡ m.accumulator
text_after-accumulator {A} bytes m = ap (λ (kept : Machine A). kept.accumulator) (text_after-without bytes m)
