-- What a parser reads of a stream that comes in pieces.
use Rattle.std.proofs.Common.{◌≡◌, ℕ, ◌<◌, arith, cond, eqb, refl, List, [], ◌∷◌, ◌++◌, ap, append-nil, sym, ◌∙◌}
use Rattle.std.specs.Prelude.{◌&&◌, ⊤}
use Rattle.std.proofs.lemmas.Bool.{cond_both}
use Rattle.anstyle_parse.specs.declared.accumulator.Utf8Parser.{Utf8Parser}
use Rattle.anstyle_parse.specs.declared.parser.Parser.{Parser}
use Rattle.anstyle_parse.specs.declared.state.definitions.State.{State}
use Rattle.anstyle_parse.specs.declared.state.definitions.State.TheVariants.{Ground, Utf8}
use Rattle.anstyle_parse.specs.Stream.Bytes.{bell, string_terminator}
use Rattle.anstyle_parse.specs.Machine.AsRead.{is_stray, is_at_ground, is_in_ignored_string, is_in_terminated_string, replacement_text, string_end, heard, read_for, read_from, as_read, as_read_whole, break_in}
use Rattle.anstyle_parse.specs.Machine.Decoder.{decoded}
use Rattle.anstyle_parse.specs.Machine.Stands.{seen}
use Rattle.anstyle_parse.specs.Machine.Step.{Machine, AccumulatorStep, new_machine, machine_after}
use Rattle.anstyle_parse.specs.Views.Accumulator.{front_of, parser_after, parser_added}
use Rattle.anstyle_parse.specs.Views.AsRead.{read_by}
use Rattle.anstyle_parse.specs.Views.DecodingProof.{Decodes-parser_after}
use Rattle.anstyle_parse.specs.Views.Parser.{machine_of, AreBelow, IsAfter}
use Rattle.anstyle_parse.proofs.Machine.AsRead.{read_from-append, read_from-counted}
use Rattle.anstyle_parse.proofs.Machine.Counted.{counted_in-state}
use Rattle.anstyle_parse.proofs.Machine.Seen.{Seen-machine}
use Rattle.anstyle_parse.proofs.Streams.{AreBelow-append}

-- what is read is bytes
heard-below : (b : ℕ) → b < 256 → heard b < 256
unfolding heard
heard-below b small = cond_both (eqb b string_terminator) 0x9D b (λ n. n < 256) (λ _. omega arith) (λ _. small)

read_for-below : {A : Type 0} (taken : AccumulatorStep A) (state : State) (value : A) (b : ℕ) → b < 256 → AreBelow 256 (read_for taken state value b)
read_for-below taken state value b small =
    cond_both {A = List ℕ} (is_at_ground taken state value b && is_stray b) _ _ (AreBelow 256) (λ _. (omega arith, (omega arith, (omega arith, tt))))
    (λ _. cond_both {A = List ℕ} (is_in_ignored_string state && eqb b bell) _ _ (AreBelow 256) (λ _. (omega arith, (omega arith, tt)))
    (λ _. cond_both {A = List ℕ} (is_in_terminated_string state) _ _ (AreBelow 256) (λ _. (heard-below b small, tt)) (λ _. (small, tt))))

pub read_from-below : {A : Type 0} (taken : AccumulatorStep A) (m : Machine A) (bytes : List ℕ) → AreBelow 256 bytes → AreBelow 256 (read_from taken m bytes)
read_from-below taken m [] below = tt
read_from-below taken m (b ∷ bytes) below =
    let read = read_for taken m.state m.accumulator b in
    let next = machine_after taken read m in
    AreBelow-append 256 read (read_from taken next bytes) (read_for-below taken m.state m.accumulator b below.0) (read_from-below taken next bytes below.1)

-- the decoder of UTF-8 and what it holds read the same
is_at_ground-seen : (state : State) (value : Utf8Parser) (b : ℕ) → is_at_ground parser_after state value b ≡ is_at_ground decoded state (front_of value) b
is_at_ground-seen Ground value b = refl
is_at_ground-seen Utf8 value b = refl
is_at_ground-seen state value b = refl

read_for-seen : (state : State) (value : Utf8Parser) (b : ℕ) → read_for parser_after state value b ≡ read_for decoded state (front_of value) b
read_for-seen state value b =
    ap (λ t. cond (t && is_stray b) replacement_text (cond (is_in_ignored_string state && eqb b bell) string_end (cond (is_in_terminated_string state) (heard b ∷ []) (b ∷ []))))
    (is_at_ground-seen state value b)

pub read_from-seen : (m : Machine Utf8Parser) (bytes : List ℕ) → AreBelow 256 bytes → read_from parser_after m bytes ≡ read_from decoded (seen front_of m) bytes
read_from-seen m [] below = refl
read_from-seen m (b ∷ bytes) below =
    let read = read_for parser_after m.state m.accumulator b in
    let next = machine_after parser_after read m in
    let same = (Seen-machine front_of (λ _ _. ⊤) parser_added parser_after Decodes-parser_after read (read_for-below parser_after m.state m.accumulator b below.0) m).0 in
    ap (λ l. read ++ l) (read_from-seen next bytes below.1 ∙ ap (λ x. read_from decoded x bytes) same)
    ∙ ap (λ l. l ++ read_from decoded (machine_after decoded l (seen front_of m)) bytes) (read_for-seen m.state m.accumulator b)

-- At the end, by where the parser stands.
pub as_read_whole-at : (parser : Parser Utf8Parser) (before : List ℕ) → IsAfter front_of parser (as_read before)
    → as_read_whole before ≡ as_read before ++ break_in parser.state
unfolding as_read_whole
as_read_whole-at parser before stands =
    let m = machine_after decoded (as_read before) (new_machine []) in
    let states : m.state ≡ parser.state =
    sym (counted_in-state m.state m) ∙ ap (λ (r : Machine (List ℕ)). r.state) (sym stands) ∙ counted_in-state parser.state (seen front_of (machine_of parser)) in
    ap (λ s. as_read before ++ break_in s) states

break_in-none : (state : State) → (state ≡ Utf8 → ⊥) → break_in state ≡ []
break_in-none Utf8 outside = absurd (outside refl)
break_in-none state outside = refl

pub as_read_whole-outside : (parser : Parser Utf8Parser) (before : List ℕ) → IsAfter front_of parser (as_read before)
    → (parser.state ≡ Utf8 → ⊥) → as_read_whole before ≡ as_read before
as_read_whole-outside parser before stands outside =
    as_read_whole-at parser before stands ∙ ap (λ l. as_read before ++ l) (break_in-none parser.state outside) ∙ append-nil (as_read before)

-- What is read of all is what was read of the bytes before, and then what the parser reads of these.
pub as_read-more : (parser : Parser Utf8Parser) (before bytes : List ℕ) → AreBelow 256 bytes → IsAfter front_of parser (as_read before)
    → as_read (before ++ bytes) ≡ as_read before ++ read_by parser bytes
unfolding as_read
as_read-more parser before bytes below stands =
    read_from-append decoded (new_machine []) before bytes
    ∙ ap (λ l. read_from decoded (new_machine []) before ++ l)
    (sym (read_from-seen (machine_of parser) bytes below
    ∙ read_from-counted decoded (seen front_of (machine_of parser)) (machine_after decoded (as_read before) (new_machine [])) stands bytes))
