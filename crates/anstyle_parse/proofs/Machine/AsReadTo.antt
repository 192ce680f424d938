-- What the parser's functions lead to, as it is read.
use Rattle.std.proofs.Common.{◌≡◌, ℕ, ◌<◌, ◌≤◌, ◌+◌, ◌-◌, ◌⊎◌, arith, Bool, false, IsTrue, refl, List, [], ◌∷◌, ◌++◌, length, take, length-append, ⊎_elim, ap, sym, ◌∙◌, subst, append_assoc, append-nil}
use Rattle.std.specs.Prelude.{encode_utf8}
use Rattle.std.proofs.Math.Seq.{take-append_seam}
use Rattle.std.specs.Str.{encode_utf8_all}
use Rattle.std.proofs.lemmas.Bool.{cases_lt, false≢true, or_cases}
use Rattle.anstyle_parse.specs.declared.utf8.Taken.{Taken}
use Rattle.anstyle_parse.specs.declared.accumulator.Utf8Parser.{Utf8Parser}
use Rattle.anstyle_parse.specs.declared.parser.Parser.{Parser}
use Rattle.anstyle_parse.specs.declared.parser.runs.Run.{Run}
use Rattle.anstyle_parse.specs.declared.parser.runs.Run.TheVariants.{Printed, OfHookedString, OfIgnoredString, OfIgnoredHeader}
use Rattle.anstyle_parse.specs.declared.state.definitions.State.{State}
use Rattle.anstyle_parse.specs.declared.state.definitions.State.TheVariants.{CsiEntry, CsiParam, DcsPassthrough, Ground, OscString, Utf8}
use Rattle.anstyle_parse.specs.declared.utf8.Front.TheVariants.{Empty}
use Rattle.anstyle_parse.specs.Stream.Bytes.{is_within, is_parameter, is_final}
use Rattle.anstyle_parse.specs.Stream.Call.{Call, Goes}
use Rattle.anstyle_parse.specs.Stream.Characters.{is_well_formed, character_of}
use Rattle.anstyle_parse.specs.Stream.Items.{EachIs}
use Rattle.anstyle_parse.specs.Stream.Texts.{is_layout, layout_calls, FollowsCalls}
use Rattle.anstyle_parse.specs.Laws.Lawful.{is_character}
use Rattle.anstyle_parse.specs.Machine.AsRead.{is_at_ground, is_break, is_in_ignored_string, is_in_terminated_string, heard, read_for, read_from}
use Rattle.anstyle_parse.specs.Machine.Step.{Machine, AccumulatorStep, Completes, state_after_answer, after_answer, step, step_calls, machine_after, machine_calls}
use Rattle.anstyle_parse.specs.Machine.Stands.{counted}
use Rattle.anstyle_parse.specs.Views.Accumulator.{parser_after}
use Rattle.anstyle_parse.specs.Views.Parser.{machine_of}
use Rattle.anstyle_parse.specs.Views.AsRead.{read_by, read_one, LeadsAsReadTo, PassBytes}
use Rattle.anstyle_parse.specs.Views.Passing.{BeginWithSequence, PassesOver}
use Rattle.anstyle_parse.specs.Views.Runs.{LeadsQuietlyTo, AreMade, KeepsTo, is_of_command, is_of_run, run_calls}
use Rattle.anstyle_parse.specs.Views.Texts.{is_text_character, TakesText}
use Rattle.anstyle_parse.specs.Views.Stage.{stage}
use Rattle.anstyle_parse.proofs.Agreement.Whole.{machine_after-append, machine_calls-append}
use Rattle.anstyle_parse.proofs.Bytes.Passing.{EachIs-append, EachIs-weaker}
use Rattle.anstyle_parse.proofs.Characters.Encoding.{within, within_parts, encode_one, encode-stands, character_range}
use Rattle.anstyle_parse.proofs.Characters.Layout.{layout-low}
use Rattle.anstyle_parse.proofs.Characters.Table.{is_well_formed-nil}
use Rattle.anstyle_parse.proofs.Characters.Whole.{IsWhole-begins}
use Rattle.anstyle_parse.proofs.Machine.AsRead.{AreReadAsTheyAre, as_they_are-none, as_they_are-byte, as_they_are-more, as_they_are-append, as_they_are-each, as_they_are-plain, read_for-in, read_for-text, read_for-low, read_for-lead, read_for-no_string, read_from-counted}
use Rattle.anstyle_parse.proofs.Machine.Counted.{same_machine}
use Rattle.anstyle_parse.proofs.Machine.Passing.{passed-sequence}
use Rattle.anstyle_parse.proofs.Machine.Runs.{calls-introduced, begun, reading, step-run, step-stored, state-storing}
use Rattle.anstyle_parse.proofs.Machine.Steps.{step-at}
use Rattle.anstyle_parse.proofs.Machine.Texts.{Prints, characters-taken, decoder-Empty, layout_calls-characters, receives-Goes}

-- the bytes of a control sequence, text of a command and of a string that is ignored
parameter_within : (b : ℕ) → IsTrue (is_parameter b) → IsTrue (is_within 0x1B 0x7E b)
unfolding is_parameter
parameter_within b is = let ends = within_parts 0x30 0x3B b is in within 0x1B 0x7E b (omega (arith, ends.0)) (omega (arith, ends.1))

final_within : (b : ℕ) → IsTrue (is_final b) → IsTrue (is_within 0x1B 0x7E b)
unfolding is_final
final_within b is = let ends = within_parts 0x40 0x7E b is in within 0x1B 0x7E b (omega (arith, ends.0)) (omega (arith, ends.1))

high_character : (c : ℕ) → 0x80 ≤ c → IsTrue (is_text_character c) → IsTrue (is_character c)
unfolding is_text_character
high_character c high text =
    ⊎_elim (λ is. is) (λ layout. let low = layout-low c layout in absurd (omega arith)) (or_cases (is_character c) (is_layout c) text)

command-read : (m : Machine Utf8Parser) (b : ℕ) → m.state ≡ OscString → IsTrue (is_of_command b)
    → (read_for parser_after m.state m.accumulator b ≡ b ∷ []) × ((step parser_after b m).state ≡ OscString)
command-read m b command is =
    let ends = within_parts 0x20 0xFF b is in
    let stepped = step-stored parser_after b m command ends.0 (omega (arith, ends.1)) in (
      ap (λ s. read_for parser_after s m.accumulator b) command ∙ read_for-in parser_after OscString m.accumulator b refl refl refl,
      ap (λ (x : Machine Utf8Parser). x.state) stepped.0 ∙ state-storing b m ∙ command,
    )

-- the bytes of a run
run_within : (run : Run) (b : ℕ) → IsTrue (is_of_run run b) → IsTrue (is_within 0x20 0x7F b)
run_within Printed b is = is
run_within OfHookedString b is = let ends = within_parts 0x20 0x7E b is in within 0x20 0x7F b (omega (arith, ends.0)) (omega (arith, ends.1))
run_within OfIgnoredString b is = is
run_within OfIgnoredHeader b is = let ends = within_parts 0x20 0x3F b is in within 0x20 0x7F b (omega (arith, ends.0)) (omega (arith, ends.1))

read_one-run : (p : Parser Utf8Parser) (run : Run) (b : ℕ) → IsTrue (is_of_run run b) → read_one p b ≡ b ∷ []
read_one-run p run b is =
    let ends = within_parts 0x20 0x7F b (run_within run b is) in
    read_for-low parser_after p.state p.accumulator b (omega (arith, ends.1)) (λ bell. omega (arith, ends.0, bell))

-- one byte more that passes the test
pub PassBytes-more : (test : ℕ → Bool) (bytes rest : List ℕ) (b : ℕ) (left : List ℕ) → IsTrue (test b) → rest ≡ b ∷ left → PassBytes test bytes rest → PassBytes test bytes left
PassBytes-more test bytes rest b left is joined passes = record {
  passed = passes.passed ++ b ∷ [];
  each = EachIs-append test passes.passed (b ∷ []) passes.each (is, tt);
  joined = passes.joined ∙ ap (λ l. passes.passed ++ l) joined ∙ sym (append_assoc passes.passed (b ∷ []) left);
}

-- and several
pub PassBytes-all : (test : ℕ → Bool) (bytes rest front left : List ℕ) → EachIs test front → rest ≡ front ++ left → PassBytes test bytes rest → PassBytes test bytes left
PassBytes-all test bytes rest front left each joined passes = record {
  passed = passes.passed ++ front;
  each = EachIs-append test passes.passed front passes.each each;
  joined = passes.joined ∙ ap (λ l. passes.passed ++ l) joined ∙ sym (append_assoc passes.passed front left);
}

pub PassBytes-trans : (test : ℕ → Bool) (bytes rest left : List ℕ) → PassBytes test bytes rest → PassBytes test rest left → PassBytes test bytes left
PassBytes-trans test bytes rest left passes more = PassBytes-all test bytes rest more.passed left more.each more.joined passes

-- what is passed is what is left away at the end
pub passed-front : (test : ℕ → Bool) (bytes left front : List ℕ) (passes : PassBytes test bytes left) → front ≡ take (length bytes - length left) bytes → front ≡ passes.passed
passed-front test bytes left front passes taken =
    let count : length bytes ≡ length passes.passed + length left = ap length passes.joined ∙ length-append passes.passed left in
    let whole : length bytes - length left ≡ length passes.passed = omega (arith, count) in
    taken ∙ ap (λ n. take n bytes) whole ∙ ap (λ l. take (length passes.passed) l) passes.joined
    ∙ take-append_seam passes.passed left

-- what is read for a byte below 80 in the ground state
pub read_one-ground : (p : Parser Utf8Parser) (b : ℕ) → p.state ≡ Ground → b < 0x80 → read_one p b ≡ b ∷ []
read_one-ground p b ground low =
    ap (λ s. read_for parser_after s p.accumulator b) ground ∙ read_for-no_string parser_after Ground p.accumulator b low refl

-- and for any in a state that is not the ground state, nor in a character or a string that 9C would end
pub read_one-in : (p : Parser Utf8Parser) (state : State) (b : ℕ) → p.state ≡ state → is_at_ground parser_after state p.accumulator b ≡ false
    → is_in_ignored_string state ≡ false → is_in_terminated_string state ≡ false → read_one p b ≡ b ∷ []
read_one-in p state b is outside another elsewhere =
    ap (λ s. read_for parser_after s p.accumulator b) is ∙ read_for-in parser_after state p.accumulator b outside another elsewhere

-- and in a hooked string
pub read_one-hooked : (p : Parser Utf8Parser) (b : ℕ) → p.state ≡ DcsPassthrough → read_one p b ≡ heard b ∷ []
read_one-hooked p b hooked = ap (λ s. read_for parser_after s p.accumulator b) hooked ∙ read_for-text parser_after DcsPassthrough p.accumulator b refl refl refl

pub read_one-header : (p : Parser Utf8Parser) (b : ℕ) → (p.state ≡ CsiEntry) ⊎ (p.state ≡ CsiParam) → read_one p b ≡ b ∷ []
read_one-header p b header =
    ⊎_elim (λ entry. read_one-in p CsiEntry b entry refl refl refl) (λ param. read_one-in p CsiParam b param refl refl refl) header

-- the bytes of a character, in the ground state, where none is begun
module _ {A : Type 0} (adds : AccumulatorStep A) (m : Machine A) where
  there : A → Machine A
  there before = record m { state = Ground; accumulator = before }

  pub completed-read : (before now : A) (bytes : List ℕ) (c : ℕ) → Completes adds before now bytes c [] → AreReadAsTheyAre adds (reading adds m now) bytes
  unfolding reading
  completed-read before now [] c complete = absurd complete
  completed-read before now (b ∷ bytes) c complete =
      let stepped = step-at adds Utf8 b (reading adds m now) refl in
      ⊎_elim
      (λ last.
      let kept = read_for-in adds Utf8 now b (ap (λ (x : A × Taken). is_break x.1) last.0) refl refl in
      subst (λ l. AreReadAsTheyAre adds (reading adds m now) (b ∷ l)) (sym last.1) (as_they_are-byte adds (reading adds m now) b kept))
      (λ more.
      let kept = read_for-in adds Utf8 now b (ap is_break more.0) refl refl in
      let after : step adds b (reading adds m now) ≡ reading adds m (adds now b).0 =
      stepped ∙ ap (λ (x : Taken). after_answer adds x b (record m { state = state_after_answer x; accumulator = (adds now b).0 })) more.0 in
      let Q : Machine A → Type 0 = λ x. AreReadAsTheyAre adds x bytes in
      as_they_are-more adds (reading adds m now) b bytes kept (subst Q (sym after) (completed-read before (adds now b).0 bytes c more.1)))
      complete

module _ (m : Machine Utf8Parser) (ground : m.state ≡ Ground) (empty : m.accumulator.decoder ≡ Empty) where
  AreRead : List ℕ → Type 0
  AreRead bytes = AreReadAsTheyAre parser_after m bytes

  sequence-read : (sequence : List ℕ) → IsTrue (is_well_formed sequence) → AreRead sequence
  unfolding AreRead
  sequence-read [] well_formed = absurd (false≢true (sym is_well_formed-nil ∙ well_formed))
  sequence-read (a ∷ more) well_formed =
      let whole = IsWhole-begins m.accumulator a more (character_of (a ∷ more)) [] empty (a ∷ more, well_formed, refl, sym (append-nil (a ∷ more))) in
      let same : record m { state = Ground; accumulator = m.accumulator } ≡ m =
      ap (λ (s : State). let r : Machine Utf8Parser = record m { state = s } in r) (sym ground) in
      let first = begun parser_after m m.accumulator a whole.0 whole.1 in
      let after : step parser_after a m ≡ reading parser_after m (parser_after m.accumulator a).0 =
      ap (λ x. step parser_after a x) (sym same) ∙ first.0 in
      let Q : Machine Utf8Parser → Type 0 = λ x. AreReadAsTheyAre parser_after x more in
      as_they_are-more parser_after m a more (read_for-lead parser_after m.state m.accumulator a whole.0)
      (subst Q (sym after) (completed-read parser_after m m.accumulator (parser_after m.accumulator a).0 more (character_of (a ∷ more)) whole.2))

  byte-read : (b : ℕ) → b < 0x80 → IsTrue (is_text_character b) → AreRead (b ∷ [])
  unfolding AreRead is_text_character
  byte-read b low text =
      as_they_are-byte parser_after m b
      (read_for-low parser_after m.state m.accumulator b (omega arith)
      (λ bell. ⊎_elim
      (λ printed. let range = character_range b printed in omega (arith, range.0))
      (λ layout. absurd (false≢true (sym (ap is_layout bell) ∙ layout)))
      (or_cases (is_character b) (is_layout b) text)))

  character-read : (c : ℕ) → IsTrue (is_text_character c) → AreRead (encode_utf8 c)
  character-read c text =
      ⊎_elim
      (λ (low : c < 0x80). subst AreRead (sym (encode_one c low)) (byte-read c low text))
      (λ (high : 0x80 ≤ c). sequence-read (encode_utf8 c) (encode-stands c (high_character c high text) high).0)
      (cases_lt c 0x80)

  pub characters-read : (cs : List ℕ) → EachIs is_text_character cs → AreReadAsTheyAre parser_after m (encode_utf8_all cs)
  unfolding AreRead Prints
  characters-read [] each = as_they_are-none parser_after m
  characters-read (c ∷ cs) each =
      let kept = (characters-taken m ground empty (c ∷ []) [] (each.0, tt)).0 in
      let same : machine_after parser_after (encode_utf8 c) m ≡ m =
      ap (λ l. machine_after parser_after l m) (sym (append-nil (encode_utf8 c)) ∙ sym (append-nil (encode_utf8 c ++ []))) ∙ kept in
      let Q : Machine Utf8Parser → Type 0 = λ x. AreReadAsTheyAre parser_after x (encode_utf8_all cs) in
      as_they_are-append parser_after m (encode_utf8 c) (encode_utf8_all cs) (character-read c each.0) (subst Q (sym same) (characters-read cs each.1))

module _ {P : Type 0} (means : P → Call → P → Type 0) (receives : P → List Call → P → Type 0) (follows : FollowsCalls means receives) where
  pub LeadsAsReadTo-none : (parser : Parser Utf8Parser) (performer : P) (bytes : List ℕ) → LeadsAsReadTo receives (stage parser performer bytes) (stage parser performer bytes)
  LeadsAsReadTo-none parser performer bytes = record { same = refl; made = []; joined = refl; received = follows.none performer }

  pub LeadsAsReadTo-trans : {p q r : Parser Utf8Parser} {a b c : P} {xs ys zs : List ℕ}
      → LeadsAsReadTo receives (stage p a xs) (stage q b ys) → LeadsAsReadTo receives (stage q b ys) (stage r c zs) → LeadsAsReadTo receives (stage p a xs) (stage r c zs)
  LeadsAsReadTo-trans {a = a} {b = b} {c = c} first second = record {
    same = second.same ∙ first.same;
    made = first.made ++ second.made;
    joined = first.joined ∙ ap (λ calls. first.made ++ calls) second.joined ∙ sym (append_assoc first.made second.made _);
    received = follows.more a b c first.made second.made first.received second.received;
  }

  pub LeadsAsReadTo-first : {p q r : Parser Utf8Parser} {a b c : P} {xs ys zs left : List ℕ} → ys ≡ left
      → LeadsAsReadTo receives (stage p a xs) (stage q b ys) → LeadsAsReadTo receives (stage q b left) (stage r c zs) → LeadsAsReadTo receives (stage p a xs) (stage r c zs)
  LeadsAsReadTo-first {p = p} {q = q} {a = a} {b = b} {xs = xs} same first second =
      let S : List ℕ → Type 0 = λ l. LeadsAsReadTo receives (stage p a xs) (stage q b l) in
      LeadsAsReadTo-trans (subst S same first) second

  module _ (p q : Parser Utf8Parser) (a b : P) (xs left : List ℕ) where
    -- what is read of the front, and then what is read of what is left
    LeadsAsReadTo-read : (read : List ℕ) → read_by p xs ≡ read ++ read_from parser_after (machine_after parser_after read (machine_of p)) left
        → counted (machine_of q) ≡ counted (machine_after parser_after read (machine_of p))
        → receives a (machine_calls parser_after read (machine_of p)) b → LeadsAsReadTo receives (stage p a xs) (stage q b left)
    LeadsAsReadTo-read read joined same received =
        let m = machine_of p in
        let reached = machine_after parser_after read m in
        let rest = read_from parser_after reached left in
        let rests : read_by q left ≡ rest = read_from-counted parser_after (machine_of q) reached same left in
        let alike = same_machine parser_after rest (machine_of q) reached same in
        record {
          same = ap (λ l. counted (machine_after parser_after l (machine_of q))) rests ∙ alike.0
              ∙ ap counted (sym (ap (λ l. machine_after parser_after l m) joined ∙ machine_after-append parser_after read rest m));
          made = machine_calls parser_after read m;
          joined = ap (λ l. machine_calls parser_after l m) joined ∙ machine_calls-append parser_after read rest m
              ∙ ap (λ calls. machine_calls parser_after read m ++ calls) (sym (ap (λ l. machine_calls parser_after l (machine_of q)) rests ∙ alike.1));
          received = received;
        }

    -- bytes that are read as they are
    pub LeadsAsReadTo-passed : (passed : List ℕ) → xs ≡ passed ++ left → AreReadAsTheyAre parser_after (machine_of p) passed
        → counted (machine_of q) ≡ counted (machine_after parser_after passed (machine_of p))
        → receives a (machine_calls parser_after passed (machine_of p)) b → LeadsAsReadTo receives (stage p a xs) (stage q b left)
    unfolding AreReadAsTheyAre
    LeadsAsReadTo-passed passed joined as_they_are same received =
        LeadsAsReadTo-read passed (ap (read_by p) joined ∙ as_they_are left) same received

  -- one byte, as it is read
  pub LeadsAsReadTo-one : (p q : Parser Utf8Parser) (a b : P) (byte : ℕ) (left : List ℕ)
      → machine_of q ≡ machine_after parser_after (read_one p byte) (machine_of p)
      → Goes means a (machine_calls parser_after (read_one p byte) (machine_of p)) b
      → LeadsAsReadTo receives (stage p a (byte ∷ left)) (stage q b left)
  LeadsAsReadTo-one p q a b byte left reached goes =
      LeadsAsReadTo-read p q a b (byte ∷ left) left (read_one p byte) refl (ap counted reached)
      (receives-Goes means receives follows (machine_calls parser_after (read_one p byte) (machine_of p)) a b goes)

  -- one of which one is read
  pub LeadsAsReadTo-other : (p q : Parser Utf8Parser) (a b : P) (byte other : ℕ) (left : List ℕ) → read_one p byte ≡ other ∷ []
      → machine_of q ≡ step parser_after other (machine_of p) → Goes means a (step_calls parser_after other (machine_of p)) b
      → LeadsAsReadTo receives (stage p a (byte ∷ left)) (stage q b left)
  LeadsAsReadTo-other p q a b byte other left is stepped goes =
      let S : List ℕ → Type 0 = λ l. machine_of q ≡ machine_after parser_after l (machine_of p) in
      let T : List ℕ → Type 0 = λ l. Goes means a (machine_calls parser_after l (machine_of p)) b in
      LeadsAsReadTo-one p q a b byte left (subst S (sym is) stepped)
      (subst T (sym is) (subst (λ calls. Goes means a calls b) (sym (append-nil (step_calls parser_after other (machine_of p)))) goes))

  -- one that is read as it is
  pub LeadsAsReadTo-byte : (p q : Parser Utf8Parser) (a b : P) (byte : ℕ) (left : List ℕ) → read_one p byte ≡ byte ∷ []
      → machine_of q ≡ step parser_after byte (machine_of p) → Goes means a (step_calls parser_after byte (machine_of p)) b
      → LeadsAsReadTo receives (stage p a (byte ∷ left)) (stage q b left)
  LeadsAsReadTo-byte p q a b byte left is stepped goes =
      LeadsAsReadTo-passed p q a b (byte ∷ left) left (byte ∷ []) refl (as_they_are-byte parser_after (machine_of p) byte is) (ap counted stepped)
      (subst (λ calls. receives a calls b) (sym (append-nil (step_calls parser_after byte (machine_of p))))
      (receives-Goes means receives follows (step_calls parser_after byte (machine_of p)) a b goes))

  -- a text
  pub LeadsAsReadTo-text : (p : Parser Utf8Parser) (a b : P) (xs left : List ℕ) → TakesText receives p a xs b left → LeadsAsReadTo receives (stage p a xs) (stage p b left)
  unfolding Prints
  LeadsAsReadTo-text p a b xs left taken =
      ⊎_elim
      (λ nothing.
      let Q : P → Type 0 = λ x. LeadsAsReadTo receives (stage p a xs) (stage p x left) in
      let R : List ℕ → Type 0 = λ l. LeadsAsReadTo receives (stage p a xs) (stage p a l) in
      subst Q (sym nothing.0) (subst R (sym nothing.1) (LeadsAsReadTo-none p a xs)))
      (λ (text, stands, received).
      let m = machine_of p in
      let empty = decoder-Empty p.accumulator.decoder stands.at.1 in
      let cs = stands.characters in
      let gone = characters-taken m stands.at.0 empty cs [] stands.printed in
      let all : text ≡ encode_utf8_all cs ++ [] = stands.encoded ∙ sym (append-nil (encode_utf8_all cs)) in
      let calls : machine_calls parser_after text m ≡ layout_calls text =
      ap (λ l. machine_calls parser_after l m) all ∙ gone.1 ∙ append-nil _
      ∙ sym (layout_calls-characters cs stands.printed text stands.encoded) in
      LeadsAsReadTo-passed p p a b xs left text stands.joined
      (subst (λ l. AreReadAsTheyAre parser_after m l) (sym stands.encoded) (characters-read m stands.at.0 empty cs stands.printed))
      (ap counted (sym (ap (λ l. machine_after parser_after l m) all ∙ gone.0)))
      (subst (λ l. receives a l b) (sym calls) received))
      taken

  -- a control sequence that leaves the performer as it is
  pub LeadsAsReadTo-sequence : (p : Parser Utf8Parser) (a : P) (xs left : List ℕ) → p.state ≡ Ground → BeginWithSequence xs left
      → PassesOver receives a
      → LeadsAsReadTo receives (stage p a xs) (stage p a left)
  LeadsAsReadTo-sequence p a xs left ground begun passes =
      let m = machine_of p in
      let passed : List ℕ = 0x1B ∷ 0x5B ∷ begun.fields ++ begun.final ∷ [] in
      let (groups, collected, ignore, final, same, calls) =
      passed-sequence parser_after m passed [] ground (record { fields = begun.fields; each = begun.each; final = begun.final; ends = begun.ends; joined = refl }) in
      LeadsAsReadTo-passed p p a a xs left passed
      (begun.joined ∙ ap (λ l. 0x1B ∷ 0x5B ∷ l) (sym (append_assoc begun.fields (begun.final ∷ []) left)))
      (as_they_are-plain parser_after (λ b. is_within 0x1B 0x7E b) (λ b is. let ends = within_parts 0x1B 0x7E b is in (omega (arith, ends.1), (λ bell. omega (arith, ends.0, bell))))
      m passed (
        within 0x1B 0x7E 0x1B (omega arith) (omega arith),
        (
          within 0x1B 0x7E 0x5B (omega arith) (omega arith),
          EachIs-append (λ b. is_within 0x1B 0x7E b) begun.fields (begun.final ∷ [])
              (EachIs-weaker is_parameter (λ b. is_within 0x1B 0x7E b) parameter_within begun.fields begun.each)
              (final_within begun.final begun.ends, tt),
        ),
      ))
      same
      (subst (λ l. receives a l a) (sym calls) (passes groups collected ignore final))

  -- bytes of fields
  pub LeadsAsReadTo-fields : {takes : Utf8Parser → ℕ → Type 0} (p q : Parser Utf8Parser) (a : P) (xs left : List ℕ)
      → LeadsQuietlyTo takes parser_after is_parameter p xs q left → LeadsAsReadTo receives (stage p a xs) (stage q a left)
  LeadsAsReadTo-fields p q a xs left quiet =
      LeadsAsReadTo-passed p q a a xs left quiet.passed quiet.joined
      (as_they_are-plain parser_after is_parameter
      (λ b is. let ends = within_parts 0x1B 0x7E b (parameter_within b is) in (omega (arith, ends.1), (λ bell. omega (arith, ends.0, bell))))
      (machine_of p) quiet.passed quiet.each)
      (ap counted quiet.machine) (subst (λ l. receives a l a) (sym quiet.none) (follows.none a))

  -- text of a command
  pub LeadsAsReadTo-command : {takes : Utf8Parser → ℕ → Type 0} (p q : Parser Utf8Parser) (a : P) (xs left : List ℕ) → p.state ≡ OscString
      → LeadsQuietlyTo takes parser_after is_of_command p xs q left → LeadsAsReadTo receives (stage p a xs) (stage q a left)
  LeadsAsReadTo-command p q a xs left command quiet =
      LeadsAsReadTo-passed p q a a xs left quiet.passed quiet.joined
      (as_they_are-each parser_after (λ m. m.state ≡ OscString) is_of_command command-read (machine_of p) quiet.passed command quiet.each)
      (ap counted quiet.machine) (subst (λ l. receives a l a) (sym quiet.none) (follows.none a))

  -- bytes of a run
  pub LeadsAsReadTo-run : (p : Parser Utf8Parser) (run : Run) → KeepsTo run p.state → (a b : P) (bytes left : List ℕ)
      → EachIs (λ c. is_of_run run c) bytes → AreMade means (λ c. run_calls run c) a bytes b
      → LeadsAsReadTo receives (stage p a (bytes ++ left)) (stage p b left)
  LeadsAsReadTo-run p run keeps a b [] left each made =
      let S : P → Type 0 = λ x. LeadsAsReadTo receives (stage p a left) (stage p x left) in
      subst S (sym made) (LeadsAsReadTo-none p a left)
  LeadsAsReadTo-run p run keeps a b (c ∷ bytes) left each made =
      let stepped = step-run parser_after (machine_of p) c run keeps each.0 in
      let S : List Call → Type 0 = λ calls. Goes means a calls made.0 in
      LeadsAsReadTo-trans
      (LeadsAsReadTo-byte p p a made.0 c (bytes ++ left) (read_one-run p run c each.0) (sym stepped.0) (subst S (sym stepped.1) made.1))
      (LeadsAsReadTo-run p run keeps made.0 b bytes left each.1 made.2)

  -- ESC and [, which make no call
  pub LeadsAsReadTo-introduced : (p q : Parser Utf8Parser) (a : P) (first next : ℕ) (behind left : List ℕ) → behind ≡ next ∷ left → p.state ≡ Ground
      → first ≡ 0x1B → next ≡ 0x5B → machine_of q ≡ step parser_after 0x5B (step parser_after 0x1B (machine_of p))
      → LeadsAsReadTo receives (stage p a (first ∷ behind)) (stage q a left)
  LeadsAsReadTo-introduced p q a first next behind left same ground escape bracket reached =
      let m = machine_of p in
      let passed : List ℕ = 0x1B ∷ 0x5B ∷ [] in
      let calls = calls-introduced parser_after m ground in
      LeadsAsReadTo-passed p q a a (first ∷ behind) left passed
      (ap (λ x. x ∷ behind) escape ∙ ap (λ l. 0x1B ∷ l) (same ∙ ap (λ x. x ∷ left) bracket))
      (as_they_are-plain parser_after (λ b. is_within 0x1B 0x7E b) (λ b is. let ends = within_parts 0x1B 0x7E b is in (omega (arith, ends.1), (λ bell. omega (arith, ends.0, bell))))
      m passed (within 0x1B 0x7E 0x1B (omega arith) (omega arith), (within 0x1B 0x7E 0x5B (omega arith) (omega arith), tt)))
      (ap counted reached)
      (subst (λ l. receives a l a)
      (sym (ap (λ l. l ++ (step_calls parser_after 0x5B (step parser_after 0x1B m) ++ [])) calls.0 ∙ ap (λ l. l ++ []) calls.1)) (follows.none a))
