-- Texts: printed characters with their layout, handed on at once.
use Rattle.std.proofs.Common.{◌≡◌, ℕ, ◌<◌, ◌≤◌, ◌-◌, arith, Bool, IsTrue, true, false, cond, refl, List, length, [], ◌∷◌, ◌++◌, ⊎_elim, map, take, drop, ap, ap₂, sym, ◌∙◌, subst, append_assoc, append-nil, length-append, take-append-drop}
use Rattle.std.specs.Prelude.{encode_utf8}
use Rattle.std.specs.Char.{IsScalar}
use Rattle.std.specs.Str.{IsUtf8, chars, encode_utf8_all, all_scalars}
use Rattle.std.proofs.lemmas.Bool.{cases_lt, false≢true, and_from, lt-ltb, le-ltb, le-leb, or_cases, or_left, or_right}
use Rattle.std.proofs.lemmas.List.{take_at, length-take-le}
use Rattle.std.proofs.lemmas.Str.{chars-encodes, encodes-append}
use Rattle.anstyle_parse.specs.declared.state.definitions.State.TheVariants.{Anywhere, Ground}
use Rattle.anstyle_parse.specs.declared.state.definitions.Action.TheVariants.{Execute}
use Rattle.anstyle_parse.specs.declared.accumulator.Utf8Parser.{Utf8Parser}
use Rattle.anstyle_parse.specs.declared.parser.Parser.{Parser}
use Rattle.anstyle_parse.specs.declared.parser.runs.Run.TheVariants.{Printed}
use Rattle.anstyle_parse.specs.declared.utf8.Front.{Front}
use Rattle.anstyle_parse.specs.declared.utf8.Front.TheVariants.{Empty, One, Two, Three}
use Rattle.anstyle_parse.specs.Stream.Bytes.{is_within}
use Rattle.anstyle_parse.specs.Stream.Call.{Call, Goes, print, execute}
use Rattle.anstyle_parse.specs.Stream.Characters.{is_well_formed, character_of, BeginWithWhole}
use Rattle.anstyle_parse.specs.Stream.Items.{EachIs}
use Rattle.anstyle_parse.specs.Stream.Texts.{is_layout, layout_call, layout_calls, FollowsCalls}
use Rattle.anstyle_parse.specs.Laws.Lawful.{is_character}
use Rattle.anstyle_parse.specs.Machine.Table.{◌by◌}
use Rattle.anstyle_parse.specs.Machine.Step.{Machine, step, machine_after, machine_calls}
use Rattle.anstyle_parse.specs.Views.Front.{bytes_of}
use Rattle.anstyle_parse.specs.Views.Accumulator.{front_of, parser_after}
use Rattle.anstyle_parse.specs.Views.Parser.{machine_of}
use Rattle.anstyle_parse.specs.Views.Runs.{LeadsTo}
use Rattle.anstyle_parse.specs.Views.Texts.{is_text_character, is_text_byte, BeginWithText, IsTextAt, LeadsByTextTo}
use Rattle.anstyle_parse.specs.Views.Stage.{stage}
use Rattle.anstyle_parse.proofs.Bytes.Passing.{EachIs-append}
use Rattle.anstyle_parse.proofs.Characters.Encoding.{within, within_parts, encode_one, encode-stands, character_range}
use Rattle.anstyle_parse.proofs.Characters.Layout.{layout-low}
use Rattle.anstyle_parse.proofs.Characters.Scalars.{well_formed-AreOfCharacter, is_character-low}
use Rattle.anstyle_parse.proofs.Characters.Table.{is_well_formed-nil}
use Rattle.anstyle_parse.proofs.Characters.Whole.{IsWhole-begins}
use Rattle.anstyle_parse.proofs.Machine.Runs.{front_of_chunk, KeepsTo-printed, change_at-control, step-by, step-run, whole-taken}

-- no text, and one character more
pub BeginWithText-none : (bytes : List ℕ) → BeginWithText bytes bytes
BeginWithText-none bytes = ([], tt, refl)

-- text characters: one that can be printed, a layout control, and a byte that is one alone
is_text_character-printed : (c : ℕ) → IsTrue (is_character c) → IsTrue (is_text_character c)
unfolding is_text_character
is_text_character-printed c is = or_left (is_character c) (is_layout c) is

is_text_character-byte : (b : ℕ) → IsTrue (is_text_byte b) → (b < 0x80) × IsTrue (is_text_character b)
unfolding is_text_character
is_text_character-byte b is =
    ⊎_elim
    (λ printed.
    let bounds = within_parts 0x20 0x7F b printed in
    (omega (arith, bounds.1), is_text_character-printed b (is_character-low b bounds.0 (omega (arith, bounds.1)))))
    (λ layout. let low = layout-low b layout in (omega arith, or_right (is_character b) (is_layout b) layout))
    (or_cases (is_within 0x20 0x7F b) (is_layout b) is)

BeginWithText-more : (bytes : List ℕ) (c : ℕ) (rest left : List ℕ) → IsTrue (is_text_character c) → rest ≡ encode_utf8 c ++ left → BeginWithText bytes rest → BeginWithText bytes left
BeginWithText-more bytes c rest left is joined begun =
    let cs = begun.0 in
    let pushed : encode_utf8_all (cs ++ c ∷ []) ≡ encode_utf8_all cs ++ encode_utf8 c =
    encodes-append cs (c ∷ []) ∙ ap (λ l. encode_utf8_all cs ++ l) (append-nil (encode_utf8 c)) in (
      cs ++ c ∷ [],
      EachIs-append is_text_character cs (c ∷ []) begun.1 (is, tt),
      begun.2 ∙ ap (λ l. encode_utf8_all cs ++ l) joined ∙ sym (append_assoc (encode_utf8_all cs) (encode_utf8 c) left) ∙ ap (λ l. l ++ left) (sym pushed),
    )

-- a byte that is a character alone
pub BeginWithText-byte : (bytes : List ℕ) (b : ℕ) (rest left : List ℕ) → IsTrue (is_text_byte b) → rest ≡ b ∷ left → BeginWithText bytes rest → BeginWithText bytes left
BeginWithText-byte bytes b rest left is joined begun =
    let known = is_text_character-byte b is in
    BeginWithText-more bytes b rest left known.1 (joined ∙ ap (λ l. l ++ left) (sym (encode_one b known.0))) begun

-- bytes of which each is one
pub BeginWithText-bytes : (bytes passed left : List ℕ) → EachIs is_text_byte passed → (rest : List ℕ) → rest ≡ passed ++ left → BeginWithText bytes rest → BeginWithText bytes left
BeginWithText-bytes bytes [] left each rest joined begun = subst (BeginWithText bytes) joined begun
BeginWithText-bytes bytes (b ∷ passed) left each rest joined begun =
    BeginWithText-bytes bytes passed left each.1 (passed ++ left) refl (BeginWithText-byte bytes b rest (passed ++ left) each.0 joined begun)

-- those at the front of a chunk
pub BeginWithText-chunk : (bytes rest chunk left : List ℕ) (count : ℕ) → chunk ≡ take 16 rest → count ≤ length chunk → EachIs is_text_byte (take count chunk) → left ≡ drop count rest
    → BeginWithText bytes rest → BeginWithText bytes left
BeginWithText-chunk bytes rest chunk left count front within each back begun =
    BeginWithText-bytes bytes (take count chunk) left each rest
    (sym (ap₂ (λ x y. x ++ y) (sym (front_of_chunk 16 count rest chunk front within)) back ∙ take-append-drop count rest)) begun

-- a text and then a further one
pub BeginWithText-trans : (bytes middle left : List ℕ) → BeginWithText bytes middle → BeginWithText middle left → BeginWithText bytes left
BeginWithText-trans bytes middle left first second = (
  first.0 ++ second.0,
  EachIs-append is_text_character first.0 second.0 first.1 second.1,
  first.2 ∙ ap (λ l. encode_utf8_all first.0 ++ l) second.2 ∙ sym (append_assoc (encode_utf8_all first.0) (encode_utf8_all second.0) left)
      ∙ ap (λ l. l ++ left) (sym (encodes-append first.0 second.0)),
)

pub length-BeginWithText : (bytes left : List ℕ) → BeginWithText bytes left → length left ≤ length bytes
length-BeginWithText bytes left begun = omega (arith, ap length begun.2, length-append (encode_utf8_all begun.0) left)

-- a whole character
pub BeginWithText-whole : (bytes : List ℕ) (c : ℕ) (rest left : List ℕ) → BeginWithWhole rest c left → BeginWithText bytes rest → BeginWithText bytes left
BeginWithText-whole bytes c rest left (sequence, well_formed, is, joined) begun =
    let known = well_formed-AreOfCharacter sequence well_formed in
    BeginWithText-more bytes (character_of sequence) rest left (is_text_character-printed (character_of sequence) known.0) (joined ∙ ap (λ l. l ++ left) (sym known.1)) begun

-- a whole character is some bytes
pub length-BeginWithWhole : (c : ℕ) (rest left : List ℕ) → BeginWithWhole rest c left → length left < length rest
length-BeginWithWhole c rest left ([], well_formed, is, joined) = absurd (false≢true (sym is_well_formed-nil ∙ well_formed))
length-BeginWithWhole c rest left (a ∷ sequence, well_formed, is, joined) = omega (arith, ap length joined, length-append (a ∷ sequence) left)

-- they are scalar values
is_scalar-character : (c : ℕ) → IsTrue (is_character c) → IsScalar c
unfolding is_character
is_scalar-character c is =
    ⊎_elim
    (λ h. let range = within_parts 0x20 0xD7FF c h in rw (lt-ltb c 0xD800 (omega (arith, range.1))) refl)
    (λ h. let range = within_parts 0xE000 0x10FFFF c h in
    rw (le-ltb c 0xD800 (omega (arith, range.0)), le-leb 0xE000 c range.0, lt-ltb c 0x110000 (omega (arith, range.1))) refl)
    (or_cases (is_within 0x20 0xD7FF c) (is_within 0xE000 0x10FFFF c) is)

is_scalar-text : (c : ℕ) → IsTrue (is_text_character c) → IsScalar c
unfolding is_text_character
is_scalar-text c is =
    ⊎_elim (is_scalar-character c) (λ layout. let low = layout-low c layout in rw (lt-ltb c 0xD800 (omega arith)) refl) (or_cases (is_character c) (is_layout c) is)

pub all_scalars-text : (cs : List ℕ) → EachIs is_text_character cs → all_scalars cs ≡ true
all_scalars-text [] each = refl
all_scalars-text (c ∷ cs) each = and_from _ _ (is_scalar-text c each.0) (all_scalars-text cs each.1)

-- the calls of a text of such characters
pub layout_calls-characters : (cs : List ℕ) → EachIs is_text_character cs → (text : List ℕ) → text ≡ encode_utf8_all cs → layout_calls text ≡ map layout_call cs
layout_calls-characters cs each text e = ap (λ t. map layout_call t) (ap chars e ∙ chars-encodes cs (all_scalars-text cs each))

-- the text that stands before what is left
text_before : (bytes left : List ℕ) (begun : BeginWithText bytes left) → take (length bytes - length left) bytes ≡ encode_utf8_all begun.0
text_before bytes left begun =
    let text = encode_utf8_all begun.0 in
    ap (take (length bytes - length left)) begun.2 ∙ take_at text left (length bytes - length left) (omega (arith, ap length begun.2, length-append text left))

pub text_and_left : (bytes left : List ℕ) → BeginWithText bytes left → bytes ≡ take (length bytes - length left) bytes ++ left
text_and_left bytes left begun = begun.2 ∙ ap (λ t. t ++ left) (sym (text_before bytes left begun))

pub IsUtf8-before : (bytes left : List ℕ) → BeginWithText bytes left → IsUtf8 (take (length bytes - length left) bytes)
IsUtf8-before bytes left begun = (begun.0, (all_scalars-text begun.0 begun.1, sym (text_before bytes left begun)))

-- the text of so many of them at the front, where no character is begun
pub IsTextAt-front : (parser : Parser Utf8Parser) (bytes chunk left : List ℕ) (count : ℕ) → parser.state ≡ Ground → front_of parser.accumulator ≡ []
    → 0 < count → count < length chunk → chunk ≡ take 16 bytes → EachIs is_text_byte (take count chunk) → left ≡ drop count bytes
    → IsTextAt parser bytes (take count chunk) left
IsTextAt-front parser bytes chunk left count ground empty some within front each back =
    let text = take count chunk in
    let all = BeginWithText-bytes text text [] each text (sym (append-nil text)) (BeginWithText-none text) in
    let whole : bytes ≡ text ++ left =
    sym (ap₂ (λ x y. x ++ y) (sym (front_of_chunk 16 count bytes chunk front (omega (arith, within)))) back ∙ take-append-drop count bytes) in
    record {
      at = (ground, empty);
      some = omega (arith, ap length whole, length-append text left, length-take-le count chunk (omega (arith, within)), some);
      characters = all.0;
      printed = all.1;
      encoded = all.2 ∙ append-nil (encode_utf8_all all.0);
      joined = whole;
    }

-- Characters of a text in the ground state, where none is begun: each is printed or executed, and
-- the machine stays as it is.
module _ (m : Machine Utf8Parser) (ground : m.state ≡ Ground) (empty : m.accumulator.decoder ≡ Empty) where
  unfoldable pub Prints : List ℕ → List Call → List ℕ → Type 0
  Prints bytes calls left = (machine_after parser_after bytes m ≡ machine_after parser_after left m) × (machine_calls parser_after bytes m ≡ calls ++ machine_calls parser_after left m)

  ascii-taken : (b : ℕ) (left : List ℕ) → IsTrue (is_within 0x20 0x7F b) → Prints (b ∷ left) (print b ∷ []) left
  unfolding Prints
  ascii-taken b left printed =
      let stepped = step-run parser_after m b Printed (KeepsTo-printed m.state ground) printed in (
        ap (λ x. machine_after parser_after left x) stepped.0,
        ap (λ calls. calls ++ machine_calls parser_after left (step parser_after b m)) stepped.1
            ∙ ap (λ x. print b ∷ machine_calls parser_after left x) stepped.0,
      )

  sequence-taken : (sequence : List ℕ) (left : List ℕ) → IsTrue (is_well_formed sequence) → Prints (sequence ++ left) (print (character_of sequence) ∷ []) left
  unfolding Prints
  sequence-taken [] left well_formed = absurd (false≢true (sym is_well_formed-nil ∙ well_formed))
  sequence-taken (a ∷ more) left well_formed =
      let whole = whole-taken parser_after m a (more ++ left) (character_of (a ∷ more)) left ground
      (IsWhole-begins m.accumulator a (more ++ left) (character_of (a ∷ more)) left empty (a ∷ more, well_formed, refl, refl)) in
      (sym whole.0, whole.1)

  character-taken : (c : ℕ) (left : List ℕ) → IsTrue (is_character c) → Prints (encode_utf8 c ++ left) (print c ∷ []) left
  character-taken c left is =
      ⊎_elim
      (λ (low : c < 0x80). subst (λ l. Prints (l ++ left) (print c ∷ []) left) (sym (encode_one c low))
      (ascii-taken c left (within 0x20 0x7F c (character_range c is).0 (omega arith))))
      (λ (high : 0x80 ≤ c).
      let known = encode-stands c is high in
      subst (λ n. Prints (encode_utf8 c ++ left) (print n ∷ []) left) known.1 (sequence-taken (encode_utf8 c) left known.0))
      (cases_lt c 0x80)

  layout-taken : (b : ℕ) (left : List ℕ) → is_layout b ≡ true → Prints (b ∷ left) (execute b ∷ []) left
  unfolding Prints
  layout-taken b left is =
      let low = layout-low b is in
      let stepped = step-by parser_after m b (Anywhere by Execute) (λ h. absurd (cc (ground, h))) (change_at-control m.state b ground (omega arith)) in (
        ap (λ x. machine_after parser_after left x) stepped.0,
        ap (λ calls. calls ++ machine_calls parser_after left (step parser_after b m)) stepped.1
            ∙ ap (λ x. execute b ∷ machine_calls parser_after left x) stepped.0,
      )

  -- one character, by whether it is layout
  text-taken : (c : ℕ) (left : List ℕ) (layout : Bool) → is_layout c ≡ layout → IsTrue (is_text_character c)
      → Prints (encode_utf8 c ++ left) (cond layout (execute c) (print c) ∷ []) left
  unfolding is_text_character
  text-taken c left true is text =
      let low = layout-low c is in
      subst (λ l. Prints (l ++ left) (execute c ∷ []) left) (sym (encode_one c (omega arith))) (layout-taken c left is)
  text-taken c left false is text =
      ⊎_elim (character-taken c left) (λ layout. absurd (false≢true (sym is ∙ layout))) (or_cases (is_character c) (is_layout c) text)

  pub characters-taken : (cs : List ℕ) (left : List ℕ) → EachIs is_text_character cs → Prints (encode_utf8_all cs ++ left) (map layout_call cs) left
  unfolding Prints
  characters-taken [] left each = (refl, refl)
  characters-taken (c ∷ cs) left each =
      let rest = encode_utf8_all cs ++ left in
      let first = text-taken c rest (is_layout c) refl each.0 in
      let others = characters-taken cs left each.1 in
      subst (λ l. Prints l (layout_call c ∷ map layout_call cs) left) (sym (append_assoc (encode_utf8 c) (encode_utf8_all cs) left)) (
        first.0 ∙ others.0,
        first.1 ∙ ap (λ calls. layout_call c ∷ calls) others.1,
      )

-- a front of no bytes
pub decoder-Empty : (front : Front) → bytes_of front ≡ [] → front ≡ Empty
decoder-Empty Empty e = refl
decoder-Empty (One a) e = cc
decoder-Empty (Two a b) e = cc
decoder-Empty (Three a b c) e = cc

module _ {P : Type 0} (means : P → Call → P → Type 0) (receives : P → List Call → P → Type 0) (follows : FollowsCalls means receives) where
  -- what goes by single calls has received the list
  pub receives-Goes : (calls : List Call) (old new : P) → Goes means old calls new → receives old calls new
  receives-Goes [] old new same = subst (λ p. receives old [] p) (sym same) (follows.none old)
  receives-Goes (call ∷ calls) old new (middle, first, others) = follows.more old middle new (call ∷ []) calls (follows.one old call middle first) (receives-Goes calls middle new others)

  pub LeadsByTextTo-none : (parser : Parser Utf8Parser) (performer : P) (bytes : List ℕ) → LeadsByTextTo receives (stage parser performer bytes) (stage parser performer bytes)
  LeadsByTextTo-none parser performer bytes = record { machine = refl; made = []; joined = refl; received = follows.none performer }

  pub LeadsByTextTo-trans : {p q r : Parser Utf8Parser} {a b c : P} {xs ys zs : List ℕ}
      → LeadsByTextTo receives (stage p a xs) (stage q b ys) → LeadsByTextTo receives (stage q b ys) (stage r c zs) → LeadsByTextTo receives (stage p a xs) (stage r c zs)
  LeadsByTextTo-trans {a = a} {b = b} {c = c} first second = record {
    machine = second.machine ∙ first.machine;
    made = first.made ++ second.made;
    joined = first.joined ∙ ap (λ calls. first.made ++ calls) second.joined ∙ sym (append_assoc first.made second.made _);
    received = follows.more a b c first.made second.made first.received second.received;
  }

  -- a run
  pub LeadsByTextTo-run : {takes : Utf8Parser → ℕ → Type 0} {p q r : Parser Utf8Parser} {a b c : P} {xs ys zs left : List ℕ} → ys ≡ left
      → LeadsByTextTo receives (stage p a xs) (stage q b ys) → LeadsTo takes parser_after means (stage q b left) (stage r c zs) → LeadsByTextTo receives (stage p a xs) (stage r c zs)
  LeadsByTextTo-run {p = p} {q = q} {a = a} {b = b} {c = c} {xs = xs} same first run =
      let S : List ℕ → Type 0 = λ l. LeadsByTextTo receives (stage p a xs) (stage q b l) in
      LeadsByTextTo-trans (subst S same first) (record { machine = run.machine; made = run.made; joined = run.joined; received = receives-Goes run.made b c run.performed })

  -- a text
  pub LeadsByTextTo-text : (p : Parser Utf8Parser) (a b : P) (xs text left : List ℕ) → IsTextAt p xs text left → receives a (layout_calls text) b
      → LeadsByTextTo receives (stage p a xs) (stage p b left)
  unfolding Prints
  LeadsByTextTo-text p a b xs text left stands received =
      let empty = decoder-Empty p.accumulator.decoder stands.at.1 in
      let taken = characters-taken (machine_of p) stands.at.0 empty stands.characters left stands.printed in
      let whole : xs ≡ encode_utf8_all stands.characters ++ left = stands.joined ∙ ap (λ t. t ++ left) stands.encoded in
      let calls = layout_calls-characters stands.characters stands.printed text stands.encoded in
      record {
        machine = sym (ap (λ l. machine_after parser_after l (machine_of p)) whole ∙ taken.0);
        made = layout_calls text;
        joined = ap (λ l. machine_calls parser_after l (machine_of p)) whole ∙ taken.1
            ∙ ap (λ l. l ++ machine_calls parser_after left (machine_of p)) (sym calls);
        received = received;
      }

  -- all bytes
  pub LeadsByTextTo-all : (p q : Parser Utf8Parser) (a b : P) (xs ys : List ℕ) → ys ≡ [] → LeadsByTextTo receives (stage p a xs) (stage q b ys)
      → (machine_of q ≡ machine_after parser_after xs (machine_of p)) × receives a (machine_calls parser_after xs (machine_of p)) b
  LeadsByTextTo-all p q a b xs ys end led =
      let S : List ℕ → Type 0 = λ l. LeadsByTextTo receives (stage p a xs) (stage q b l) in
      let done = subst S end led in
      (done.machine, subst (λ calls. receives a calls b) (sym (done.joined ∙ append-nil done.made)) done.received)
