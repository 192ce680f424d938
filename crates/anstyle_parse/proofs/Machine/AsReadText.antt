-- Well-formed UTF-8 without ESC is read as it is.
use Rattle.std.proofs.Common.{◌≡◌, ◌≢◌, ℕ, ◌<◌, ◌≤◌, ◌⊎◌, arith, IsTrue, true, refl, List, [], ◌∷◌, ◌++◌, ⊎_elim, inl, inr, ap, sym, ◌∙◌, subst, append-nil}
use Rattle.std.specs.Prelude.{encode_utf8, ⊤}
use Rattle.std.specs.Char.{IsScalar}
use Rattle.std.specs.List.{AllByRecursion}
use Rattle.std.specs.Str.{IsUtf8, encode_utf8_all, all_scalars}
use lib.Utf8.{scalar_cases}
use Rattle.std.proofs.lemmas.Bool.{and_parts, cases_lt, or_left, or_right}
use Rattle.anstyle_parse.specs.declared.accumulator.Utf8Parser.{Utf8Parser}
use Rattle.anstyle_parse.specs.declared.state.definitions.State.{State}
use Rattle.anstyle_parse.specs.declared.state.definitions.State.TheVariants.{Anywhere, Ground, Utf8}
use Rattle.anstyle_parse.specs.declared.state.definitions.Action.TheVariants.{Execute}
use Rattle.anstyle_parse.specs.declared.utf8.Front.TheVariants.{Empty}
use Rattle.anstyle_parse.specs.Stream.Bytes.{is_within}
use Rattle.anstyle_parse.specs.Stream.Texts.{is_layout}
use Rattle.anstyle_parse.specs.Laws.Lawful.{is_character}
use Rattle.anstyle_parse.specs.Machine.AsRead.{read_for, read_from, as_read, as_read_whole, break_in}
use Rattle.anstyle_parse.specs.Machine.Decoder.{decoded}
use Rattle.anstyle_parse.specs.Machine.Step.{Machine, new_machine, step, machine_after}
use Rattle.anstyle_parse.specs.Machine.Table.{◌by◌, change_at}
use Rattle.anstyle_parse.specs.Views.Accumulator.{front_of, parser_after, parser_added}
use Rattle.anstyle_parse.specs.Views.DecodingProof.{Decodes-parser_after}
use Rattle.anstyle_parse.specs.Views.Parser.{AreBelow}
use Rattle.anstyle_parse.specs.Views.Texts.{is_text_character}
use Rattle.anstyle_parse.proofs.Characters.Encoding.{within, encode_one}
use Rattle.anstyle_parse.proofs.Agreement.Whole.{machine_after-append}
use Rattle.anstyle_parse.proofs.Machine.AsRead.{AreReadAsTheyAre, as_they_are-none, as_they_are-byte, as_they_are-append, read_for-no_string}
use Rattle.anstyle_parse.proofs.Machine.AsReadStreams.{read_from-seen}
use Rattle.anstyle_parse.proofs.Machine.AsReadTo.{characters-read}
use Rattle.anstyle_parse.proofs.Machine.Seen.{Seen-machine}
use Rattle.anstyle_parse.proofs.Machine.Runs.{change_at-control, change_at-within, step-by}
use Rattle.anstyle_parse.proofs.Machine.Texts.{Prints, characters-taken}

-- none of the bytes is ESC
abbrev HasNoEscape : List ℕ → Type 0
HasNoEscape bytes = AllByRecursion (λ b. b ≢ 0x1B) bytes

no_escape-parts : (xs ys : List ℕ) → HasNoEscape (xs ++ ys) → HasNoEscape xs × HasNoEscape ys
no_escape-parts [] ys none = (tt, none)
no_escape-parts (x ∷ xs) ys none = let rest = no_escape-parts xs ys none.1 in ((none.0, rest.0), rest.1)

module _ (m : Machine Utf8Parser) (ground : m.state ≡ Ground) (empty : m.accumulator.decoder ≡ Empty) where
  -- a control that is no ESC leaves the machine as it is
  change_at-executed : (b : ℕ) → b < 0x20 → b ≢ 0x1B → (change_at Ground b ≡ (Anywhere by Execute)) ⊎ (change_at Ground b ≡ (Ground by Execute))
  unfolding change_at is_within
  change_at-executed b low other =
      ⊎_elim
      (λ (early : b < 0x18). inl (change_at-control Ground b refl early))
      (λ (late : 0x18 ≤ b). ⊎_elim
      (λ (e : b < 0x19). let same : b ≡ 0x18 = omega arith in inr (ap (λ n. change_at Ground n) same))
      (λ (l : 0x19 ≤ b). ⊎_elim
      (λ (e : b < 0x1A). let same : b ≡ 0x19 = omega arith in inl (ap (λ n. change_at Ground n) same))
      (λ (n : 0x1A ≤ b). ⊎_elim
      (λ (e : b < 0x1B). let same : b ≡ 0x1A = omega arith in inr (ap (λ n. change_at Ground n) same))
      (λ (o : 0x1B ≤ b). inl (change_at-within Ground 0x1C 0x1F (Anywhere by Execute) (omega arith) b (within 0x1C 0x1F b (omega (arith, other)) (omega arith)) refl))
      (cases_lt b 0x1B))
      (cases_lt b 0x1A))
      (cases_lt b 0x19))
      (cases_lt b 0x18)

  control-kept : (b : ℕ) → b < 0x20 → b ≢ 0x1B → step parser_after b m ≡ m
  control-kept b low other =
      let outside : m.state ≡ Utf8 → ⊥ = λ h. absurd (cc (ground, h)) in
      let same : record m { state = Ground } ≡ m = ap (λ (s : State). let r : Machine Utf8Parser = record m { state = s } in r) (sym ground) in
      let Q : Machine Utf8Parser → Type 0 = λ x. step parser_after b x ≡ x in
      ⊎_elim
      (λ is. (step-by parser_after m b (Anywhere by Execute) outside (ap (λ s. change_at s b) ground ∙ is)).0)
      (λ is. subst Q same (step-by parser_after (record m { state = Ground }) b (Ground by Execute) (λ h. absurd (cc)) is).0)
      (change_at-executed b low other)

  -- one character
  Stays : List ℕ → Type 0
  Stays bytes = AreReadAsTheyAre parser_after m bytes × (machine_after parser_after bytes m ≡ m)

  control-stays : (b : ℕ) → b < 0x20 → b ≢ 0x1B → Stays (b ∷ [])
  unfolding Stays
  control-stays b low other = (
    as_they_are-byte parser_after m b (ap (λ s. read_for parser_after s m.accumulator b) ground ∙ read_for-no_string parser_after Ground m.accumulator b (omega arith) refl),
    control-kept b low other,
  )

  text-stays : (c : ℕ) → IsTrue (is_text_character c) → Stays (encode_utf8 c)
  unfolding Stays Prints
  text-stays c text =
      let one : encode_utf8_all (c ∷ []) ≡ encode_utf8 c = append-nil (encode_utf8 c) in (
        subst (λ l. AreReadAsTheyAre parser_after m l) one (characters-read m ground empty (c ∷ []) (text, tt)),
        ap (λ l. machine_after parser_after l m) (sym one ∙ sym (append-nil (encode_utf8_all (c ∷ [])))) ∙ (characters-taken m ground empty (c ∷ []) [] (text, tt)).0,
      )

  scalar-text : (c : ℕ) → IsScalar c → 0x20 ≤ c → IsTrue (is_text_character c)
  unfolding is_text_character is_character
  scalar-text c scalar high =
      or_left (is_character c) (is_layout c)
      (⊎_elim
      (λ low. or_left (is_within 0x20 0xD7FF c) (is_within 0xE000 0x10FFFF c) (within 0x20 0xD7FF c high (omega (arith, low))))
      (λ above. or_right (is_within 0x20 0xD7FF c) (is_within 0xE000 0x10FFFF c) (within 0xE000 0x10FFFF c above.0 (omega (arith, above.1))))
      (scalar_cases c scalar))

  scalar-stays : (c : ℕ) → IsScalar c → HasNoEscape (encode_utf8 c) → Stays (encode_utf8 c)
  scalar-stays c scalar none =
      ⊎_elim
      (λ (low : c < 0x20).
      let one = encode_one c (omega arith) in
      subst Stays (sym one) (control-stays c low (subst HasNoEscape one none).0))
      (λ (high : 0x20 ≤ c). text-stays c (scalar-text c scalar high))
      (cases_lt c 0x20)

  pub scalars-stay : (cs : List ℕ) → all_scalars cs ≡ true → HasNoEscape (encode_utf8_all cs)
      → AreReadAsTheyAre parser_after m (encode_utf8_all cs) × (machine_after parser_after (encode_utf8_all cs) m ≡ m)
  unfolding Stays
  scalars-stay [] scalars none = (as_they_are-none parser_after m, refl)
  scalars-stay (c ∷ cs) scalars none =
      let each = and_parts _ _ scalars in
      let parts = no_escape-parts (encode_utf8 c) (encode_utf8_all cs) none in
      let first = scalar-stays c each.0 parts.0 in
      let rest = scalars-stay cs each.1 parts.1 in
      let Q : Machine Utf8Parser → Type 0 = λ x. AreReadAsTheyAre parser_after x (encode_utf8_all cs) in (
        as_they_are-append parser_after m (encode_utf8 c) (encode_utf8_all cs) first.0 (subst Q (sym first.1) rest.0),
        machine_after-append parser_after (encode_utf8 c) (encode_utf8_all cs) m ∙ ap (machine_after parser_after (encode_utf8_all cs)) first.1 ∙ rest.1,
      )

pub as_read-text : (bytes : List ℕ) → AreBelow 0x100 bytes → IsUtf8 bytes → HasNoEscape bytes → as_read bytes ≡ bytes
unfolding as_read AreReadAsTheyAre
as_read-text bytes below (cs, (scalars, encoded)) none =
    let m : Machine Utf8Parser = new_machine (record { decoder = Empty }) in
    let read = (scalars-stay m refl refl cs scalars (subst HasNoEscape (sym encoded) none)).0 [] in
    sym (read_from-seen m bytes below)
    ∙ ap (read_from parser_after m) (sym encoded ∙ sym (append-nil (encode_utf8_all cs)))
    ∙ read ∙ append-nil (encode_utf8_all cs) ∙ encoded

-- and nothing is begun at its end
pub as_read_whole-text : (bytes : List ℕ) → AreBelow 0x100 bytes → IsUtf8 bytes → HasNoEscape bytes → as_read_whole bytes ≡ bytes
unfolding as_read_whole
as_read_whole-text bytes below (cs, (scalars, encoded)) none =
    let m : Machine Utf8Parser = new_machine (record { decoder = Empty }) in
    let same = as_read-text bytes below (cs, (scalars, encoded)) none in
    let stays = (scalars-stay m refl refl cs scalars (subst HasNoEscape (sym encoded) none)).1 in
    let state : (machine_after decoded (as_read bytes) (new_machine [])).state ≡ Ground =
    ap (λ l. (machine_after decoded l (new_machine [])).state) same
    ∙ ap (λ (x : Machine (List ℕ)). x.state) (sym (Seen-machine front_of (λ _ _. ⊤) parser_added parser_after Decodes-parser_after bytes below m).0)
    ∙ ap (λ l. (machine_after parser_after l m).state) (sym encoded)
    ∙ ap (λ (x : Machine Utf8Parser). x.state) stays in
    ap (λ s. as_read bytes ++ break_in s) state ∙ append-nil (as_read bytes) ∙ same
