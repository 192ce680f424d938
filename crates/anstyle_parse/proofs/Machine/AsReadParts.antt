-- A log is read in parts: each begins with ESC.
use Rattle.std.proofs.Common.{◌≡◌, ℕ, arith, refl, List, [], ◌∷◌, ◌++◌, ap, sym, ◌∙◌, append_assoc}
use Rattle.anstyle_parse.specs.Machine.AsRead.{read_from, as_read, as_read_whole, break_in}
use Rattle.anstyle_parse.specs.Machine.Decoder.{decoded}
use Rattle.anstyle_parse.specs.Machine.Stands.{counted}
use Rattle.anstyle_parse.specs.Machine.Step.{Machine, new_machine, step, machine_after}
use Rattle.anstyle_parse.proofs.Agreement.Forgotten.{forgotten}
use Rattle.anstyle_parse.proofs.Agreement.Whole.{machine_after-append, StandsAfter-machine}
use Rattle.anstyle_parse.proofs.Machine.AsRead.{read_for-low, read_from-append, read_from-counted}
use Rattle.anstyle_parse.proofs.Machine.Counted.{counted-machine}
use Rattle.anstyle_parse.proofs.Machine.LogReading.{same_state}

-- ESC is read as it is, wherever it stands
read_from-escape : (m : Machine (List ℕ)) (bytes : List ℕ) → read_from decoded m (0x1B ∷ bytes) ≡ 0x1B ∷ read_from decoded (step decoded 0x1B m) bytes
read_from-escape m bytes =
    ap (λ read. read ++ read_from decoded (machine_after decoded read m) bytes) (read_for-low decoded m.state m.accumulator 0x1B (omega arith) (λ h. cc (h)))

module _ (before bytes : List ℕ) where
  abbrev there : Machine (List ℕ)
  there = machine_after decoded (as_read before) (new_machine [])

  -- and after it nothing counts that came before
  same : counted (step decoded 0x1B there) ≡ counted (step decoded 0x1B (new_machine []))
  same = forgotten (step decoded 0x1B there) (as_read before) (StandsAfter-machine there (as_read before) (0x1B ∷ []) refl)

  abbrev rest : List ℕ
  rest = read_from decoded (step decoded 0x1B (new_machine [])) bytes

  begins : as_read (0x1B ∷ bytes) ≡ 0x1B ∷ rest
  unfolding as_read
  begins = read_from-escape (new_machine []) bytes

  pub as_read-parts : as_read (before ++ 0x1B ∷ bytes) ≡ as_read before ++ as_read (0x1B ∷ bytes)
  unfolding as_read
  as_read-parts =
      read_from-append decoded (new_machine []) before (0x1B ∷ bytes)
      ∙ ap (λ l. as_read before ++ l)
      (read_from-escape there bytes
      ∙ ap (λ l. 0x1B ∷ l) (read_from-counted decoded (step decoded 0x1B there) (step decoded 0x1B (new_machine [])) same bytes)
      ∙ sym begins)

  -- the same stands at the end
  ends : (machine_after decoded (as_read (before ++ 0x1B ∷ bytes)) (new_machine [])).state ≡ (machine_after decoded (as_read (0x1B ∷ bytes)) (new_machine [])).state
  ends =
      ap (λ l. (machine_after decoded l (new_machine [])).state) (as_read-parts ∙ ap (λ l. as_read before ++ l) begins)
      ∙ ap (λ (m : Machine (List ℕ)). m.state) (machine_after-append decoded (as_read before) (0x1B ∷ rest) (new_machine []))
      ∙ same_state (machine_after decoded rest (step decoded 0x1B there)) (machine_after decoded rest (step decoded 0x1B (new_machine [])))
      (counted-machine rest (step decoded 0x1B there) (step decoded 0x1B (new_machine [])) same).0
      ∙ ap (λ l. (machine_after decoded l (new_machine [])).state) (sym begins)

  pub as_read_whole-parts : as_read_whole (before ++ 0x1B ∷ bytes) ≡ as_read before ++ as_read_whole (0x1B ∷ bytes)
  unfolding as_read_whole
  as_read_whole-parts =
      ap (λ l. l ++ break_in (machine_after decoded (as_read (before ++ 0x1B ∷ bytes)) (new_machine [])).state) as_read-parts
      ∙ ap (λ s. (as_read before ++ as_read (0x1B ∷ bytes)) ++ break_in s) ends
      ∙ append_assoc (as_read before) (as_read (0x1B ∷ bytes)) (break_in (machine_after decoded (as_read (0x1B ∷ bytes)) (new_machine [])).state)
