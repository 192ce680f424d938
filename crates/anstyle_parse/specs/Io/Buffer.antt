-- What a buffer holds back, and what of it counts as taken.
use Rattle.std.specs.Prelude.{◌≡◌, ◌+◌, ◌-◌, ◌≤◌, Bool, ℕ, List, ◌∷◌, ◌++◌, length, slice_get, take, Option, Some, IfSome, IfNone, OnSome, IsTrue}
use Rattle.std.specs.Io.KnownBytes.{append_known, Appends, Keeps}
use Rattle.anstyle_parse.specs.declared.io.Fault.{Fault}
use Rattle.anstyle_parse.specs.declared.io.Fault.TheVariants.{Write, Flush}
use Rattle.anstyle_parse.specs.declared.io.devices.Sink.{Ghosts as SinkOf}
use Rattle.anstyle_parse.specs.declared.io.held.Held.{Held}
use Rattle.anstyle_parse.specs.declared.io.buffer.Buffer.{Buffer}

-- the bytes that are held back at most
abbrev pub buffer_capacity : ℕ
buffer_capacity = 8192

-- the writer behind it
abbrev pub writer_behind : {W : Type 0} → Buffer W → W
writer_behind buffer = buffer.writer

-- the bytes that are held, at the front of the room for them
abbrev pub held_in : Held → List ℕ
held_in held = take held.len held.bytes

-- the bytes that the writer behind it has not been handed yet
abbrev pub held_back : {W : Type 0} → Buffer W → List ℕ
held_back buffer = held_in buffer.held

-- whether bytes that end a line are handed on at once
abbrev pub is_by_line : {W : Type 0} → Buffer W → Bool
is_by_line buffer = buffer.by_line

-- what the writer behind it holds, and then what is held back
abbrev pub buffer_contents : {W : Type 0} → (W → Option (List ℕ)) → Buffer W → Option (List ℕ)
buffer_contents contents buffer = append_known (contents (writer_behind buffer)) (held_back buffer)

-- whether a write or a flush of it has failed
abbrev pub buffer_failed : {W : Type 0} → Buffer W → Bool
buffer_failed buffer = buffer.failed

-- A prefix of what was held back was handed on, and the rest is still held back.
abbrev pub HandsOn : {W : Type 0} → (W → Option (List ℕ)) → Buffer W → Buffer W → Type 0
HandsOn contents old new = (handed : List ℕ) × (held_back old ≡ handed ++ held_back new)
    × Appends (contents (writer_behind old)) (contents (writer_behind new)) handed

-- what a fault was at the writer behind it: a flush that left bytes held back is a write
abbrev pub fault_behind : Fault → (held : List ℕ) → Fault
fault_behind Flush (byte ∷ held) = Write
fault_behind fault held = fault

-- The last call of the writer behind it that failed was what `fault_behind` makes of the fault.
abbrev pub FailedBehind : {W : Type 0} → (failed_as : W → Fault → Type 0) → Buffer W → Fault → Type 0
FailedBehind failed_as buffer fault = failed_as (writer_behind buffer) (fault_behind fault (held_back buffer))

-- What a write of these bytes came to. With a count, as many from their front were taken, and no writer failed; else
-- nothing passed, and the writer behind it failed, by a write.
pub record TakesFrom {W : Type 0} (sink : SinkOf W) (bytes : List ℕ) (old new : Buffer W)
    (answer : Option ℕ) : Type 0 where
  pub passed : IfSome answer (λ count.
      Appends (buffer_contents sink.contents old) (buffer_contents sink.contents new) (take count bytes))
  pub not_failed : OnSome answer (sink.has_failed (writer_behind new) ≡ sink.has_failed (writer_behind old))
  pub nothing_passed : IfNone answer (Keeps (buffer_contents sink.contents old) (buffer_contents sink.contents new))
  pub failed : IfNone answer (IsTrue (sink.has_failed (writer_behind new)))
  pub was_a_write : IfNone answer (sink.failed_as (writer_behind new) Write)
  -- the buffer itself tells of a failure by its answer
  pub not_told : OnSome answer (buffer_failed new ≡ buffer_failed old)
  pub told : IfNone answer (IsTrue (buffer_failed new))
  pub same_mode : is_by_line new ≡ is_by_line old

-- the last of the bytes is the end of a line, 0A
abbrev pub EndsLine : List ℕ → Type 0
EndsLine bytes = slice_get bytes (length bytes - 1) ≡ Some 0x0A

-- The bytes can wait: there is room for them, and they end no line that is to be handed on.
abbrev pub CanWait : {W : Type 0} → Buffer W → List ℕ → Type 0
CanWait buffer bytes =
    (length (held_back buffer) + length bytes ≤ buffer_capacity) × (IsTrue (is_by_line buffer) → ¬ EndsLine bytes)

-- The bytes are held back with those before, and nothing is handed on.
abbrev pub HoldsBack : {W : Type 0} → List ℕ → Buffer W → Buffer W → Type 0
HoldsBack bytes old new = (held_back new ≡ held_back old ++ bytes) × (writer_behind new ≡ writer_behind old)
