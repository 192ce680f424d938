-- The parts of a source whose front was read.
use Rattle.std.specs.Prelude.{ℕ, List}
use Rattle.each_source.specs.declared.begun.Begun.{Begun}

-- the bytes that were read, as far as they are not given yet
abbrev pub front_of : {R : Type 0} → Begun R → List ℕ
front_of begun = begun.front.now

-- and the source
abbrev pub reader_of : {R : Type 0} → Begun R → R
reader_of begun = begun.reader
