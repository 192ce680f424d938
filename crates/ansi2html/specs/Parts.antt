-- The files of a page, one after another.
use Rattle.std.specs.Prelude.{◌≡◌, ℕ, List, [], ◌∷◌, map, Result, Ok, Err, OnOk}
use Rattle.anstyle_parse.specs.declared.io.devices.Sink.{Ghosts as SinkOf}
use Rattle.anstyle_parse.specs.declared.io.devices.Source.{Ghosts as SourceOf}
use Rattle.command_line.specs.declared.input_files.Input.{Input}
use Rattle.command_line.specs.Inputs.{name_of}
use Rattle.each_source.specs.declared.Stopped.{Stopped}
use Rattle.each_source.specs.Each.{Given, WritesEach}
use Rattle.ansi2html.specs.declared.parts.Part.{Part}
use Rattle.ansi2html.specs.Page.{Around}

-- the readers of the file of a part: one
abbrev pub readers_of : {R : Type 0} → Part R → List R
readers_of part = part.readers.items

-- what stands before the text of one, its file by name, and what stands after its text
abbrev pub around : Part Input → Around
around part = (part.before.items, map name_of part.readers.items, part.after.now)

-- One is written: what stands before its text, that, and what stands after it. Where all went well nothing is held
-- back.
abbrev pub WritesPart : {R W : Type 0} → SourceOf R → SinkOf W → (text : Given → List ℕ) → (part part_after : Part R)
    → (writer writer_after : W) → Result (Unit {0}) Stopped → Type 0
WritesPart source sink text part part_after writer writer_after answer =
    WritesEach source sink text (part.before.items, part.after.now) part.readers.items part_after.readers.items
    writer (writer_after, answer)
    × OnOk answer (sink.holds_nothing writer_after)

-- After one that was written whole the next comes; after another none.
abbrev pub GoesOn : Result (Unit {0}) Stopped → (next none : Type 0) → Type 0
GoesOn (Ok done) next none = next
GoesOn (Err stopped) next none = none

-- They are written in turn, each to what those before it left. One that is not written whole is the last, and those
-- after it are not touched.
abbrev pub WritesParts : {R W : Type 0} → SourceOf R → SinkOf W → (text : Given → List ℕ)
    → (parts parts_after : List (Part R))
    → (writer writer_after : W) → Result (Unit {0}) Stopped → Type 0
WritesParts source sink text [] parts_after writer writer_after answer =
    (parts_after ≡ []) × (writer_after ≡ writer) × (answer ≡ Ok tt)
WritesParts source sink text (part ∷ parts) [] writer writer_after answer = ⊥
WritesParts {W = W} source sink text (part ∷ parts) (part_after ∷ parts_after) writer writer_after answer =
    (middle : W) × (first : Result (Unit {0}) Stopped) × WritesPart source sink text part part_after writer middle first
    × GoesOn first (WritesParts source sink text parts parts_after middle writer_after answer)
    ((parts_after ≡ parts) × (writer_after ≡ middle) × (answer ≡ first))
