-- What a writer of safe text has taken: the characters of cells and rows, and the end of the last line.
use Rattle.std.proofs.Common.{◌≡◌, ℕ, Bool, true, false, List, [], ◌∷◌, ◌++◌, take, refl, sym, ap, ap₂, ◌∙◌, subst, append-nil}
use Rattle.std.specs.Str.{encode_utf8_all}
use Rattle.anstyle_parse.specs.declared.io.devices.Sink.{Ghosts as SinkOf}
use Rattle.anstyle_parse.specs.declared.io.output.Output.{Output}
use Rattle.anstyle_parse.specs.Io.Output.{Adds}
use Rattle.anstyle_parse.specs.Io.AddingProof.{Adds-append}
use Rattle.ansi_screen.specs.declared.cell.Cell.{Cell}
use Rattle.ansi_screen.specs.Cells.{is_right}
use Rattle.ansi_screen.specs.Text.{is_unprinted, goes_on, used}
use Rattle.safe_text.specs.declared.performer.SafeWriter.{SafeWriter}
use Rattle.safe_text.specs.Safe.{safe_from}
use Rattle.safe_text.specs.Decided.{decided_from, waiting, last_from, undecided_from}
use Rattle.safe_text.specs.Writer.{output_of, before_in, held_in, text_by, ending_from, Takes}
use Rattle.safe_text.specs.TakingProof.{held-waits, Takes-none, Takes-append}
use Rattle.safe_text.proofs.WholeLemmas.{whole-encoded}
use Rattle.screen_text.specs.Lines.{closing}
use Rattle.screen_safe.specs.Characters.{marks_of, cell_characters, cells_marked, row_marked}

-- a right half has no characters, and any other cell its own and its marks
pub characters-right : (cell : Cell) → is_right cell.part ≡ true → cell_characters cell ≡ []
unfolding cell_characters
characters-right cell is = rw is refl

pub characters-other : (cell : Cell) → is_right cell.part ≡ false → cell_characters cell ≡ cell.character ∷ marks_of cell.marks
unfolding cell_characters
characters-other cell is = rw is refl

-- what is still to be written where no more comes
ending-held : {W : Type 0} (writer : SafeWriter W) → ending_from writer [] ≡ encode_utf8_all (safe_from (before_in writer) (held_in writer))
ending-held writer =
    let at = held-waits writer.held (before_in writer) in
    ap (λ l. encode_utf8_all (undecided_from (before_in writer) l)) (append-nil (held_in writer))
    ∙ ap₂ (λ b h. encode_utf8_all (safe_from b h)) at.2 at.1

module _ {W : Type 0} (sink : SinkOf W) where
  -- a row's cells, and a line feed
  pub takes-row : (row : List Cell) (count : ℕ) (a b c : SafeWriter W) → count ≡ used is_unprinted row → goes_on row ≡ false
      → Takes sink a (cells_marked false (take count row)) b → Takes sink b (0x0A ∷ []) c → Takes sink a (row_marked row) c
  takes-row row count a b c same ends first second =
      let cells : Takes sink a (cells_marked false (take (used is_unprinted row) row)) b =
      subst (λ k. Takes sink a (cells_marked false (take k row)) b) same first in
      rw ends (Takes-append sink a b c (cells_marked false (take (used is_unprinted row) row)) (0x0A ∷ []) cells second)

  -- and one that goes on
  pub takes-open-row : (row : List Cell) (count : ℕ) (a b : SafeWriter W) → count ≡ used is_unprinted row → goes_on row ≡ true
      → Takes sink a (cells_marked false (take count row)) b → Takes sink a (row_marked row) b
  takes-open-row row count a b same on first =
      let cells : List ℕ = cells_marked false (take (used is_unprinted row) row) in
      let taken : Takes sink a cells b = subst (λ k. Takes sink a (cells_marked false (take k row)) b) same first in
      rw on (subst (λ cs. Takes sink a cs b) (sym (append-nil cells)) taken)

  -- handing on what the output holds back writes nothing
  pub passed-nothing : (old new : SafeWriter W) → Takes sink old [] new
      → Adds sink [] (output_of old) (output_of new) × (before_in new ≡ before_in old) × (held_in new ≡ held_in old)
  passed-nothing old new takes =
      let at = held-waits old.held (before_in old) in
      let none = append-nil (held_in old) in (
        subst (λ t. Adds sink t (output_of old) (output_of new)) (ap encode_utf8_all (ap (decided_from (before_in old)) none ∙ at.0)) takes.added,
        takes.before ∙ (ap (last_from (before_in old)) none ∙ at.2),
        takes.held ∙ (ap waiting none ∙ at.1),
      )

  -- an open line is ended, or there is none
  pub closes-open : (on : Bool) (a b c : SafeWriter W) → on ≡ true → c ≡ b → Takes sink a (0x0A ∷ []) b → Takes sink a (closing on) c
  closes-open on a b c is same taken = rw (is, same) taken

  pub closes-none : (on : Bool) (a c : SafeWriter W) → on ≡ false → c ≡ a → Takes sink a (closing on) c
  closes-none on a c is same = rw (is, same) (Takes-none sink a)

  -- and what then waits is written
  pub adds-closing : (on : Bool) (a b : SafeWriter W) (end : Output W) → Takes sink a (closing on) b → Adds sink (ending_from b []) (output_of b) end
      → Adds sink (encode_utf8_all (safe_from (before_in a) (held_in a ++ closing on))) (output_of a) end
  adds-closing on a b end taken ended =
      let l : List ℕ = held_in a ++ closing on in
      let left : ending_from b [] ≡ encode_utf8_all (undecided_from (before_in a) l) =
      ending-held b ∙ ap₂ (λ x y. encode_utf8_all (safe_from x y)) taken.before taken.held in
      subst (λ t. Adds sink t (output_of a) end) (whole-encoded (before_in a) l)
      (Adds-append sink (text_by a (closing on)) (encode_utf8_all (undecided_from (before_in a) l)) (output_of a) (output_of b) end taken.added
      (subst (λ t. Adds sink t (output_of b) end) left ended))
