-- Rows as HTML, cell by cell.
use Rattle.std.proofs.Common.{◌≡◌, ◌<◌, ℕ, Bool, true, false, List, [], ◌∷◌, ◌++◌, length, take, drop, map, refl, sym, ap, ap₂, ◌∙◌, subst, arith, append_assoc, append-nil, length-append, take-append-drop}
use Rattle.std.specs.Prelude.{encode_utf8, if◌then◌else◌}
use Rattle.std.proofs.lemmas.List.{map-append}
use Rattle.anstyle_parse.specs.declared.io.devices.Sink.{Ghosts as SinkOf}
use Rattle.anstyle_parse.specs.declared.io.output.Output.{Output}
use Rattle.anstyle_parse.specs.Io.Output.{Adds}
use Rattle.anstyle_parse.proofs.Written.Output.{Adds-append}
use Rattle.anstyle_parse.proofs.Characters.Scalars.{length-encode-some}
use Rattle.ansi_html.specs.declared.styled.StyledWriter.{StyledWriter}
use Rattle.ansi_html.specs.Html.{element_end}
use Rattle.ansi_html.specs.Styled.{Styled, styled, each_styled, styled_html, shown_after, output_of, styling_of, shown_in, WritesStyled}
use Rattle.ansi_html.proofs.StyledWriterLemmas.{WritesStyled-none, WritesStyled-each, WritesStyled-append}
use Rattle.ansi_screen.specs.declared.cell.Cell.{Cell}
use Rattle.ansi_screen.specs.Cells.{is_right}
use Rattle.ansi_screen.specs.Text.{marks_text, cell_text, used, is_unprinted, goes_on}
use Rattle.screen_html.specs.Links.{Kept, table, link_at}
use Rattle.screen_html.specs.Paid.{Purse, purse, purse_with, paid, purse_after}
use Rattle.screen_html.specs.Shown.{cell_styled, IsRun, line_feed, Linking, linked, cells_styled, row_styled, line_ended, row_linking, closing_styled}
use Rattle.screen_html.proofs.PaidLemmas.{paid-append, purse_after-append, paid-each, after-each}

-- the text of a cell: none of a right half, and else some
pub cell_text-right : (cell : Cell) → is_right cell.part ≡ true → cell_text cell ≡ []
unfolding cell_text
cell_text-right cell right = rw right refl

pub cell_text-other : (cell : Cell) → is_right cell.part ≡ false → cell_text cell ≡ encode_utf8 cell.character ++ marks_text cell.marks
unfolding cell_text
cell_text-other cell other = rw other refl

pub cell_text-some : (cell : Cell) → is_right cell.part ≡ false → 0 < length (cell_text cell)
cell_text-some cell other =
    omega (arith, ap length (cell_text-other cell other), length-append (encode_utf8 cell.character) (marks_text cell.marks), length-encode-some cell.character)

-- cells that are passed, and the first n of the others
pub further-joined : (n : ℕ) (cells passed rest others : List Cell) → cells ≡ passed ++ rest → others ≡ drop n rest → cells ≡ (passed ++ take n rest) ++ others
further-joined n cells passed rest others joined behind =
    joined ∙ ap (λ l. passed ++ l) (sym (take-append-drop n rest) ∙ ap (λ l. take n rest ++ l) (sym behind)) ∙ sym (append_assoc passed (take n rest) others)

-- cells, and cells behind them
pub spent-further : (links : List Kept) (cells more : List Cell) (a b c : Purse) → b ≡ purse_after a (map (cell_styled links) cells)
    → c ≡ purse_after b (map (cell_styled links) more) → c ≡ purse_after a (map (cell_styled links) (cells ++ more))
spent-further links cells more a b c first second =
    let texts = map (cell_styled links) cells in
    let others = map (cell_styled links) more in
    second
    ∙ ap (λ (it : Purse). purse_after it others) first
    ∙ sym (purse_after-append a texts others)
    ∙ ap (λ (l : List Styled). purse_after a l) (sym (map-append (cell_styled links) cells more))

-- cells of a run
pub spent-run : (links : List Kept) (first : Cell) (cells : List Cell) (bytes : List ℕ) (a b : Purse) → 0 < length bytes → IsRun first cells bytes
    → b ≡ purse_with a (link_at first.link links) → b ≡ purse_after a (map (cell_styled links) cells)
spent-run links first cells bytes a b some run spent =
    spent
    ∙ sym (after-each first.style (link_at first.link links) a bytes some)
    ∙ ap (λ (l : List Styled). purse_after a l) (sym (run links))

-- where a row leads
pub row-ends : (places : List Kept) (row : List Cell) (on : Bool) (a b : Purse) → b ≡ purse_after a (cells_styled places row) → goes_on row ≡ on
    → linked (line_ended on b).last (table places (line_ended on b).spare) ≡ row_linking (linked a.last (table places a.spare)) row
row-ends places row on a b spent is =
    ap₂ (λ (p : Purse) (o : Bool). linked (line_ended o p).last (table places (line_ended o p).spare)) spent (sym is)

module _ {W : Type 0} (sink : SinkOf W) where
  -- cells, and cells behind them
  pub writes-further : (links : List Kept) (cells more : List Cell) (p q : Purse) (a b c : StyledWriter W)
      → WritesStyled sink a (paid p (map (cell_styled links) cells)) b → q ≡ purse_after p (map (cell_styled links) cells)
      → WritesStyled sink b (paid q (map (cell_styled links) more)) c
      → WritesStyled sink a (paid p (map (cell_styled links) (cells ++ more))) c
  writes-further links cells more p q a b c first spent second =
      let texts = map (cell_styled links) cells in
      let others = map (cell_styled links) more in
      subst (λ (l : List Styled). WritesStyled sink a l c)
      (sym (ap (λ (l : List Styled). paid p l) (map-append (cell_styled links) cells more) ∙ paid-append p texts others))
      (WritesStyled-append sink a b c (paid p texts) (paid (purse_after p texts) others) first
      (subst (λ (it : Purse). WritesStyled sink b (paid it others) c) spent second))

  -- cells of a run, whose text is written at once
  pub writes-run : (links : List Kept) (first : Cell) (cells : List Cell) (bytes : List ℕ) (p q : Purse) (a b : StyledWriter W)
      → 0 < length bytes → IsRun first cells bytes → q ≡ purse_with p (link_at first.link links)
      → WritesStyled sink a (styled first.style q.last bytes ∷ []) b → WritesStyled sink a (paid p (map (cell_styled links) cells)) b
  writes-run links first cells bytes p q a b some run spent written =
      let link = link_at first.link links in
      subst (λ (l : List Styled). WritesStyled sink a l b)
      (ap (λ (it : Purse). each_styled first.style it.last bytes) spent
      ∙ sym (paid-each first.style link p bytes some) ∙ ap (λ (l : List Styled). paid p l) (sym (run links)))
      (WritesStyled-each sink a b first.style q.last bytes some written)

  -- a row's cells, and a line feed
  pub writes-row : (at : Linking) (row : List Cell) (count : ℕ) (a b c : StyledWriter W) → count ≡ used is_unprinted row → goes_on row ≡ false
      → WritesStyled sink a (paid (purse at.last at.spare) (map (cell_styled at.places) (take count row))) b
      → WritesStyled sink b (line_feed ∷ []) c → WritesStyled sink a (row_styled at row) c
  writes-row at row count a b c same ends first second =
      let texts : List Styled = paid (purse at.last at.spare) (cells_styled at.places row) in
      let cells : WritesStyled sink a texts b =
      subst (λ k. WritesStyled sink a (paid (purse at.last at.spare) (map (cell_styled at.places) (take k row))) b) same first in
      subst (λ (on : Bool). WritesStyled sink a (texts ++ (if on then [] else line_feed ∷ [])) c) (sym ends)
      (WritesStyled-append sink a b c texts (line_feed ∷ []) cells second)

  pub writes-row_on : (at : Linking) (row : List Cell) (count : ℕ) (a b : StyledWriter W) → count ≡ used is_unprinted row → goes_on row ≡ true
      → WritesStyled sink a (paid (purse at.last at.spare) (map (cell_styled at.places) (take count row))) b
      → WritesStyled sink a (row_styled at row) b
  writes-row_on at row count a b same on first =
      let texts : List Styled = paid (purse at.last at.spare) (cells_styled at.places row) in
      let cells : WritesStyled sink a texts b =
      subst (λ k. WritesStyled sink a (paid (purse at.last at.spare) (map (cell_styled at.places) (take k row))) b) same first in
      subst (λ (l : List Styled). WritesStyled sink a l b)
      (sym (ap (λ (o : Bool). texts ++ (if o then [] else line_feed ∷ [])) on ∙ append-nil texts)) cells

  -- an open line is ended, and the last span closed
  pub closing-open : (on : Bool) (a b c : StyledWriter W) → on ≡ true → c ≡ b → WritesStyled sink a (line_feed ∷ []) b → WritesStyled sink a (closing_styled on) c
  closing-open on a b c is same written = rw (is, same) written

  pub closing-closed : (on : Bool) (a c : StyledWriter W) → on ≡ false → c ≡ a → WritesStyled sink a (closing_styled on) c
  closing-closed on a c is same = rw (is, same) (WritesStyled-none sink a)

  pub adds-closing : (on : Bool) (a b : StyledWriter W) (end : Output W) → WritesStyled sink a (closing_styled on) b
      → Adds sink (element_end (shown_in b)) (output_of b) end
      → Adds sink (styled_html (styling_of a) (shown_in a) (closing_styled on) ++ element_end (shown_after (shown_in a) (closing_styled on))) (output_of a) end
  adds-closing on a b end written ended =
      Adds-append sink (styled_html (styling_of a) (shown_in a) (closing_styled on)) (element_end (shown_after (shown_in a) (closing_styled on)))
      (output_of a) (output_of b) end written.added
      (subst (λ at. Adds sink (element_end at) (output_of b) end) written.shown ended)
