-- Calls that a performer receives one after another.
use Rattle.std.proofs.Common.{◌≡◌, ℕ, Bool, true, false, List, [], ◌∷◌, ◌++◌, refl, take, sym, ap, ◌∙◌, subst, append_assoc, append-nil}
use Rattle.std.specs.Prelude.{if◌then◌else◌}
use Rattle.anstyle_parse.specs.Stream.Call.{Call, Goes, print, execute}
use Rattle.anstyle_parse.specs.Stream.Texts.{FollowsCalls}
use Rattle.ansi_screen.specs.declared.cell.Cell.{Cell}
use Rattle.ansi_style.specs.Style.{plain}
use Rattle.ansi_screen.specs.Cells.{is_right}
use Rattle.ansi_screen.specs.Text.{used, is_unprinted, goes_on}
use Rattle.html_urls.specs.Linked.{prints}
use Rattle.screen_html.specs.Links.{Kept, link_at}
use Rattle.screen_calls.specs.Calls.{Pen, pen, style_calls, link_calls, marks_of, characters_of, purse_in, shown_calls_of, cell_calls, pen_behind, cells_calls, pen_after, feed_calls, pen_fed, printed_cells, behind_cells, row_calls, hand_after}
use Rattle.screen_calls.specs.Rows.{hand_in}

-- one call that it goes by
pub went-one : {P : Type 0} {means : P → Call → P → Type 0} {receives : P → List Call → P → Type 0} → FollowsCalls means receives
    → (old : P) (call : Call) (new : P) → Goes means old (call ∷ []) new → receives old (call ∷ []) new
went-one {P} {means} {receives} follows old call new goes =
    let (middle, does, is) = goes in
    subst (λ (p : P). receives old (call ∷ []) p) (sym is) (follows.one old call middle does)

-- cells, and one behind them
pub cells-more : (links : List Kept) (at : Pen) (cells : List Cell) (cell : Cell)
    → cells_calls links at (cells ++ cell ∷ []) ≡ cells_calls links at cells ++ cell_calls links (pen_after links at cells) cell
cells-more links at [] cell = append-nil (cell_calls links at cell)
cells-more links at (first ∷ cells) cell =
    ap (λ l. cell_calls links at first ++ l) (cells-more links (pen_behind links at first) cells cell)
    ∙ sym (append_assoc (cell_calls links at first) (cells_calls links (pen_behind links at first) cells) (cell_calls links (pen_after links (pen_behind links at first) cells) cell))

pub pen-more : (links : List Kept) (at : Pen) (cells : List Cell) (cell : Cell)
    → pen_after links at (cells ++ cell ∷ []) ≡ pen_behind links (pen_after links at cells) cell
pen-more links at [] cell = refl
pen-more links at (first ∷ cells) cell = pen-more links (pen_behind links at first) cells cell

pub pen-given : (links : List Kept) (at : Pen) (cells : List Cell) (cell : Cell) (here next : Pen) → here ≡ pen_after links at cells
    → next ≡ pen_behind links here cell → next ≡ pen_after links at (cells ++ cell ∷ [])
pen-given links at cells cell here next is leads =
    leads ∙ ap (λ (p : Pen). pen_behind links p cell) is ∙ sym (pen-more links at cells cell)

-- where a cell leads
pub pen-shown : (links : List Kept) (at next : Pen) (cell : Cell) → is_right cell.part ≡ false → next ≡ pen cell.style (purse_in links at cell)
    → next ≡ pen_behind links at cell
pen-shown links at next cell other is = is ∙ ap (λ (right : Bool). if right then at else pen cell.style (purse_in links at cell)) (sym other)

pub pen-right : (links : List Kept) (at : Pen) (cell : Cell) → is_right cell.part ≡ true → at ≡ pen_behind links at cell
pen-right links at cell right = ap (λ (is : Bool). if is then at else pen cell.style (purse_in links at cell)) (sym right)

module _ {P : Type 0} (receives : P → List Call → P → Type 0)
    (more : (old middle new : P) (calls others : List Call) → receives old calls middle → receives middle others new → receives old (calls ++ others) new) where
  -- a cell that is no right half, and one that is
  pub cell-shown : (links : List Kept) (at : Pen) (cell : Cell) (a b c d e : P) (paid : List ℕ) → is_right cell.part ≡ false → paid ≡ (purse_in links at cell).last
      → receives a (link_calls at.purse.last (link_at cell.link links) paid) b → receives b (style_calls at.style cell.style) c
      → receives c (print cell.character ∷ []) d → receives d (prints (marks_of cell.marks)) e → receives a (cell_calls links at cell) e
  cell-shown links at cell a b c d e paid other is link style character marks =
      let wanted = link_at cell.link links in
      subst (λ (right : Bool). receives a (if right then [] else shown_calls_of links at cell) e) (sym other)
      (subst (λ (l : List ℕ). receives a (link_calls at.purse.last wanted l ++ (style_calls at.style cell.style ++ prints (characters_of cell))) e) is
      (more a b e (link_calls at.purse.last wanted paid) (style_calls at.style cell.style ++ prints (characters_of cell)) link
      (more b c e (style_calls at.style cell.style) (prints (characters_of cell)) style
      (more c d e (print cell.character ∷ []) (prints (marks_of cell.marks)) character marks))))

  pub cell-right : ((p : P) → receives p [] p) → (links : List Kept) (at : Pen) (cell : Cell) (a : P) → is_right cell.part ≡ true → receives a (cell_calls links at cell) a
  cell-right none links at cell a right =
      subst (λ (is : Bool). receives a (if is then [] else shown_calls_of links at cell) a) (sym right) (none a)

  -- cells, and one behind them
  pub cells-given : (links : List Kept) (at : Pen) (cells : List Cell) (cell : Cell) (here : Pen) (a b c : P) → receives a (cells_calls links at cells) b
      → here ≡ pen_after links at cells → receives b (cell_calls links here cell) c → receives a (cells_calls links at (cells ++ cell ∷ [])) c
  cells-given links at cells cell here a b c first is second =
      subst (λ (l : List Call). receives a l c) (sym (cells-more links at cells cell))
      (more a b c (cells_calls links at cells) (cell_calls links (pen_after links at cells) cell) first
      (subst (λ (p : Pen). receives b (cell_calls links p cell) c) is second))

  -- a line feed
  pub feed-given : (at : Pen) (a b c d : P) → receives a (link_calls at.purse.last [] []) b → receives b (style_calls at.style plain) c
      → receives c (execute 0x0A ∷ []) d → receives a (feed_calls at) d
  feed-given at a b c d link style feed =
      more a b d (link_calls at.purse.last [] []) (style_calls at.style plain ++ execute 0x0A ∷ []) link (more b c d (style_calls at.style plain) (execute 0x0A ∷ []) style feed)

  -- a row, with its line feed or without
  module _ (links : List Kept) (at : Pen) (row : List Cell) (n : ℕ) (used_is : n ≡ used is_unprinted row) where
    pub row-fed : (a b c : P) (next : Pen) → receives a (cells_calls links at (take n row)) b → next ≡ pen_after links at (take n row) → receives b (feed_calls next) c
        → goes_on row ≡ false → receives a (row_calls (hand_in links at) row) c
    row-fed a b c next cells is feed off =
        subst (λ (on : Bool). receives a (cells_calls links at (printed_cells row) ++ (if on then [] else feed_calls (behind_cells (hand_in links at) row))) c) (sym off)
        (subst (λ (k : ℕ). receives a (cells_calls links at (take k row) ++ feed_calls (pen_after links at (take k row))) c) used_is
        (more a b c (cells_calls links at (take n row)) (feed_calls (pen_after links at (take n row))) cells (subst (λ (p : Pen). receives b (feed_calls p) c) is feed)))

    pub row-open : (a b : P) → receives a (cells_calls links at (take n row)) b → goes_on row ≡ true → receives a (row_calls (hand_in links at) row) b
    row-open a b cells on =
        subst (λ (is : Bool). receives a (cells_calls links at (printed_cells row) ++ (if is then [] else feed_calls (behind_cells (hand_in links at) row))) b) (sym on)
        (subst (λ (k : ℕ). receives a (cells_calls links at (take k row) ++ []) b) used_is
        (subst (λ (l : List Call). receives a l b) (sym (append-nil (cells_calls links at (take n row)))) cells))

module _ (links : List Kept) (at : Pen) (row : List Cell) (n : ℕ) (used_is : n ≡ used is_unprinted row) where
  pub pen-row_fed : (next new : Pen) → next ≡ pen_after links at (take n row) → new ≡ pen_fed next → goes_on row ≡ false → new ≡ (hand_after (hand_in links at) row).pen
  pen-row_fed next new is fed off =
      fed ∙ ap pen_fed (is ∙ ap (λ (k : ℕ). pen_after links at (take k row)) used_is)
      ∙ ap (λ (on : Bool). if on then behind_cells (hand_in links at) row else pen_fed (behind_cells (hand_in links at) row)) (sym off)

  pub pen-row_open : (next : Pen) → next ≡ pen_after links at (take n row) → goes_on row ≡ true → next ≡ (hand_after (hand_in links at) row).pen
  pen-row_open next is on =
      is ∙ ap (λ (k : ℕ). pen_after links at (take k row)) used_is
      ∙ ap (λ (goes : Bool). if goes then behind_cells (hand_in links at) row else pen_fed (behind_cells (hand_in links at) row)) (sym on)
