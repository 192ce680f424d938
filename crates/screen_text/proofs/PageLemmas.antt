-- The text of a screen that shows lines, each in a row.
use Rattle.std.proofs.Common.{◌≡◌, ◌≢◌, ◌<◌, ◌≤◌, ◌+◌, ◌-◌, ◌*◌, ℕ, zero, suc, Bool, true, false, List, [], ◌∷◌, ◌++◌, length, map, take, drop, get_or, refl, sym, ap, ap₂, ◌∙◌, subst, arith, append_assoc, append-nil, length-append}
use Rattle.std.specs.Prelude.{◌==◌, ◌&&◌, replicate, encode_utf8, if◌then◌else◌}
use Rattle.std.specs.List.{AllByRecursion, flat_map}
use Rattle.std.proofs.Math.Dec.{eqb-suc-zero}
use Rattle.std.proofs.Math.Nat.{suc-mul}
use Rattle.std.proofs.Math.Seq.{take-suc, take-append_seam, drop-append-add}
use Rattle.std.proofs.lemmas.Bool.{ne_eqb, eq-eqb}
use Rattle.std.proofs.lemmas.Grind.{flat_map-append}
use Rattle.std.proofs.lemmas.List.{length-map, length-replicate}
use Rattle.ansi_screen.specs.declared.cell.Cell.{Cell}
use Rattle.ansi_screen.specs.declared.cell.Part.TheVariants.{Whole}
use Rattle.ansi_screen.specs.Cells.{plain_cell, blank}
use Rattle.ansi_screen.specs.Display.{Display, row_cells}
use Rattle.ansi_screen.specs.After.{State, new_state, Shows}
use Rattle.ansi_screen.specs.Laws.{lines_text, FitsIn, line_cells, page}
use Rattle.ansi_screen.specs.Text.{is_blank, cell_text, used, row_text, used_rows, rows_text, text_of}
use Rattle.ansi_screen.proofs.PlainLemmas.{plain, text-shown}
use Rattle.ansi_screen.proofs.SizeLemmas.{sized-after_all}
use Rattle.screen_text.specs.Laws.{HasNoBlankEnd, LastIsNotEmpty, line_bytes, lines_bytes}

abbrev glyph_of : ℕ → Cell
glyph_of c = plain_cell c plain Whole

abbrev spaces : ℕ → List Cell
spaces n = replicate n (blank plain)

-- a cell of a line
text-glyph : (c : ℕ) → cell_text (glyph_of c) ≡ encode_utf8 c
unfolding cell_text
text-glyph c = append-nil (encode_utf8 c)

glyph-shows : (c : ℕ) → c ≢ 0x20 → is_blank (glyph_of c) ≡ false
unfolding is_blank
glyph-shows c shows = rw (ne_eqb c 0x20 shows) refl

space-blank : is_blank (blank plain) ≡ true
unfolding is_blank
space-blank = refl

-- how far a row is used
used-spaces : (n : ℕ) → used is_blank (spaces n) ≡ 0
used-spaces zero = refl
used-spaces (suc n) = ap₂ (λ (k : ℕ) (b : Bool). if k == 0 && b then 0 else suc k) (used-spaces n) space-blank

used-line : (line : List ℕ) (n : ℕ) → HasNoBlankEnd line → used is_blank (map glyph_of line ++ spaces n) ≡ length line
used-line [] n end = used-spaces n
used-line (c ∷ []) n end = ap₂ (λ (k : ℕ) (b : Bool). if k == 0 && b then 0 else suc k) (used-spaces n) (glyph-shows c end)
used-line (c ∷ next ∷ line) n end =
    ap (λ (k : ℕ). if k == 0 && is_blank (glyph_of c) then 0 else suc k) (used-line (next ∷ line) n end)
    ∙ ap (λ (t : Bool). if t && is_blank (glyph_of c) then 0 else suc (length (next ∷ line))) (eqb-suc-zero (length line))

joined-glyphs : (line : List ℕ) → flat_map cell_text (map glyph_of line) ≡ flat_map encode_utf8 line
joined-glyphs [] = refl
joined-glyphs (c ∷ line) = ap₂ (λ (l r : List ℕ). l ++ r) (text-glyph c) (joined-glyphs line)

module _ (width : ℕ) (line : List ℕ) (end : HasNoBlankEnd line) where
  used-row : used is_blank (line_cells width line) ≡ length line
  used-row = used-line line (width - length line) end

  text-row : row_text (line_cells width line) ≡ flat_map encode_utf8 line
  text-row =
      let long : length line ≡ length (map glyph_of line) = sym (length-map line glyph_of) in
      ap (λ n. flat_map cell_text (take n (line_cells width line))) (used-row ∙ long)
      ∙ ap (flat_map cell_text) (take-append_seam (map glyph_of line) (spaces (width - length line)))
      ∙ joined-glyphs line

length-row : (width : ℕ) (line : List ℕ) → FitsIn width line → length (line_cells width line) ≡ width
length-row width line fits =
    omega (arith, length-append (map glyph_of line) (spaces (width - length line)), length-map line glyph_of, length-replicate (width - length line) (blank plain), fits.no_longer)

-- the row of a line, and one behind all lines
row-of : (width row : ℕ) (lines : List (List ℕ)) (rest : List Cell) → AllByRecursion (FitsIn width) lines → row < length lines
    → take width (drop (row * width) (flat_map (line_cells width) lines ++ rest)) ≡ line_cells width (get_or lines row [])
row-of width row [] rest fit inside = absurd (omega (arith, inside))
row-of width zero (line ∷ lines) rest fit inside =
    let long = length-row width line fit.0 in
    let first : zero * width ≡ 0 = omega arith in
    ap (λ n. take width (drop n ((line_cells width line ++ flat_map (line_cells width) lines) ++ rest))) first
    ∙ ap (λ l. take width l) (append_assoc (line_cells width line) (flat_map (line_cells width) lines) rest)
    ∙ ap (λ n. take n (line_cells width line ++ (flat_map (line_cells width) lines ++ rest))) (sym long)
    ∙ take-append_seam (line_cells width line) (flat_map (line_cells width) lines ++ rest)
row-of width (suc row) (line ∷ lines) rest fit inside =
    let long = length-row width line fit.0 in
    let place : suc row * width ≡ length (line_cells width line) + row * width = omega (arith, long, suc-mul row width) in
    ap (λ n. take width (drop n ((line_cells width line ++ flat_map (line_cells width) lines) ++ rest))) place
    ∙ ap (λ l. take width (drop (length (line_cells width line) + row * width) l)) (append_assoc (line_cells width line) (flat_map (line_cells width) lines) rest)
    ∙ ap (take width) (drop-append-add (line_cells width line) (flat_map (line_cells width) lines ++ rest) (row * width))
    ∙ row-of width row lines rest fit.1 (omega (arith, inside))

used-taken : (n k : ℕ) → used is_blank (take n (spaces k)) ≡ 0
used-taken zero k = refl
used-taken (suc n) zero = refl
used-taken (suc n) (suc k) = ap₂ (λ (j : ℕ) (b : Bool). if j == 0 && b then 0 else suc j) (used-taken n k) space-blank

used-part : (n m k : ℕ) → used is_blank (take n (drop m (spaces k))) ≡ 0
used-part n zero k = used-taken n k
used-part zero (suc m) k = refl
used-part (suc n) (suc m) zero = refl
used-part (suc n) (suc m) (suc k) = used-part (suc n) m k

behind : (width row : ℕ) (lines : List (List ℕ)) (k : ℕ) → AllByRecursion (FitsIn width) lines → length lines ≤ row
    → used is_blank (take width (drop (row * width) (flat_map (line_cells width) lines ++ spaces k))) ≡ 0
behind width row [] k fit past = used-part width (row * width) k
behind width zero (line ∷ lines) k fit past = absurd (omega (arith, past))
behind width (suc row) (line ∷ lines) k fit past =
    let long = length-row width line fit.0 in
    let place : suc row * width ≡ length (line_cells width line) + row * width = omega (arith, long, suc-mul row width) in
    ap (λ n. used is_blank (take width (drop n ((line_cells width line ++ flat_map (line_cells width) lines) ++ spaces k)))) place
    ∙ ap (λ l. used is_blank (take width (drop (length (line_cells width line) + row * width) l))) (append_assoc (line_cells width line) (flat_map (line_cells width) lines) (spaces k))
    ∙ ap (λ l. used is_blank (take width l)) (drop-append-add (line_cells width line) (flat_map (line_cells width) lines ++ spaces k) (row * width))
    ∙ behind width row lines k fit.1 (omega (arith, past))

each-at : (lines : List (List ℕ)) (row : ℕ) → AllByRecursion HasNoBlankEnd lines → row < length lines → HasNoBlankEnd (get_or lines row [])
each-at [] row all inside = absurd (omega (arith, inside))
each-at (line ∷ lines) zero all inside = all.0
each-at (line ∷ lines) (suc row) all inside = each-at lines row all.1 (omega (arith, inside))

last-some : (lines : List (List ℕ)) (row : ℕ) → LastIsNotEmpty lines → length lines ≡ suc row → get_or lines row [] ≢ []
last-some [] row last long = absurd (omega (arith, long))
last-some (line ∷ []) zero last long = last
last-some (line ∷ []) (suc row) last long = absurd (omega (arith, long))
last-some (line ∷ next ∷ lines) zero last long = absurd (omega (arith, long))
last-some (line ∷ next ∷ lines) (suc row) last long = last-some (next ∷ lines) row last (omega (arith, long))

some-length : (line : List ℕ) → line ≢ [] → (length line == 0) ≡ false
some-length [] some = absurd (some refl)
some-length (c ∷ line) some = eqb-suc-zero (length line)

take-all : (lines : List (List ℕ)) → take (length lines) lines ≡ lines
take-all [] = refl
take-all (line ∷ lines) = ap (λ l. line ∷ l) (take-all lines)

-- a display that shows the lines
module _ (d : Display) (lines : List (List ℕ)) (shown : d.cells ≡ page d.width d.height lines) (few : length lines ≤ d.height)
    (fit : AllByRecursion (FitsIn d.width) lines) (ends : AllByRecursion HasNoBlankEnd lines) (last : LastIsNotEmpty lines) where
  abbrev rest : ℕ
  rest = (d.height - length lines) * d.width

  line-row : (row : ℕ) → row < length lines → row_cells row d ≡ line_cells d.width (get_or lines row [])
  line-row row inside = ap (λ cells. take d.width (drop (row * d.width) cells)) shown ∙ row-of d.width row lines (spaces rest) fit inside

  blank-row : (row : ℕ) → length lines ≤ row → used is_blank (row_cells row d) ≡ 0
  blank-row row past = ap (λ cells. used is_blank (take d.width (drop (row * d.width) cells))) shown ∙ behind d.width row lines rest fit past

  rows-of : (n : ℕ) → n ≤ length lines → rows_text n d ≡ lines_bytes (take n lines)
  rows-of zero inside = refl
  rows-of (suc n) inside =
      let line = get_or lines n [] in
      let row : row_text (row_cells n d) ≡ flat_map encode_utf8 line =
      ap row_text (line-row n (omega (arith, inside))) ∙ text-row d.width line (each-at lines n ends (omega (arith, inside))) in
      ap₂ (λ (l r : List ℕ). l ++ (r ++ 0x0A ∷ [])) (rows-of n (omega (arith, inside))) row
      ∙ ap (λ l. lines_bytes (take n lines) ++ l) (sym (append-nil (line_bytes line)))
      ∙ sym (ap lines_bytes (take-suc lines n [] (omega (arith, inside))) ∙ flat_map-append line_bytes (take n lines) (line ∷ []))

  used-last : (n : ℕ) → n ≡ length lines → used_rows is_blank n d ≡ n
  used-last zero is = refl
  used-last (suc n) is =
      let line = get_or lines n [] in
      let used-it : used is_blank (row_cells n d) ≡ length line =
      ap (used is_blank) (line-row n (omega (arith, is))) ∙ used-row d.width line (each-at lines n ends (omega (arith, is))) in
      let some : (used is_blank (row_cells n d) == 0) ≡ false = ap (λ k. k == 0) used-it ∙ some-length line (last-some lines n last (sym is)) in
      rw some refl

  used-all : (j : ℕ) → used_rows is_blank (length lines + j) d ≡ length lines
  used-all zero = let same : length lines + zero ≡ length lines = omega arith in ap (λ n. used_rows is_blank n d) same ∙ used-last (length lines) refl
  used-all (suc j) =
      let row = length lines + j in
      let more : length lines + suc j ≡ suc row = omega arith in
      let none : (used is_blank (row_cells row d) == 0) ≡ true = eq-eqb (used is_blank (row_cells row d)) 0 (blank-row row (omega arith)) in
      ap (λ n. used_rows is_blank n d) more
      ∙ ap (λ (t : Bool). if t then used_rows is_blank row d else suc row) none
      ∙ used-all j

  pub text-page : text_of d ≡ lines_bytes lines
  text-page =
      let split : d.height ≡ length lines + (d.height - length lines) = omega (arith, few) in
      ap (λ n. rows_text n d) (ap (λ n. used_rows is_blank n d) split ∙ used-all (d.height - length lines))
      ∙ rows-of (length lines) (omega arith)
      ∙ ap lines_bytes (take-all lines)

pub text-lines : (columns rows : ℕ) (lines : List (List ℕ)) (new : State) → length lines ≤ rows → AllByRecursion (FitsIn columns) lines → AllByRecursion HasNoBlankEnd lines
    → LastIsNotEmpty lines → Shows (new_state columns rows) (lines_text lines) new → text_of new.display ≡ lines_bytes lines
text-lines columns rows lines new few fit ends last shows =
    let sized = sized-after_all columns rows shows.0 (new_state columns rows) (refl, refl, omega arith) in
    let wide : new.display.width ≡ columns = ap (λ (s : State). s.display.width) shows.2 ∙ sized.0 in
    let high : new.display.height ≡ rows = ap (λ (s : State). s.display.height) shows.2 ∙ sized.1 in
    let cells = text-shown columns rows lines new few fit shows in
    text-page new.display lines (cells ∙ ap₂ (λ w h. page w h lines) (sym wide) (sym high)) (omega (arith, few, high))
    (subst (λ n. AllByRecursion (FitsIn n) lines) (sym wide) fit) ends last
