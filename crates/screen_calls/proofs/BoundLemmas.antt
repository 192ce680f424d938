-- How long the HTML is that is made of what a screen showed, beside its text. It is counted in the units of `ansi_html`: a
-- text is one, a change of style three, and a link five and one for each of its bytes, for which what is spare pays.
use Rattle.std.proofs.Common.{◌≡◌, ◌≤◌, ℕ, ◌+◌, ◌*◌, Bool, true, false, ◌&&◌, eqb, List, [], ◌∷◌, ◌++◌, codes, length, map, refl, ap, arith, length-append}
use Rattle.std.specs.Prelude.{nat_le, ◌==◌, count_by, encode_utf8, if◌then◌else◌}
use Rattle.std.specs.Str.{bytes_eq}
use Rattle.std.specs.List.{flat_map, slice_split}
use Rattle.std.proofs.lemmas.Bool.{leb-true}
use Rattle.std.proofs.lemmas.Grind.{flat_map-append}
use Rattle.std.proofs.lemmas.List.Splits.{join_with_byte-slice_split}
use Rattle.anstyle_parse.specs.Stream.Bytes.{semicolon}
use Rattle.anstyle_parse.specs.Stream.Call.{Call, execute}
use Rattle.anstyle_parse.proofs.Characters.Scalars.{length-encode-some}
use Rattle.ansi_style.specs.declared.style.Style.{Style}
use Rattle.ansi_style.specs.Style.{plain, are_equal}
use Rattle.ansi_style.specs.Codes.{selection, codes_of}
use Rattle.ansi_style.specs.Rendition.{style_after}
use Rattle.ansi_html.specs.declared.scheme.Styling.{Styling}
use Rattle.ansi_html.specs.Affordable.{link_cost, is_paid}
use Rattle.ansi_html.specs.Blocks.{blocked_html, block_of_a_byte, block_tags}
use Rattle.ansi_html.specs.Html.{escaped, escaped_text, html, html_of_a_byte, html_of_an_end}
use Rattle.ansi_html.specs.Lines.{lined_html, lined_html_of_a_byte}
use Rattle.ansi_html.specs.Links.{is_linkable, is_whole, uri_of, link_of}
use Rattle.ansi_html.proofs.BlockBoundLemmas.{length-blocked_units, length-numbered_units}
use Rattle.ansi_html.proofs.ColorLemmas.{choose}
use Rattle.ansi_html.proofs.BoundLemmas.{link_units, units, all_units, all_units-append, length-html_units, times-less}
use Rattle.ansi_html.proofs.LineBoundLemmas.{length-lined_units}
use Rattle.ansi_screen.specs.declared.cell.Cell.{Cell}
use Rattle.ansi_screen.specs.declared.cell.Marks.{Marks}
use Rattle.ansi_screen.specs.declared.cell.Marks.TheVariants.{Unmarked, One, Two}
use Rattle.ansi_screen.specs.declared.size.Size.{Size}
use Rattle.ansi_screen.specs.After.{State, new_state, after_all}
use Rattle.ansi_screen.specs.Cells.{is_right}
use Rattle.ansi_screen.specs.Text.{cell_text, marks_text, goes_on}
use Rattle.html_urls.specs.Addresses.{max_separators}
use Rattle.html_urls.specs.Linked.{link_command, with_room, prints}
use Rattle.screen_text.specs.Lines.{row_text, rows_text, closing, showing}
use Rattle.screen_text.specs.Rows.{Handed, leaving, command, all_handed}
use Rattle.screen_text.specs.Shown.{given_all, shown_text}
use Rattle.screen_html.specs.Links.{Kept, link_at}
use Rattle.screen_html.specs.Paid.{Purse, purse_with}
use Rattle.screen_html.specs.Shown.{begun_cost}
use Rattle.screen_html.proofs.HandedLemmas.{rows_in}
use Rattle.screen_html.proofs.PaidLemmas.{with_by}
use Rattle.screen_html.proofs.PaidBoundLemmas.{handed_cost, few-credited, few-told, cost-rows, cost-handed, begun-given_all}
use Rattle.screen_calls.specs.Calls.{Pen, pen, style_calls, link_calls, marks_of, characters_of, purse_in, shown_calls_of, cell_calls, pen_behind, cells_calls, pen_after, feed_calls, pen_fed, Hand, printed_cells, behind_cells, row_calls, hand_after, hand_told, handed_calls, hand_behind, closing_calls, at_start, left_calls, ending_calls, shown_calls}
use Rattle.screen_calls.specs.Laws.{shown_by}
use Rattle.screen_calls.proofs.TextLemmas.{text-shown, text-handed, text-closing}
use Rattle.ansi_strip.specs.Strip.{stripped_call, stripped}
use Rattle.without_hidden.specs.Hidden.{stays, without_hidden}

-- the command of a link
few-link_units : (link : List ℕ) → link_units link ≤ 5 + length link
unfolding link_units
few-link_units [] = omega arith
few-link_units (b ∷ link) = omega arith

few-room : (link : List ℕ) → length (with_room link) ≤ length link
few-room link = by (nat_le (count_by (λ b. b == semicolon) link) max_separators)
  where
    by : (room : Bool) → length (if room then link else []) ≤ length link
    by true = omega arith
    by false = omega arith

few-said : (link : List ℕ) → length (link_of (codes "8" ∷ [] ∷ slice_split (λ b. b == semicolon) link)) ≤ length link
unfolding link_of
few-said link = by (is_whole parts && is_linkable (uri_of parts))
  where
    parts : List (List ℕ)
    parts = codes "8" ∷ [] ∷ slice_split (λ b. b == semicolon) link

    by : (kept : Bool) → length (if kept then uri_of parts else []) ≤ length link
    by true = omega (arith, ap length (join_with_byte-slice_split semicolon link))
    by false = omega arith

command-units : (paid : List ℕ) → all_units (link_command (with_room paid) ∷ []) ≤ 5 + length paid
unfolding all_units units
command-units paid =
    let room = with_room paid in
    let said = link_of (codes "8" ∷ [] ∷ slice_split (λ b. b == semicolon) room) in
    omega (arith, few-link_units said, few-said room, few-room paid)

few-link : (selected wanted paid : List ℕ) → all_units (link_calls selected wanted paid) ≤ 5 + length paid
unfolding all_units
few-link selected wanted paid = by (bytes_eq selected wanted)
  where
    by : (same : Bool) → all_units (if same then [] else link_command (with_room paid) ∷ []) ≤ 5 + length paid
    by true = omega arith
    by false = command-units paid

some-escaped : (b : ℕ) → 1 ≤ length (escaped b)
some-escaped b =
    let P : List ℕ → Type 0 = λ l. 1 ≤ length l in
    choose P (eqb b 0x26) _ _ (omega arith) (choose P (eqb b 0x3C) _ _ (omega arith) (choose P (eqb b 0x3E) _ _ (omega arith)
    (choose P (eqb b 0x22) _ _ (omega arith) (choose P (eqb b 0x27) _ _ (omega arith) (choose P (eqb b 0x0D) _ _ (omega arith) (omega arith))))))

few-cost : (link : List ℕ) → length link ≤ link_cost link
few-cost [] = omega arith
few-cost (b ∷ link) = omega (arith, length-append (escaped b) (escaped_text link), some-escaped b, few-cost link)

-- what is spare pays for it
few-with : (it : Purse) (link : List ℕ) → all_units (link_calls it.last link (purse_with it link).last) + (purse_with it link).spare ≤ 5 + it.spare
unfolding all_units
few-with it link = by (bytes_eq it.last link) (is_paid it.spare link) refl
  where
    by : (same has : Bool) → is_paid it.spare link ≡ has
        → all_units (if same then [] else link_command (with_room (with_by it link same has).last) ∷ []) + (with_by it link same has).spare ≤ 5 + it.spare
    by true has f = omega arith
    by false true f = omega (arith, command-units link, few-cost link, leb-true (link_cost link) it.spare f)
    by false false f = omega (arith, command-units [])

few-style : (selected wanted : Style) → all_units (style_calls selected wanted) ≤ 3
unfolding all_units units
few-style selected wanted = by (are_equal selected wanted)
  where
    by : (same : Bool) → all_units (if same then [] else selection (codes_of wanted) ∷ []) ≤ 3
    by true = omega arith
    by false = omega arith

-- each character that is printed is a byte of the text at least
few-marks : (marks : Marks) → all_units (prints (marks_of marks)) ≤ length (marks_text marks)
unfolding all_units units
few-marks Unmarked = omega arith
few-marks (One first) = omega (arith, length-encode-some first)
few-marks (Two first second) =
    omega (arith, length-append (encode_utf8 first) (encode_utf8 second), length-encode-some first, length-encode-some second)

few-characters : (cell : Cell) → all_units (prints (characters_of cell)) ≤ length (encode_utf8 cell.character ++ marks_text cell.marks)
unfolding all_units units
few-characters cell =
    omega (arith, length-append (encode_utf8 cell.character) (marks_text cell.marks), length-encode-some cell.character, few-marks cell.marks)

-- a cell: nine units a byte, beside what is spare
few-cell : (links : List Kept) (at : Pen) (cell : Cell)
    → all_units (cell_calls links at cell) + (pen_behind links at cell).purse.spare ≤ 9 * length (cell_text cell) + at.purse.spare
unfolding all_units cell_text
few-cell links at cell = by (is_right cell.part)
  where
    wanted : List ℕ
    wanted = link_at cell.link links

    link : List Call
    link = link_calls at.purse.last wanted (purse_in links at cell).last

    style : List Call
    style = style_calls at.style cell.style

    text : List Call
    text = prints (characters_of cell)

    by : (right : Bool)
        → all_units (if right then [] else shown_calls_of links at cell) + (if right then at else pen cell.style (purse_in links at cell)).purse.spare
        ≤ 9 * length (if right then [] else encode_utf8 cell.character ++ marks_text cell.marks) + at.purse.spare
    by true = omega arith
    by false =
        omega (
          arith,
          all_units-append link (style ++ text),
          all_units-append style text,
          few-with at.purse wanted,
          few-style at.style cell.style,
          few-characters cell,
          length-append (encode_utf8 cell.character) (marks_text cell.marks),
          length-encode-some cell.character,
        )

few-cells : (links : List Kept) (at : Pen) (cells : List Cell)
    → all_units (cells_calls links at cells) + (pen_after links at cells).purse.spare ≤ 9 * length (flat_map cell_text cells) + at.purse.spare
unfolding all_units
few-cells links at [] = omega arith
few-cells links at (cell ∷ cells) =
    let next = pen_behind links at cell in
    omega (
      arith,
      all_units-append (cell_calls links at cell) (cells_calls links next cells),
      length-append (cell_text cell) (flat_map cell_text cells),
      few-cell links at cell,
      few-cells links next cells,
    )

-- a line feed: it earns a hundred
feed-units : (at : Pen) → all_units (feed_calls at) ≤ 9
unfolding all_units units
feed-units at =
    let style = style_calls at.style plain in
    let feed = execute 0x0A ∷ [] in
    omega (
      arith,
      all_units-append (link_calls at.purse.last [] []) (style ++ feed),
      all_units-append style feed,
      few-link at.purse.last [] [],
      few-style at.style plain,
    )

few-feed : (at : Pen) → all_units (feed_calls at) + (pen_fed at).purse.spare ≤ 109 + at.purse.spare
few-feed at = omega (arith, feed-units at, few-credited 100 at.purse.spare)

few-row : (at : Hand) (row : List Cell) → all_units (row_calls at row) + (hand_after at row).pen.purse.spare ≤ 109 * length (row_text row) + at.pen.purse.spare
unfolding all_units
few-row at row = by (goes_on row)
  where
    cells : List Call
    cells = cells_calls at.places at.pen (printed_cells row)

    bytes : List ℕ
    bytes = flat_map cell_text (printed_cells row)

    next : Pen
    next = behind_cells at row

    by : (on : Bool)
        → all_units (cells ++ (if on then [] else feed_calls next)) + (if on then next else pen_fed next).purse.spare
        ≤ 109 * length (bytes ++ (if on then [] else 0x0A ∷ [])) + at.pen.purse.spare
    by true = omega (arith, all_units-append cells [], length-append bytes [], few-cells at.places at.pen (printed_cells row))
    by false =
        omega (
          arith,
          all_units-append cells (feed_calls next),
          length-append bytes (0x0A ∷ []),
          few-cells at.places at.pen (printed_cells row),
          few-feed next,
        )

few-handed : (at : Hand) (all : List Handed) → all_units (handed_calls at all) + (hand_behind at all).pen.purse.spare
    ≤ 109 * length (rows_text (rows_in all)) + at.pen.purse.spare + handed_cost all
unfolding all_units
few-handed at [] = omega arith
few-handed at (leaving row ∷ others) =
    let next = hand_after at row in
    omega (
      arith,
      all_units-append (row_calls at row) (handed_calls next others),
      length-append (row_text row) (rows_text (rows_in others)),
      few-row at row,
      few-handed next others,
    )
few-handed at (command number parts ∷ others) = omega (arith, few-handed (hand_told at number parts) others, few-told number parts at.pen.purse.spare)

few-close : (at : Hand) → all_units (closing_calls at) ≤ 109 * length (closing at.is_open)
unfolding all_units
few-close at = by at.is_open
  where
    by : (on : Bool) → all_units (if on then feed_calls at.pen else []) ≤ 109 * length (closing on)
    by true = omega (arith, feed-units at.pen)
    by false = omega arith

-- all that was shown
few-shown : (s : State) (calls : List Call) → all_units (shown_calls s calls) ≤ 109 * length (shown_text s calls) + (begun_cost calls + 100)
few-shown s calls =
    let gone = all_handed (given_all calls) s in
    let hand = hand_behind at_start gone in
    let rows = showing (after_all (given_all calls) s).display in
    let still = map leaving rows in
    let last = hand_behind hand still in
    omega (
      arith,
      all_units-append (left_calls s calls) (ending_calls s calls),
      all_units-append (handed_calls hand still) (closing_calls last),
      few-handed at_start gone,
      few-handed hand still,
      few-close last,
      cost-rows rows,
      cost-handed (given_all calls) s,
      begun-given_all calls,
      ap length (text-shown s calls),
      ap length (flat_map-append stripped_call (left_calls s calls) (ending_calls s calls)),
      length-append (stripped (left_calls s calls)) (stripped (ending_calls s calls)),
      ap length (flat_map-append stripped_call (handed_calls hand still) (closing_calls last)),
      length-append (stripped (handed_calls hand still)) (stripped (closing_calls last)),
      ap length (text-handed at_start gone),
      ap length (text-handed hand still),
      ap length (text-closing last),
    )

-- without hidden text it has no more
few-kept : (style : Style) (calls : List Call) → all_units (without_hidden style calls) ≤ all_units calls
unfolding all_units
few-kept style [] = omega arith
few-kept style (call ∷ calls) = by (stays style call) (few-kept (style_after call style) calls)
  where
    by : (kept : Bool) → all_units (without_hidden (style_after call style) calls) ≤ all_units calls
        → all_units ((if kept then call ∷ [] else []) ++ without_hidden (style_after call style) calls) ≤ units call + all_units calls
    by true rest = omega (arith, rest)
    by false rest = omega (arith, rest)

few-converted : (size : Size) (no_hidden : Bool) (calls : List Call) → all_units (shown_by size no_hidden false calls)
    ≤ 109 * length (shown_text (new_state size.columns size.rows) calls) + (begun_cost calls + 100)
few-converted size true calls =
    omega (arith, few-kept plain (shown_calls (new_state size.columns size.rows) calls), few-shown (new_state size.columns size.rows) calls)
few-converted size false calls = few-shown (new_state size.columns size.rows) calls

-- so the HTML has a bound
module _ (size : Size) (no_hidden : Bool) (styling : Styling) (calls : List Call) where
  abbrev most : ℕ
  most = 109 * length (shown_text (new_state size.columns size.rows) calls) + (begun_cost calls + 100)

  abbrev all : List Call
  all = shown_by size no_hidden false calls

  pub bound-shown : length (html styling all) ≤ html_of_a_byte styling * most + html_of_an_end
  bound-shown = omega (arith, length-html_units styling all, times-less (html_of_a_byte styling) (all_units all) most (few-converted size no_hidden calls))

  pub bound-lines : length (lined_html styling all) ≤ lined_html_of_a_byte styling * most + 18
  bound-lines = omega (arith, length-lined_units styling all, times-less (lined_html_of_a_byte styling) (all_units all) most (few-converted size no_hidden calls))

  pub bound-blocks : length (blocked_html false styling all) ≤ (html_of_a_byte styling + block_of_a_byte) * most + 41
  bound-blocks =
      omega (arith, length-blocked_units styling all, times-less (html_of_a_byte styling + block_of_a_byte) (all_units all) most (few-converted size no_hidden calls))

  pub bound-numbered : length (blocked_html true styling all) ≤ (lined_html_of_a_byte styling + block_tags) * most + 25
  bound-numbered =
      omega (arith, length-numbered_units styling all, times-less (lined_html_of_a_byte styling + block_tags) (all_units all) most (few-converted size no_hidden calls))
