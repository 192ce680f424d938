-- Rows that are kept, one after another, in a ring of places.
use Rattle.std.proofs.Common.{◌≡◌, ◌≤◌, ◌<◌, ◌+◌, ◌-◌, ◌⊎◌, inl, inr, ℕ, zero, suc, min, List, [], ◌∷◌, ◌++◌, length, take, drop, refl, sym, ap, ap₂, ◌∙◌, subst, append_assoc, append-nil, length-append, length-drop, length-take, arith}
use Rattle.std.proofs.lemmas.Bool.{cases_lt}
use Rattle.std.proofs.lemmas.List.{drop-append-le, drop-drop, drop-set-lt, take_more_set, drop_all, take_all, length-set, length-replicate, drop_at, take_at}
use Rattle.std.specs.Prelude.{slice_set, replicate}
use Rattle.std.specs.List.{AllByRecursion}
use Rattle.ansi_style.specs.Style.{plain}
use Rattle.ansi_screen.specs.declared.cell.Cell.{Cell}
use Rattle.ansi_screen.specs.History.{Kept, keep_last, most_left, kept_after, kept_after_all}
use Rattle.ansi_screen.specs.Cells.{blank}
use Rattle.ansi_screen.specs.Grid.{AreRows}
use Rattle.ansi_screen.specs.Ring.{turned, HasSpare, IsMade}
use Rattle.ansi_screen.proofs.BlankLemmas.{whole-new}

-- past the last place comes the first
turned-around : (places : List (List Cell)) → turned (length places) places ≡ turned 0 places
turned-around places =
    ap₂ (λ (a b : List (List Cell)). a ++ b) (drop_all (length places) places (omega arith)) (take_all (length places) places (omega arith)) ∙ sym (append-nil places)

-- a place is written, and stands last
turned-put : (place : ℕ) (places : List (List Cell)) (row : List Cell) → place < length places
    → turned (place + 1) (slice_set places place row) ≡ drop 1 (turned place places) ++ row ∷ []
turned-put place places row within =
    let some : 1 ≤ length (drop place places) = omega (arith, length-drop place places, within) in
    let behind : drop 1 (drop place places) ≡ drop (place + 1) places = drop-drop 1 place places ∙ ap (λ n. drop n places) (omega arith) in
    ap₂ (λ (a b : List (List Cell)). a ++ b) (drop-set-lt (place + 1) places place row (omega arith)) (take_more_set places place row within)
    ∙ sym (append_assoc (drop (place + 1) places) (take place places) (row ∷ []))
    ∙ ap (λ (l : List (List Cell)). (l ++ take place places) ++ row ∷ []) (sym behind)
    ∙ ap (λ (l : List (List Cell)). l ++ row ∷ []) (sym (drop-append-le 1 (drop place places) (take place places) some))

keeps : (n k : ℕ) (xs : List (List Cell)) → length xs - n ≡ k → keep_last n xs ≡ drop k xs
keeps n k xs is = ap (λ i. drop i xs) is

put-case : (count most : ℕ) (xs : List (List Cell)) (row : List Cell) → length xs ≡ most → count ≤ most → 1 ≤ most
    → (count < most) ⊎ (most ≤ count) → keep_last (min most (count + 1)) (drop 1 xs ++ row ∷ []) ≡ keep_last most (keep_last count xs ++ row ∷ [])
put-case count most xs row long few some (inl low) =
    let m = most - (count + 1) in
    let new : length (drop 1 xs ++ row ∷ []) ≡ most = omega (arith, length-append (drop 1 xs) (row ∷ []), length-drop 1 xs, long, some) in
    let shorter : m ≤ length (drop 1 xs) = omega (arith, length-drop 1 xs, long, low) in
    let passed : length xs - count ≡ 1 + m = omega (arith, long, low) in
    let kept : length (drop (1 + m) xs ++ row ∷ []) - most ≡ 0 =
    omega (arith, length-append (drop (1 + m) xs) (row ∷ []), length-drop (1 + m) xs, long, low) in
    keeps (min most (count + 1)) m (drop 1 xs ++ row ∷ []) (omega (arith, new, low))
    ∙ drop-append-le m (drop 1 xs) (row ∷ []) shorter
    ∙ ap (λ (l : List (List Cell)). l ++ row ∷ []) (drop-drop m 1 xs)
    ∙ sym (keeps most 0 (drop (1 + m) xs ++ row ∷ []) kept)
    ∙ ap (λ k. keep_last most (drop k xs ++ row ∷ [])) (sym passed)
put-case count most xs row long few some (inr all) =
    let new : length (drop 1 xs ++ row ∷ []) ≡ most = omega (arith, length-append (drop 1 xs) (row ∷ []), length-drop 1 xs, long, some) in
    let none : length xs - count ≡ 0 = omega (arith, long, all) in
    let one : length (xs ++ row ∷ []) - most ≡ 1 = omega (arith, length-append xs (row ∷ []), long) in
    keeps (min most (count + 1)) 0 (drop 1 xs ++ row ∷ []) (omega (arith, new, all, few))
    ∙ sym (drop-append-le 1 xs (row ∷ []) (omega (arith, long, some)))
    ∙ sym (keeps most 1 (xs ++ row ∷ []) one)
    ∙ ap (λ k. keep_last most (drop k xs ++ row ∷ [])) (sym none)

-- of all places, those that have a row
kept-put : (count most : ℕ) (xs : List (List Cell)) (row : List Cell) → length xs ≡ most → count ≤ most → 1 ≤ most
    → keep_last (min most (count + 1)) (drop 1 xs ++ row ∷ []) ≡ keep_last most (keep_last count xs ++ row ∷ [])
kept-put count most xs row long few some = put-case count most xs row long few some (cases_lt count most)

length-turned : (next : ℕ) (places : List (List Cell)) → next ≤ length places → length (turned next places) ≡ length places
length-turned next places within =
    omega (arith, length-append (drop next places) (take next places), length-drop next places, length-take next places, within)

-- A row that leaves is put into a place, which is the next one, or the first where that is past the last one.
pub keeps-row : (next place count left now columns : ℕ) (places : List (List Cell)) (row : List Cell)
    → count ≤ length places → place < length places → turned next places ≡ turned place places → now ≡ min (left + 1) most_left
    → ◌≡◌ {A = Kept} (record {
      most = length (slice_set places place row);
      columns = columns;
      rows = keep_last (min (length places) (count + 1)) (turned (place + 1) (slice_set places place row));
      left = now;
    })
    (kept_after row (record { most = length places; columns = columns; rows = keep_last count (turned next places); left = left }))
keeps-row next place count left now columns places row few inside same counted =
    let most = length places in
    let rows : keep_last (min most (count + 1)) (turned (place + 1) (slice_set places place row)) ≡ keep_last most (keep_last count (turned next places) ++ row ∷ []) =
    ap (keep_last (min most (count + 1))) (turned-put place places row inside)
    ∙ kept-put count most (turned place places) row (length-turned place places (omega (arith, inside))) few (omega (arith, inside))
    ∙ ap (λ (xs : List (List Cell)). keep_last most (keep_last count xs ++ row ∷ [])) (sym same) in
    ap (λ (k : Kept). k) (ap₂ (λ rs n. record { most = length (slice_set places place row); columns = columns; rows = rs; left = n }) rows counted
    ∙ ap (λ m. record { most = m; columns = columns; rows = keep_last most (keep_last count (turned next places) ++ row ∷ []); left = min (left + 1) most_left })
    (length-set places place row))

-- the place of the next row
pub next-within : (next place : ℕ) (places : List (List Cell)) → next < length places → place ≡ next
    → (place < length places) × (turned next places ≡ turned place places)
next-within next place places low is = (omega (arith, low, is), ap (λ n. turned n places) (sym is))

pub next-around : (next place : ℕ) (places : List (List Cell)) → next ≤ length places → length places ≤ next → 0 < length places → place ≡ 0
    → (place < length places) × (turned next places ≡ turned place places)
next-around next place places few all some is =
    let last : next ≡ length places = omega (arith, few, all) in
    (omega (arith, some, is), ap (λ n. turned n places) last ∙ turned-around places ∙ ap (λ n. turned n places) (sym is))

-- rows, and one more
pub kept-more : (rows : List (List Cell)) (row : List Cell) (kept : Kept) → kept_after_all (rows ++ row ∷ []) kept ≡ kept_after row (kept_after_all rows kept)
kept-more [] row kept = refl
kept-more (first ∷ rows) row kept = kept-more rows row (kept_after first kept)

-- There are as many columns as before.
pub kept-columns : (rows : List (List Cell)) (kept : Kept) → (kept_after_all rows kept).columns ≡ kept.columns
kept-columns [] kept = refl
kept-columns (first ∷ rows) kept = kept-columns rows (kept_after first kept)

-- Memory for so many rows, each of so many cells.
pub all-rooms : (width n : ℕ) → AllByRecursion (λ room. room ≡ width) (replicate n width)
all-rooms width zero = tt
all-rooms width (suc n) = (refl, all-rooms width n)

-- Rows with a blank one more are rows.
pub rows-more : (width other : ℕ) (rows : List (List Cell)) → AreRows width rows → other ≡ width → AreRows width (rows ++ replicate other (blank plain) ∷ [])
rows-more width other [] are same =
    subst (λ n. AreRows width (replicate n (blank plain) ∷ [])) (sym same) ((length-replicate width (blank plain), whole-new width width plain), tt)
rows-more width other (row ∷ rows) are same = (are.0, rows-more width other rows are.1 same)

-- the last of some, and the others
pub rooms-front : (width last : ℕ) (rooms : List ℕ) → AllByRecursion (λ room. room ≡ width) (rooms ++ last ∷ [])
    → AllByRecursion (λ room. room ≡ width) rooms × (last ≡ width)
rooms-front width last [] are = (tt, are.0)
rooms-front width last (room ∷ rooms) are = let rest = rooms-front width last rooms are.1 in ((are.0, rest.0), rest.1)

-- The next place is free, if there is memory for one: as many rows are kept as before, and there is as much room.
pub record HasPlace (columns count next capacity : ℕ) (places places_after : List (List Cell)) (spare spare_after : List ℕ) : Type 0 where
  pub all : length places_after + length spare_after ≡ length places + length spare
  pub rows : AreRows columns places_after
  pub kept : keep_last count (turned next places_after) ≡ keep_last count (turned next places)
  pub few : count ≤ length places_after
  pub within : next ≤ length places_after
  pub widths : AllByRecursion (λ width. width ≡ columns) spare_after
  pub free : (next < length places_after) ⊎ (length spare_after ≡ 0)
  pub first_round : (length spare_after ≡ 0) ⊎ (count ≤ next)

kept-behind : (count : ℕ) (row : List Cell) (rows : List (List Cell)) → count ≤ length rows → keep_last count (row ∷ rows) ≡ keep_last count rows
kept-behind count row rows few =
    let one : suc (length rows) - count ≡ suc (length rows - count) = omega (arith, few) in
    ap (λ n. drop n (row ∷ rows)) one

turned-all : (next : ℕ) (places : List (List Cell)) → next ≡ length places → turned next places ≡ places
turned-all next places is =
    ap₂ (λ (a b : List (List Cell)). a ++ b) (drop_all next places (omega (arith, is))) (take_all next places (omega (arith, is)))

pub has-place : (columns count next capacity : ℕ) (places places_after : List (List Cell)) (spare spare_after : List ℕ)
    → next ≤ length places → count ≤ length places → AreRows columns places → HasSpare columns count next (length places) capacity spare
    → IsMade next places places_after spare spare_after → HasPlace columns count next capacity places places_after spare spare_after
has-place columns count next capacity places places_after spare spare_after within few rows has (inl (same, same_spare, free)) = record {
  all = ap₂ (λ (a : List (List Cell)) (b : List ℕ). length a + length b) same same_spare;
  rows = subst (AreRows columns) (sym same) rows;
  kept = ap (λ (l : List (List Cell)). keep_last count (turned next l)) same;
  few = omega (arith, ap length same, few);
  within = omega (arith, ap length same, within);
  widths = subst (AllByRecursion (λ width. width ≡ columns)) (sym same_spare) has.widths;
  free = elim free [
    | inl low ↦ inl (omega (arith, ap length same, low))
    | inr none ↦ inr (ap length same_spare ∙ ap length none)
  ];
  first_round = subst (λ (l : List ℕ). (length l ≡ 0) ⊎ (count ≤ next)) (sym same_spare) has.first_round;
}
has-place columns count next capacity places places_after spare spare_after within few rows has (inr (width, last, rest, more)) =
    let blank_row : List Cell = replicate width (blank plain) in
    let front = rooms-front columns width spare_after (subst (AllByRecursion (λ room. room ≡ columns)) rest has.widths) in
    let long : length places_after ≡ length places + 1 = ap length more ∙ length-append places (blank_row ∷ []) in
    let fewer : length spare ≡ length spare_after + 1 = ap length rest ∙ length-append spare_after (width ∷ []) in
    record {
      all = omega (arith, long, fewer);
      rows = subst (AreRows columns) (sym more) (rows-more columns width places rows front.1);
      kept = ap (λ (l : List (List Cell)). keep_last count (turned next l)) more
          ∙ (ap (keep_last count) (ap₂ (λ (a b : List (List Cell)). a ++ b) (drop_at places (blank_row ∷ []) next (sym last)) (take_at places (blank_row ∷ []) next (sym last)))
          ∙ (kept-behind count blank_row places few ∙ ap (keep_last count) (sym (turned-all next places last))));
      few = omega (arith, long, few);
      within = omega (arith, long, within);
      widths = front.0;
      free = inl (omega (arith, long, last));
      first_round = elim has.first_round [
        | inl none ↦ absurd (omega (arith, none, fewer))
        | inr low ↦ inr low
      ];
    }

-- where the next row comes: into the next place, or into the first where there is no memory for more of them
pub place-found : (next place spare : ℕ) (places : List (List Cell)) → next ≤ length places → (next < length places) ⊎ (spare ≡ 0) → 0 < length places
    → ((next < length places) × (place ≡ next)) ⊎ ((length places ≤ next) × (place ≡ 0))
    → ((place < length places) × (turned next places ≡ turned place places)) × ((place ≡ next) ⊎ (spare ≡ 0))
place-found next place spare places within free some (inl (low, is)) = (next-within next place places low is, inl is)
place-found next place spare places within (inl low) some (inr (all, is)) = absurd (omega (arith, low, all))
place-found next place spare places within (inr none) some (inr (all, is)) = (next-around next place places within all some is, inr none)

-- as many of the last, where there are no more
same-last : (n m : ℕ) (rows : List (List Cell)) → (n ≡ m) ⊎ ((length rows ≤ n) × (length rows ≤ m)) → keep_last n rows ≡ keep_last m rows
same-last n m rows (inl is) = ap (λ k. keep_last k rows) is
same-last n m rows (inr (first, second)) =
    let none : length rows - n ≡ 0 = omega (arith, first) in
    let none_too : length rows - m ≡ 0 = omega (arith, second) in
    ap (λ k. drop k rows) (none ∙ sym none_too)

-- A row is kept in its place, among those of a ring that has a place for it.
module _ (columns count next place left now capacity : ℕ) (places places_after : List (List Cell)) (spare spare_after : List ℕ) (row : List Cell)
    (has : HasPlace columns count next capacity places places_after spare spare_after)
    (found : (place < length places_after) × (turned next places_after ≡ turned place places_after))
    (is : (place ≡ next) ⊎ (length spare_after ≡ 0)) (counted : now ≡ min (left + 1) most_left) where
  abbrev pub most : ℕ
  most = length places + length spare

  last-few : (length places_after ≡ most) ⊎ ((count + 1 ≤ length places_after) × (count + 1 ≤ most))
  last-few = elim is [
    | inl same ↦ elim has.first_round [
      | inl none ↦ inl (omega (arith, none, has.all))
      | inr low ↦ inr (omega (arith, same, found.0, low), omega (arith, same, found.0, low, has.all))
    ]
    | inr none ↦ inl (omega (arith, none, has.all))
  ]

  front-long : length (keep_last count (turned next places_after) ++ row ∷ []) ≡ count + 1
  front-long =
      let long = length-turned next places_after has.within in
      length-append (keep_last count (turned next places_after)) (row ∷ [])
      ∙ ap (λ n. n + 1) (length-drop (length (turned next places_after) - count) (turned next places_after) ∙ omega (arith, long, has.few))

  same-front : keep_last (length places_after) (keep_last count (turned next places_after) ++ row ∷ []) ≡ keep_last most (keep_last count (turned next places_after) ++ row ∷ [])
  same-front = same-last (length places_after) most (keep_last count (turned next places_after) ++ row ∷ []) (elim last-few [
    | inl all ↦ inl all
    | inr few ↦ inr (omega (arith, front-long, few.0), omega (arith, front-long, few.1))
  ])

  pub keeps-in-place : ◌≡◌ {A = Kept} (record {
    most = length (slice_set places_after place row) + length spare_after;
    columns = columns;
    rows = keep_last (min (length places_after) (count + 1)) (turned (place + 1) (slice_set places_after place row));
    left = now;
  }) (kept_after row (record { most = most; columns = columns; rows = keep_last count (turned next places); left = left }))
  keeps-in-place =
      let rows = ap (λ (k : Kept). k.rows) (keeps-row next place count left now columns places_after row has.few found.0 found.1 counted)
      ∙ (same-front ∙ ap (λ l. keep_last most (l ++ row ∷ [])) has.kept) in
      let all : length (slice_set places_after place row) + length spare_after ≡ most = omega (arith, length-set places_after place row, has.all) in
      ap₂ (λ rs n. record { most = length (slice_set places_after place row) + length spare_after; columns = columns; rows = rs; left = n }) rows counted
      ∙ ap (λ m. record { most = m; columns = columns; rows = keep_last most (keep_last count (turned next places) ++ row ∷ []); left = min (left + 1) most_left }) all

  -- and the ring is one then.
  pub keeps-spare : (capacity_after now_kept : ℕ) → now_kept ≡ min (length places_after) (count + 1) → length places_after + length spare_after ≤ capacity_after
      → HasSpare columns now_kept (place + 1) (length (slice_set places_after place row)) capacity_after spare_after
  keeps-spare capacity_after now_kept kept room = record {
    first_round = elim is [
      | inl same ↦ elim has.first_round [
        | inl none ↦ inl none
        | inr low ↦ inr (omega (arith, same, low, kept))
      ]
      | inr none ↦ inl none
    ];
    widths = has.widths;
    room = omega (arith, length-set places_after place row, room);
  }
