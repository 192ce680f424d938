-- Rows that change places, and parts of a grid's cells that become blank or other ones, row by row.
use Rattle.std.proofs.Common.{◌≡◌, inl, inr, ℕ, zero, suc, ◌+◌, ◌-◌, ◌*◌, ◌<◌, ◌≤◌, Bool, true, false, ◌&&◌, List, [], ◌∷◌, ◌++◌, length, get_or, take, drop, refl, ap, ap₂, sym, ◌∙◌, subst, arith}
use Rattle.std.specs.Prelude.{◌==◌, ◌||◌, not, min, replicate, map, nat_lt, nat_eq, if◌then◌else◌}
use Rattle.std.specs.List.{AllByRecursion}
use Rattle.std.proofs.lemmas.List.{places, same_lists, take_at, drop_at, drop-drop, append_assoc, append-nil, length-append, length-take-le, length-drop, length-replicate, replicate-append-replicate, take-append-drop, take_all, drop_all, length-map, map-append, get_or-replicate, take-map, drop-map}
use Rattle.std.proofs.lemmas.Grind.{flat_map-append}
use Rattle.std.proofs.Math.Nat.{suc-mul, add-mul, mul-le-mul_right}
use Rattle.std.proofs.lemmas.Bool.{and_parts, cases_Bool, and_right, false≢true}
use borrow.Author.Tests.{eqb-true}
use Rattle.ansi_style.specs.declared.style.Style.{Style}
use Rattle.ansi_style.specs.Style.{plain}
use Rattle.ansi_screen.specs.declared.cell.Cell.{Cell}
use Rattle.ansi_screen.specs.Cells.{blank, cut, cell_at, is_right, going_on, within, change, erased, moved_back, moved_on}
use Rattle.ansi_screen.specs.Display.{Display, row_start}
use Rattle.ansi_screen.specs.Edits.{row_above_ended, with_cells, space, erased_cells, erased_part, erased_display, erases_all, erases_from_row, left_by_erase}
use Rattle.ansi_screen.specs.Following.{copied}
use Rattle.ansi_screen.specs.Grid.{Grid, with_list, flat, in_order, AreRows, times, IsOrder}
use Rattle.ansi_screen.specs.History.{with_left}
use Rattle.ansi_screen.specs.State.{State, changed, stepped}
use Rattle.ansi_screen.specs.Reachable.{RowsBegin}
use Rattle.ansi_screen.specs.Text.{printed_rows}
use Rattle.ansi_screen.proofs.CellLemmas.{cut-none, cut-first, cut-past}
use Rattle.ansi_screen.proofs.PairLemmas.{length-cut, clear-cut_other}
use Rattle.ansi_screen.proofs.WholeLemmas.{length-going_on}
use Rattle.ansi_screen.proofs.BlankLemmas.{whole-new}
use Rattle.ansi_screen.proofs.GridLemmas.{flat-length, flat-take, flat-drop, flat-blank, rows-take, rows-drop, rows-blank, times-append, rows-in_order}

-- a part of a list between two places
part-is : (a b : ℕ) (new cells : List Cell) → a ≤ b → b ≤ length cells
    → take a cells ++ (new ++ drop (b - a) (drop a cells)) ≡ take a cells ++ (new ++ drop b cells)
part-is a b new cells order inside =
    let rest : drop (b - a) (drop a cells) ≡ drop b cells = drop-drop (b - a) a cells ∙ ap (λ n. drop n cells) (omega arith) in
    rw rest refl

run-long : (a b : ℕ) (cells : List Cell) → a ≤ b → b ≤ length cells → length (take (b - a) (drop a cells)) ≡ b - a
run-long a b cells order inside = length-take-le (b - a) (drop a cells) (omega (arith, length-drop a cells))

pub erased-is : (a b : ℕ) (space : Cell) (cells : List Cell) → a ≤ b → b ≤ length cells
    → within a b (erased space) cells ≡ take a cells ++ (replicate (b - a) space ++ drop b cells)
erased-is a b space cells order inside =
    ap (λ n. take a cells ++ (replicate n space ++ drop (b - a) (drop a cells))) (run-long a b cells order inside)
    ∙ part-is a b (replicate (b - a) space) cells order inside

-- what stands before, in and behind such a part
front-of : (a : ℕ) (xs ys rest : List Cell) → length xs ≡ a → take a (xs ++ (ys ++ rest)) ≡ xs
front-of a xs ys rest long = take_at xs (ys ++ rest) a long

behind-of : (a b : ℕ) (xs ys rest : List Cell) → length xs ≡ a → length ys ≡ b - a → a ≤ b → drop b (xs ++ (ys ++ rest)) ≡ rest
behind-of a b xs ys rest long few order =
    ap (drop b) (sym (append_assoc xs ys rest)) ∙ drop_at (xs ++ ys) rest b (omega (arith, length-append xs ys, long, few, order))

-- blanks, and then blanks behind them
pub erased-join : (a b c : ℕ) (space : Cell) (cells : List Cell) → a ≤ b → b ≤ c → c ≤ length cells
    → within b c (erased space) (within a b (erased space) cells) ≡ within a c (erased space) cells
erased-join a b c space cells order further inside =
    let front : List Cell = take a cells in
    let first : List Cell = replicate (b - a) space in
    let long : length front ≡ a = length-take-le a cells (omega arith) in
    let x : List Cell = front ++ (first ++ drop b cells) in
    let is : within a b (erased space) cells ≡ x = erased-is a b space cells order (omega arith) in
    let whole : length x ≡ length cells =
    omega (arith, length-append front (first ++ drop b cells), length-append first (drop b cells), length-replicate (b - a) space, length-drop b cells, long, order, further, inside) in
    let two : length (front ++ first) ≡ b = omega (arith, length-append front first, length-replicate (b - a) space, long, order) in
    let begin : take b x ≡ front ++ first = ap (take b) (sym (append_assoc front first (drop b cells))) ∙ take_at (front ++ first) (drop b cells) b two in
    let past : drop c x ≡ drop c cells =
    ap (λ k. drop k x) (omega (arith, further)) ∙ (sym (drop-drop (c - b) b x)
    ∙ (ap (drop (c - b)) (ap (drop b) (sym (append_assoc front first (drop b cells))) ∙ drop_at (front ++ first) (drop b cells) b two)
    ∙ (drop-drop (c - b) b cells ∙ ap (λ k. drop k cells) (omega (arith, further))))) in
    let joined : first ++ replicate (c - b) space ≡ replicate (c - a) space =
    replicate-append-replicate (b - a) (c - b) space ∙ ap (λ n. replicate n space) (omega (arith, order, further)) in
    ap (within b c (erased space)) is
    ∙ (erased-is b c space x further (omega (arith, whole, inside))
    ∙ (rw (begin, past) (append_assoc front first (replicate (c - b) space ++ drop c cells)
    ∙ ap (λ l. front ++ l) (sym (append_assoc first (replicate (c - b) space) (drop c cells)) ∙ ap (λ l. l ++ drop c cells) joined))
    ∙ sym (erased-is a c space cells (omega arith) inside)))

-- blanks, and then blanks before them
pub erased-before : (b c : ℕ) (space : Cell) (cells : List Cell) → b ≤ c → c ≤ length cells
    → within 0 b (erased space) (within b c (erased space) cells) ≡ within 0 c (erased space) cells
erased-before b c space cells further inside =
    let front : List Cell = take b cells in
    let more : List Cell = replicate (c - b) space in
    let rest : List Cell = more ++ drop c cells in
    let long : length front ≡ b = length-take-le b cells (omega arith) in
    let x : List Cell = front ++ rest in
    let is : within b c (erased space) cells ≡ x = erased-is b c space cells further inside in
    let reaches : b ≤ length x = omega (arith, length-append front rest, long) in
    let joined : replicate (b - 0) space ++ more ≡ replicate (c - 0) space =
    replicate-append-replicate (b - 0) (c - b) space ∙ ap (λ n. replicate n space) (omega (arith, further)) in
    ap (within 0 b (erased space)) is
    ∙ (erased-is 0 b space x (omega arith) reaches
    ∙ (ap (λ l. replicate (b - 0) space ++ l) (drop_at front rest b long)
    ∙ (sym (append_assoc (replicate (b - 0) space) more (drop c cells)) ∙ ap (λ l. l ++ drop c cells) joined)
    ∙ sym (erased-is 0 c space cells (omega arith) inside)))

-- all cells
pub erased-all : (n : ℕ) (space : Cell) (cells : List Cell) → length cells ≡ n → within 0 n (erased space) cells ≡ replicate (length cells) space
erased-all n space cells long =
    erased-is 0 n space cells (omega arith) (omega (arith, long))
    ∙ (ap (λ l. replicate (n - 0) space ++ l) (drop_all n cells (omega (arith, long)))
    ∙ (append-nil (replicate (n - 0) space) ∙ ap (λ k. replicate k space) (omega (arith, long))))

-- a part that is copied, and then the next one
pub copied-join : (a b c : ℕ) (others cells : List Cell) → a ≤ b → b ≤ c → c ≤ length cells → length others ≡ length cells
    → copied b c others (copied a b others cells) ≡ copied a c others cells
copied-join a b c others cells order further inside long =
    same_lists (copied b c others (copied a b others cells)) (copied a c others cells) (grind (arith, places)) (λ k d h. grind (arith, places))

-- a product of the lesser
pub least-mul : (n k w : ℕ) → min n k * w ≡ min (n * w) (k * w)
least-mul zero k w = let none : min zero k ≡ zero = omega arith in ap (λ m. m * w) none ∙ omega arith
least-mul (suc n) zero w = let none : min (suc n) zero ≡ zero = omega arith in ap (λ m. m * w) none ∙ omega arith
least-mul (suc n) (suc k) w =
    let more : min (suc n) (suc k) ≡ suc (min n k) = omega arith in
    ap (λ m. m * w) more
    ∙ omega (arith, suc-mul n w, suc-mul k w, suc-mul (min n k) w, least-mul n k w)

pub less-mul : (n k w : ℕ) → k ≤ n → (n - k) * w ≡ n * w - k * w
less-mul n k w few =
    let whole : n - k + k ≡ n = omega arith in
    let together : (n - k + k) * w ≡ n * w = ap (λ m. m * w) whole in
    omega (arith, add-mul (n - k) k w, together)

-- a part whose first cells come last, and are then blank: it moved back
pub rotated-back : (a b k n : ℕ) (space : Cell) (cells : List Cell) → a ≤ b → b ≤ length cells → k ≡ min n (b - a)
    → within (b - k) b (erased space) (within a b (λ run. drop k run ++ take k run) cells) ≡ within a b (moved_back n space) cells
rotated-back a b k n space cells order inside least =
    let front : List Cell = take a cells in
    let run : List Cell = take (b - a) (drop a cells) in
    let rest : List Cell = drop (b - a) (drop a cells) in
    let long : length front ≡ a = length-take-le a cells (omega arith) in
    let few : length run ≡ b - a = run-long a b cells order inside in
    let fits : k ≤ b - a = omega (arith, least) in
    let kept : List Cell = drop k run in
    let kept_long : length kept ≡ b - a - k = length-drop k run ∙ omega (arith, few) in
    let gone : List Cell = take k run in
    let gone_long : length gone ≡ k = length-take-le k run (omega (arith, few, fits)) in
    let x : List Cell = front ++ ((kept ++ gone) ++ rest) in
    let y : List Cell = (front ++ kept) ++ (gone ++ rest) in
    let same : x ≡ y = ap (λ l. front ++ l) (append_assoc kept gone rest) ∙ sym (append_assoc front kept (gone ++ rest)) in
    let head : length (front ++ kept) ≡ b - k = omega (arith, length-append front kept, long, kept_long, fits, order) in
    let reaches : b ≤ length y = omega (arith, length-append (front ++ kept) (gone ++ rest), length-append gone rest, head, gone_long, fits, order) in
    let last : b - (b - k) ≡ k = omega (arith, fits, order) in
    let exact : min n (length run) ≡ k = ap (min n) few ∙ sym least in
    ap (within (b - k) b (erased space)) same
    ∙ (erased-is (b - k) b space y (omega (arith, fits)) reaches
    ∙ (rw (front-of (b - k) (front ++ kept) gone rest head, behind-of (b - k) b (front ++ kept) gone rest head (gone_long ∙ sym last) (omega (arith, fits)), last)
    (append_assoc front kept (replicate k space ++ rest) ∙ ap (λ l. front ++ l) (sym (append_assoc kept (replicate k space) rest)))
    ∙ sym (ap (λ m. front ++ ((drop m run ++ replicate m space) ++ rest)) exact)))

-- a part whose last cells come first, and are then blank: it moved on
pub rotated-on : (a b k n : ℕ) (space : Cell) (cells : List Cell) → a ≤ b → b ≤ length cells → k ≡ min n (b - a)
    → within a (a + k) (erased space) (within a b (λ run. drop (length run - k) run ++ take (length run - k) run) cells) ≡ within a b (moved_on n space) cells
rotated-on a b k n space cells order inside least =
    let front : List Cell = take a cells in
    let run : List Cell = take (b - a) (drop a cells) in
    let rest : List Cell = drop (b - a) (drop a cells) in
    let long : length front ≡ a = length-take-le a cells (omega arith) in
    let few : length run ≡ b - a = run-long a b cells order inside in
    let fits : k ≤ length run = omega (arith, least, few) in
    let m : ℕ = length run - k in
    let gone : List Cell = drop m run in
    let gone_long : length gone ≡ k = length-drop m run ∙ omega (arith, fits) in
    let kept : List Cell = take m run in
    let x : List Cell = front ++ ((gone ++ kept) ++ rest) in
    let y : List Cell = front ++ (gone ++ (kept ++ rest)) in
    let same : x ≡ y = ap (λ l. front ++ l) (append_assoc gone kept rest) in
    let last : a + k - a ≡ k = omega arith in
    let reaches : a + k ≤ length y = omega (arith, length-append front (gone ++ (kept ++ rest)), length-append gone (kept ++ rest), long, gone_long) in
    let exact : min n (length run) ≡ k = ap (min n) few ∙ sym least in
    ap (within a (a + k) (erased space)) same
    ∙ (erased-is a (a + k) space y (omega arith) reaches
    ∙ (rw (front-of a front gone (kept ++ rest) long, behind-of a (a + k) front gone (kept ++ rest) long (gone_long ∙ sym last) (omega arith), last)
    (ap (λ l. front ++ l) (sym (append_assoc (replicate k space) kept rest)))
    ∙ sym (ap (λ j. front ++ ((replicate j space ++ take (length run - j) run) ++ rest)) exact)))

-- numbers that change places
all-append : (n : ℕ) (xs ys : List ℕ) → AllByRecursion (λ at. at < n) xs → AllByRecursion (λ at. at < n) ys → AllByRecursion (λ at. at < n) (xs ++ ys)
all-append n [] ys are others = others
all-append n (x ∷ xs) ys are others = (are.0, all-append n xs ys are.1 others)

all-take : (n k : ℕ) (xs : List ℕ) → AllByRecursion (λ at. at < n) xs → AllByRecursion (λ at. at < n) (take k xs)
all-take n zero xs are = tt
all-take n (suc k) [] are = tt
all-take n (suc k) (x ∷ xs) are = (are.0, all-take n k xs are.1)

all-drop : (n k : ℕ) (xs : List ℕ) → AllByRecursion (λ at. at < n) xs → AllByRecursion (λ at. at < n) (drop k xs)
all-drop n zero xs are = are
all-drop n (suc k) [] are = tt
all-drop n (suc k) (x ∷ xs) are = all-drop n k xs are.1

times-parts : (at k : ℕ) (xs : List ℕ) → times at xs ≡ times at (take k xs) + times at (drop k xs)
times-parts at k xs = sym (ap (times at) (take-append-drop k xs)) ∙ times-append at (take k xs) (drop k xs)

pub order-rotated : (n a e k : ℕ) (order : List ℕ) → IsOrder n order
    → IsOrder n (take a order ++ ((drop k (take (e - a) (drop a order)) ++ take k (take (e - a) (drop a order))) ++ drop (e - a) (drop a order)))
order-rotated n a e k order is =
    let mid : List ℕ = take (e - a) (drop a order) in
    let rest : List ℕ = drop (e - a) (drop a order) in
    let behind : AllByRecursion (λ at. at < n) (drop a order) = all-drop n a order is.numbers in
    let mids : AllByRecursion (λ at. at < n) mid = all-take n (e - a) (drop a order) behind in
    record {
      numbers = all-append n (take a order) ((drop k mid ++ take k mid) ++ rest) (all-take n a order is.numbers)
          (all-append n (drop k mid ++ take k mid) rest (all-append n (drop k mid) (take k mid) (all-drop n k mid mids) (all-take n k mid mids))
          (all-drop n (e - a) (drop a order) behind));
      once = λ at.
          let most : times at order ≤ 1 = is.once at in
          omega (
            arith,
            most,
            times-parts at a order,
            times-parts at (e - a) (drop a order),
            times-parts at k mid,
            times-append at (take a order) ((drop k mid ++ take k mid) ++ rest),
            times-append at (drop k mid ++ take k mid) rest,
            times-append at (drop k mid) (take k mid),
          );
    }

-- rows in an order in which some change places
abbrev row-list : List (List Cell) → List Cell
row-list rows = flat rows

rows-within : (w a e : ℕ) (how : List Cell → List Cell) (rows news : List (List Cell)) → AreRows w rows → a ≤ e → e ≤ length rows
    → flat news ≡ how (flat (take (e - a) (drop a rows)))
    → flat (take a rows ++ (news ++ drop (e - a) (drop a rows))) ≡ within (a * w) (e * w) how (flat rows)
rows-within w a e how rows news are order inside is =
    let k : ℕ = e - a in
    let whole : a + k ≡ e = omega arith in
    let long : e * w - a * w ≡ k * w = omega (arith, add-mul a k w, ap (λ n. n * w) whole) in
    let rest : drop (a * w) (flat rows) ≡ flat (drop a rows) = flat-drop w a rows are in
    let others : AreRows w (drop a rows) = rows-drop w a rows are in
    flat_map-append (λ row. row) (take a rows) (news ++ drop k (drop a rows))
    ∙ (ap (λ l. flat (take a rows) ++ l) (flat_map-append (λ row. row) news (drop k (drop a rows)))
    ∙ rw (long, rest, flat-take w a rows are, flat-take w k (drop a rows) others, flat-drop w k (drop a rows) others, is) refl)

ordered-rotated : (a m k : ℕ) (order : List ℕ) (rows : List (List Cell))
    → in_order (take a order ++ ((drop k (take m (drop a order)) ++ take k (take m (drop a order))) ++ drop m (drop a order))) rows
    ≡ take a (in_order order rows) ++ ((drop k (take m (drop a (in_order order rows))) ++ take k (take m (drop a (in_order order rows)))) ++ drop m (drop a (in_order order rows)))
ordered-rotated a m k order rows =
    let f = λ (at : ℕ). get_or rows at [] in
    let mid : List ℕ = take m (drop a order) in
    let rest : List ℕ = drop m (drop a order) in
    map-append f (take a order) ((drop k mid ++ take k mid) ++ rest)
    ∙ (ap (λ l. map f (take a order) ++ l) (map-append f (drop k mid ++ take k mid) rest ∙ ap (λ l. l ++ map f rest) (map-append f (drop k mid) (take k mid)))
    ∙ rw (take-map f a order, drop-map f a order, take-map f m (drop a order), drop-map f m (drop a order), take-map f k mid, drop-map f k mid) refl)

-- rows of which the first come last
module _ (w a e k : ℕ) (order : List ℕ) (rows : List (List Cell)) (are : AreRows w rows) (is : IsOrder (length rows) order)
    (ordered : a ≤ e) (inside : e ≤ length order) where
  abbrev lines : List (List Cell)
  lines = in_order order rows

  abbrev mid : List (List Cell)
  mid = take (e - a) (drop a lines)

  lines-are : AreRows w lines
  lines-are = rows-in_order w order rows are is.numbers

  mid-are : AreRows w mid
  mid-are = rows-take w (e - a) (drop a lines) (rows-drop w a lines lines-are)

  lines-long : e ≤ length lines
  lines-long = omega (arith, inside, length-map order (λ (at : ℕ). get_or rows at []))

  pub mid-long : length mid ≡ e - a
  mid-long = length-take-le (e - a) (drop a lines) (omega (arith, length-drop a lines, lines-long))

  flat-split : flat (drop k mid ++ take k mid) ≡ drop (k * w) (flat mid) ++ take (k * w) (flat mid)
  flat-split =
      flat_map-append (λ row. row) (drop k mid) (take k mid)
      ∙ sym (ap₂ (λ xs ys. xs ++ ys) (flat-drop w k mid mid-are) (flat-take w k mid mid-are))

  pub rows-rotated : flat (in_order (take a order ++ ((drop k (take (e - a) (drop a order)) ++ take k (take (e - a) (drop a order))) ++ drop (e - a) (drop a order))) rows)
      ≡ within (a * w) (e * w) (λ run. drop (k * w) run ++ take (k * w) run) (flat lines)
  rows-rotated =
      ap row-list (ordered-rotated a (e - a) k order rows)
      ∙ rows-within w a e (λ run. drop (k * w) run ++ take (k * w) run) lines (drop k mid ++ take k mid) lines-are ordered lines-long flat-split

  -- the same, where as many come first as `j`
  pub rows-rotated_on : (j : ℕ) → k ≡ e - a - j → j ≤ e - a
      → flat (in_order (take a order ++ ((drop k (take (e - a) (drop a order)) ++ take k (take (e - a) (drop a order))) ++ drop (e - a) (drop a order))) rows)
      ≡ within (a * w) (e * w) (λ run. drop (length run - j * w) run ++ take (length run - j * w) run) (flat lines)
  rows-rotated_on j left few =
      let long : length (flat mid) ≡ (e - a) * w = flat-length w mid mid-are ∙ ap (λ n. n * w) mid-long in
      let same : k * w ≡ length (flat mid) - j * w =
      ap (λ n. n * w) left ∙ (less-mul (e - a) j w few ∙ ap (λ n. n - j * w) (sym long)) in
      ap row-list (ordered-rotated a (e - a) k order rows)
      ∙ rows-within w a e (λ run. drop (length run - j * w) run ++ take (length run - j * w) run) lines (drop k mid ++ take k mid) lines-are ordered lines-long
      (flat-split ∙ ap (λ n. drop n (flat mid) ++ take n (flat mid)) same)

-- parts of a grid that become blank, in steps
pub none-erased : (a : ℕ) (space : Cell) (cells : List Cell) → cells ≡ within a a (erased space) cells
none-erased a space cells = let none : a - a ≡ 0 = omega arith in rw none (sym (take-append-drop a cells))

pub none-copied : (a : ℕ) (others cells : List Cell) → cells ≡ copied a a others cells
none-copied a others cells = let none : a - a ≡ 0 = omega arith in rw none (sym (take-append-drop a cells))

-- a row more
pub fill-more : (first row height : ℕ) (style : Style) (g now new : Grid) → length g.cells ≡ g.height * g.width → first ≤ row → row < g.height
    → now ≡ with_list (within (first * g.width) (row * g.width) (erased (blank style)) g.cells) g
    → new ≡ with_list (within (row * now.width) (row * now.width + now.width) (erased (blank style)) now.cells) now
    → new ≡ with_list (within (first * g.width) ((row + 1) * g.width) (erased (blank style)) g.cells) g
fill-more first row height style g now new filled order inside so_far put =
    let w : ℕ = g.width in
    let next : (row + 1) * w ≡ row * w + w = ap (λ n. n * w) (omega arith) ∙ suc-mul row w in
    let ordered : first * w ≤ row * w = mul-le-mul_right {m = first} {n = row} w order in
    let below : suc row * w ≤ g.height * w = mul-le-mul_right {m = suc row} {n = g.height} w inside in
    put ∙ (ap (λ (f : Grid). with_list (within (row * f.width) (row * f.width + f.width) (erased (blank style)) f.cells) f) so_far
    ∙ ap (λ l. with_list l g) (erased-join (first * w) (row * w) (row * w + w) (blank style) g.cells ordered (omega arith) (omega (arith, below, filled, suc-mul row w))
    ∙ ap (λ n. within (first * w) n (erased (blank style)) g.cells) (sym next)))

pub copy-more : (first row : ℕ) (other g now new : Grid) → length g.cells ≡ g.height * g.width → length other.cells ≡ length g.cells → first ≤ row → row < g.height
    → now ≡ with_list (copied (first * g.width) (row * g.width) other.cells g.cells) g
    → new ≡ with_list (copied (row * now.width) (row * now.width + now.width) other.cells now.cells) now
    → new ≡ with_list (copied (first * g.width) ((row + 1) * g.width) other.cells g.cells) g
copy-more first row other g now new filled long order inside so_far put =
    let w : ℕ = g.width in
    let next : (row + 1) * w ≡ row * w + w = ap (λ n. n * w) (omega arith) ∙ suc-mul row w in
    let ordered : first * w ≤ row * w = mul-le-mul_right {m = first} {n = row} w order in
    let below : suc row * w ≤ g.height * w = mul-le-mul_right {m = suc row} {n = g.height} w inside in
    put ∙ (ap (λ (f : Grid). with_list (copied (row * f.width) (row * f.width + f.width) other.cells f.cells) f) so_far
    ∙ ap (λ l. with_list l g) (copied-join (first * w) (row * w) (row * w + w) other.cells g.cells ordered (omega arith) (omega (arith, below, filled, suc-mul row w)) long
    ∙ ap (λ n. copied (first * w) n other.cells g.cells) (sym next)))

pub filled-all : (g : Grid) (h : ℕ) (space : Cell) → length g.cells ≡ g.height * g.width → h ≡ g.height
    → with_list (within (0 * g.width) (h * g.width) (erased space) g.cells) g ≡ with_list (replicate (length g.cells) space) g
filled-all g h space filled same =
    let none : 0 * g.width ≡ 0 = omega arith in
    let whole : h * g.width ≡ length g.cells = ap (λ n. n * g.width) same ∙ sym filled in
    ap (λ l. with_list l g) (ap₂ (λ a b. within a b (erased space) g.cells) none whole ∙ erased-all (length g.cells) space g.cells refl)

pub same-grid : (g other : Grid) → g.width ≡ other.width → g.height ≡ other.height → with_list other.cells g ≡ other
same-grid g other wide high = ap₂ (λ w h. record { width = w; height = h; cells = other.cells }) wide high

pub copied-whole : (g other : Grid) (h : ℕ) → length g.cells ≡ g.height * g.width → length other.cells ≡ other.height * other.width
    → g.width ≡ other.width → g.height ≡ other.height → h ≡ g.height
    → with_list (copied (0 * g.width) (h * g.width) other.cells g.cells) g ≡ other
copied-whole g other h filled filled_too wide high same =
    let none : 0 * g.width ≡ 0 = omega arith in
    let size : other.height * other.width ≡ g.height * g.width = ap₂ (λ a b. a * b) (sym high) (sym wide) in
    let whole : h * g.width ≡ length other.cells = ap (λ n. n * g.width) same ∙ (sym size ∙ sym filled_too) in
    let long : length g.cells ≡ length other.cells = filled ∙ (sym size ∙ sym filled_too) in
    let all : copied 0 (length other.cells) other.cells g.cells ≡ other.cells =
    ap₂ (λ a b. a ++ b) (take_all (length other.cells - 0) other.cells (omega arith)) (drop_all (length other.cells - 0) g.cells (omega (arith, long)))
    ∙ append-nil other.cells in
    ap (λ l. with_list l g) (ap₂ (λ a b. copied a b other.cells g.cells) none whole ∙ all)
    ∙ same-grid g other wide high

pub erase-from : (g one two : Display) (row column w h : ℕ) (space : Cell) → length g.cells ≡ g.height * g.width → RowsBegin g.width g.cells
    → row < g.height → column < g.width → w ≡ g.width → h ≡ g.height
    → one ≡ with_cells (change (row * g.width + column) (row * g.width + w) (erased space) g.cells) g
    → two ≡ with_cells (within ((row + 1) * one.width) (h * one.width) (erased space) one.cells) one
    → two ≡ with_cells (change (row * g.width + column) (length g.cells) (erased space) g.cells) g
erase-from g one two row column w h space filled begin inside few wide high is then_is =
    let p : ℕ = row * g.width + column in
    let q : ℕ = row * g.width + g.width in
    let next : (row + 1) * g.width ≡ q = ap (λ n. n * g.width) (omega arith) ∙ suc-mul row g.width in
    let end : h * g.width ≡ length g.cells = ap (λ n. n * g.width) high ∙ sym filled in
    let below : suc row * g.width ≤ g.height * g.width = mul-le-mul_right {m = suc row} {n = g.height} g.width inside in
    let free : is_right (cell_at q g.cells).part ≡ false = subst (λ n. is_right (cell_at n g.cells).part ≡ false) next (begin (row + 1)) in
    let uncut : cut q g.cells ≡ g.cells = sym (cut-none g.cells q (and_right (nat_lt 0 q) (is_right (cell_at q g.cells).part) free)) in
    let cells : List Cell = cut p g.cells in
    let long : length cells ≡ length g.cells = length-cut p g.cells in
    let first : one ≡ with_cells (within p q (erased space) cells) g =
    is ∙ ap (λ l. with_cells l g) (ap (λ n. change p (row * g.width + n) (erased space) g.cells) wide ∙ ap (λ l. within p q (erased space) (cut p l)) uncut) in
    then_is ∙ (ap (λ (f : Display). with_cells (within ((row + 1) * f.width) (h * f.width) (erased space) f.cells) f) first
    ∙ ap (λ l. with_cells l g) (ap₂ (λ a b. within a b (erased space) (within p q (erased space) cells)) next end
    ∙ (erased-join p q (length g.cells) space cells (omega (arith, few)) (omega (arith, below, filled, suc-mul row g.width)) (omega (arith, long))
    ∙ ap (λ l. within p (length g.cells) (erased space) (cut p l)) (cut-past g.cells (length g.cells) (omega arith)))))

pub erase-to : (g one two : Display) (row column : ℕ) (space : Cell) → length g.cells ≡ g.height * g.width → RowsBegin g.width g.cells
    → row < g.height → column < g.width
    → one ≡ with_cells (change (row * g.width + 0) (row * g.width + (column + 1)) (erased space) g.cells) g
    → two ≡ with_cells (within (0 * one.width) (row * one.width) (erased space) one.cells) one
    → two ≡ with_cells (change 0 (row * g.width + (column + 1)) (erased space) g.cells) g
erase-to g one two row column space filled begin inside few is then_is =
    let a : ℕ = row * g.width in
    let q : ℕ = row * g.width + (column + 1) in
    let start : row * g.width + 0 ≡ a = omega arith in
    let none : 0 * g.width ≡ 0 = omega arith in
    let below : suc row * g.width ≤ g.height * g.width = mul-le-mul_right {m = suc row} {n = g.height} g.width inside in
    let cells : List Cell = cut q g.cells in
    let long : length cells ≡ length g.cells = length-cut q g.cells in
    let free : is_right (cell_at a cells).part ≡ false = clear-cut_other q a g.cells (begin row) in
    let uncut : cut a cells ≡ cells = sym (cut-none cells a (and_right (nat_lt 0 a) (is_right (cell_at a cells).part) free)) in
    let first : one ≡ with_cells (within a q (erased space) cells) g =
    is ∙ ap (λ l. with_cells l g) (ap (λ n. change n q (erased space) g.cells) start ∙ ap (within a q (erased space)) uncut) in
    then_is ∙ (ap (λ (f : Display). with_cells (within (0 * f.width) (row * f.width) (erased space) f.cells) f) first
    ∙ ap (λ l. with_cells l g) (ap (λ n. within n a (erased space) (within a q (erased space) cells)) none
    ∙ (erased-before a q space cells (omega arith) (omega (arith, below, filled, suc-mul row g.width, long, few))
    ∙ ap (within 0 q (erased space)) (cut-first cells 0 (omega arith)))))

-- rows that move, and blank ones
pub move-back : (g one two : Grid) (first last count n : ℕ) (space : Cell) → length g.cells ≡ g.height * g.width → first ≤ last → last ≤ g.height
    → n ≡ min count (last - first)
    → one ≡ with_list (within (first * g.width) (last * g.width) (λ run. drop (n * g.width) run ++ take (n * g.width) run) g.cells) g
    → two ≡ with_list (within ((last - n) * one.width) (last * one.width) (erased space) one.cells) one
    → two ≡ with_list (within (first * g.width) (last * g.width) (moved_back (count * g.width) space) g.cells) g
move-back g one two first last count n space filled order inside least is then_is =
    let w : ℕ = g.width in
    let a : ℕ = first * w in
    let b : ℕ = last * w in
    let ordered : a ≤ b = mul-le-mul_right {m = first} {n = last} w order in
    let below : b ≤ g.height * w = mul-le-mul_right {m = last} {n = g.height} w inside in
    let size : (last - first) * w ≡ b - a = less-mul last first w order in
    let fits : n ≤ last = omega (arith, least) in
    let start : (last - n) * w ≡ b - n * w = less-mul last n w fits in
    let few : n * w ≡ min (count * w) (b - a) = ap (λ k. k * w) least ∙ (least-mul count (last - first) w ∙ ap (min (count * w)) size) in
    then_is ∙ (ap (λ (f : Grid). with_list (within ((last - n) * f.width) (last * f.width) (erased space) f.cells) f) is
    ∙ ap (λ l. with_list l g) (ap (λ k. within k b (erased space) (within a b (λ run. drop (n * w) run ++ take (n * w) run) g.cells)) start
    ∙ rotated-back a b (n * w) (count * w) space g.cells ordered (omega (arith, below, filled)) few))

pub move-on : (g one two : Grid) (first last count n : ℕ) (space : Cell) → length g.cells ≡ g.height * g.width → first ≤ last → last ≤ g.height
    → n ≡ min count (last - first)
    → one ≡ with_list (within (first * g.width) (last * g.width) (λ run. drop (length run - n * g.width) run ++ take (length run - n * g.width) run) g.cells) g
    → two ≡ with_list (within (first * one.width) ((first + n) * one.width) (erased space) one.cells) one
    → two ≡ with_list (within (first * g.width) (last * g.width) (moved_on (count * g.width) space) g.cells) g
move-on g one two first last count n space filled order inside least is then_is =
    let w : ℕ = g.width in
    let a : ℕ = first * w in
    let b : ℕ = last * w in
    let ordered : a ≤ b = mul-le-mul_right {m = first} {n = last} w order in
    let below : b ≤ g.height * w = mul-le-mul_right {m = last} {n = g.height} w inside in
    let size : (last - first) * w ≡ b - a = less-mul last first w order in
    let end : (first + n) * w ≡ a + n * w = add-mul first n w in
    let few : n * w ≡ min (count * w) (b - a) = ap (λ k. k * w) least ∙ (least-mul count (last - first) w ∙ ap (min (count * w)) size) in
    then_is ∙ (ap (λ (f : Grid). with_list (within (first * f.width) ((first + n) * f.width) (erased space) f.cells) f) is
    ∙ ap (λ l. with_list l g) (ap (λ k. within a k (erased space) (within a b (λ run. drop (length run - n * w) run ++ take (length run - n * w) run) g.cells)) end
    ∙ rotated-on a b (n * w) (count * w) space g.cells ordered (omega (arith, below, filled)) few))

-- numbers from 0 on
pub order_none : IsOrder 0 []
order_none = record { numbers = tt; once = λ at. omega arith }

all-more : (n : ℕ) (xs : List ℕ) → AllByRecursion (λ at. at < n) xs → AllByRecursion (λ at. at < n + 1) xs
all-more n [] are = tt
all-more n (x ∷ xs) are = (omega (arith, are.0), all-more n xs are.1)

times-skip : (n q : ℕ) (xs : List ℕ) (t : Bool) → nat_eq n q ≡ t → (n ≡ q → ⊥) → times n (q ∷ xs) ≡ times n xs
times-skip n q xs true is other = absurd (other (eqb-true n q is))
times-skip n q xs false is other = rw is refl

times-past : (n : ℕ) (xs : List ℕ) → AllByRecursion (λ at. at < n) xs → times n xs ≤ 0
times-past n [] are = omega arith
times-past n (q ∷ xs) are =
    let below : q < n = are.0 in
    let skip : times n (q ∷ xs) ≡ times n xs = times-skip n q xs _ refl (λ e. absurd (omega (arith, e, below))) in
    omega (arith, skip, times-past n xs are.1)

times-last : (at n : ℕ) (t : Bool) → nat_eq at n ≡ t → (times at (n ∷ []) ≤ 1) × (t ≡ false → times at (n ∷ []) ≤ 0)
times-last at n true is = (rw is (omega arith), λ e. absurd (false≢true (sym e)))
times-last at n false is = (rw is (omega arith), λ e. rw is (omega arith))

push-once : (at n : ℕ) (xs : List ℕ) (t : Bool) → nat_eq at n ≡ t → IsOrder n xs → times at (xs ++ n ∷ []) ≤ 1
push-once at n xs true is order =
    let same : at ≡ n = eqb-true at n is in
    let none : times at xs ≤ 0 = subst (λ k. times k xs ≤ 0) (sym same) (times-past n xs order.numbers) in
    omega (arith, none, times-append at xs (n ∷ []), (times-last at n true is).0)
push-once at n xs false is order =
    let most : times at xs ≤ 1 = order.once at in
    omega (arith, most, times-append at xs (n ∷ []), (times-last at n false is).1 refl)

pub order_push : (n m : ℕ) (xs : List ℕ) → m ≡ n + 1 → IsOrder n xs → IsOrder m (xs ++ n ∷ [])
order_push n m xs next order =
    subst (λ k. IsOrder k (xs ++ n ∷ [])) (sym next) (record {
      numbers = all-append (n + 1) xs (n ∷ []) (all-more n xs order.numbers) (omega arith, tt);
      once = λ at. push-once at n xs _ refl order;
    })

-- numbers of which some change places, as they are written into a Vec of so many
pub turned-long : (a e k : ℕ) (order : List ℕ) → a ≤ e → e ≤ length order → k ≤ e - a
    → length (take a order ++ ((drop k (take (e - a) (drop a order)) ++ take k (take (e - a) (drop a order))) ++ drop (e - a) (drop a order))) ≡ length order
turned-long a e k order ordered inside few =
    let mid : List ℕ = take (e - a) (drop a order) in
    let rest : List ℕ = drop (e - a) (drop a order) in
    let mid_long : length mid ≡ e - a = length-take-le (e - a) (drop a order) (omega (arith, length-drop a order, inside, ordered)) in
    omega (
      arith,
      length-append (take a order) ((drop k mid ++ take k mid) ++ rest),
      length-append (drop k mid ++ take k mid) rest,
      length-append (drop k mid) (take k mid),
      length-take-le a order (omega (arith, ordered, inside)),
      length-drop k mid,
      length-take-le k mid (omega (arith, few, mid_long)),
      length-drop (e - a) (drop a order),
      length-drop a order,
      mid_long,
      ordered,
      inside,
      few,
    )

pub rotated-order : (n a e k : ℕ) (order items new : List ℕ) → items ≡ order → length items ≡ n → a ≤ e → e ≤ length order → k ≤ e - a
    → new ≡ drop k (take (e - a) (drop a items)) ++ take k (take (e - a) (drop a items))
    → take n ((take a items ++ (new ++ drop (e - a) (drop a items))) ++ drop (length (take a items ++ (new ++ drop (e - a) (drop a items)))) order)
    ≡ take a order ++ ((drop k (take (e - a) (drop a order)) ++ take k (take (e - a) (drop a order))) ++ drop (e - a) (drop a order))
rotated-order n a e k order items new same long ordered inside few is =
    let mid : List ℕ = take (e - a) (drop a order) in
    let turned : List ℕ = take a order ++ ((drop k mid ++ take k mid) ++ drop (e - a) (drop a order)) in
    let all : take a items ++ (new ++ drop (e - a) (drop a items)) ≡ turned =
    ap (λ l. take a items ++ (l ++ drop (e - a) (drop a items))) is
    ∙ ap (λ l. take a l ++ ((drop k (take (e - a) (drop a l)) ++ take k (take (e - a) (drop a l))) ++ drop (e - a) (drop a l))) same in
    let many : length turned ≡ n = turned-long a e k order ordered inside few ∙ (sym (ap length same) ∙ long) in
    ap (λ l. take n (l ++ drop (length l) order)) all ∙ take_at turned (drop (length turned) order) n many

all-erased : (space : Cell) (cells : List Cell) → replicate (length cells) space ≡ change 0 (length cells) (erased space) cells
all-erased space cells =
    let n : ℕ = length cells in
    let both : cells ≡ cut 0 (cut n cells) = cut-past cells n (omega arith) ∙ cut-first (cut n cells) 0 (omega arith) in
    sym (erased-all n space cells refl) ∙ ap (within 0 n (erased space)) both

pub erased-everything : (g : Grid) (space : Cell) → with_list (replicate (length g.cells) space) g ≡ with_list (change 0 (length g.cells) (erased space) g.cells) g
erased-everything g space = ap (λ l. with_list l g) (all-erased space g.cells)

-- of all cells that are erased the number alone counts
erased-alike : (space : Cell) (cells others : List Cell) → length others ≡ length cells
    → change 0 (length others) (erased space) others ≡ change 0 (length cells) (erased space) cells
erased-alike space cells others same = sym (all-erased space others) ∙ (ap (λ n. replicate n space) same ∙ all-erased space cells)

-- In the first row there is no row above; and from the first cell on all is erased.
none-above : (b t : Bool) (ended cells : List Cell) → t ≡ false → (if b && t then ended else cells) ≡ cells
none-above true t ended cells is = rw is refl
none-above false t ended cells is = refl

from-home : (d : Display) (above : List Cell) → d.cursor.row ≡ 0 → d.cursor.column ≡ 0 → above ≡ d.cells
    → erased_part 0 0 (length d.cells) (with_cells above d) ≡ erased_cells 0 (length d.cells) d
unfolding erased_part
from-home d above row column same =
    let at : d.cursor.row * d.width + d.cursor.column ≡ 0 = rw (row, column) (omega arith) in
    ap₂ (λ n l. erased_cells n (length d.cells) (with_cells l d)) at same

-- ED that erases all of the screen does so.
whole-part : (kind : ℕ) (d : Display) → erases_all kind d ≡ true
    → erased_part kind 0 (length d.cells) (row_above_ended (erases_from_row kind d) d) ≡ erased_cells 0 (length d.cells) d
unfolding erases_all erased_part erases_from_row
whole-part kind d all = elim (cases_Bool (kind == 2)) [
  | inl is ↦ rw (eqb-true kind 2 is) refl
  | inr is ↦
      let first : Bool = d.cursor.row == 0 && d.cursor.column == 0 in
      let at : (kind == 0 && first) ≡ true = ap (λ b. b || (kind == 0 && first)) (sym is) ∙ all in
      let parts : ((kind == 0) ≡ true) × (first ≡ true) = and_parts (kind == 0) first at in
      let home : ((d.cursor.row == 0) ≡ true) × ((d.cursor.column == 0) ≡ true) = and_parts _ _ parts.1 in
      let row : d.cursor.row ≡ 0 = eqb-true d.cursor.row 0 home.0 in
      rw (eqb-true kind 0 parts.0)
      (from-home d _ row (eqb-true d.cursor.column 0 home.1) (none-above _ _ _ d.cells (ap (λ n. nat_lt 0 n) row)))
]

-- ED, where the rows left
abbrev in-place : ℕ → Display → Display
in-place kind d = erased_part kind 0 (length d.cells) (row_above_ended (erases_from_row kind d) d)

-- All is erased, whatever stood there.
erased-out : (kind : ℕ) (cells : List Cell) (d : Display) → erases_all kind d ≡ true → length cells ≡ length d.cells
    → in-place kind (with_cells cells d) ≡ in-place kind d
unfolding erases_all
erased-out kind cells d all same =
    whole-part kind (with_cells cells d) all
    ∙ (ap (λ l. with_cells l d) (erased-alike (space d) d.cells cells same) ∙ sym (whole-part kind d all))

-- ED of all of the main screen: the rows left before; and any other ED
abbrev taken-away : ℕ → Bool → State → State
taken-away kind b s = record s { display = in-place kind s.display; history = with_left (if b then printed_rows s.display else []) s.history }

pub display-out : (kind : ℕ) (s f e new : State) → erases_all kind s.display ≡ true → s.display.is_alternate ≡ false → f ≡ e
    → e ≡ record s { display = with_cells e.display.cells s.display; history = with_left (printed_rows s.display) s.history }
    → length e.display.cells ≡ length s.display.cells → new ≡ changed (in-place kind) f → new ≡ stepped (erased_display kind) s
unfolding erased_display left_by_erase
display-out kind s f e new all main moved is same put =
    let here : (erases_all kind s.display && not s.display.is_alternate) ≡ true = rw (all, main) refl in
    put ∙ (ap (changed (in-place kind)) (moved ∙ is)
    ∙ (ap (λ d. record s { display = d; history = with_left (printed_rows s.display) s.history }) (erased-out kind e.display.cells s.display all same)
    ∙ ap (λ b. taken-away kind b s) (sym here)))

display-kept : (kind : ℕ) (s f new : State) → (erases_all kind s.display && not s.display.is_alternate) ≡ false → f ≡ s
    → new ≡ changed (in-place kind) f → new ≡ stepped (erased_display kind) s
unfolding erased_display left_by_erase
display-kept kind s f new none same put =
    put ∙ (ap (changed (in-place kind)) same ∙ ap (λ b. taken-away kind b s) (sym none))

none-here : (b alternate : Bool) → alternate ≡ true → (b && not alternate) ≡ false
none-here true alternate is = rw is refl
none-here false alternate is = refl

pub display-hidden : (kind : ℕ) (s f new : State) → s.display.is_alternate ≡ true → f ≡ s
    → new ≡ changed (in-place kind) f → new ≡ stepped (erased_display kind) s
display-hidden kind s f new is same put =
    display-kept kind s f new (none-here (erases_all kind s.display) s.display.is_alternate is) same put

pub display-part : (kind : ℕ) (s f new : State) → erases_all kind s.display ≡ false → f ≡ s
    → new ≡ changed (in-place kind) f → new ≡ stepped (erased_display kind) s
display-part kind s f new part same put = display-kept kind s f new (ap (λ b. b && not s.display.is_alternate) part) same put

pub same-long : (g other : Grid) → length g.cells ≡ g.height * g.width → length other.cells ≡ other.height * other.width
    → g.width ≡ other.width → g.height ≡ other.height → length other.cells ≡ length g.cells
same-long g other filled filled_too wide high = filled_too ∙ (sym (ap₂ (λ a b. a * b) high wide) ∙ sym filled)

pub both-blank : (g other : Grid) → length g.cells ≡ g.height * g.width → length other.cells ≡ other.height * other.width
    → g.width ≡ other.width → g.height ≡ other.height → other.cells ≡ replicate (length other.cells) (blank plain)
    → with_list (replicate (length g.cells) (blank plain)) g ≡ other
both-blank g other filled filled_too wide high is =
    ap (λ l. with_list l g) (ap (λ n. replicate n (blank plain)) (sym (same-long g other filled filled_too wide high)) ∙ sym is) ∙ same-grid g other wide high

-- new rows
ordered-blank : (n : ℕ) (row : List Cell) (order : List ℕ) → AllByRecursion (λ at. at < n) order
    → in_order order (replicate n row) ≡ replicate (length order) row
ordered-blank n row [] are = refl
ordered-blank n row (q ∷ order) are =
    ap₂ (λ x xs. x ∷ xs) (get_or-replicate n q row [] are.0) (ordered-blank n row order are.1)

module _ (w h : ℕ) (order : List ℕ) (rows : List (List Cell)) (some : 0 < w) (are : rows ≡ replicate h (replicate w (blank plain)))
    (long : length order ≡ h) (is : IsOrder h order) where
  new-list : flat (in_order order rows) ≡ replicate (h * w) (blank plain)
  new-list =
      ap (λ l. flat (in_order order l)) are
      ∙ (ap row-list (ordered-blank h (replicate w (blank plain)) order is.numbers)
      ∙ (flat-blank w (length order) (blank plain) ∙ ap (λ n. replicate (n * w) (blank plain)) long))

  pub new-grid : ◌≡◌ {A = Grid} (record { width = w; height = length order; cells = flat (in_order order rows) })
      (record { width = w; height = h; cells = replicate (h * w) (blank plain) })
  new-grid = ap₂ (λ n l. record { width = w; height = n; cells = l }) long new-list

  pub new-rows : (0 < w) × AreRows w rows × IsOrder (length rows) order
      × (flat (in_order order rows) ≡ replicate (length (flat (in_order order rows))) (blank plain))
  new-rows = (
    some,
    subst (AreRows w) (sym are) (rows-blank w h (replicate w (blank plain)) (length-replicate w (blank plain)) (whole-new w w plain)),
    subst (λ n. IsOrder n order) (sym (ap length are ∙ length-replicate h (replicate w (blank plain)))) is,
    new-list ∙ ap (λ n. replicate n (blank plain)) (sym (ap length new-list ∙ length-replicate (h * w) (blank plain))),
  )

-- the row above that ends
length-if : (t : Bool) (xs ys : List Cell) → length xs ≡ length ys → length (if t then xs else ys) ≡ length ys
length-if true xs ys same = same
length-if false xs ys same = refl

pub length-ended : (is_begun : Bool) (d : Display) → length (row_above_ended is_begun d).cells ≡ length d.cells
length-ended is_begun d =
    length-if (is_begun && nat_lt 0 d.cursor.row) (going_on false (row_start d) d.cells) d.cells (length-going_on false (row_start d) d.cells)

-- all rows move out
module _ (g : Grid) (first last count : ℕ) (space : Cell) (filled : length g.cells ≡ g.height * g.width)
    (begin : first ≡ 0) (end : last ≡ g.height) (all : last ≤ count) where
  from : first * g.width ≡ 0
  from = ap (λ n. n * g.width) begin ∙ omega arith

  to : last * g.width ≡ length g.cells
  to = ap (λ n. n * g.width) end ∙ sym filled

  most : min (count * g.width) (length g.cells) ≡ length g.cells
  most =
      let more : last * g.width ≤ count * g.width = mul-le-mul_right {m = last} {n = count} g.width all in
      omega (arith, more, to)

  run-is : take (length g.cells - 0) (drop 0 g.cells) ≡ g.cells
  run-is = take_all (length g.cells - 0) g.cells (omega arith)

  rest-is : drop (length g.cells - 0) (drop 0 g.cells) ≡ []
  rest-is = drop_all (length g.cells - 0) g.cells (omega arith)

  pub all-back : with_list (replicate (length g.cells) space) g
      ≡ with_list (within (first * g.width) (last * g.width) (moved_back (count * g.width) space) g.cells) g
  all-back =
      let n : ℕ = length g.cells in
      let gone : drop n g.cells ≡ [] = drop_all n g.cells (omega arith) in
      ap (λ l. with_list l g)
      (sym (ap₂ (λ a b. within a b (moved_back (count * g.width) space) g.cells) from to
      ∙ rw (run-is, rest-is, most, gone) (append-nil (replicate n space))))

  pub all-on : with_list (replicate (length g.cells) space) g
      ≡ with_list (within (first * g.width) (last * g.width) (moved_on (count * g.width) space) g.cells) g
  all-on =
      let n : ℕ = length g.cells in
      let none : n - n ≡ 0 = omega arith in
      ap (λ l. with_list l g)
      (sym (ap₂ (λ a b. within a b (moved_on (count * g.width) space) g.cells) from to
      ∙ rw (run-is, rest-is, most, none) (append-nil (replicate n space ++ []) ∙ append-nil (replicate n space))))
