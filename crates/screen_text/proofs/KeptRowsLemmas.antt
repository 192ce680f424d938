-- The rows that still show on a screen on which plain text was typed.
use Rattle.std.proofs.Common.{◌≡◌, ℕ, zero, suc, ◌+◌, ◌-◌, ◌*◌, ◌<◌, ◌≤◌, Bool, true, false, List, [], ◌∷◌, ◌++◌, length, take, drop, refl, ap, sym, ◌∙◌, subst, inl, inr, arith}
use Rattle.std.specs.Prelude.{◌⊎◌, nat_lt, ◌==◌, replicate, if◌then◌else◌}
use Rattle.std.specs.List.{AllByRecursion}
use Rattle.std.proofs.lemmas.Bool.{ltb-true, ltb-false, ne_eqb}
use Rattle.std.proofs.lemmas.List.{append-nil, append_assoc, length-append, length-replicate, length_push, replicate-append-replicate, take-append-drop, take_at, drop_at, drop-append-le}
use Rattle.std.proofs.Math.Nat.{mul-le-mul_right}
use Rattle.anstyle_parse.proofs.Lists.Parts.{AllByRecursion-take}
use Rattle.ansi_screen.specs.declared.cell.Cell.{Cell}
use Rattle.ansi_screen.specs.Display.{Display, row_cells}
use Rattle.ansi_screen.specs.Text.{used, used_rows, is_unprinted, goes_on, first_rows, printed_rows}
use Rattle.ansi_screen.specs.Edits.{swapped}
use Rattle.screen_text.specs.Lines.{rows_text, open_after, showing}
use Rattle.screen_text.proofs.EndLemmas.{open_after-append}
use Rattle.screen_text.proofs.RowTextLemmas.{spaces, unprinted-blank, used-printed, goes_on-printed, text-ended}
use Rattle.screen_text.proofs.TypedLemmas.{joined, joined-append, AreLong, length-joined, long-append, Typed}
use Rattle.screen_text.proofs.TypingLemmas.{row-cells_split, row-long}

-- cells where nothing was printed
abbrev AreUnprinted : List Cell → Type 0
AreUnprinted cells = AllByRecursion (λ cell. is_unprinted cell ≡ true) cells

unprinted-spaces : (n : ℕ) → AreUnprinted (spaces n)
unprinted-spaces zero = tt
unprinted-spaces (suc n) = (unprinted-blank, unprinted-spaces n)

unprinted-append : (cells more : List Cell) → AreUnprinted cells → AreUnprinted more → AreUnprinted (cells ++ more)
unprinted-append [] more are others = others
unprinted-append (x ∷ cells) more are others = (are.0, unprinted-append cells more are.1 others)

unprinted-drop : (k : ℕ) (cells : List Cell) → AreUnprinted cells → AreUnprinted (drop k cells)
unprinted-drop zero cells are = are
unprinted-drop (suc k) [] are = tt
unprinted-drop (suc k) (x ∷ cells) are = unprinted-drop k cells are.1

unprinted-past : (front cells : List Cell) (k : ℕ) → length front ≤ k → AreUnprinted cells → AreUnprinted (drop k (front ++ cells))
unprinted-past [] cells k past are = unprinted-drop k cells are
unprinted-past (x ∷ front) cells zero past are = absurd (omega arith)
unprinted-past (x ∷ front) cells (suc k) past are = unprinted-past front cells k (omega arith) are

used-none : (cells : List Cell) → AreUnprinted cells → used is_unprinted cells ≡ 0
used-none [] are = refl
used-none (x ∷ cells) are = rw (used-none cells are.1, are.0) refl

-- rows of them
abbrev pub blank_rows : ℕ → ℕ → List (List Cell)
blank_rows width n = replicate n (spaces width)

unprinted-rows : (width n : ℕ) → AreUnprinted (joined (blank_rows width n))
unprinted-rows width zero = tt
unprinted-rows width (suc n) = unprinted-append (spaces width) (joined (blank_rows width n)) (unprinted-spaces width) (unprinted-rows width n)

-- a row of a display's cells
row-at : (rows : List (List Cell)) (row tail : List Cell) (d : Display) → d.cells ≡ joined rows ++ (row ++ tail) → AreLong d.width rows
    → length row ≡ d.width → row_cells (length rows) d ≡ row
row-at rows row tail d is are long =
    ap (λ l. take d.width (drop (length rows * d.width) l)) is
    ∙ (ap (take d.width) (drop_at (joined rows) (row ++ tail) (length rows * d.width) (length-joined d.width rows are))
    ∙ take_at row tail d.width long)

first-more : (more front : List (List Cell)) (tail : List Cell) (d : Display) → d.cells ≡ joined front ++ (joined more ++ tail)
    → AreLong d.width front → AreLong d.width more → first_rows (length front) d ≡ front
    → first_rows (length front + length more) d ≡ front ++ more
first-more [] front tail d is long more_long first =
    let none : length front + length {A = List Cell} [] ≡ length front = omega arith in
    ap (λ k. first_rows k d) none ∙ (first ∙ sym (append-nil front))
first-more (row ∷ more) front tail d is long more_long first =
    let next : List (List Cell) = front ++ row ∷ [] in
    let count : length next ≡ suc (length front) = omega (arith, length_push front row) in
    let together : length front + length (row ∷ more) ≡ length next + length more = omega (arith, length_push front row) in
    let cells : d.cells ≡ joined front ++ (row ++ (joined more ++ tail)) =
    is ∙ ap (λ l. joined front ++ l) (append_assoc row (joined more) tail) in
    let one : joined next ≡ joined front ++ row = joined-append front (row ∷ []) ∙ ap (λ l. joined front ++ l) (append-nil row) in
    let cells_next : d.cells ≡ joined next ++ (joined more ++ tail) =
    cells ∙ (sym (append_assoc (joined front) row (joined more ++ tail)) ∙ ap (λ l. l ++ (joined more ++ tail)) (sym one)) in
    let first_next : first_rows (length next) d ≡ next =
    ap (λ k. first_rows k d) count
    ∙ (ap (λ l. l ++ row_cells (length front) d ∷ []) first
    ∙ ap (λ x. front ++ x ∷ []) (row-at front row (joined more ++ tail) d cells long more_long.0)) in
    ap (λ k. first_rows k d) together
    ∙ (first-more more next tail d cells_next (long-append d.width front (row ∷ []) long (more_long.0, tt)) more_long.1 first_next
    ∙ append_assoc front (row ∷ []) more)

first-kept : (kept : List (List Cell)) (tail : List Cell) (d : Display) → d.cells ≡ joined kept ++ tail → AreLong d.width kept
    → first_rows (length kept) d ≡ kept
first-kept kept tail d is long =
    let all : 0 + length kept ≡ length kept = omega arith in
    ap (λ k. first_rows k d) (sym all) ∙ first-more kept [] tail d is tt long refl

-- the last of rows, where there is one, was printed and does not go on
abbrev pub HasEnd : List (List Cell) → Type 0
HasEnd rows =
    (rows ≡ []) ⊎ ((front : List (List Cell)) × (row : List Cell) × (rows ≡ front ++ row ∷ []) × ((used is_unprinted row == 0) ≡ false) × (goes_on row ≡ false))

used-after : (j : ℕ) (kept : List (List Cell)) (tail : List Cell) (d : Display) → d.cells ≡ joined kept ++ tail → AreLong d.width kept
    → AreUnprinted tail → used_rows is_unprinted (length kept + j) d ≡ used_rows is_unprinted (length kept) d
used-after zero kept tail d is long are =
    let none : length kept + 0 ≡ length kept = omega arith in
    ap (λ k. used_rows is_unprinted k d) none
used-after (suc j) kept tail d is long are =
    let next : length kept + suc j ≡ suc (length kept + j) = omega arith in
    let past : length kept * d.width ≤ (length kept + j) * d.width = mul-le-mul_right {m = length kept} {n = length kept + j} d.width (omega arith) in
    let behind : length (joined kept) ≤ (length kept + j) * d.width = omega (arith, length-joined d.width kept long) in
    let blank : used is_unprinted (row_cells (length kept + j) d) ≡ 0 =
    ap (λ l. used is_unprinted (take d.width (drop ((length kept + j) * d.width) l))) is
    ∙ used-none (take d.width (drop ((length kept + j) * d.width) (joined kept ++ tail)))
    (AllByRecursion-take (λ cell. is_unprinted cell ≡ true) d.width (drop ((length kept + j) * d.width) (joined kept ++ tail))
    (unprinted-past (joined kept) tail ((length kept + j) * d.width) behind are)) in
    ap (λ k. used_rows is_unprinted k d) next ∙ rw blank (used-after j kept tail d is long are)

long-parts : (width : ℕ) (front : List (List Cell)) (row : List Cell) → AreLong width (front ++ row ∷ []) → AreLong width front × (length row ≡ width)
long-parts width [] row are = (tt, are.0)
long-parts width (first ∷ front) row are =
    let rest = long-parts width front row are.1 in
    ((are.0, rest.0), rest.1)

used-kept : (kept : List (List Cell)) (tail : List Cell) (d : Display) → d.cells ≡ joined kept ++ tail → AreLong d.width kept → HasEnd kept
    → used_rows is_unprinted (length kept) d ≡ length kept
used-kept kept tail d is long (inl none) = rw none refl
used-kept kept tail d is long (inr (front, row, same, some, off)) =
    let count : length kept ≡ suc (length front) = ap length same ∙ omega (arith, length_push front row) in
    let one : joined kept ≡ joined front ++ row =
    ap joined same ∙ (joined-append front (row ∷ []) ∙ ap (λ l. joined front ++ l) (append-nil row)) in
    let cells : d.cells ≡ joined front ++ (row ++ tail) = is ∙ (ap (λ l. l ++ tail) one ∙ append_assoc (joined front) row tail) in
    let both : AreLong d.width (front ++ row ∷ []) = subst (AreLong d.width) same long in
    let parts = long-parts d.width front row both in
    let there : row_cells (length front) d ≡ row = row-at front row tail d cells parts.0 parts.1 in
    ap (λ k. used_rows is_unprinted k d) count ∙ (rw (there, some) refl ∙ sym count)

pub showing-kept : (kept : List (List Cell)) (tail : List Cell) (j : ℕ) (d : Display) → d.height ≡ length kept + j → d.cells ≡ joined kept ++ tail
    → AreLong d.width kept → AreUnprinted tail → HasEnd kept → d.is_alternate ≡ false → showing d ≡ kept
showing-kept kept tail j d rows is long are end main =
    ap (λ t. (if t then printed_rows (swapped d) else []) ++ printed_rows d) main
    ∙ ap (λ k. first_rows (used_rows is_unprinted k d) d) rows
    ∙ (ap (λ k. first_rows k d) (used-after j kept tail d is long are ∙ used-kept kept tail d is long end)
    ∙ first-kept kept tail d is long)

-- The cursor's row was printed: it is the last that shows.
pub typed-showing : (width height : ℕ) (left all : List (List Cell)) (current : List Cell) (d : Display) → Typed width height left all current d
    → 1 ≤ length current → left ++ showing d ≡ all ++ (current ++ spaces (width - length current)) ∷ []
typed-showing width height left all current d typed some =
    let full : List (List Cell) = typed.full in
    let row : List Cell = current ++ spaces (width - length current) in
    let kept : List (List Cell) = full ++ row ∷ [] in
    let tail : List Cell = spaces (typed.rest - (width - length current)) in
    let below : length full < height = typed.below in
    let row_is : length row ≡ width = row-long width height left all current d typed in
    let wide : d.width ≡ width = ap (λ (e : Display). e.width) typed.is in
    let rows : d.height ≡ length kept + (height - length kept) =
    ap (λ (e : Display). e.height) typed.is ∙ omega (arith, length_push full row) in
    let one : joined kept ≡ joined full ++ row = joined-append full (row ∷ []) ∙ ap (λ l. joined full ++ l) (append-nil row) in
    let cells : d.cells ≡ joined kept ++ tail =
    ap (λ (e : Display). e.cells) typed.is
    ∙ (row-cells_split width height left all current d typed
    ∙ (sym (append_assoc (joined full) row tail) ∙ ap (λ l. l ++ tail) (sym one))) in
    let long : AreLong d.width kept = subst (λ k. AreLong k kept) (sym wide) (long-append width full (row ∷ []) typed.long (row_is, tt)) in
    let used_some : (used is_unprinted row == 0) ≡ false =
    ne_eqb (used is_unprinted row) 0 (λ e. omega (arith, used-printed current (width - length current) typed.printed)) in
    let end : HasEnd kept = inr (full, row, refl, used_some, goes_on-printed current (width - length current) typed.printed) in
    ap (λ l. left ++ l) (showing-kept kept tail (height - length kept) d rows cells long (unprinted-spaces (typed.rest - (width - length current))) end
    (ap (λ (e : Display). e.is_alternate) typed.is))
    ∙ (sym (append_assoc left full (row ∷ [])) ∙ ap (λ l. l ++ row ∷ []) typed.split)

-- two lists that are one, split in two ways
split-front : {X : Type 0} (xs ys first second : List X) (k : ℕ) → xs ++ ys ≡ first ++ second → length first ≡ length xs + k → k ≤ length ys
    → (xs ++ take k ys ≡ first) × (drop k ys ≡ second)
split-front [] ys first second k same long few =
    let count : length first ≡ k = omega arith in
    (ap (take k) same ∙ take_at first second k count, ap (drop k) same ∙ drop_at first second k count)
split-front (x ∷ xs) ys [] second k same long few = absurd (omega arith)
split-front (x ∷ xs) ys (a ∷ first) second k same long few =
    let rest = split-front xs ys first second k (ap (drop 1) same) (omega arith) few in
    (ap (λ l. x ∷ l) rest.0 ∙ ap (λ h. h ++ first) (ap (take 1) same), rest.1)

end-of : (left kept front : List (List Cell)) (row : List Cell) → left ++ kept ≡ front ++ row ∷ [] → 1 ≤ length kept
    → kept ≡ drop (length left) front ++ row ∷ []
end-of left kept front row same some =
    let count : length left ≤ length front =
    omega (arith, ap length same, length-append left kept, length_push front row) in
    sym (drop_at left kept (length left) refl) ∙ (ap (drop (length left)) same ∙ drop-append-le (length left) front (row ∷ []) count)

kept-end : (left kept base : List (List Cell)) → left ++ kept ≡ base → 1 ≤ length kept → HasEnd base → HasEnd kept
kept-end left kept base same some (inl none) =
    absurd (omega (arith, ap length (same ∙ none), length-append left kept))
kept-end left kept base same some (inr (front, row, is, used_some, off)) =
    inr (drop (length left) front, row, end-of left kept front row (same ∙ is) some, used_some, off)

-- The last rows are blank, and the cursor stands after them: the rows that show are those up to the last that is not, and
-- so many blank ones have left as have no room.
ended-at : (width height n : ℕ) (left base : List (List Cell)) (d : Display) (t : Bool)
    → (typed : Typed width height left (base ++ blank_rows width n) [] d) → nat_lt n (length typed.full) ≡ t → HasEnd base
    → left ++ showing d ≡ base ++ blank_rows width (n - (height - 1))
ended-at width height n left base d true typed test end =
    let full : List (List Cell) = typed.full in
    let below : length full < height = typed.below in
    let more : n < length full = ltb-true n (length full) test in
    let k : ℕ = length full - n in
    let count : length base ≡ length left + k =
    omega (arith, ap length typed.split, length-append left full, length-append base (blank_rows width n), length-replicate n (spaces width)) in
    let parts = split-front left full base (blank_rows width n) k typed.split count (omega arith) in
    let kept : List (List Cell) = take k full in
    let both : full ≡ kept ++ blank_rows width n = sym (take-append-drop k full) ∙ ap (λ l. kept ++ l) parts.1 in
    let kept_count : length kept ≡ k =
    omega (arith, ap length both, length-append kept (blank_rows width n), length-replicate n (spaces width)) in
    let tail : List Cell = joined (blank_rows width n) ++ spaces typed.rest in
    let wide : d.width ≡ width = ap (λ (e : Display). e.width) typed.is in
    let rows : d.height ≡ length kept + (height - length kept) = ap (λ (e : Display). e.height) typed.is ∙ omega arith in
    let cells : d.cells ≡ joined kept ++ tail =
    ap (λ (e : Display). e.cells) typed.is
    ∙ (ap (λ l. joined l ++ spaces typed.rest) both
    ∙ (ap (λ l. l ++ spaces typed.rest) (joined-append kept (blank_rows width n))
    ∙ append_assoc (joined kept) (joined (blank_rows width n)) (spaces typed.rest))) in
    let long : AreLong d.width kept =
    subst (λ j. AreLong j kept) (sym wide) (AllByRecursion-take (λ (row : List Cell). length row ≡ width) k full typed.long) in
    let none : 0 ≡ n - (height - 1) = omega arith in
    ap (λ l. left ++ l) (showing-kept kept tail (height - length kept) d rows cells long
    (unprinted-append (joined (blank_rows width n)) (spaces typed.rest) (unprinted-rows width n) (unprinted-spaces typed.rest))
    (kept-end left kept base parts.0 (omega arith) end) (ap (λ (e : Display). e.is_alternate) typed.is))
    ∙ (parts.0 ∙ (sym (append-nil base) ∙ ap (λ j. base ++ blank_rows width j) none))
ended-at width height n left base d false typed test end =
    let full : List (List Cell) = typed.full in
    let below : length full < height = typed.below in
    let few : length full ≤ n = ltb-false n (length full) test in
    let gone : ℕ = n - length full in
    let together : n ≡ gone + length full = omega arith in
    let split : left ++ full ≡ (base ++ blank_rows width gone) ++ blank_rows width (length full) =
    typed.split
    ∙ (ap (λ l. base ++ l) (ap (blank_rows width) together ∙ sym (replicate-append-replicate gone (length full) (spaces width)))
    ∙ sym (append_assoc base (blank_rows width gone) (blank_rows width (length full)))) in
    let count : length (base ++ blank_rows width gone) ≡ length left + 0 =
    omega (arith, ap length split, length-append left full, length-append (base ++ blank_rows width gone) (blank_rows width (length full)), length-replicate (length full) (spaces width)) in
    let parts = split-front left full (base ++ blank_rows width gone) (blank_rows width (length full)) 0 split count (omega arith) in
    let wide : d.width ≡ width = ap (λ (e : Display). e.width) typed.is in
    let rows : d.height ≡ length {A = List Cell} [] + height = ap (λ (e : Display). e.height) typed.is ∙ omega arith in
    let tail : List Cell = joined (blank_rows width (length full)) ++ spaces typed.rest in
    let cells : d.cells ≡ joined [] ++ tail =
    ap (λ (e : Display). e.cells) typed.is ∙ ap (λ l. joined l ++ spaces typed.rest) parts.1 in
    let same : gone ≡ n - (height - 1) = elim typed.scrolled [
      | inl none ↦ omega (arith, ap length none, length-append base (blank_rows width gone), length-replicate gone (spaces width))
      | inr last ↦ omega arith
    ] in
    ap (λ l. left ++ l) (showing-kept [] tail height d rows cells tt
    (unprinted-append (joined (blank_rows width (length full))) (spaces typed.rest) (unprinted-rows width (length full)) (unprinted-spaces typed.rest))
    (inl refl) (ap (λ (e : Display). e.is_alternate) typed.is))
    ∙ (parts.0 ∙ ap (λ j. base ++ blank_rows width j) same)

pub ended-showing : (width height n : ℕ) (left base : List (List Cell)) (d : Display)
    → Typed width height left (base ++ blank_rows width n) [] d → HasEnd base
    → left ++ showing d ≡ base ++ blank_rows width (n - (height - 1))
ended-showing width height n left base d typed end = ended-at width height n left base d _ typed refl end

-- their text
pub blank-text : (width n : ℕ) → rows_text (blank_rows width n) ≡ replicate n 0x0A
blank-text width zero = refl
blank-text width (suc n) = ap (λ l. l ++ rows_text (blank_rows width n)) (text-ended [] width tt) ∙ ap (λ l. 0x0A ∷ l) (blank-text width n)

blank-closed : (width n : ℕ) (on : Bool) → on ≡ false → open_after on (blank_rows width n) ≡ false
blank-closed width zero on off = off
blank-closed width (suc n) on off = blank-closed width n (goes_on (spaces width)) (goes_on-printed [] width tt)

pub last-closed : (front : List (List Cell)) (row : List Cell) (on : Bool) → goes_on row ≡ false → open_after on (front ++ row ∷ []) ≡ false
last-closed front row on off = open_after-append on front (row ∷ []) ∙ off

pub ended-closed : (width n : ℕ) (base : List (List Cell)) → HasEnd base → open_after false (base ++ blank_rows width n) ≡ false
ended-closed width n base (inl none) =
    open_after-append false base (blank_rows width n) ∙ blank-closed width n (open_after false base) (ap (open_after false) none)
ended-closed width n base (inr (front, row, is, some, off)) =
    open_after-append false base (blank_rows width n)
    ∙ blank-closed width n (open_after false base) (ap (open_after false) is ∙ last-closed front row false off)
