-- Whether a row goes on: what its last cell says, what reads it and what does not.
use Rattle.std.proofs.Common.{◌≡◌, ℕ, zero, suc, ◌+◌, ◌-◌, ◌<◌, ◌≤◌, Bool, true, false, List, [], ◌∷◌, ◌++◌, length, take, drop, set, refl, ap, sym, ◌∙◌, arith}
use Rattle.std.specs.Prelude.{◌&&◌, nat_lt, nat_eq, replicate, if◌then◌else◌}
use Rattle.std.specs.List.{AllByRecursion}
use Rattle.std.proofs.lemmas.List.{append_assoc, length-append, length-take-le, take-set-le, drop-set-lt, drop-set-add, drop-drop, set-get_or, set_comm, set-append_right, get_or-append_right, get_or_append_left, get_or-set_same, get_or-set_other, get_or-take, get_or-drop}
use borrow.Author.Tests.{ltb-true, ltb-false}
use Rattle.ansi_style.specs.declared.style.Style.{Style}
use Rattle.ansi_style.specs.Style.{plain}
use Rattle.ansi_screen.specs.declared.cell.Cell.{Cell}
use Rattle.ansi_screen.specs.Cells.{blank, emptied, cell_at, cut, within, change, with_mark, marked_before, going_on}
use Rattle.ansi_screen.specs.Print.{glyph}
use Rattle.ansi_screen.specs.Runs.{with_glyphs}
use Rattle.ansi_screen.proofs.RunLemmas.{right_at, cut-on, cut-off, length-cut}
use Rattle.ansi_screen.proofs.WholeLemmas.{length-put, length-going_on}

-- a cell that goes on, or does not
abbrev going : Bool → Cell → Cell
going on x = record x { goes_on = on }

-- the cell at a place is changed
abbrev cell_by : ℕ → (Cell → Cell) → List Cell → List Cell
cell_by place how cells = set cells place (how (cell_at place cells))

-- a change that the next one overwrites
by-lost : (i : ℕ) (f g : Cell → Cell) (cells : List Cell) → ((x : Cell) → g (f x) ≡ g x) → cell_by i g (cell_by i f cells) ≡ cell_by i g cells
by-lost i f g [] same = refl
by-lost zero f g (x ∷ cells) same = ap (λ y. y ∷ cells) (same x)
by-lost (suc i) f g (x ∷ cells) same = ap (λ l. x ∷ l) (by-lost i f g cells same)

-- also where another cell, or the same one, is changed between
by-through : (i j : ℕ) (f h g : Cell → Cell) (cells : List Cell) → ((x : Cell) → g (h (f x)) ≡ g (h x)) → ((x : Cell) → g (f x) ≡ g x)
    → cell_by j g (cell_by i h (cell_by j f cells)) ≡ cell_by j g (cell_by i h cells)
by-through i j f h g [] both same = refl
by-through zero zero f h g (x ∷ cells) both same = ap (λ y. y ∷ cells) (both x)
by-through zero (suc j) f h g (x ∷ cells) both same = ap (λ l. h x ∷ l) (by-lost j f g cells same)
by-through (suc i) zero f h g (x ∷ cells) both same = ap (λ y. y ∷ cell_by i h cells) (same x)
by-through (suc i) (suc j) f h g (x ∷ cells) both same = ap (λ l. x ∷ l) (by-through i j f h g cells both same)

-- changes whose order is of no matter
by-swapped : (i j : ℕ) (f g : Cell → Cell) (cells : List Cell) → ((x : Cell) → f (g x) ≡ g (f x))
    → cell_by i f (cell_by j g cells) ≡ cell_by j g (cell_by i f cells)
by-swapped i j f g [] same = refl
by-swapped zero zero f g (x ∷ cells) same = ap (λ y. y ∷ cells) (same x)
by-swapped zero (suc j) f g (x ∷ cells) same = refl
by-swapped (suc i) zero f g (x ∷ cells) same = refl
by-swapped (suc i) (suc j) f g (x ∷ cells) same = ap (λ l. x ∷ l) (by-swapped i j f g cells same)

-- what a row says of itself, it says already
pub going-same : (on : Bool) (end : ℕ) (cells : List Cell) → (cell_at (end - 1) cells).goes_on ≡ on → cells ≡ going_on on end cells
unfolding going_on
going-same on end cells is = rw (← is) (sym (set-get_or cells (end - 1) (blank plain)))

-- what it was told last counts, and is read
pub going-twice : (on before : Bool) (end : ℕ) (cells : List Cell) → going_on on end (going_on before end cells) ≡ going_on on end cells
unfolding going_on
going-twice on before end cells = by-lost (end - 1) (going before) (going on) cells (λ x. refl)

pub going-read : (on : Bool) (end : ℕ) (cells : List Cell) → 0 < end → end ≤ length cells → (cell_at (end - 1) (going_on on end cells)).goes_on ≡ on
unfolding going_on
going-read on end cells some inside =
    ap (λ (x : Cell). x.goes_on) (get_or-set_same cells (end - 1) (going on (cell_at (end - 1) cells)) (blank plain) (omega (arith, some, inside)))

-- no half of a wide character comes or goes by it
right-by : (on : Bool) (i j : ℕ) (cells : List Cell) → right_at j (cell_by i (going on) cells) ≡ right_at j cells
right-by on i j [] = refl
right-by on zero zero (x ∷ cells) = refl
right-by on zero (suc j) (x ∷ cells) = refl
right-by on (suc i) zero (x ∷ cells) = refl
right-by on (suc i) (suc j) (x ∷ cells) = right-by on i j cells

pub going-right : (on : Bool) (end j : ℕ) (cells : List Cell) → right_at j (going_on on end cells) ≡ right_at j cells
unfolding going_on
going-right on end j cells = right-by on (end - 1) j cells

-- what the last cell of a row says, the list of all cells says
pub row-says : (start width : ℕ) (cells row : List Cell) → 0 < width → row ≡ take width (drop start cells) → length row ≡ width
    → (cell_at (length row - 1) row).goes_on ≡ (cell_at (start + width - 1) cells).goes_on
row-says start width cells row some is long =
    let last : length row - 1 ≡ width - 1 = omega (arith, long) in
    let there : start + (width - 1) ≡ start + width - 1 = omega (arith, some) in
    ap (λ k. (cell_at k row).goes_on) last
    ∙ (ap (λ l. (cell_at (width - 1) l).goes_on) is
    ∙ (ap (λ (x : Cell). x.goes_on) (get_or-take width (drop start cells) (width - 1) (blank plain) (omega (arith, some)) ∙ get_or-drop start cells (width - 1) (blank plain))
    ∙ ap (λ k. (cell_at k cells).goes_on) there))

-- the last cell but one is emptied, whatever the row says
pub last-set : (place end : ℕ) (cells : List Cell) → suc place + 1 ≡ end
    → set (going_on false end cells) place (emptied (cell_at place (going_on false end cells))) ≡ going_on false end (set cells place (emptied (cell_at place cells)))
unfolding going_on
last-set place end cells next =
    let there : end - 1 ≡ suc place = omega (arith, next) in
    rw there
    (ap (λ (x : Cell). set (set cells (suc place) (going false (cell_at (suc place) cells))) place (emptied x))
    (get_or-set_other cells (suc place) place (going false (cell_at (suc place) cells)) (blank plain) (λ e. omega (arith, e)))
    ∙ (sym (set_comm cells place (suc place) (emptied (cell_at place cells)) (going false (cell_at (suc place) cells)) (λ e. omega (arith, e)))
    ∙ ap (λ (x : Cell). set (set cells place (emptied (cell_at place cells))) (suc place) (going false x))
    (sym (get_or-set_other cells place (suc place) (emptied (cell_at place cells)) (blank plain) (λ e. omega (arith, e))))))

-- Where the cells behind a place stay, a row that ends there says what it said.
cell-behind : (n place : ℕ) (xs ys : List Cell) → drop n xs ≡ drop n ys → n ≤ place → cell_at place xs ≡ cell_at place ys
cell-behind n place xs ys same past =
    let there : n + (place - n) ≡ place = omega arith in
    let from : (l : List Cell) → cell_at place l ≡ cell_at (place - n) (drop n l) =
    λ l. ap (λ k. cell_at k l) (sym there) ∙ sym (get_or-drop n l (place - n) (blank plain)) in
    from xs ∙ (ap (cell_at (place - n)) same ∙ sym (from ys))

pub going-far : (end n : ℕ) (cells new : List Cell) → drop n new ≡ drop n cells → n < end → new ≡ going_on (cell_at (end - 1) cells).goes_on end new
going-far end n cells new same far =
    going-same (cell_at (end - 1) cells).goes_on end new (ap (λ (x : Cell). x.goes_on) (cell-behind n (end - 1) new cells same (omega (arith, far))))

-- a mark is put in its cell, whatever the row says
pub going-marked : (on : Bool) (end mark place : ℕ) (cells : List Cell) → going_on on end (marked_before mark place cells) ≡ marked_before mark place (going_on on end cells)
unfolding going_on marked_before
going-marked on end mark place cells =
    let there : right_at (place - 1) (going_on on end cells) ≡ right_at (place - 1) cells = going-right on end (place - 1) cells in
    by (right_at (place - 1) cells) refl there
  where
    by : (t : Bool) → right_at (place - 1) cells ≡ t → right_at (place - 1) (cell_by (end - 1) (going on) cells) ≡ right_at (place - 1) cells
        → cell_by (end - 1) (going on) (cell_by (if right_at (place - 1) cells then place - 2 else place - 1) (with_mark mark) cells)
        ≡ cell_by (if right_at (place - 1) (cell_by (end - 1) (going on) cells) then place - 2 else place - 1) (with_mark mark) (cell_by (end - 1) (going on) cells)
    by t is same = rw same (by-swapped (end - 1) (if right_at (place - 1) cells then place - 2 else place - 1) (going on) (with_mark mark) cells (λ x. refl))

-- both halves of a wide character are emptied, whatever the row said before
halves-by : (place : ℕ) (cells : List Cell)
    → set (set cells place (emptied (cell_at place cells))) (suc place) (emptied (cell_at (suc place) cells)) ≡ cell_by (suc place) emptied (cell_by place emptied cells)
halves-by place cells =
    ap (λ (x : Cell). set (set cells place (emptied (cell_at place cells))) (suc place) (emptied x))
    (sym (get_or-set_other cells place (suc place) (emptied (cell_at place cells)) (blank plain) (λ e. omega (arith, e))))

going-halves : (on before : Bool) (end place : ℕ) (cells : List Cell)
    → going_on on end (cell_by (suc place) emptied (cell_by place emptied (going_on before end cells))) ≡ going_on on end (cell_by (suc place) emptied (cell_by place emptied cells))
unfolding going_on
going-halves on before end place cells =
    let i : ℕ = end - 1 in
    let flagged : List Cell = cell_by i (going before) cells in
    sym (by-through (suc place) i (going before) emptied (going on) (cell_by place emptied flagged) (λ x. refl) (λ x. refl))
    ∙ (ap (λ l. cell_by i (going on) (cell_by (suc place) emptied l)) (by-through place i (going before) emptied (going before) cells (λ x. refl) (λ x. refl))
    ∙ by-through (suc place) i (going before) emptied (going on) (cell_by place emptied cells) (λ x. refl) (λ x. refl))

-- a wide character that is cut, whatever the row said before
cut-by : (t : Bool) (on before : Bool) (end place : ℕ) (cells : List Cell) → right_at (suc place) cells ≡ t
    → going_on on end (cut (suc place) (going_on before end cells)) ≡ going_on on end (cut (suc place) cells)
cut-by true on before end place cells is =
    let flagged : List Cell = going_on before end cells in
    let there : right_at (suc place) flagged ≡ true = going-right before end (suc place) cells ∙ is in
    ap (going_on on end) (cut-on place flagged there ∙ halves-by place flagged)
    ∙ (going-halves on before end place cells
    ∙ sym (ap (going_on on end) (cut-on place cells is ∙ halves-by place cells)))
cut-by false on before end place cells is =
    ap (going_on on end) (cut-off (suc place) (going_on before end cells) (going-right before end (suc place) cells ∙ is))
    ∙ (going-twice on before end cells ∙ sym (ap (going_on on end) (cut-off (suc place) cells is)))

pub going-cut : (on before : Bool) (end place : ℕ) (cells : List Cell) → going_on on end (cut place (going_on before end cells)) ≡ going_on on end (cut place cells)
unfolding cut
going-cut on before end zero cells = going-twice on before end cells
going-cut on before end (suc place) cells = cut-by (right_at (suc place) cells) on before end place cells refl

-- cells that come in place of others up to the row's end at most
within-by : (t : Bool) (on before : Bool) (end from to : ℕ) (new cells : List Cell) → nat_lt (end - 1) to ≡ t → from < end → from ≤ to → to ≤ length cells → length new ≡ to - from
    → going_on on end (within from to (λ run. new) (going_on before end cells)) ≡ going_on on end (within from to (λ run. new) cells)
unfolding going_on
within-by t on before end from to new cells is below order inside long =
    let i : ℕ = end - 1 in
    let flagged : List Cell = cell_by i (going before) cells in
    let front : take from flagged ≡ take from cells = take-set-le from cells i (going before (cell_at i cells)) (omega (arith, below)) in
    let there : from + (to - from) ≡ to = omega (arith, order) in
    let behind : (l : List Cell) → drop (to - from) (drop from l) ≡ drop to l = λ l. drop-drop (to - from) from l ∙ ap (λ k. drop k l) there in
    ap (λ l. cell_by i (going on) (l ++ (new ++ drop (to - from) (drop from flagged)))) front
    ∙ (ap (λ l. cell_by i (going on) (take from cells ++ (new ++ l))) (behind flagged)
    ∙ (rest t is
    ∙ ap (λ l. cell_by i (going on) (take from cells ++ (new ++ l))) (sym (behind cells))))
  where
    rest : (u : Bool) → nat_lt (end - 1) to ≡ u
        → cell_by (end - 1) (going on) (take from cells ++ (new ++ drop to (cell_by (end - 1) (going before) cells))) ≡ cell_by (end - 1) (going on) (take from cells ++ (new ++ drop to cells))
    rest true less =
        ap (λ l. cell_by (end - 1) (going on) (take from cells ++ (new ++ l)))
        (drop-set-lt to cells (end - 1) (going before (cell_at (end - 1) cells)) (ltb-true (end - 1) to less))
    rest false other =
        let past : to ≤ end - 1 = ltb-false (end - 1) to other in
        let k : ℕ = end - 1 - to in
        let there : to + k ≡ end - 1 = omega (arith, past) in
        let front : List Cell = take from cells ++ new in
        let front_long : length front ≡ to = omega (arith, length-append (take from cells) new, length-take-le from cells (omega (arith, order, inside)), long, order) in
        let lost : drop to (cell_by (end - 1) (going before) cells) ≡ cell_by k (going before) (drop to cells) =
        ap (λ j. drop to (set cells j (going before (cell_at j cells)))) (sym there)
        ∙ (drop-set-add to cells k (going before (cell_at (to + k) cells))
        ∙ ap (λ (x : Cell). set (drop to cells) k (going before x)) (sym (get_or-drop to cells k (blank plain)))) in
        let placed : (l : List Cell) → cell_by (end - 1) (going on) (take from cells ++ (new ++ l)) ≡ front ++ cell_by k (going on) l =
        λ l.
        ap (cell_by (end - 1) (going on)) (sym (append_assoc (take from cells) new l))
        ∙ (set-append_right front l to (end - 1) (going on (cell_at (end - 1) (front ++ l))) front_long past
        ∙ ap (λ (x : Cell). front ++ set l k (going on x)) (get_or-append_right front l to (end - 1) (blank plain) front_long past)) in
        ap (λ l. cell_by (end - 1) (going on) (take from cells ++ (new ++ l))) lost
        ∙ (placed (cell_by k (going before) (drop to cells))
        ∙ (ap (λ l. front ++ l) (by-lost k (going before) (going on) (drop to cells) (λ x. refl))
        ∙ sym (placed (drop to cells))))

-- the same where wide characters are cut before
pub going-change : (on before : Bool) (end from to : ℕ) (new cells : List Cell) → from < end → from ≤ to → to ≤ length cells → length new ≡ to - from
    → going_on on end (change from to (λ run. new) (going_on before end cells)) ≡ going_on on end (change from to (λ run. new) cells)
going-change on before end from to new cells below order inside long =
    let put : List Cell → List Cell = within from to (λ run. new) in
    let flag : List Cell → List Cell = going_on before end in
    let cuts : List Cell → List Cell = λ l. cut from (cut to l) in
    let cuts_long : (l : List Cell) → length (cuts l) ≡ length l = λ l. length-cut from (cut to l) ∙ length-cut to l in
    let flag_long : length (flag cells) ≡ length cells = length-going_on before end cells in
    let same : flag (cuts (flag cells)) ≡ flag (cuts cells) =
    sym (going-cut before before end from (cut to (flag cells)))
    ∙ (ap (λ l. flag (cut from l)) (going-cut before before end to cells) ∙ going-cut before before end from (cut to cells)) in
    sym (within-by _ on before end from to new (cuts (flag cells)) refl below order (omega (arith, inside, cuts_long (flag cells), flag_long)) long)
    ∙ (ap (λ l. going_on on end (put l)) same
    ∙ within-by _ on before end from to new (cuts cells) refl below order (omega (arith, inside, cuts_long cells)) long)

-- and a run of characters
pub going-glyphs : (on before : Bool) (end place : ℕ) (text : List ℕ) (style : Style) (link : ℕ) (cells : List Cell) → place + length text ≤ end → end ≤ length cells
    → going_on on end (with_glyphs place text style link (going_on before end cells)) ≡ going_on on end (with_glyphs place text style link cells)
going-glyphs on before end place [] style link cells fits inside = going-twice on before end cells
going-glyphs on before end place (c ∷ text) style link cells fits inside =
    let put : List Cell → List Cell = change place (place + 1) (λ run. glyph 1 c style link) in
    let flag : List Cell → List Cell = going_on before end in
    let below : place < end = omega (arith, fits) in
    let next : place + 1 + length text ≤ end = omega (arith, fits) in
    let flag_long : length (flag cells) ≡ length cells = length-going_on before end cells in
    let put_long : (l : List Cell) → length l ≡ length cells → length (put l) ≡ length cells =
    λ l long. length-put place 1 c style link l (omega arith) (omega arith) (omega (arith, below, inside, long)) ∙ long in
    sym (going-glyphs on before end (place + 1) text style link (put (flag cells)) next (omega (arith, inside, put_long (flag cells) flag_long)))
    ∙ (ap (λ l. going_on on end (with_glyphs (place + 1) text style link l))
    (going-change before before end place (place + 1) (glyph 1 c style link) cells below (omega arith) (omega (arith, below, inside)) (omega arith))
    ∙ going-glyphs on before end (place + 1) text style link (put cells) next (omega (arith, inside, put_long cells refl)))

-- No row goes on.
abbrev pub NoneGoesOn : List Cell → Type 0
NoneGoesOn cells = AllByRecursion (λ (x : Cell). x.goes_on ≡ false) cells

pub none-blanks : (n : ℕ) (style : Style) → NoneGoesOn (replicate n (blank style))
none-blanks zero style = tt
none-blanks (suc n) style = (refl, none-blanks n style)

pub none-append : (xs ys : List Cell) → NoneGoesOn xs → NoneGoesOn ys → NoneGoesOn (xs ++ ys)
none-append [] ys first second = second
none-append (x ∷ xs) ys first second = (first.0, none-append xs ys first.1 second)

pub glyph-none : (n c : ℕ) (style : Style) (link : ℕ) (t : Bool) → nat_eq n 2 ≡ t → NoneGoesOn (glyph n c style link)
glyph-none n c style link true is = rw is (refl, (refl, tt))
glyph-none n c style link false is = rw is (refl, tt)

pub none-at : (place : ℕ) (cells : List Cell) → NoneGoesOn cells → (cell_at place cells).goes_on ≡ false
none-at place [] none = refl
none-at zero (x ∷ cells) none = none.0
none-at (suc place) (x ∷ cells) none = none-at place cells none.1

pub none-behind : (place : ℕ) (front behind : List Cell) → length front ≤ place → NoneGoesOn behind → (cell_at place (front ++ behind)).goes_on ≡ false
none-behind place front behind past none =
    ap (λ (x : Cell). x.goes_on) (get_or-append_right front behind (length front) place (blank plain) refl past) ∙ none-at (place - length front) behind none

-- where neither the cells before nor those that come after go on, nothing is told
pub going-none : (end : ℕ) (before cells : List Cell) → (cell_at (end - 1) before).goes_on ≡ false → (cell_at (end - 1) cells).goes_on ≡ false
    → going_on (cell_at (end - 1) before).goes_on end cells ≡ cells
going-none end before cells first none = ap (λ on. going_on on end cells) first ∙ sym (going-same false end cells none)

-- where no cell goes on that is put, a row that did not go on does not
none-set : (k i : ℕ) (x : Cell) (cells : List Cell) → x.goes_on ≡ false → (cell_at k cells).goes_on ≡ false → (cell_at k (set cells i x)).goes_on ≡ false
none-set k i x [] is none = refl
none-set zero zero x (y ∷ cells) is none = is
none-set zero (suc i) x (y ∷ cells) is none = none
none-set (suc k) zero x (y ∷ cells) is none = none
none-set (suc k) (suc i) x (y ∷ cells) is none = none-set k i x cells is none

none-cut : (k place : ℕ) (cells : List Cell) → (cell_at k cells).goes_on ≡ false → (cell_at k (cut place cells)).goes_on ≡ false
unfolding cut
none-cut k place cells none = by (nat_lt 0 place && right_at place cells)
  where
    by : (t : Bool) → (cell_at k (if t then set (set cells (place - 1) (emptied (cell_at (place - 1) cells))) place (emptied (cell_at place cells)) else cells)).goes_on ≡ false
    by true =
        none-set k place (emptied (cell_at place cells)) (set cells (place - 1) (emptied (cell_at (place - 1) cells))) refl
        (none-set k (place - 1) (emptied (cell_at (place - 1) cells)) cells refl none)
    by false = none

none-second : (u : Bool) (k from to : ℕ) (new cells : List Cell) → nat_lt (k - from) (length new) ≡ u → from ≤ k → from ≤ to → length new ≡ to - from → NoneGoesOn new
    → (cell_at k cells).goes_on ≡ false → (cell_at (k - from) (new ++ drop (to - from) (drop from cells))).goes_on ≡ false
none-second true k from to new cells is past order long fresh none =
    ap (λ (x : Cell). x.goes_on) (get_or_append_left new (drop (to - from) (drop from cells)) (blank plain) (k - from) (ltb-true (k - from) (length new) is))
    ∙ none-at (k - from) new fresh
none-second false k from to new cells is past order long fresh none =
    let behind : length new ≤ k - from = ltb-false (k - from) (length new) is in
    let j : ℕ = k - from - length new in
    let there : from + (to - from + j) ≡ k = omega (arith, behind, past, order, long) in
    ap (λ (x : Cell). x.goes_on) (get_or-append_right new (drop (to - from) (drop from cells)) (length new) (k - from) (blank plain) refl behind
    ∙ (get_or-drop (to - from) (drop from cells) j (blank plain) ∙ (get_or-drop from cells (to - from + j) (blank plain) ∙ ap (λ i. cell_at i cells) there)))
    ∙ none

none-first : (t : Bool) (k from to : ℕ) (new cells : List Cell) → nat_lt k from ≡ t → from ≤ to → to ≤ length cells → length new ≡ to - from → NoneGoesOn new
    → (cell_at k cells).goes_on ≡ false → (cell_at k (within from to (λ run. new) cells)).goes_on ≡ false
none-first true k from to new cells is order inside long fresh none =
    let less : k < from = ltb-true k from is in
    ap (λ (x : Cell). x.goes_on) (get_or_append_left (take from cells) (new ++ drop (to - from) (drop from cells)) (blank plain) k
    (omega (arith, less, length-take-le from cells (omega (arith, order, inside))))
    ∙ get_or-take from cells k (blank plain) less)
    ∙ none
none-first false k from to new cells is order inside long fresh none =
    let past : from ≤ k = ltb-false k from is in
    ap (λ (x : Cell). x.goes_on) (get_or-append_right (take from cells) (new ++ drop (to - from) (drop from cells)) from k (blank plain)
    (length-take-le from cells (omega (arith, order, inside))) past)
    ∙ none-second _ k from to new cells refl past order long fresh none

pub none-change : (k from to : ℕ) (new cells : List Cell) → from ≤ to → to ≤ length cells → length new ≡ to - from → NoneGoesOn new
    → (cell_at k cells).goes_on ≡ false → (cell_at k (change from to (λ run. new) cells)).goes_on ≡ false
none-change k from to new cells order inside long fresh none =
    none-first _ k from to new (cut from (cut to cells)) refl order (omega (arith, inside, length-cut from (cut to cells), length-cut to cells)) long fresh
    (none-cut k from (cut to cells) (none-cut k to cells none))

pub none-glyphs : (k place : ℕ) (text : List ℕ) (style : Style) (link : ℕ) (cells : List Cell) → place + length text ≤ length cells
    → (cell_at k cells).goes_on ≡ false → (cell_at k (with_glyphs place text style link cells)).goes_on ≡ false
none-glyphs k place [] style link cells inside none = none
none-glyphs k place (c ∷ text) style link cells inside none =
    let one : List Cell = change place (place + 1) (λ run. glyph 1 c style link) cells in
    let one_long : length one ≡ length cells = length-put place 1 c style link cells (omega arith) (omega arith) (omega (arith, inside)) in
    none-glyphs k (place + 1) text style link one (omega (arith, inside, one_long))
    (none-change k place (place + 1) (glyph 1 c style link) cells (omega arith) (omega (arith, inside)) (omega arith) (glyph-none 1 c style link _ refl) none)
