-- Cutting wide characters, and characters that are put into a list of cells.
use Rattle.std.proofs.Common.{◌≡◌, ℕ, suc, ◌+◌, ◌-◌, ◌<◌, ◌≤◌, Bool, true, false, ◌&&◌, List, [], ◌∷◌, ◌++◌, length, get_or, take, drop, set, refl, ap, sym, ◌∙◌, arith}
use Rattle.std.specs.Prelude.{nat_lt, replicate}
use Rattle.std.proofs.lemmas.Bool.{lt-ltb, le-ltb, and_left, and_right}
use Rattle.std.proofs.lemmas.List.{take_at, drop_at, length-append, length-drop, length-replicate, take-replicate, replicate-append-replicate, get_or_default, get_or_past, set_split, drop-drop, drop-set-lt, take_more_set, append_assoc, length-set}
use Rattle.ansi_style.specs.Style.{plain}
use Rattle.ansi_screen.specs.declared.cell.Cell.{Cell}
use Rattle.ansi_screen.specs.Cells.{blank, emptied, is_right, cell_at, cut, within}

-- where a right half stands, both halves become blanks
pub cut-split : (cells : List Cell) (place : ℕ) (t : Bool) (l r d e f : Cell) → 0 < place → place < length cells
    → t ≡ is_right (get_or cells place d).part → t ≡ true
    → l ≡ emptied (get_or cells (place - 1) e) → r ≡ emptied (get_or cells place f)
    → set (set cells (place - 1) l) place r ≡ cut place cells
unfolding cut
cut-split cells place t l r d e f some inside test is_true left right =
    let before : place - 1 < length cells = omega arith in
    let some_before : nat_lt 0 place ≡ true = lt-ltb 0 place some in
    let is : is_right (get_or cells place (blank plain)).part ≡ true =
    ap (λ (x : Cell). is_right x.part) (get_or_default cells place (blank plain) d inside) ∙ (sym test ∙ is_true) in
    let left_is : l ≡ emptied (get_or cells (place - 1) (blank plain)) =
    left ∙ ap (λ (x : Cell). emptied x) (get_or_default cells (place - 1) e (blank plain) before) in
    let right_is : r ≡ emptied (get_or cells place (blank plain)) =
    right ∙ ap (λ (x : Cell). emptied x) (get_or_default cells place f (blank plain) inside) in
    rw (some_before, is, left_is, right_is) refl

-- where none stands, nothing is cut
pub cut-none : (cells : List Cell) (place : ℕ) → (nat_lt 0 place && is_right (cell_at place cells).part) ≡ false → cells ≡ cut place cells
unfolding cut
cut-none cells place is_false = rw is_false refl

pub cut-other : (cells : List Cell) (place : ℕ) (t : Bool) (d : Cell) → place < length cells
    → t ≡ is_right (get_or cells place d).part → t ≡ false → cells ≡ cut place cells
cut-other cells place t d inside test is_false =
    cut-none cells place (and_right (nat_lt 0 place) (is_right (cell_at place cells).part)
    (ap (λ (x : Cell). is_right x.part) (get_or_default cells place (blank plain) d inside) ∙ (sym test ∙ is_false)))

pub right-at : (cells : List Cell) (place : ℕ) (t : Bool) (d : Cell) → place < length cells
    → t ≡ is_right (get_or cells place d).part → t ≡ true → is_right (cell_at place cells).part ≡ true
right-at cells place t d inside test is_true =
    ap (λ (x : Cell). is_right x.part) (get_or_default cells place (blank plain) d inside) ∙ (sym test ∙ is_true)

pub cut-past : (cells : List Cell) (place : ℕ) → length cells ≤ place → cells ≡ cut place cells
cut-past cells place past =
    cut-none cells place (and_right (nat_lt 0 place) (is_right (cell_at place cells).part)
    (ap (λ (x : Cell). is_right x.part) (get_or_past cells place (blank plain) past)))

pub cut-first : (cells : List Cell) (place : ℕ) → place ≤ 0 → cells ≡ cut place cells
cut-first cells place first = cut-none cells place (and_left (nat_lt 0 place) (is_right (cell_at place cells).part) (le-ltb 0 place first))

-- one cell is set
pub set-one : (cells : List Cell) (place : ℕ) (cell : Cell) → place < length cells
    → set cells place cell ≡ within place (place + 1) (λ run. cell ∷ []) cells
set-one cells place cell inside =
    let next : place + (place + 1 - place) ≡ suc place = omega arith in
    rw (drop-drop (place + 1 - place) place cells, next) (set_split cells place cell inside)

-- two cells are set
pub set-two : (cells : List Cell) (place : ℕ) (l r : Cell) → place + 1 < length cells
    → set (set cells place l) (place + 1) r ≡ within place (place + 2) (λ run. l ∷ r ∷ []) cells
set-two cells place l r inside =
    let next : place + (place + 2 - place) ≡ suc (place + 1) = omega arith in
    let first : place < length cells = omega arith in
    let above : place < suc (place + 1) = omega arith in
    let second : place + 1 < length (set cells place l) = rw (length-set cells place l) inside in
    rw (drop-drop (place + 2 - place) place cells, next)
    (set_split (set cells place l) (place + 1) r second
    ∙ rw (take_more_set cells place l first, drop-set-lt (suc (place + 1)) cells place l above) (append_assoc (take place cells) (l ∷ []) (r ∷ drop (suc (place + 1)) cells)))

-- where the first cells are blanks, as many more that are copied from these
pub cleared-more : (n k : ℕ) (space : Cell) (front rest new : List Cell) → k ≤ n → front ≡ replicate n space → new ≡ take k front
    → take (n + k) (front ++ (new ++ drop k rest)) ≡ replicate (n + k) space
cleared-more n k space front rest new few blank copied =
    let more : new ≡ replicate k space = copied ∙ (ap (take k) blank ∙ take-replicate k n space few) in
    let whole : front ++ new ≡ replicate (n + k) space =
    ap (λ l. l ++ new) blank ∙ (ap (λ l. replicate n space ++ l) more ∙ replicate-append-replicate n k space) in
    let long : length (front ++ new) ≡ n + k = ap length whole ∙ length-replicate (n + k) space in
    ap (take (n + k)) (sym (append_assoc front new (drop k rest))) ∙ (take_at (front ++ new) (drop k rest) (n + k) long ∙ whole)

pub length-copied : (k : ℕ) (cells front rest new : List Cell) → cells ≡ front ++ rest → length new ≡ k → k ≤ length rest
    → length (front ++ (new ++ drop k rest)) ≡ length cells
length-copied k cells front rest new parts long few =
    omega (arith, ap length parts, length-append front rest, length-append front (new ++ drop k rest), length-append new (drop k rest), length-drop k rest, long, few)

-- where the first cells are blanks, as many more that are copied from others
pub cleared-next : (n k most : ℕ) (space : Cell) (cells initial new : List Cell) → cells ≡ replicate n space ++ drop n initial → n ≤ length initial
    → k ≤ most → new ≡ take k (replicate most space)
    → take n cells ++ (new ++ drop (n + k - n) (drop n cells)) ≡ replicate (n + k) space ++ drop (n + k) initial
cleared-next n k most space cells initial new so_far inside few copied =
    let front : List Cell = replicate n space in
    let long : length front ≡ n = length-replicate n space in
    let first : take n cells ≡ front = ap (take n) so_far ∙ take_at front (drop n initial) n long in
    let rest : drop n cells ≡ drop n initial = ap (drop n) so_far ∙ drop_at front (drop n initial) n long in
    let there : n + k - n ≡ k = omega arith in
    let behind : drop (n + k - n) (drop n cells) ≡ drop (n + k) initial =
    ap (drop (n + k - n)) rest ∙ (ap (λ m. drop m (drop n initial)) there ∙ drop-drop k n initial) in
    ap (λ l. l ++ (new ++ drop (n + k - n) (drop n cells))) first
    ∙ (ap (λ l. front ++ (l ++ drop (n + k - n) (drop n cells))) (copied ∙ take-replicate k most space few)
    ∙ (ap (λ l. front ++ (replicate k space ++ l)) behind
    ∙ (sym (append_assoc front (replicate k space) (drop (n + k) initial))
    ∙ ap (λ l. l ++ drop (n + k) initial) (replicate-append-replicate n k space))))
