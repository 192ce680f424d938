-- Groups that are cut from fields by their lengths.
use Rattle.std.proofs.Common.{length-append, append_assoc, ◌≡◌, ℕ, suc, ◌+◌, ◌-◌, ◌<◌, ◌≤◌, List, [], ◌∷◌, ◌++◌, length, take, drop, set, refl, sym, ap, ◌∙◌, arith, length-drop, add_assoc, zero-add}
use Rattle.std.specs.List.{concat}
use Rattle.std.proofs.Math.Seq.{take-add}
use Rattle.std.proofs.lemmas.List.{take_more_set, length-take-le, take-take, drop-drop, drop-take, take-append-le, drop-append-le, take_rest}
use Rattle.anstyle_parse.specs.Stream.Groups.{total, cut, shown_groups, HaveFields}

pub total-append : (xs ys : List ℕ) → total (xs ++ ys) ≡ total xs + total ys
total-append [] ys = sym (zero-add (total ys))
total-append (x ∷ xs) ys = ap (λ n. x + n) (total-append xs ys) ∙ sym (add_assoc x (total xs) (total ys))

-- the groups of the lengths before and then after
pub cut-append : (before after ns : List ℕ) → cut (before ++ after) ns ≡ cut before ns ++ cut after (drop (total before) ns)
cut-append [] after ns = refl
cut-append (l ∷ ls) after ns =
    ap (λ gs. take l ns ∷ gs) (cut-append ls after (drop l ns) ∙ ap (λ xs. cut ls (drop l ns) ++ cut after xs) (drop-drop (total ls) l ns))

-- as many groups as lengths
pub length-cut : (ls ns : List ℕ) → length (cut ls ns) ≡ length ls
length-cut [] ns = refl
length-cut (l ∷ ls) ns = ap suc (length-cut ls (drop l ns))

-- only the fields that are counted matter
pub cut_same : (ls ns ms : List ℕ) → take (total ls) ns ≡ take (total ls) ms → cut ls ns ≡ cut ls ms
cut_same [] ns ms h = refl
cut_same (l ∷ ls) ns ms h =
    let front : take l ns ≡ take l ms = sym (take-take l (l + total ls) ns (omega arith)) ∙ ap (take l) h ∙ take-take l (l + total ls) ms (omega arith) in
    let rest : take (total ls) (drop l ns) ≡ take (total ls) (drop l ms) = sym (drop-take l (total ls) ns) ∙ ap (drop l) h ∙ drop-take l (total ls) ms in
    ap (λ g. g ∷ cut ls (drop l ns)) front ∙ ap (λ gs. take l ms ∷ gs) (cut_same ls (drop l ns) (drop l ms) rest)

-- all fields are in the groups, in order
pub concat-cut : (ls ns : List ℕ) → concat (cut ls ns) ≡ take (total ls) ns
concat-cut [] ns = refl
concat-cut (l ∷ ls) ns = ap (λ xs. take l ns ++ xs) (concat-cut ls (drop l ns)) ∙ sym (take-add l (total ls) ns)

-- how many fields the groups have
pub length-concat-cut : (ls ns : List ℕ) → total ls ≤ length ns → length (concat (cut ls ns)) ≡ total ls
length-concat-cut ls ns h = ap length (concat-cut ls ns) ∙ length-take-le (total ls) ns h

-- an open group that has a field stands last
pub shown_groups-open : (gs : List (List ℕ)) (xs : List ℕ) → 0 < length xs → shown_groups gs xs ≡ gs ++ xs ∷ []
shown_groups-open gs [] h = absurd (omega arith)
shown_groups-open gs (x ∷ xs) h = refl

-- the fields of two lists of groups are those of the one and then those of the other
pub concat-append : (xss yss : List (List ℕ)) → concat (xss ++ yss) ≡ concat xss ++ concat yss
concat-append [] yss = refl
concat-append (xs ∷ xss) yss = ap (λ zs. xs ++ zs) (concat-append xss yss) ∙ sym (append_assoc xs (concat xss) (concat yss))

-- groups that have fields are no more than the fields
pub length-have_fields : (groups : List (List ℕ)) → HaveFields groups → length groups ≤ length (concat groups)
length-have_fields [] have = omega arith
length-have_fields (group ∷ groups) have = omega (arith, have.0, length-have_fields groups have.1, length-append group (concat groups))

-- A text that is cut into closed parts, and the part behind them.
module _ (text lengths : List ℕ) (parts closed : ℕ) (summed : total (take parts lengths) ≡ closed) (within : closed ≤ length text) where
  stored_closed : length (concat (cut (take parts lengths) text)) ≡ closed
  stored_closed = length-concat-cut (take parts lengths) text (omega arith) ∙ summed

  -- all of the text is in the parts and after them
  pub stored_total : length (concat (cut (take parts lengths) text)) + length (drop closed text) ≡ length text
  stored_total = omega (arith, stored_closed, length-drop closed text)

  -- as many parts as are counted
  pub parts_count : parts ≤ length lengths → length (cut (take parts lengths) text) ≡ parts
  parts_count h = length-cut (take parts lengths) text ∙ length-take-le parts lengths h

  -- one more byte leaves the closed parts as they are
  pub cut_stored : (b : ℕ) → cut (take parts lengths) (text ++ b ∷ []) ≡ cut (take parts lengths) text
  cut_stored b = cut_same (take parts lengths) (text ++ b ∷ []) text (take-append-le (total (take parts lengths)) text (b ∷ []) (omega arith))

  pub drop_stored : (b : ℕ) → drop closed (text ++ b ∷ []) ≡ drop closed text ++ b ∷ []
  drop_stored b = drop-append-le closed text (b ∷ []) within

  module _ (lt : parts < length lengths) where
    take_closed : take (parts + 1) (set lengths parts (length text - closed)) ≡ take parts lengths ++ (length text - closed) ∷ []
    take_closed = take_more_set lengths parts (length text - closed) lt

    pub total_closed : total (take (parts + 1) (set lengths parts (length text - closed))) ≡ length text
    total_closed = ap total take_closed ∙ omega (arith, total-append (take parts lengths) ((length text - closed) ∷ []))

    pub cut_closed : cut (take (parts + 1) (set lengths parts (length text - closed))) text ≡ cut (take parts lengths) text ++ drop closed text ∷ []
    cut_closed =
        ap (λ ls. cut ls text) take_closed
        ∙ cut-append (take parts lengths) ((length text - closed) ∷ []) text
        ∙ ap (λ n. cut (take parts lengths) text ++ take (length text - closed) (drop n text) ∷ []) summed
        ∙ ap (λ xs. cut (take parts lengths) text ++ xs ∷ []) (take_rest text closed)
