-- The text that is written of groups, part by part.
use Rattle.std.proofs.Common.{◌≡◌, ℕ, ◌≤◌, List, [], ◌∷◌, ◌++◌, length, map, take, sym, ap, ◌∙◌, take_all}
use Rattle.std.specs.List.{flat_map, join_with_byte}
use Rattle.std.specs.Fmt.{decimal}
use Rattle.std.proofs.lemmas.List.{append-nil}
use Rattle.anstyle_parse.specs.Stream.Bytes.{colon, semicolon}
use Rattle.anstyle_parse.specs.Stream.Groups.{fields_text, groups_text}

-- joined by a byte: the first, then the byte before each other
pub join_with_byte-map : {X : Type 0} (c : ℕ) (text : X → List ℕ) (x : X) (xs : List X)
    → join_with_byte c (map text (x ∷ xs)) ≡ text x ++ flat_map (λ y. c ∷ text y) xs
join_with_byte-map c text x [] = sym (append-nil (text x))
join_with_byte-map c text x (y ∷ ys) = ap (λ l. text x ++ c ∷ l) (join_with_byte-map c text y ys)

-- the text of a group as it is written: its first field, then a colon before each other
pub fields_text-parts : (group : List ℕ) (first : ℕ) (others : List ℕ) (i : ℕ) → group ≡ first ∷ others → length others ≤ i
    → decimal first ++ flat_map (λ n. colon ∷ decimal n) (take i others) ≡ fields_text group
fields_text-parts group first others i e h =
    ap (λ ns. decimal first ++ flat_map (λ n. colon ∷ decimal n) ns) (take_all i others h)
    ∙ sym (ap fields_text e ∙ join_with_byte-map colon decimal first others)

-- the same of groups: rest are those after the first, of which given have been written
pub groups_text-parts : (groups : List (List ℕ)) (first : List ℕ) (rest given left : List (List ℕ)) → groups ≡ first ∷ rest → rest ≡ given ++ left → left ≡ []
    → fields_text first ++ flat_map (λ group. semicolon ∷ fields_text group) given ≡ groups_text groups
groups_text-parts groups first rest given left e r none =
    let all : rest ≡ given = r ∙ ap (λ l. given ++ l) none ∙ append-nil given in
    sym (ap (λ gs. join_with_byte semicolon (map fields_text gs)) (e ∙ ap (λ gs. first ∷ gs) all) ∙ join_with_byte-map semicolon fields_text first given)

pub groups_text-none : (groups : List (List ℕ)) → groups ≡ [] → [] ≡ groups_text groups
groups_text-none groups e = sym (ap (λ gs. join_with_byte semicolon (map fields_text gs)) e)
