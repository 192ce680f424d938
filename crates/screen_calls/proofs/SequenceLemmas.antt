-- How long the sequence of a style is: a field has at most five digits and a byte behind it.
use Rattle.std.proofs.Common.{◌≡◌, ℕ, suc, ◌*◌, ◌<◌, ◌≤◌, false, List, [], ◌∷◌, ◌++◌, length, map, refl, arith, lit<, lt_of_le_of_lt, length-append}
use Rattle.std.specs.Fmt.{decimal}
use Rattle.std.specs.List.{AllByRecursion, concat}
use Rattle.std.proofs.lemmas.Fmt.{length-decimal-le}
use Rattle.anstyle_parse.specs.Stream.Arguments.{max_field}
use Rattle.anstyle_parse.specs.Stream.Bytes.{colon, semicolon}
use Rattle.anstyle_parse.specs.Stream.Canon.{header_text, canon}
use Rattle.anstyle_parse.specs.Stream.Groups.{fields_text, groups_text}
use Rattle.anstyle_parse.specs.Laws.Lawful.{IsGroup, AreLawful}
use Rattle.anstyle_parse.proofs.Lists.Parts.{spaced, length-join_with_byte}
use Rattle.ansi_style.specs.declared.style.Style.{Style}
use Rattle.ansi_style.specs.Codes.{codes_of, codes_text, selection}

digits-of-field : (n : ℕ) → n ≤ max_field → length (decimal n) ≤ 5
digits-of-field n small = length-decimal-le 5 n (omega arith) (omega (arith, small)) (lt_of_le_of_lt small (lit< tt))

spaced-fields : (group : List ℕ) → AllByRecursion (λ n. n ≤ max_field) group → spaced (map decimal group) ≤ 6 * length group
spaced-fields [] are = omega arith
spaced-fields (n ∷ group) are = omega (arith, digits-of-field n are.0, spaced-fields group are.1)

length-group : (group : List ℕ) → IsGroup group → suc (length (fields_text group)) ≤ 6 * length group
length-group [] is = absurd (omega (arith, is.0))
length-group (n ∷ group) is = omega (arith, length-join_with_byte colon (decimal n) (map decimal group), spaced-fields (n ∷ group) is.1)

spaced-groups : (groups : List (List ℕ)) → AllByRecursion IsGroup groups → spaced (map fields_text groups) ≤ 6 * length (concat groups)
spaced-groups [] are = omega arith
spaced-groups (group ∷ groups) are =
    omega (arith, length-group group are.0, spaced-groups groups are.1, length-append group (concat groups))

length-groups : (groups : List (List ℕ)) → AllByRecursion IsGroup groups → 0 < length groups → suc (length (groups_text groups)) ≤ 6 * length (concat groups)
length-groups [] are some = absurd (omega (arith, some))
length-groups (group ∷ groups) are some =
    omega (arith, length-join_with_byte semicolon (fields_text group) (map fields_text groups), spaced-groups (group ∷ groups) are)

length-header : (groups : List (List ℕ)) → length (header_text groups [] false) ≡ length (groups_text groups)
unfolding header_text
length-header groups = omega (arith, length-append (groups_text groups ++ []) [], length-append (groups_text groups) [])

pub length-codes : (style : Style) → AreLawful (selection (codes_of style) ∷ []) → length (codes_text style) ≤ 256
unfolding codes_text
length-codes style lawful =
    let groups = codes_of style in
    let header = header_text groups [] false ++ 0x6D ∷ [] in
    omega (
      arith,
      length-append header [],
      length-append (header_text groups [] false) (0x6D ∷ []),
      length-header groups,
      length-groups groups lawful.0.groups_fit lawful.0.some_field,
      lawful.0.fields_fit,
    )

-- its bytes are the canonical text of its call
pub canon-codes : (style : Style) → codes_text style ≡ canon (selection (codes_of style) ∷ [])
unfolding codes_text
canon-codes style = refl
