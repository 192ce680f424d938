-- Links that were not cut, and links that stand in the HTML.
use Rattle.std.proofs.Common.{◌≡◌, ◌≤◌, ℕ, suc, ◌+◌, ◌-◌, true, List, [], ◌∷◌, ◌++◌, Bor, length, map, take, drop, get_or, refl, sym, ap, ◌∙◌, arith, length-append}
use Rattle.std.specs.Prelude.{nat_lt}
use Rattle.std.specs.List.{concat, join_with_byte}
use Rattle.std.proofs.lemmas.Bool.{and_parts, ltb-true}
use Rattle.std.proofs.lemmas.List.{take_all}
use Rattle.anstyle_parse.specs.Stream.Bytes.{semicolon}
use Rattle.anstyle_parse.proofs.Lists.Joins.{behind, joined_rest-cons}
use Rattle.anstyle_parse.proofs.Lists.Parts.{spaced, length-join_with_byte}
use Rattle.ansi_html.specs.Links.{is_whole, uri_of}

-- the bytes of parts and one more for each
spaced-concat : (parts : List (List ℕ)) → spaced parts ≡ length (concat parts) + length parts
spaced-concat [] = refl
spaced-concat (part ∷ parts) = omega (arith, spaced-concat parts, length-append part (concat parts))

length-joined : (parts : List (List ℕ)) → length (join_with_byte semicolon parts) ≤ length (concat parts) + length parts
length-joined [] = omega arith
length-joined (part ∷ parts) = omega (arith, length-join_with_byte semicolon part parts, spaced-concat (part ∷ parts))

length-joined_some : (part : List ℕ) (parts : List (List ℕ)) → suc (length (join_with_byte semicolon (part ∷ parts))) ≡ length (concat (part ∷ parts)) + length (part ∷ parts)
length-joined_some part parts = length-join_with_byte semicolon part parts ∙ spaced-concat (part ∷ parts)

-- a URI that was not cut
pub length-uri : (parts : List (List ℕ)) → is_whole parts ≡ true → length (uri_of parts) ≤ 1035
length-uri [] whole = omega arith
length-uri (number ∷ []) whole = omega arith
length-uri (number ∷ params ∷ []) whole = omega arith
length-uri (number ∷ params ∷ first ∷ others) whole =
    let parts = number ∷ params ∷ first ∷ others in
    let fits = and_parts (nat_lt (length parts) 16) (nat_lt (length (concat parts)) 1024) whole in
    omega (
      arith,
      ltb-true (length parts) 16 fits.0,
      ltb-true (length (concat parts)) 1024 fits.1,
      length-joined_some first others,
      length-append number (params ++ concat (first ∷ others)),
      length-append params (concat (first ∷ others)),
    )

-- the parts of a command, as slices
abbrev pub texts : List (Bor (List ℕ)) → List (List ℕ)
texts parts = map (λ (part : Bor (List ℕ)). part.now) parts

abbrev pub no_text : Bor (List ℕ)
no_text = record { ref_ptr = (0, 0); now = [] }

-- a URI as its first part, and those behind it
pub uri-parts : (parts : List (Bor (List ℕ))) → 3 ≤ length parts
    → uri_of (texts parts) ≡ (get_or parts 2 no_text).now ++ behind semicolon (texts (take (length parts - 3) (drop 3 parts)))
uri-parts [] few = absurd (omega arith)
uri-parts (number ∷ []) few = absurd (omega arith)
uri-parts (number ∷ params ∷ []) few = absurd (omega arith)
uri-parts (number ∷ params ∷ first ∷ others) few =
    joined_rest-cons true semicolon first.now (texts others)
    ∙ ap (λ l. first.now ++ behind semicolon (texts l)) (sym (take_all (length (number ∷ params ∷ first ∷ others) - 3) others (omega arith)))
