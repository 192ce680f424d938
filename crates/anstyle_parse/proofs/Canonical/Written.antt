-- Canonical texts, as they are put together.
use Rattle.std.proofs.Common.{◌≡◌, ℕ, Bool, List, [], ◌∷◌, ◌++◌, ap, ◌∙◌, sym, append_assoc}
use Rattle.std.specs.Prelude.{if◌then◌else◌}
use Rattle.anstyle_parse.specs.Stream.Arguments.{after_marker}
use Rattle.anstyle_parse.specs.Stream.Groups.{groups_text}
use Rattle.anstyle_parse.specs.Stream.Canon.{leading_marker, one_more_field, one_more_intermediate, header_text, escape_text}

-- the parts of a header, one after another, between what begins it and what ends it
header_parts : (a m g f o i z : List ℕ) → (((((a ++ m) ++ g) ++ f) ++ o) ++ i) ++ z ≡ a ++ ((m ++ ((g ++ f) ++ (o ++ i))) ++ z)
header_parts a m g f o i z = simp append_assoc

pub header_text-parts : (groups : List (List ℕ)) (intermediates : List ℕ) (ignore : Bool) (a m f o i z : List ℕ)
    → m ≡ leading_marker intermediates → f ≡ one_more_field intermediates ignore → o ≡ after_marker intermediates → i ≡ one_more_intermediate intermediates ignore
    → (((((a ++ m) ++ groups_text groups) ++ f) ++ o) ++ i) ++ z ≡ a ++ (header_text groups intermediates ignore ++ z)
unfolding header_text
header_text-parts groups intermediates ignore a m f o i z em ef eo ei = header_parts a m (groups_text groups) f o i z ∙ cc

-- the parts of an escape sequence
pub escape_text-parts : (intermediates : List ℕ) (ignore : Bool) (a i z : List ℕ) → i ≡ (if ignore then 0x20 ∷ [] else [])
    → ((a ++ intermediates) ++ i) ++ z ≡ a ++ (escape_text intermediates ignore ++ z)
unfolding escape_text
escape_text-parts intermediates ignore a i z e =
    append_assoc (a ++ intermediates) i z
    ∙ append_assoc a intermediates (i ++ z)
    ∙ ap (λ l. a ++ (intermediates ++ (l ++ z))) e
    ∙ ap (λ l. a ++ l) (sym (append_assoc intermediates (if ignore then 0x20 ∷ [] else []) z))
