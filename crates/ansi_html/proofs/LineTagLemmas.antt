-- The tags of a line: a reader sees nothing of them, and they are ASCII without quotes in their values.
use Rattle.std.proofs.Common.{◌≡◌, ℕ, zero, suc, ◌+◌, ◌%◌, ◌/◌, Bool, true, false, eqb, List, [], ◌∷◌, ◌++◌, codes, decimal, refl, ap, ◌∙◌, append_assoc, arith}
use Rattle.std.specs.Prelude.{nat_lt, if◌then◌else◌}
use Rattle.std.specs.List.{list_all}
use Rattle.std.specs.Fmt.{digit_glyph, digits_onto, digits}
use Rattle.std.specs.Str.{IsUtf8}
use Rattle.std.proofs.lemmas.Bool.{and_from}
use Rattle.std.proofs.lemmas.Str.{IsUtf8-append}
use Rattle.ansi_html.specs.Lines.{line_begin, line_end}
use Rattle.ansi_html.specs.Reader.{Attributes, no_attributes, in_force, within, in_text, in_value, seen_from}
use Rattle.ansi_html.proofs.DeclarationLemmas.{is_safe, AreSafe, safe_decimal, safe_letter}
use Rattle.ansi_html.proofs.NewlineLemmas.{is_not_return, HasNoReturn, HasNoReturn-append, HasNoReturn-safe}
use Rattle.ansi_html.proofs.TextLemmas.{IsUtf8-ascii, IsUtf8-safe}
use Rattle.ansi_html.proofs.ReadLemmas.{seen-value}

-- a number in decimal may stand in an attribute
safe_glyph : (n : ℕ) → is_safe (digit_glyph false (n % 10)) ≡ true
safe_glyph n = by_case (nat_lt (n % 10) 10)
  where
    by_case : (low : Bool) → is_safe (if low then 48 + n % 10 else 87 + n % 10) ≡ true
    by_case true = safe_decimal (n % 10) (omega arith)
    by_case false = safe_letter (n % 10) (omega arith)

AreSafe-digits : (fuel n : ℕ) (bytes : List ℕ) → AreSafe bytes → AreSafe (digits_onto fuel 10 false n bytes)
AreSafe-digits zero n bytes safe = safe
AreSafe-digits (suc fuel) n bytes safe =
    let more = and_from (is_safe (digit_glyph false (n % 10))) (list_all is_safe bytes) (safe_glyph n) safe in
    by_case (eqb (n / 10) 0) more (AreSafe-digits fuel (n / 10) (digit_glyph false (n % 10) ∷ bytes) more)
  where
    by_case : (last : Bool) → AreSafe (digit_glyph false (n % 10) ∷ bytes) → AreSafe (digits_onto fuel 10 false (n / 10) (digit_glyph false (n % 10) ∷ bytes))
        → AreSafe (if last then digit_glyph false (n % 10) ∷ bytes else digits_onto fuel 10 false (n / 10) (digit_glyph false (n % 10) ∷ bytes))
    by_case true here others = here
    by_case false here others = others

pub AreSafe-decimal : (n : ℕ) → AreSafe (decimal n)
unfolding digits
AreSafe-decimal n = AreSafe-digits 64 n [] refl

-- the elements in which the text of a line stands: the line's own, which says nothing, and those around it
abbrev pub in_line : (outer : List Attributes) → List Attributes
in_line outer = within (in_force outer) no_attributes ∷ outer

-- from the last value of the tag on, and from the link on
abbrev from_number : ℕ → List ℕ
from_number number = codes "\" data-line=\"" ++ (decimal number ++ codes "\"></a>")

abbrev from_link : ℕ → List ℕ
from_link number = codes "\"><a href=\"#L" ++ (decimal number ++ from_number number)

-- The beginning of a line opens its element, and nothing is seen of it; its end ends it.
module _ (outer : List Attributes) (number : ℕ) (rest : List ℕ) where
  seen-number : seen_from (in_value (in_line outer) no_attributes (codes "href") (codes "#L" ++ decimal number)) (from_number number ++ rest) ≡ seen_from (in_text (in_line outer)) rest
  seen-number =
      let linked : Attributes = record { style = []; classes = []; href = codes "#L" ++ decimal number } in
      ap (λ l. seen_from (in_value (in_line outer) linked (codes "data-line") []) l) (append_assoc (decimal number) (codes "\"></a>") rest)
      ∙ seen-value (in_line outer) linked (codes "data-line") [] (decimal number) (codes "\"></a>" ++ rest) (AreSafe-decimal number)

  seen-line_link : seen_from (in_value outer no_attributes (codes "id") (codes "L" ++ decimal number)) (from_link number ++ rest) ≡ seen_from (in_text (in_line outer)) rest
  seen-line_link =
      ap (λ l. seen_from (in_value (in_line outer) no_attributes (codes "href") (codes "#L")) l) (append_assoc (decimal number) (from_number number) rest)
      ∙ seen-value (in_line outer) no_attributes (codes "href") (codes "#L") (decimal number) (from_number number ++ rest) (AreSafe-decimal number)
      ∙ seen-number

  pub seen-line_begin : seen_from (in_text outer) (line_begin number ++ rest) ≡ seen_from (in_text (in_line outer)) rest
  seen-line_begin =
      ap (λ l. seen_from (in_value outer no_attributes (codes "id") (codes "L")) l) (append_assoc (decimal number) (from_link number) rest)
      ∙ seen-value outer no_attributes (codes "id") (codes "L") (decimal number) (from_link number ++ rest) (AreSafe-decimal number)
      ∙ seen-line_link

pub seen-line_end : (outer : List Attributes) (rest : List ℕ)
    → seen_from (in_text (in_line outer)) (line_end ++ rest) ≡ seen_from (in_text outer) rest
seen-line_end outer rest = refl

-- They have no 0D,
pub HasNoReturn-line_begin : (number : ℕ) → HasNoReturn (line_begin number)
unfolding is_not_return
HasNoReturn-line_begin number =
    let safe = HasNoReturn-safe (decimal number) (AreSafe-decimal number) in
    HasNoReturn-append (codes "<span id=\"L") (decimal number ++ from_link number) refl
    (HasNoReturn-append (decimal number) (from_link number) safe
    (HasNoReturn-append (codes "\"><a href=\"#L") (decimal number ++ from_number number) refl
    (HasNoReturn-append (decimal number) (from_number number) safe
    (HasNoReturn-append (codes "\" data-line=\"") (decimal number ++ codes "\"></a>") refl
    (HasNoReturn-append (decimal number) (codes "\"></a>") safe refl)))))

-- and are ASCII.
pub IsUtf8-line_begin : (number : ℕ) → IsUtf8 (line_begin number)
IsUtf8-line_begin number =
    let safe = IsUtf8-safe (decimal number) (AreSafe-decimal number) in
    IsUtf8-append (codes "<span id=\"L") (decimal number ++ from_link number) (IsUtf8-ascii (codes "<span id=\"L") refl)
    (IsUtf8-append (decimal number) (from_link number) safe
    (IsUtf8-append (codes "\"><a href=\"#L") (decimal number ++ from_number number) (IsUtf8-ascii (codes "\"><a href=\"#L") refl)
    (IsUtf8-append (decimal number) (from_number number) safe
    (IsUtf8-append (codes "\" data-line=\"") (decimal number ++ codes "\"></a>") (IsUtf8-ascii (codes "\" data-line=\"") refl)
    (IsUtf8-append (decimal number) (codes "\"></a>") safe (IsUtf8-ascii (codes "\"></a>") refl))))))
