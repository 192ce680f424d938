-- Whatever control sequences select, the numbers of a style's colours are bytes.
use Rattle.std.proofs.Common.{◌≡◌, ℕ, Bool, true, false, List, [], ◌∷◌, refl}
use Rattle.std.specs.Prelude.{⊤, nat_lt, ◌==◌, ◌&&◌, if◌then◌else◌, Option, None, Some}
use Rattle.std.specs.List.{AllByRecursion}
use Rattle.std.proofs.lemmas.Bool.{and_parts}
use borrow.Author.Tests.{ltb-true}
use Rattle.anstyle_parse.specs.Stream.Bytes.{is_within}
use Rattle.ansi_style.specs.declared.style.Style.{Style}
use Rattle.ansi_style.specs.declared.style.Color.{Color}
use Rattle.ansi_style.specs.declared.style.Color.TheVariants.{Indexed, Direct}
use Rattle.ansi_style.specs.Style.{HasBytes}
use Rattle.ansi_style.specs.Rendition.{Row, rows, look_up, with_code, with_underline, is_color_code, indexed, mixed, color_in, with_color, with_group, Selection, change, unended, selections, color_selections, index_selections, direct_selections, style_by, selected}
use Rattle.ansi_screen.specs.Reachable.{HasColors}

colors-if : (t : Bool) (a b : Style) → HasColors a → HasColors b → HasColors (if t then a else b)
colors-if true a b first second = first
colors-if false a b first second = second

-- a code
abbrev RowKeeps : Row → Type 0
RowKeeps row = (place : ℕ) (style : Style) → HasColors style → HasColors (row.selects place style)

rows-keep : AllByRecursion RowKeeps rows
rows-keep = (
  (λ place style is. (tt, tt)),
  (
    (λ place style is. is),
    (
      (λ place style is. is),
      (
        (λ place style is. is),
        (
          (λ place style is. is),
          (
            (λ place style is. is),
            (
              (λ place style is. is),
              (
                (λ place style is. is),
                (
                  (λ place style is. is),
                  (
                    (λ place style is. is),
                    (
                      (λ place style is. is),
                      (
                        (λ place style is. is),
                        (
                          (λ place style is. is),
                          (
                            (λ place style is. is),
                            (
                              (λ place style is. is),
                              (
                                (λ place style is. is),
                                (
                                  (λ place style is. is),
                                  (
                                    (λ place style is. is),
                                    (
                                      (λ place style is. (tt, is.1)),
                                      (
                                        (λ place style is. (tt, is.1)),
                                        (
                                          (λ place style is. (is.0, tt)),
                                          (
                                            (λ place style is. (is.0, tt)),
                                            (
                                              (λ place style is. is),
                                              (
                                                (λ place style is. is),
                                                ((λ place style is. (tt, is.1)), ((λ place style is. (is.0, tt)), tt)),
                                              ),
                                            ),
                                          ),
                                        ),
                                      ),
                                    ),
                                  ),
                                ),
                              ),
                            ),
                          ),
                        ),
                      ),
                    ),
                  ),
                ),
              ),
            ),
          ),
        ),
      ),
    ),
  ),
)

look_up-colors : (table : List Row) (code : ℕ) (style : Style) → AllByRecursion RowKeeps table → HasColors style → HasColors (look_up table code style)
look_up-colors [] code style keep s = s
look_up-colors (row ∷ table) code style keep s =
    colors-if (is_within row.first row.last code) _ (look_up table code style) (keep.0 _ style s) (look_up-colors table code style keep.1 s)

code-colors : (code : ℕ) (style : Style) → HasColors style → HasColors (with_code code style)
unfolding with_code
code-colors code style s = look_up-colors rows code style rows-keep s

underline-colors : (kind : ℕ) (style : Style) → HasColors style → HasColors (with_underline kind style)
unfolding with_underline
underline-colors kind style s =
    colors-if (kind == 0) _ _ s (colors-if (kind == 1) _ _ s (colors-if (kind == 2) _ _ s
    (colors-if (kind == 3) _ _ s (colors-if (kind == 4) _ _ s (colors-if (kind == 5) _ style s s)))))

-- a colour
abbrev IsColor : Option Color → Type 0
IsColor None = ⊤
IsColor (Some color) = HasBytes color

color-if : (t : Bool) (color : Option Color) → IsColor color → IsColor (if t then color else None)
color-if true color is = is
color-if false color is = tt

indexed_at : (n : ℕ) (t : Bool) → nat_lt n 256 ≡ t → IsColor (if t then Some (Indexed n) else None)
indexed_at n true is = ltb-true n 256 is
indexed_at n false is = tt

indexed-color : (n : ℕ) → IsColor (indexed n)
indexed-color n = indexed_at n _ refl

mixed_at : (red green blue : ℕ) (t : Bool) → (nat_lt red 256 && (nat_lt green 256 && nat_lt blue 256)) ≡ t → IsColor (if t then Some (Direct red green blue) else None)
mixed_at red green blue true is =
    let parts = and_parts (nat_lt red 256) (nat_lt green 256 && nat_lt blue 256) is in
    let others = and_parts (nat_lt green 256) (nat_lt blue 256) parts.1 in
    (ltb-true red 256 parts.0, ltb-true green 256 others.0, ltb-true blue 256 others.1)
mixed_at red green blue false is = tt

mixed-color : (red green blue : ℕ) → IsColor (mixed red green blue)
mixed-color red green blue = mixed_at red green blue _ refl

fields-color : (fields : List ℕ) → IsColor (color_in fields)
fields-color [] = tt
fields-color (kind ∷ []) = tt
fields-color (kind ∷ n ∷ []) = color-if (kind == 5) (indexed n) (indexed-color n)
fields-color (kind ∷ a ∷ b ∷ []) = tt
fields-color (kind ∷ a ∷ b ∷ c ∷ []) = color-if (kind == 2) (mixed a b c) (mixed-color a b c)
fields-color (kind ∷ a ∷ b ∷ c ∷ d ∷ more) = color-if (kind == 2) (mixed b c d) (mixed-color b c d)

color-colors : (code : ℕ) (color : Option Color) (style : Style) → IsColor color → HasColors style → HasColors (with_color code color style)
color-colors code None style is s = s
color-colors code (Some color) style is s = colors-if (code == 38) _ _ (is, s.1) (colors-if (code == 48) _ style (s.0, is) s)

-- a group
group-colors : (group : List ℕ) (style : Style) → HasColors style → HasColors (with_group group style)
group-colors [] style s = s
group-colors (code ∷ []) style s = code-colors code style s
group-colors (code ∷ kind ∷ []) style s = colors-if (code == 4) (with_underline kind style) style (underline-colors kind style s) s
group-colors (code ∷ a ∷ b ∷ fields) style s =
    colors-if (is_color_code code) (with_color code (color_in (a ∷ b ∷ fields)) style) style
    (color-colors code (color_in (a ∷ b ∷ fields)) style (fields-color (a ∷ b ∷ fields)) s) s

-- all of them
abbrev SelectionKeeps : Selection → Type 0
SelectionKeeps (change made) = (style : Style) → HasColors style → HasColors (made style)
SelectionKeeps unended = ⊤

abbrev Keep : List Selection → Type 0
Keep list = AllByRecursion SelectionKeeps list

keep-if : (t : Bool) (a b : List Selection) → Keep a → Keep b → Keep (if t then a else b)
keep-if true a b first second = first
keep-if false a b first second = second

mutual
  keep-selections : (groups : List (List ℕ)) → Keep (selections groups)
  keep-selections [] = tt
  keep-selections ([] ∷ groups) = (λ style s. s, keep-selections groups)
  keep-selections ((code ∷ []) ∷ groups) =
      keep-if (is_color_code code) (color_selections code groups) (change (with_group (code ∷ [])) ∷ selections groups)
      (keep-color code groups) (λ style s. code-colors code style s, keep-selections groups)
  keep-selections ((code ∷ field ∷ fields) ∷ groups) = (λ style s. group-colors (code ∷ field ∷ fields) style s, keep-selections groups)

  keep-color : (code : ℕ) (groups : List (List ℕ)) → Keep (color_selections code groups)
  keep-color code [] = (tt, tt)
  keep-color code ([] ∷ groups) = keep-selections groups
  keep-color code ((kind ∷ []) ∷ groups) =
      keep-if (kind == 5) (index_selections code groups) _ (keep-index code groups)
      (keep-if (kind == 2) (direct_selections code groups) (selections groups) (keep-direct code groups) (keep-selections groups))
  keep-color code ((kind ∷ field ∷ fields) ∷ groups) = keep-selections groups

  keep-index : (code : ℕ) (groups : List (List ℕ)) → Keep (index_selections code groups)
  keep-index code [] = (tt, tt)
  keep-index code ([] ∷ groups) = keep-selections groups
  keep-index code ((n ∷ []) ∷ groups) = (λ style s. color-colors code (indexed n) style (indexed-color n) s, keep-selections groups)
  keep-index code ((n ∷ field ∷ fields) ∷ groups) = keep-selections groups

  keep-direct : (code : ℕ) (groups : List (List ℕ)) → Keep (direct_selections code groups)
  keep-direct code [] = (tt, tt)
  keep-direct code ([] ∷ groups) = keep-selections groups
  keep-direct code ((red ∷ field ∷ fields) ∷ groups) = keep-selections groups
  keep-direct code ((red ∷ []) ∷ []) = (tt, tt)
  keep-direct code ((red ∷ []) ∷ [] ∷ groups) = keep-selections groups
  keep-direct code ((red ∷ []) ∷ (green ∷ field ∷ fields) ∷ groups) = keep-selections groups
  keep-direct code ((red ∷ []) ∷ (green ∷ []) ∷ []) = (tt, tt)
  keep-direct code ((red ∷ []) ∷ (green ∷ []) ∷ [] ∷ groups) = keep-selections groups
  keep-direct code ((red ∷ []) ∷ (green ∷ []) ∷ (blue ∷ field ∷ fields) ∷ groups) = keep-selections groups
  keep-direct code ((red ∷ []) ∷ (green ∷ []) ∷ (blue ∷ []) ∷ groups) =
      (λ style s. color-colors code (mixed red green blue) style (mixed-color red green blue) s, keep-selections groups)

style_by-colors : (list : List Selection) (style : Style) → Keep list → HasColors style → HasColors (style_by list style)
style_by-colors [] style keep s = s
style_by-colors (change made ∷ more) style keep s = style_by-colors more (made style) keep.1 (keep.0 style s)
style_by-colors (unended ∷ more) style keep s = style_by-colors more style keep.1 s

pub selected-colors : (groups : List (List ℕ)) (style : Style) → HasColors style → HasColors (selected groups style)
selected-colors groups style s = style_by-colors (selections groups) style (keep-selections groups) s
