-- The walk over groups, which expects something at each, makes the style of their selections.
use Rattle.std.proofs.Common.{arith, ◌≡◌, ◌<◌, ℕ, length, Bool, true, false, eqb, List, [], ◌∷◌, ◌||◌, refl, sym, ap, ◌∙◌, subst, Option, None, Some}
use Rattle.std.specs.Prelude.{◌==◌, if◌then◌else◌}
use Rattle.std.proofs.lemmas.Bool.{eqb-true}
use Rattle.anstyle_parse.specs.Stream.Bytes.{is_within}
use Rattle.ansi_style.specs.declared.style.Style.{Style}
use Rattle.ansi_style.specs.declared.style.Color.{Color}
use Rattle.ansi_style.specs.declared.select.Target.{Target}
use Rattle.ansi_style.specs.declared.select.Target.TheVariants.{Foreground, Background, Line}
use Rattle.ansi_style.specs.declared.select.Expected.{Expected}
use Rattle.ansi_style.specs.declared.select.Expected.TheVariants.{Code, Kind, Index, RedValue}
use Rattle.ansi_style.specs.Walk.{target_of, with_target_color, with_target, expected_for, expected_after, selected_from, alone}
use Rattle.ansi_style.specs.Rendition.{with_code, with_underline, color_in, indexed, mixed, with_color, with_group, Selection, change, selections, color_selections, index_selections, direct_selections, style_by, selected, are_ended, AreWhole}

-- what is expected after the groups
abbrev pub expected_at_end : Expected → List (List ℕ) → Expected
expected_at_end expected [] = expected
expected_at_end expected (group ∷ groups) = expected_at_end (expected_after expected group) groups

-- the walk makes the style of the selections, and where they are ended a code comes next
abbrev Agrees : Expected → List (List ℕ) → List Selection → Type 0
Agrees expected groups selections =
    ((style : Style) → selected_from expected groups style ≡ style_by selections style)
    × (are_ended selections ≡ true → expected_at_end expected groups ≡ Code)

-- the code of a colour, and what the colour is for
data IsFor : ℕ → Target → Type 0 where
  text : IsFor 38 Foreground
  ground : IsFor 48 Background
  line : IsFor 58 Line

colored : {code : ℕ} {target : Target} → IsFor code target → (color : Option Color) (style : Style) → with_target_color target color style ≡ with_color code color style
colored text None style = refl
colored text (Some color) style = refl
colored ground None style = refl
colored ground (Some color) style = refl
colored line None style = refl
colored line (Some color) style = refl

-- the code of a colour changes nothing by itself
unchanged : {code : ℕ} {target : Target} → IsFor code target → (style : Style) → with_code code style ≡ style
unfolding with_code is_within
unchanged text style = refl
unchanged ground style = refl
unchanged line style = refl

-- whichever of the three it is
color_code : (code : ℕ) (target : Target) (style : Style) (is_text is_ground is_line : Bool) → eqb code 38 ≡ is_text → eqb code 48 ≡ is_ground → eqb code 58 ≡ is_line
    → (if is_text then Some Foreground else if is_ground then Some Background else if is_line then Some Line else None) ≡ Some target
    → with_code code style ≡ style
color_code code target style true is_ground is_line a b c is = subst (λ n. with_code n style ≡ style) (sym (eqb-true code 38 a)) (unchanged text style)
color_code code target style false true is_line a b c is = subst (λ n. with_code n style ≡ style) (sym (eqb-true code 48 b)) (unchanged ground style)
color_code code target style false false true a b c is = subst (λ n. with_code n style ≡ style) (sym (eqb-true code 58 c)) (unchanged line style)
color_code code target style false false false a b c is = absurd (cc is)

-- a code that begins a colour changes nothing by itself
pub with_code-color : (code : ℕ) (target : Target) (style : Style) → target_of code ≡ Some target → with_code code style ≡ style
unfolding target_of
with_code-color code target style is = color_code code target style (eqb code 38) (eqb code 48) (eqb code 58) refl refl refl is

-- a code, by whether it is 38, 48 or 58
abbrev CodeAgrees : ℕ → List (List ℕ) → Bool → Bool → Bool → Type 0
CodeAgrees code groups is_text is_ground is_line =
    let expected = expected_for (if is_text then Some Foreground else if is_ground then Some Background else if is_line then Some Line else None) in
    let following = if is_text || is_ground || is_line then color_selections code groups else change (with_code code) ∷ selections groups in
    ((style : Style) → selected_from expected groups (with_code code style) ≡ style_by following style)
    × (are_ended following ≡ true → expected_at_end expected groups ≡ Code)

after_code : (code : ℕ) (groups : List (List ℕ)) → Agrees Code groups (selections groups)
    → ((target : Target) → IsFor code target → Agrees (Kind target) groups (color_selections code groups))
    → (is_text is_ground is_line : Bool) → eqb code 38 ≡ is_text → eqb code 48 ≡ is_ground → eqb code 58 ≡ is_line
    → CodeAgrees code groups is_text is_ground is_line
after_code code groups others color true is_ground is_line a b c =
    let is : IsFor code Foreground = subst (λ n. IsFor n Foreground) (sym (eqb-true code 38 a)) text in
    let agrees = color Foreground is in
    (λ style. ap (selected_from (Kind Foreground) groups) (unchanged is style) ∙ agrees.0 style, agrees.1)
after_code code groups others color false true is_line a b c =
    let is : IsFor code Background = subst (λ n. IsFor n Background) (sym (eqb-true code 48 b)) ground in
    let agrees = color Background is in
    (λ style. ap (selected_from (Kind Background) groups) (unchanged is style) ∙ agrees.0 style, agrees.1)
after_code code groups others color false false true a b c =
    let is : IsFor code Line = subst (λ n. IsFor n Line) (sym (eqb-true code 58 c)) line in
    let agrees = color Line is in
    (λ style. ap (selected_from (Kind Line) groups) (unchanged is style) ∙ agrees.0 style, agrees.1)
after_code code groups others color false false false a b c = (λ style. others.0 (with_code code style), others.1)

-- 4 and the kind of an underline, or what is none
after_pair : (code kind : ℕ) (style : Style) (is_text is_ground is_line : Bool) → eqb code 38 ≡ is_text → eqb code 48 ≡ is_ground → eqb code 58 ≡ is_line
    → with_target (if is_text then Some Foreground else if is_ground then Some Background else if is_line then Some Line else None) code (kind ∷ []) style
    ≡ (if code == 4 then with_underline kind style else style)
after_pair code kind style true is_ground is_line a b c =
    subst (λ n. style ≡ (if n == 4 then with_underline kind style else style)) (sym (eqb-true code 38 a)) refl
after_pair code kind style false true is_line a b c =
    subst (λ n. style ≡ (if n == 4 then with_underline kind style else style)) (sym (eqb-true code 48 b)) refl
after_pair code kind style false false true a b c =
    subst (λ n. style ≡ (if n == 4 then with_underline kind style else style)) (sym (eqb-true code 58 c)) refl
after_pair code kind style false false false a b c = refl

-- a colour with 3A, or what is none
after_fields : (code field next : ℕ) (fields : List ℕ) (style : Style) (is_text is_ground is_line : Bool) → eqb code 38 ≡ is_text → eqb code 48 ≡ is_ground → eqb code 58 ≡ is_line
    → with_target (if is_text then Some Foreground else if is_ground then Some Background else if is_line then Some Line else None) code (field ∷ next ∷ fields) style
    ≡ (if is_text || is_ground || is_line then with_color code (color_in (field ∷ next ∷ fields)) style else style)
after_fields code field next fields style true is_ground is_line a b c =
    colored (subst (λ n. IsFor n Foreground) (sym (eqb-true code 38 a)) text) (color_in (field ∷ next ∷ fields)) style
after_fields code field next fields style false true is_line a b c =
    colored (subst (λ n. IsFor n Background) (sym (eqb-true code 48 b)) ground) (color_in (field ∷ next ∷ fields)) style
after_fields code field next fields style false false true a b c =
    colored (subst (λ n. IsFor n Line) (sym (eqb-true code 58 c)) line) (color_in (field ∷ next ∷ fields)) style
after_fields code field next fields style false false false a b c = refl

-- a group of several fields
after_several : (code field : ℕ) (fields : List ℕ) (style : Style)
    → with_target (target_of code) code (field ∷ fields) style ≡ with_group (code ∷ field ∷ fields) style
unfolding target_of
after_several code kind [] style = after_pair code kind style (eqb code 38) (eqb code 48) (eqb code 58) refl refl refl
after_several code field (next ∷ fields) style = after_fields code field next fields style (eqb code 38) (eqb code 48) (eqb code 58) refl refl refl

-- the kind of a colour
after_kind : (groups : List (List ℕ)) (code : ℕ) (target : Target) (is_index is_direct : Bool)
    → Agrees Code groups (selections groups) → Agrees (Index target) groups (index_selections code groups) → Agrees (RedValue target) groups (direct_selections code groups)
    → Agrees (if is_index then Index target else if is_direct then RedValue target else Code) groups
    (if is_index then index_selections code groups else if is_direct then direct_selections code groups else selections groups)
after_kind groups code target true is_direct others index direct = index
after_kind groups code target false true others index direct = direct
after_kind groups code target false false others index direct = others

-- a colour, and then the others
after_color : (groups : List (List ℕ)) {code : ℕ} {target : Target} → IsFor code target → (color : Option Color) → Agrees Code groups (selections groups)
    → ((style : Style) → selected_from Code groups (with_target_color target color style) ≡ style_by (selections groups) (with_color code color style))
    × (are_ended (selections groups) ≡ true → expected_at_end Code groups ≡ Code)
after_color groups {code} {target} is color others =
    (λ style. others.0 (with_target_color target color style) ∙ ap (style_by (selections groups)) (colored is color style), others.1)

mutual
  unfolding target_of

  walks : (groups : List (List ℕ)) → Agrees Code groups (selections groups)
  walks [] = (λ style. refl, λ ended. refl)
  walks ([] ∷ groups) = walks groups
  walks ((code ∷ []) ∷ groups) =
      after_code code groups (walks groups) (λ target is. walks_color groups code target is) (eqb code 38) (eqb code 48) (eqb code 58) refl refl refl
  walks ((code ∷ field ∷ fields) ∷ groups) =
      let others = walks groups in
      (λ style. ap (selected_from Code groups) (after_several code field fields style) ∙ others.0 (with_group (code ∷ field ∷ fields) style), others.1)

  walks_color : (groups : List (List ℕ)) (code : ℕ) (target : Target) → IsFor code target → Agrees (Kind target) groups (color_selections code groups)
  walks_color [] code target is = (λ style. refl, λ ended. cc)
  walks_color ([] ∷ groups) code target is = walks groups
  walks_color ((kind ∷ []) ∷ groups) code target is =
      after_kind groups code target (kind == 5) (kind == 2) (walks groups) (walks_index groups code target is) (walks_direct groups code target is)
  walks_color ((kind ∷ field ∷ fields) ∷ groups) code target is = walks groups

  walks_index : (groups : List (List ℕ)) (code : ℕ) (target : Target) → IsFor code target → Agrees (Index target) groups (index_selections code groups)
  walks_index [] code target is = (λ style. refl, λ ended. cc)
  walks_index ([] ∷ groups) code target is = walks groups
  walks_index ((n ∷ []) ∷ groups) code target is = after_color groups is (indexed n) (walks groups)
  walks_index ((n ∷ field ∷ fields) ∷ groups) code target is = walks groups

  walks_direct : (groups : List (List ℕ)) (code : ℕ) (target : Target) → IsFor code target → Agrees (RedValue target) groups (direct_selections code groups)
  walks_direct [] code target is = (λ style. refl, λ ended. cc)
  walks_direct ([] ∷ groups) code target is = walks groups
  walks_direct ((red ∷ field ∷ fields) ∷ groups) code target is = walks groups
  walks_direct ((red ∷ []) ∷ []) code target is = (λ style. refl, λ ended. cc)
  walks_direct ((red ∷ []) ∷ [] ∷ groups) code target is = walks groups
  walks_direct ((red ∷ []) ∷ (green ∷ field ∷ fields) ∷ groups) code target is = walks groups
  walks_direct ((red ∷ []) ∷ (green ∷ []) ∷ []) code target is = (λ style. refl, λ ended. cc)
  walks_direct ((red ∷ []) ∷ (green ∷ []) ∷ [] ∷ groups) code target is = walks groups
  walks_direct ((red ∷ []) ∷ (green ∷ []) ∷ (blue ∷ field ∷ fields) ∷ groups) code target is = walks groups
  walks_direct ((red ∷ []) ∷ (green ∷ []) ∷ (blue ∷ []) ∷ groups) code target is = after_color groups is (mixed red green blue) (walks groups)

-- The walk from the first code on makes the style of the groups.
pub selected_from-code : (groups : List (List ℕ)) (style : Style) → selected_from Code groups style ≡ selected groups style
selected_from-code groups style =
    let agrees = walks groups in
    agrees.0 style

-- where no colour is open, a code comes next
pub expected_at_end-whole : (groups : List (List ℕ)) → AreWhole groups → expected_at_end Code groups ≡ Code
expected_at_end-whole groups whole =
    let agrees = walks groups in
    agrees.1 whole

-- two fields end before red, green and blue
pub selected_from-few : (target : Target) (fields : List ℕ) (style : Style) → length fields < 3
    → style ≡ selected_from (RedValue target) (alone fields) style
selected_from-few target [] style few = refl
selected_from-few target (red ∷ []) style few = refl
selected_from-few target (red ∷ green ∷ []) style few = refl
selected_from-few target (red ∷ green ∷ blue ∷ fields) style few = absurd (omega (arith, few))
