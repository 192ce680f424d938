-- `==` of cells and of places is equality.
use Rattle.std.proofs.Common.{◌≡◌, ◌↔◌, Bool, true, false, eqb, refl, subst, IsTrue, rules}
use Rattle.std.specs.Bool.{beq}
use Rattle.std.proofs.lemmas.Bool.{and_parts, eqb-true}
use denote.Enum.Bare.{sameb, same_true}
use Rattle.ansi_style.proofs.EqualityLemmas.{equality as equal_styles}
use Rattle.ansi_screen.specs.declared.cell.Cell.{Cell}
use Rattle.ansi_screen.specs.declared.cell.Marks.{Marks}
use Rattle.ansi_screen.specs.declared.cell.Marks.TheVariants.{Unmarked, One, Two}
use Rattle.ansi_screen.specs.declared.cell.Part.{Part}
use Rattle.ansi_screen.specs.declared.place.Charsets.{Charsets}
use Rattle.ansi_screen.specs.declared.place.Place.{Place}
use Rattle.ansi_screen.specs.contracts.cell.Part.{the_type as part_type}
use Rattle.ansi_screen.specs.contracts.cell.MarksPartialEq.TheImpl.{ghosts as marks_ghosts}
use Rattle.ansi_screen.specs.contracts.cell.CellPartialEq.TheImpl.{ghosts as cell_ghosts}
use Rattle.ansi_screen.specs.contracts.cell.CellEq.TheImpl.Laws.{laws-law as cell_laws}
use Rattle.ansi_screen.specs.contracts.place.PlacePartialEq.TheImpl.{ghosts as place_ghosts}
use Rattle.ansi_screen.specs.contracts.place.PlaceEq.TheImpl.Laws.{laws-law as place_laws}

flag_same : (x y : Bool) → beq x y ≡ true → x ≡ y
flag_same true true h = refl
flag_same false false h = refl
flag_same x y h = cc

part_same : (x y : Part) → sameb part_type x y ≡ true → x ≡ y
part_same x y h = same_true part_type (search rules) x y h

marks_same : (x y : Marks) → marks_ghosts.eq x y ≡ true → x ≡ y
marks_same Unmarked Unmarked h = refl
marks_same (One a) (One b) h = let e : a ≡ b = eqb-true a b h in cc
marks_same (Two a b) (Two c d) h =
    let both = and_parts (eqb a c) (eqb b d) h in
    let e0 : a ≡ c = eqb-true a c both.0 in
    let e1 : b ≡ d = eqb-true b d both.1 in
    cc
marks_same x y h = cc

-- a cell by its fields
abbrev made_of : Cell → Cell
made_of cell = record {
  character = cell.character;
  link = cell.link;
  marks = cell.marks;
  style = cell.style;
  part = cell.part;
  goes_on = cell.goes_on;
}

cell_of_fields : (a b : Cell) → a.character ≡ b.character → a.link ≡ b.link → a.marks ≡ b.marks → a.style ≡ b.style
    → a.part ≡ b.part → a.goes_on ≡ b.goes_on → a ≡ b
cell_of_fields a b character link marks style part goes_on =
    let same : made_of a ≡ made_of b = cc in
    same

cell_same : (a b : Cell) → cell_ghosts.eq a b ≡ true → a ≡ b
cell_same a b same =
    let h0 = and_parts _ _ same in
    let h1 = and_parts _ _ h0.1 in
    let h2 = and_parts _ _ h1.1 in
    let h3 = and_parts _ _ h2.1 in
    let h4 = and_parts _ _ h3.1 in
    cell_of_fields a b (eqb-true a.character b.character h0.0) (eqb-true a.link b.link h1.0)
    (marks_same a.marks b.marks h2.0) ((equal_styles a.style b.style).0 h3.0) (part_same a.part b.part h4.0)
    (flag_same a.goes_on b.goes_on h4.1)

pub equal_cells : (a b : Cell) → (IsTrue (cell_ghosts.eq a b) ↔ (a ≡ b))
equal_cells a b = (cell_same a b, λ e. subst (λ x. IsTrue (cell_ghosts.eq a x)) e (cell_laws.refl a))

sets_same : (a b : Charsets) → a.g0_draws ≡ b.g0_draws → a.g1_draws ≡ b.g1_draws → a.uses_g1 ≡ b.uses_g1 → a ≡ b
sets_same a b first second uses =
    let same : record { g0_draws = a.g0_draws; g1_draws = a.g1_draws; uses_g1 = a.uses_g1 }
    ≡ record { g0_draws = b.g0_draws; g1_draws = b.g1_draws; uses_g1 = b.uses_g1 } = cc in
    same

-- a place by its fields
abbrev placed : Place → Place
placed place = record {
  row = place.row;
  column = place.column;
  style = place.style;
  is_relative = place.is_relative;
  charsets = place.charsets;
}

place_of_fields : (a b : Place) → a.row ≡ b.row → a.column ≡ b.column → a.style ≡ b.style
    → a.is_relative ≡ b.is_relative → a.charsets ≡ b.charsets → a ≡ b
place_of_fields a b row column style relative sets =
    let same : placed a ≡ placed b = cc in
    same

place_same : (a b : Place) → place_ghosts.eq a b ≡ true → a ≡ b
place_same a b same =
    let h0 = and_parts _ _ same in
    let h1 = and_parts _ _ h0.1 in
    let h2 = and_parts _ _ h1.1 in
    let h3 = and_parts _ _ h2.1 in
    let s0 = and_parts _ _ h3.1 in
    let s1 = and_parts _ _ s0.1 in
    place_of_fields a b (eqb-true a.row b.row h0.0) (eqb-true a.column b.column h1.0)
    ((equal_styles a.style b.style).0 h2.0) (flag_same a.is_relative b.is_relative h3.0)
    (sets_same a.charsets b.charsets (flag_same a.charsets.g0_draws b.charsets.g0_draws s0.0)
    (flag_same a.charsets.g1_draws b.charsets.g1_draws s1.0) (flag_same a.charsets.uses_g1 b.charsets.uses_g1 s1.1))

pub equal_places : (a b : Place) → (IsTrue (place_ghosts.eq a b) ↔ (a ≡ b))
equal_places a b = (place_same a b, λ e. subst (λ x. IsTrue (place_ghosts.eq a x)) e (place_laws.refl a))
