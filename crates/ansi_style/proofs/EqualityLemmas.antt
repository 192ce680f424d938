-- `==` of styles is equality.
use Rattle.std.proofs.Common.{◌≡◌, ◌↔◌, Bool, true, false, ◌&&◌, eqb, refl, ap, ◌∙◌, subst, IsTrue, rules}
use Rattle.std.specs.Bool.{beq}
use Rattle.std.proofs.lemmas.Bool.{and_parts, eqb-true}
use Rattle.std.proofs.Math.Bool.{and_assoc}
use denote.Enum.Bare.{sameb, same_true}
use Rattle.ansi_style.specs.declared.style.Style.{Style}
use Rattle.ansi_style.specs.declared.style.Color.{Color}
use Rattle.ansi_style.specs.declared.style.Color.TheVariants.{Default, Named, Bright, Indexed, Direct}
use Rattle.ansi_style.specs.declared.style.Hue.{Hue}
use Rattle.ansi_style.specs.declared.style.Underline.{Underline}
use Rattle.ansi_style.specs.Style.{are_equal}
use Rattle.ansi_style.specs.contracts.style.Hue.{the_type as hue_type}
use Rattle.ansi_style.specs.contracts.style.Underline.{the_type as underline_type}
use Rattle.ansi_style.specs.contracts.style.ColorPartialEq.TheImpl.{ghosts as color_ghosts}
use Rattle.ansi_style.specs.contracts.style.StylePartialEq.TheImpl.{ghosts}
use Rattle.ansi_style.specs.contracts.style.StyleEq.TheImpl.Laws.{laws-law}

flag_same : (x y : Bool) → beq x y ≡ true → x ≡ y
flag_same true true h = refl
flag_same false false h = refl
flag_same x y h = cc

hue_same : (x y : Hue) → sameb hue_type x y ≡ true → x ≡ y
hue_same x y h = same_true hue_type (search rules) x y h

underline_same : (x y : Underline) → sameb underline_type x y ≡ true → x ≡ y
underline_same x y h = same_true underline_type (search rules) x y h

color_same : (x y : Color) → color_ghosts.eq x y ≡ true → x ≡ y
color_same Default Default h = refl
color_same (Named a) (Named b) h = ap Named (hue_same a b h)
color_same (Bright a) (Bright b) h = ap Bright (hue_same a b h)
color_same (Indexed a) (Indexed b) h = ap Indexed (eqb-true a b h)
color_same (Direct a b c) (Direct d e f) h =
    let h0 = and_parts (eqb a d) (eqb b e && eqb c f) h in
    let h1 = and_parts (eqb b e) (eqb c f) h0.1 in
    let e0 : a ≡ d = eqb-true a d h0.0 in
    let e1 : b ≡ e = eqb-true b e h1.0 in
    let e2 : c ≡ f = eqb-true c f h1.1 in
    cc
color_same x y h = cc

-- a style by its fields
abbrev made_of : Style → Style
made_of s = record {
  foreground = s.foreground;
  background = s.background;
  underline = s.underline;
  bold = s.bold;
  dim = s.dim;
  italic = s.italic;
  blink = s.blink;
  reverse = s.reverse;
  hidden = s.hidden;
  struck_out = s.struck_out;
  overlined = s.overlined;
}

-- styles are equal if their fields are
same_fields : (a b : Style) → a.foreground ≡ b.foreground → a.background ≡ b.background → a.underline ≡ b.underline
    → a.bold ≡ b.bold → a.dim ≡ b.dim → a.italic ≡ b.italic → a.blink ≡ b.blink → a.reverse ≡ b.reverse
    → a.hidden ≡ b.hidden → a.struck_out ≡ b.struck_out → a.overlined ≡ b.overlined → a ≡ b
same_fields a b foreground background underline bold dim italic blink reverse hidden struck_out overlined =
    let same : made_of a ≡ made_of b = cc in
    same

style_same : (a b : Style) → ghosts.eq a b ≡ true → a ≡ b
style_same a b same =
    let h0 = and_parts _ _ same in
    let h1 = and_parts _ _ h0.1 in
    let h2 = and_parts _ _ h1.1 in
    let h3 = and_parts _ _ h2.1 in
    let h4 = and_parts _ _ h3.1 in
    let h5 = and_parts _ _ h4.1 in
    let h6 = and_parts _ _ h5.1 in
    let h7 = and_parts _ _ h6.1 in
    let h8 = and_parts _ _ h7.1 in
    let h9 = and_parts _ _ h8.1 in
    same_fields a b (color_same a.foreground b.foreground h0.0) (color_same a.background b.background h1.0)
    (underline_same a.underline b.underline h2.0) (flag_same a.bold b.bold h3.0) (flag_same a.dim b.dim h4.0)
    (flag_same a.italic b.italic h5.0) (flag_same a.blink b.blink h6.0) (flag_same a.reverse b.reverse h7.0)
    (flag_same a.hidden b.hidden h8.0) (flag_same a.struck_out b.struck_out h9.0) (flag_same a.overlined b.overlined h9.1)

pub equality : (a b : Style) → (IsTrue (ghosts.eq a b) ↔ (a ≡ b))
equality a b = (style_same a b, λ e. subst (λ x. IsTrue (ghosts.eq a x)) e (laws-law.refl a))

-- the same of what `==` answers
pub are_equal-same : (a b : Style) → are_equal a b ≡ true → a ≡ b
unfolding are_equal
are_equal-same a b h = style_same a b h

pub are_equal-refl : (a : Style) → are_equal a a ≡ true
unfolding are_equal
are_equal-refl a = laws-law.refl a

-- eight of them in the order in which they are joined one by one
pub and-of_eight : (a b c d e f g h : Bool)
    → (a && b && c && d && e && f && g && h) ≡ (a && (b && (c && (d && (e && (f && (g && h)))))))
and-of_eight a b c d e f g h =
    and_assoc (a && b && c && d && e && f) g h
    ∙ (and_assoc (a && b && c && d && e) f (g && h)
    ∙ (and_assoc (a && b && c && d) e (f && (g && h))
    ∙ (and_assoc (a && b && c) d (e && (f && (g && h)))
    ∙ (and_assoc (a && b) c (d && (e && (f && (g && h)))) ∙ and_assoc a b (c && (d && (e && (f && (g && h)))))))))
