-- Where `&` and letters or digits stand at the end of a text.
use Rattle.std.proofs.Common.{◌≡◌, ℕ, Bool, true, false, ◌||◌, ◌&&◌, List, [], ◌∷◌, ◌++◌, refl, sym, ap, ap₂, ◌∙◌}
use Rattle.std.specs.Prelude.{nat_eq}
use Rattle.std.specs.Char.{is_ascii_alphanumeric}
use Rattle.std.proofs.lemmas.Bool.{eqb-true, false≢true}
use Rattle.anstyle_parse.specs.Stream.Items.{EachIs}
use Rattle.html_urls.specs.Addresses.{ends_entity}
use Rattle.html_urls.proofs.CaseLemmas.{or-right}

abbrev pub is_some : List ℕ → Bool
is_some [] = false
is_some (c ∷ text) = true

abbrev on : ℕ → Bool → Bool
on c opened = nat_eq c 0x26 || (opened && is_ascii_alphanumeric c)

-- what is read after a character depends on nothing before
pub ends-at : (before behind : List ℕ) (opened is_named : Bool) → ends_entity opened is_named (before ++ 0x26 ∷ behind) ≡ ends_entity true false behind
ends-at [] behind opened is_named = refl
ends-at (c ∷ before) behind opened is_named = ends-at before behind (on c opened) (is_ascii_alphanumeric c)

-- letters or digits go on with what was opened
opened-on : (c : ℕ) → is_ascii_alphanumeric c ≡ true → on c true ≡ true
opened-on c is = or-right (nat_eq c 0x26) (is_ascii_alphanumeric c) is

all-named : (text : List ℕ) → EachIs is_ascii_alphanumeric text → ends_entity true true text ≡ true
all-named [] each = refl
all-named (c ∷ text) each = ap₂ (λ (s t : Bool). ends_entity s t text) (opened-on c each.0) each.0 ∙ all-named text each.1

pub named : (text : List ℕ) → EachIs is_ascii_alphanumeric text → ends_entity true false text ≡ is_some text
named [] each = refl
named (c ∷ text) each = ap₂ (λ (s t : Bool). ends_entity s t text) (opened-on c each.0) each.0 ∙ all-named text each.1

-- and with what was not
closed-on : (c : ℕ) → is_ascii_alphanumeric c ≡ true → on c false ≡ false
closed-on c is = by (nat_eq c 0x26) refl
  where
    by : (t : Bool) → nat_eq c 0x26 ≡ t → (t || (false && is_ascii_alphanumeric c)) ≡ false
    by false other = refl
    by true same = absurd (false≢true (sym (ap is_ascii_alphanumeric (eqb-true c 0x26 same)) ∙ is))

pub never-named : (text : List ℕ) (is_named : Bool) → EachIs is_ascii_alphanumeric text → ends_entity false is_named text ≡ false
never-named [] is_named each = refl
never-named (c ∷ text) is_named each =
    ap (λ (s : Bool). ends_entity s (is_ascii_alphanumeric c) text) (closed-on c each.0) ∙ never-named text (is_ascii_alphanumeric c) each.1

-- another character closes it
pub ends-other : (before behind : List ℕ) (c : ℕ) (opened is_named : Bool) → nat_eq c 0x26 ≡ false → is_ascii_alphanumeric c ≡ false → EachIs is_ascii_alphanumeric behind
    → ends_entity opened is_named (before ++ c ∷ behind) ≡ false
ends-other [] behind c opened is_named other none each =
    ap₂ (λ (s t : Bool). ends_entity (s || (opened && t)) t behind) other none ∙ closed opened
  where
    closed : (o : Bool) → ends_entity (false || (o && false)) false behind ≡ false
    closed true = never-named behind false each
    closed false = never-named behind false each
ends-other (x ∷ before) behind c opened is_named other none each =
    ends-other before behind c (on x opened) (is_ascii_alphanumeric x) other none each
