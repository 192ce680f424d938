-- No definition, but proofs: the language wants those of a trait's laws among the specs.
use Rattle.std.proofs.Common.{arith, ◌≡◌, ℕ, List, [], ◌∷◌, ◌++◌, map, refl, sym, ap, ◌∙◌}
use Rattle.std.specs.Str.{chars}
use Rattle.anstyle_parse.specs.Stream.Call.{Call, print}
use Rattle.anstyle_parse.specs.Stream.Texts.{FollowsCalls, text_calls, layout_calls, layout_call}
use Rattle.ansi_modes.specs.declared.asked.Asked.{Asked}
use Rattle.ansi_modes.specs.Asked.{asked_after, asked_after_all}

pub after_all-append : (first second : List Call) (a : Asked) → asked_after_all (first ++ second) a ≡ asked_after_all second (asked_after_all first a)
after_all-append [] second a = refl
after_all-append (call ∷ calls) second a = after_all-append calls second (asked_after call a)

-- what was asked before, the calls, what is then
abbrev pub Becomes : Asked → List Call → Asked → Type 0
Becomes old calls new = new ≡ asked_after_all calls old

pub becomes-follows : FollowsCalls (λ (old : Asked) call new. new ≡ asked_after call old) Becomes
becomes-follows = record {
  none = λ a. refl;
  one = λ old call new is. is;
  more = λ old middle new calls more first second.
      second ∙ (ap (asked_after_all more) first ∙ sym (after_all-append calls more old));
}

-- a text changes nothing
pub prints-quiet : (characters : List ℕ) (a : Asked) → a ≡ asked_after_all (map print characters) a
prints-quiet [] a = refl
prints-quiet (c ∷ characters) a = prints-quiet characters a

pub text-quiet : (text : List ℕ) (a : Asked) → Becomes a (text_calls text) a
text-quiet text a = prints-quiet (chars text) a

layout-quiet-one : (c : ℕ) (a : Asked) → asked_after (layout_call c) a ≡ a
layout-quiet-one c a = grind arith

layouts-quiet : (characters : List ℕ) (a : Asked) → a ≡ asked_after_all (map layout_call characters) a
layouts-quiet [] a = refl
layouts-quiet (c ∷ characters) a =
    layouts-quiet characters a ∙ ap (asked_after_all (map layout_call characters)) (sym (layout-quiet-one c a))

pub layout-quiet : (text : List ℕ) (a : Asked) → Becomes a (layout_calls text) a
layout-quiet text a = layouts-quiet (chars text) a
