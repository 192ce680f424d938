-- No definition, but proofs: the language wants those of a trait's laws among the specs.
use Rattle.std.proofs.Common.{◌≡◌, ℕ, List, [], ◌∷◌, ◌++◌, map, refl, sym, ap, ◌∙◌}
use Rattle.std.specs.Str.{chars}
use Rattle.anstyle_parse.specs.Stream.Call.{Call, print}
use Rattle.anstyle_parse.specs.Stream.Texts.{FollowsCalls, text_calls}
use Rattle.ansi_screen.specs.After.{after_all}
use Rattle.ansi2svg.specs.declared.picture.Linked.{Linked}
use Rattle.ansi2svg.specs.Picture.{linked_after}

-- after a list of calls
abbrev pub linked_after_all : List Call → Linked → Linked
linked_after_all [] linked = linked
linked_after_all (call ∷ calls) linked = linked_after_all calls (linked_after call linked)

after_all-append : (first second : List Call) (linked : Linked)
    → linked_after_all (first ++ second) linked ≡ linked_after_all second (linked_after_all first linked)
after_all-append [] second linked = refl
after_all-append (call ∷ calls) second linked = after_all-append calls second (linked_after call linked)

-- what was before, the calls, what is then
abbrev pub Becomes : Linked → List Call → Linked → Type 0
Becomes old calls new = new ≡ linked_after_all calls old

pub becomes-follows : FollowsCalls (λ (old : Linked) call new. new ≡ linked_after call old) Becomes
becomes-follows = record {
  none = λ linked. refl;
  one = λ old call new is. is;
  more = λ old middle new calls more first second.
      second ∙ (ap (linked_after_all more) first ∙ sym (after_all-append calls more old));
}

-- what is printed changes the screen alone
prints-shown : (characters : List ℕ) (linked : Linked)
    → linked_after_all (map print characters) linked
    ≡ record linked { screen = after_all (map print characters) linked.screen }
prints-shown [] linked = refl
prints-shown (c ∷ characters) linked = prints-shown characters (linked_after (print c) linked)

pub text-shown : (text : List ℕ) (linked : Linked)
    → linked_after_all (text_calls text) linked ≡ record linked { screen = after_all (text_calls text) linked.screen }
text-shown text linked = prints-shown (chars text) linked
