-- No definition, but proofs: the language wants those of a trait's laws among the specs.
use Rattle.std.proofs.Common.{◌≡◌, ℕ, List, [], ◌∷◌, ◌++◌, map, refl, sym, ap, ◌∙◌}
use Rattle.std.specs.Str.{chars}
use Rattle.anstyle_parse.specs.Stream.Call.{Call, print}
use Rattle.anstyle_parse.specs.Stream.Texts.{FollowsCalls, text_calls}
use Rattle.ansi_screen.specs.After.{after_all}
use Rattle.screen_answers.specs.declared.answering.Answering.{Answering}
use Rattle.screen_answers.specs.Answering.{answering_after, answering_after_all}

after_all-append : (first second : List Call) (t : Answering)
    → answering_after_all (first ++ second) t ≡ answering_after_all second (answering_after_all first t)
after_all-append [] second t = refl
after_all-append (call ∷ calls) second t = after_all-append calls second (answering_after call t)

-- what was before, the calls, what is then
abbrev pub Becomes : Answering → List Call → Answering → Type 0
Becomes old calls new = new ≡ answering_after_all calls old

pub becomes-follows : FollowsCalls (λ (old : Answering) call new. new ≡ answering_after call old) Becomes
becomes-follows = record {
  none = λ t. refl;
  one = λ old call new is. is;
  more = λ old middle new calls more first second.
      second ∙ (ap (answering_after_all more) first ∙ sym (after_all-append calls more old));
}

-- what is printed changes the screen alone
prints-shown : (characters : List ℕ) (t : Answering)
    → answering_after_all (map print characters) t ≡ record t { screen = after_all (map print characters) t.screen }
prints-shown [] t = refl
prints-shown (c ∷ characters) t = prints-shown characters (answering_after (print c) t)

pub text-shown : (text : List ℕ) (t : Answering)
    → answering_after_all (text_calls text) t ≡ record t { screen = after_all (text_calls text) t.screen }
text-shown text t = prints-shown (chars text) t
