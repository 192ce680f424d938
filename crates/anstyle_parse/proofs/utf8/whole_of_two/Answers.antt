use Rattle.std.proofs.Common.{◌≡◌, ◌∷◌, [], List, ℕ, sym, subst, ◌∙◌}
use Rattle.anstyle_parse.specs.Stream.Characters.{character_of, BeginWithWhole}
use Rattle.anstyle_parse.proofs.Characters.Whole.{begin_two}
use Rattle.anstyle_parse.proofs.utf8.whole_of_two.Goals as goal

pub returns : goal.returns
returns c =
    let a = c.args.a in
    let b = c.in_ok-b.b.now in
    let left = c.in_ok-b.rest.now in
    let same : character_of (a ∷ b ∷ []) ≡ c.character_of_two-character.result = sym c.character_of_two-character.ensures in
    let Q : ℕ → Type 0 = λ character. BeginWithWhole (a ∷ c.args.behind.now) character left in
    let R : List ℕ → Type 0 = λ behind. BeginWithWhole (a ∷ behind) (character_of (a ∷ b ∷ [])) left in
    subst Q same (subst R (sym c.in_ok-b.ensures.cases.0) (begin_two a b left (sym c.is_two.ensures ∙ c.if-not-is_two.false)))
