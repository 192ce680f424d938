use Rattle.std.proofs.Common.{◌≡◌, ◌∷◌, [], List, ℕ, ap, sym, subst, ◌∙◌}
use Rattle.anstyle_parse.specs.Stream.Characters.{character_of, BeginWithWhole}
use Rattle.anstyle_parse.proofs.Characters.Whole.{begin_three}
use Rattle.anstyle_parse.proofs.utf8.whole_of_three.Goals as goal

pub returns : goal.returns
returns g =
    let a = g.args.a in
    let b = g.in_ok-b.b.now in
    let c = g.in_ok-c.c.now in
    let left = g.in_ok-c.rest.now in
    let same : character_of (a ∷ b ∷ c ∷ []) ≡ g.character_of_three-character.result = sym g.character_of_three-character.ensures in
    let joined : b ∷ (c ∷ left) ≡ g.args.behind.now = sym (g.in_ok-b.ensures.cases.0 ∙ ap (λ rest. b ∷ rest) g.in_ok-c.ensures.cases.0) in
    let Q : ℕ → Type 0 = λ character. BeginWithWhole (a ∷ g.args.behind.now) character left in
    let R : List ℕ → Type 0 = λ behind. BeginWithWhole (a ∷ behind) (character_of (a ∷ b ∷ c ∷ [])) left in
    subst Q same (subst R joined
    (begin_three a b left c (sym g.begins_three.ensures ∙ g.if-not-begins_three.false) (sym g.is_continuation.ensures ∙ g.if-not-is_continuation.false)))
