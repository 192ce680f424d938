-- `==` compares both numbers.
use Rattle.std.proofs.Common.{◌≡◌, subst, IsTrue}
use Rattle.std.proofs.lemmas.Bool.{and_parts, eqb-true}
use Rattle.stream_state.specs.declared.fed.Fed.{Fed}
use Rattle.stream_state.specs.contracts.fed.FedPartialEq.TheImpl.{ghosts}
use Rattle.stream_state.specs.contracts.fed.FedEq.TheImpl.Laws.{laws-law}
use Rattle.stream_state.proofs.laws.equality.Goals as goal

abbrev made_of : Fed → Fed
made_of fed = record { taken = fed.taken; written = fed.written }

same_fields : (a b : Fed) → a.taken ≡ b.taken → a.written ≡ b.written → a ≡ b
same_fields a b taken written =
    let same : made_of a ≡ made_of b = cc in
    same

pub returns : goal.returns
returns c = λ a b. (
  (λ same. let both = and_parts _ _ same in same_fields a b (eqb-true a.taken b.taken both.0) (eqb-true a.written b.written both.1)),
  (λ e. subst (λ x. IsTrue (ghosts.eq a x)) e (laws-law.refl a)),
)
