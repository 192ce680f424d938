-- One answer more.
use Rattle.std.proofs.Common.{◌++◌, [], ◌∷◌, refl, ap, sym, ◌∙◌, append_assoc}
use Rattle.screen_pieces.proofs.TextLemmas.{Puts-nil}
use Rattle.screen_pieces.proofs.AnswerLemmas.{Puts-answer}
use Rattle.screen_pieces.proofs.text.TextWriter.put_answers.Goals as goal

pub rest-init : goal.rest-init
rest-init c = ([], refl, Puts-nil c.args.self.now)

pub rest-preserved : goal.rest-preserved
rest-preserved c =
    let (passed, joined, puts) = c.rest.invariant in
    let first = c.in-Some.first.now in
    let further = c.in-Some.further.now in (
      passed ++ first ∷ [],
      joined ∙ ap (λ l. passed ++ l) c.in-Some.ensures.cases.0 ∙ sym (append_assoc passed (first ∷ []) further),
      Puts-answer passed first c.as_slice.result.now c.args.self.now c.rest.self c.put_bytes.new.self puts c.put_bytes.ensures
          (c.as_slice.ensures.value ∙ c.bytes.ensures),
    )
