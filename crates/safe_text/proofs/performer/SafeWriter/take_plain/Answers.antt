-- One character more is taken, and then the others at once.
use Rattle.std.proofs.Common.{List, ℕ, [], ◌∷◌, ◌++◌, refl, sym, ap, ◌∙◌, subst, append_assoc}
use Rattle.anstyle_parse.specs.Stream.Items.{EachIs}
use Rattle.safe_text.specs.Plain.{is_plain}
use Rattle.safe_text.specs.Writer.{Takes}
use Rattle.safe_text.specs.TakingProof.{Takes-none, Takes-append}
use Rattle.safe_text.proofs.performer.SafeWriter.take_plain.Goals as goal

pub waiting-init : goal.waiting-init
waiting-init g c = ([], refl, c.requires, Takes-none g.W.Sink c.args.self.now)

pub waiting-preserved : goal.waiting-preserved
waiting-preserved g c =
    let (passed, joined, plain, taken) = c.waiting.invariant in
    let first = c.in-Some.first.now in
    let after = c.in-Some.after.now in
    let is = c.in-Some.ensures.cases.0 in (
      passed ++ first ∷ [],
      joined ∙ (ap (λ l. passed ++ l) is ∙ sym (append_assoc passed (first ∷ []) after)),
      (subst (λ (l : List ℕ). EachIs is_plain l) is plain).1,
      Takes-append g.W.Sink c.args.self.now c.waiting.self c.take.new.self passed (first ∷ []) taken
          (subst (λ n. Takes g.W.Sink c.waiting.self (n ∷ []) c.take.new.self) c.from.ensures c.take.ensures),
    )

pub returns : goal.returns
returns g c =
    let (passed, joined, plain, taken) = c.waiting.invariant in
    subst (λ (cs : List ℕ). Takes g.W.Sink c.args.self.now cs c.put_plain.new.self) (sym joined)
    (Takes-append g.W.Sink c.args.self.now c.waiting.self c.put_plain.new.self passed c.waiting.rest.now taken c.put_plain.ensures)
