-- A line more, and the carriage return after it.
use Rattle.std.proofs.Common.{List, ℕ, [], ◌∷◌, ◌++◌, refl, sym, ap, ◌∙◌, subst, append_assoc}
use Rattle.ansi_strip.specs.LineWriter.{Takes}
use Rattle.ansi_strip.specs.TakingProof.{Takes-none, Takes-append}
use Rattle.ansi_strip.proofs.line_feeds.LineFeeds.take.Goals as goal

pub rest-init : goal.rest-init
rest-init g c = ([], refl, Takes-none g.W.Sink c.args.self.now)

pub rest-preserved : goal.rest-preserved
rest-preserved g c =
    let (passed, joined, taken) = c.rest.invariant in
    let found = rw c.in-Some.is at c.split_at_return.ensures.found in
    let line = c.split_at_return.result.0.now in
    let behind = c.in-Some.behind.now in
    let first = c.args.self.now in
    let one : List ℕ = 0x0D ∷ [] in (
      (passed ++ line) ++ one,
      joined ∙ ap (λ l. passed ++ l) found ∙ sym (append_assoc passed line (0x0D ∷ behind)) ∙ sym (append_assoc (passed ++ line) one behind),
      Takes-append g.W.Sink first c.put_line.new.self c.put_return.new.self (passed ++ line) one
          (Takes-append g.W.Sink first c.rest.self c.put_line.new.self passed line taken c.put_line.ensures) c.put_return.ensures,
    )

pub returns-in_default : goal.returns-in_default
returns-in_default g c =
    let (passed, joined, taken) = c.rest.invariant in
    let none = rw c.in_default.is at c.split_at_return.ensures.none in
    let first = c.args.self.now in
    let line = c.split_at_return.result.0.now in
    subst (λ (text : List ℕ). Takes g.W.Sink first text c.put_line.new.self) (sym (joined ∙ ap (λ l. passed ++ l) none))
    (Takes-append g.W.Sink first c.rest.self c.put_line.new.self passed line taken c.put_line.ensures)
