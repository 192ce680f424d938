-- Stripped text is the canonical text of a lawful list.
use Rattle.std.proofs.Common.{false, List, ℕ, filter, sym, ap, ◌∙◌, subst}
use Rattle.anstyle_parse.specs.Stream.Calls.{AreCalls}
use Rattle.ansi_strip.specs.Strip.{is_left, stripped}
use Rattle.ansi_strip.proofs.Left.{stripped-canon, stripped-left, lawful-left}
use Rattle.ansi_strip.proofs.laws.stripped_twice.Goals as goal

pub returns-clause-text : goal.returns-clause-text
returns-clause-text c = λ bytes calls are.
    subst (λ (text : List ℕ). AreCalls text (filter is_left calls)) (sym (stripped-canon calls))
    (c.replay.ensures.makes (filter is_left calls) (lawful-left false calls (c.calls_are_lawful.ensures bytes calls are)))

pub returns-clause-twice : goal.returns-clause-twice
returns-clause-twice c = λ bytes calls again are more.
    let same = c.replay.ensures.only (filter is_left calls) again (lawful-left false calls (c.calls_are_lawful.ensures bytes calls are))
    (subst (λ (text : List ℕ). AreCalls text again) (stripped-canon calls) more) in
    ap stripped same ∙ stripped-left calls
