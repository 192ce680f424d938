-- Inert text is the canonical text of a lawful list.
use Rattle.std.proofs.Common.{false, List, ℕ, filter, sym, ap, ◌∙◌, subst}
use Rattle.anstyle_parse.specs.Stream.Calls.{AreCalls}
use Rattle.ansi_strip.specs.Inert.{is_inert, inert_text}
use Rattle.ansi_strip.specs.Strip.{is_left, stripped}
use Rattle.ansi_strip.proofs.InertLemmas.{lawful-inert, AreShown-lawful, inert-all_shown}
use Rattle.ansi_strip.proofs.Left.{stripped-canon, stripped-left, lawful-left}
use Rattle.ansi_strip.proofs.laws.inert_twice.Goals as goal

pub returns-clause-text : goal.returns-clause-text
returns-clause-text c = λ bytes calls are.
    let inert = lawful-inert false calls (c.calls_are_lawful.ensures bytes calls are) in
    subst (λ (text : List ℕ). AreCalls text (filter is_left (filter is_inert calls))) (sym (stripped-canon (filter is_inert calls)))
    (c.replay.ensures.makes (filter is_left (filter is_inert calls)) (lawful-left false (filter is_inert calls) inert))

pub returns-clause-twice : goal.returns-clause-twice
returns-clause-twice c = λ bytes calls again are more.
    let lawful = c.calls_are_lawful.ensures bytes calls are in
    let inert = lawful-inert false calls lawful in
    let left = filter is_left (filter is_inert calls) in
    let same = c.replay.ensures.only left again (lawful-left false (filter is_inert calls) inert) (subst (λ (text : List ℕ). AreCalls text again) (stripped-canon (filter is_inert calls)) more) in
    ap inert_text same ∙ ap stripped (inert-all_shown left (AreShown-lawful false calls lawful)) ∙ stripped-left (filter is_inert calls)

pub returns-clause-stripped : goal.returns-clause-stripped
returns-clause-stripped c = λ bytes calls again are more.
    let inert = lawful-inert false calls (c.calls_are_lawful.ensures bytes calls are) in
    let same = c.replay.ensures.only (filter is_left (filter is_inert calls)) again (lawful-left false (filter is_inert calls) inert)
    (subst (λ (text : List ℕ). AreCalls text again) (stripped-canon (filter is_inert calls)) more) in
    ap stripped same ∙ stripped-left (filter is_inert calls)
