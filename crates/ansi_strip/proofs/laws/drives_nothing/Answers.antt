-- Inert text has no character that stands for a control, and is the canonical text of a lawful list.
use Rattle.std.proofs.Common.{false, List, ℕ, filter, IsTrue, sym, ◌∙◌, subst}
use Rattle.std.specs.List.{AllByRecursion}
use Rattle.anstyle_parse.specs.Stream.Call.{Call}
use Rattle.anstyle_parse.specs.Stream.Calls.{AreCalls}
use Rattle.ansi_strip.specs.EightBit.{is_shown}
use Rattle.ansi_strip.specs.Inert.{is_inert, inert_text}
use Rattle.ansi_strip.specs.Strip.{is_left}
use Rattle.ansi_strip.proofs.EightBitLemmas.{inert-stays}
use Rattle.ansi_strip.proofs.InertLemmas.{lawful-inert, AreShown-lawful, IsInertText-lawful}
use Rattle.ansi_strip.proofs.Left.{stripped-canon, lawful-left}
use Rattle.ansi_strip.proofs.laws.drives_nothing.Goals as goal

pub returns-clause-calls : goal.returns-clause-calls
returns-clause-calls c = λ bytes calls are.
    let lawful = c.calls_are_lawful.ensures bytes calls are in
    let inert = lawful-inert false calls lawful in
    subst (λ (text : List ℕ). AreCalls text (filter is_left (filter is_inert calls)))
    (sym (inert-stays (inert_text calls) (IsInertText-lawful calls lawful) ∙ stripped-canon (filter is_inert calls)))
    (c.replay.ensures.makes (filter is_left (filter is_inert calls)) (lawful-left false (filter is_inert calls) inert))

made_of : goal.returns-clause-only
made_of c = λ bytes calls made are more.
    let lawful = c.calls_are_lawful.ensures bytes calls are in
    let inert = lawful-inert false calls lawful in
    c.replay.ensures.only (filter is_left (filter is_inert calls)) made (lawful-left false (filter is_inert calls) inert)
    (subst (λ (text : List ℕ). AreCalls text made) (inert-stays (inert_text calls) (IsInertText-lawful calls lawful) ∙ stripped-canon (filter is_inert calls)) more)

pub returns-clause-only : goal.returns-clause-only
returns-clause-only = made_of

pub returns-clause-shown : goal.returns-clause-shown
returns-clause-shown c = λ bytes calls made are more.
    subst (λ (l : List Call). AllByRecursion (λ call. IsTrue (is_shown call)) l) (sym (made_of c bytes calls made are more))
    (AreShown-lawful false calls (c.calls_are_lawful.ensures bytes calls are))
