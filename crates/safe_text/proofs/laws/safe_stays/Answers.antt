-- All of clean text is left by stripping, so its calls are its characters, and none of them hides text.
use Rattle.std.proofs.Common.{◌≡◌, List, ℕ, filter, ap, ◌∙◌, subst}
use Rattle.std.specs.Str.{encode_utf8_all}
use Rattle.anstyle_parse.specs.Stream.Calls.{AreCalls}
use Rattle.ansi_strip.specs.Strip.{is_left}
use Rattle.safe_text.specs.Safe.{safe_from}
use Rattle.safe_text.proofs.CallLemmas.{safe-stays as stays}
use Rattle.safe_text.proofs.MarkedLemmas.{never-marks, left-shown}
use Rattle.safe_text.proofs.laws.safe_stays.Goals as goal

pub returns-clause-plain : goal.returns-clause-plain
returns-clause-plain c = λ text calls clean is_safe are.
    let strips = c.clean_text.ensures text calls clean are in
    let left = subst (λ (t : List ℕ). AreCalls t (filter is_left calls)) strips (c.stripped_twice.ensures.text text calls are) in
    stays text calls (c.calls_are_lawful.ensures text calls are) is_safe strips (c.calls_of_bytes.ensures.only text calls (filter is_left calls) are left)

pub returns-clause-marked : goal.returns-clause-marked
returns-clause-marked c = λ text calls clean is_safe are.
    let strips = c.clean_text.ensures text calls clean are in
    let left = subst (λ (t : List ℕ). AreCalls t (filter is_left calls)) strips (c.stripped_twice.ensures.text text calls are) in
    let all : filter is_left calls ≡ calls = c.calls_of_bytes.ensures.only text calls (filter is_left calls) are left in
    ap (λ cs. encode_utf8_all (safe_from 0 cs)) (never-marks calls (left-shown calls all))
    ∙ stays text calls (c.calls_are_lawful.ensures text calls are) is_safe strips all
