-- What is asked for is looked at first.
use Rattle.std.proofs.Common.{ap, not, ◌&&◌}
use Rattle.std.proofs.lemmas.Bool.{and_from, or_right, cond-true, cond-false}
use Rattle.terminal_keys.specs.Keys.{is_key, is_release}
use Rattle.terminal_keys.specs.Mouse.{tracked}
use Rattle.terminal_keys.proofs.laws.unasked.Goals as goal

pub returns-clause-focus : goal.returns-clause-focus
returns-clause-focus c = λ gained modes e. cond-false modes.focus _ _ e

pub returns-clause-releases : goal.returns-clause-releases
returns-clause-releases c = λ stroke modes e f.
    cond-true _ _ _ (or_right (not (is_key stroke.key)) (is_release stroke.event && not modes.flags.events)
    (and_from (is_release stroke.event) (not modes.flags.events) e (ap not f)))

pub returns-clause-mouse : goal.returns-clause-mouse
returns-clause-mouse c = λ mouse modes e. ap (λ tracking. tracked tracking mouse modes) e
