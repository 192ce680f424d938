-- What was held by both is updated.
use Rattle.std.specs.Prelude.{Some}
use Rattle.ansi_screen_c.specs.Calls.{Both, ReadsUpdate, IsRefusedUpdate}
use Rattle.ansi_screen_c.proofs.ToldLemmas.{ok-held, err-held, is-told, is-refused}
use Rattle.ansi_screen_c.proofs.drawing.ansi_screen_update.Goals as goal

pub returns-in-Some-take-clause-text : goal.returns-in-Some-take-clause-text
returns-in-Some-take-clause-text c =
    is-told (λ n one. Both (ReadsUpdate c.args.room.now c.update-answer.new.room n) one c.args.wanted.now.value) c.update-answer.result c.in-Some.first.value
    c.deref.result.now c.args.shown.now.value c.in-Some.ensures.taken c.deref.ensures c.told.result c.told.new.written c.told.ensures.ok
    (ok-held (λ n other. Both (ReadsUpdate c.args.room.now c.update-answer.new.room n) (Some c.deref.result.now) other) c.update-answer.result
    c.in-Some-take.second.value c.deref-in-Some-take.result.now c.args.wanted.now.value c.in-Some-take.ensures.taken c.deref-in-Some-take.ensures
    c.update-answer.ensures.text)

pub returns-in-Some-take-clause-refused : goal.returns-in-Some-take-clause-refused
returns-in-Some-take-clause-refused c =
    is-refused (λ n one. IsRefusedUpdate c.args.room.now n one c.args.wanted.now.value) c.update-answer.result c.in-Some.first.value
    c.deref.result.now c.args.shown.now.value c.in-Some.ensures.taken c.deref.ensures c.told.result c.told.new.written c.told.ensures.err
    (err-held (λ n other. IsRefusedUpdate c.args.room.now n (Some c.deref.result.now) other) c.update-answer.result
    c.in-Some-take.second.value c.deref-in-Some-take.result.now c.args.wanted.now.value c.in-Some-take.ensures.taken c.deref-in-Some-take.ensures
    c.update-answer.ensures.refused)
