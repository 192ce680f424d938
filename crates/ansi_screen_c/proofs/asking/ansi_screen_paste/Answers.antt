-- What was held is read, of a text that has these bytes.
use Rattle.std.proofs.Common.{ℕ, List, inr, subst}
use Rattle.std.specs.Prelude.{Some, IfOk, IfErr}
use Rattle.std.proofs.lemmas.Result.{IfErr-weaker}
use Rattle.screen_pieces.specs.Telling.{paste_told}
use Rattle.screen_pieces.specs.Text.{HasText, LacksRoom}
use Rattle.ansi_screen_c.specs.Calls.{Holds, ReadsOf, IsNotPasted}
use Rattle.ansi_screen_c.proofs.ToldLemmas.{is-told, is-refused}
use Rattle.ansi_screen_c.proofs.asking.ansi_screen_paste.Goals as goal

pub returns-in-Some-clause-text : goal.returns-in-Some-clause-text
returns-in-Some-clause-text c =
    is-told (λ n was. Holds (ReadsOf (paste_told c.args.text.now) c.args.room.now c.paste-answer.new.room n) was) c.paste-answer.result c.in-Some.held.value
    c.deref.result.now c.args.screen.now.value c.in-Some.ensures.taken c.deref.ensures c.told.result c.told.new.written
    c.told.ensures.ok
    (subst (λ (t : List ℕ). IfOk c.paste-answer.result (HasText (paste_told t c.deref.result.now) c.args.room.now c.paste-answer.new.room)) c.in-Ok.ensures.cases.0
    c.paste-answer.ensures.text)

pub returns-in-Some-clause-refused : goal.returns-in-Some-clause-refused
returns-in-Some-clause-refused c =
    let lacks = subst (λ (t : List ℕ). IfErr c.paste-answer.result (LacksRoom (paste_told t c.deref.result.now) c.args.room.now)) c.in-Ok.ensures.cases.0
    c.paste-answer.ensures.refused in
    is-refused (λ n was. IsNotPasted c.args.text.now c.args.room.now n was) c.paste-answer.result c.in-Some.held.value
    c.deref.result.now c.args.screen.now.value c.in-Some.ensures.taken c.deref.ensures c.told.result c.told.new.written
    c.told.ensures.err
    (IfErr-weaker c.paste-answer.result (LacksRoom (paste_told c.args.text.now c.deref.result.now) c.args.room.now)
    (λ n. IsNotPasted c.args.text.now c.args.room.now n (Some c.deref.result.now)) (λ n lack. inr lack) lacks)
