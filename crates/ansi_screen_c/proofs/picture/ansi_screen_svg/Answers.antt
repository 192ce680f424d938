-- What was held is drawn, with a title and fonts that have these bytes.
use Rattle.std.proofs.Common.{ℕ, List, subst}
use Rattle.std.specs.Prelude.{◌≡◌, ◌⊎◌, IfOk, IfErr}
use Rattle.screen_pieces.specs.Picture.{svg_of}
use Rattle.screen_pieces.specs.Text.{HasText, LacksRoom}
use Rattle.ansi_screen_c.specs.Calls.{Holds, ReadsOf, IsRefusedOf}
use Rattle.ansi_screen_c.proofs.ToldLemmas.{is-told, is-refused}
use Rattle.ansi_screen_c.proofs.picture.ansi_screen_svg.Goals as goal

pub returns-in-Some-clause-text : goal.returns-in-Some-clause-text
returns-in-Some-clause-text c =
    let how = c.args.picture.now in
    let said = c.svg-answer.result in
    let has = λ (title font : List ℕ). IfOk said (HasText (svg_of how title font c.deref.result.now) c.args.room.now c.svg-answer.new.room) in
    is-told (λ n was. Holds (ReadsOf (svg_of how c.args.title.now c.args.font.now) c.args.room.now c.svg-answer.new.room n) was) said c.in-Some.held.value
    c.deref.result.now c.args.screen.now.value c.in-Some.ensures.taken c.deref.ensures c.told.result c.told.new.written
    c.told.ensures.ok
    (subst (λ (title : List ℕ). has title c.args.font.now) c.in-Ok.ensures.cases.0
    (subst (λ (font : List ℕ). has c.in-Ok.named.now font) c.in-Ok-from_utf8.ensures.cases.0 c.svg-answer.ensures.text))

pub returns-in-Some-clause-refused : goal.returns-in-Some-clause-refused
returns-in-Some-clause-refused c =
    let how = c.args.picture.now in
    let said = c.svg-answer.result in
    let lacks = λ (title font : List ℕ). IfErr said (λ n. (n ≡ 0) ⊎ LacksRoom (svg_of how title font c.deref.result.now) c.args.room.now n) in
    is-refused (λ n was. IsRefusedOf (svg_of how c.args.title.now c.args.font.now) c.args.room.now n was) said c.in-Some.held.value
    c.deref.result.now c.args.screen.now.value c.in-Some.ensures.taken c.deref.ensures c.told.result c.told.new.written
    c.told.ensures.err
    (subst (λ (title : List ℕ). lacks title c.args.font.now) c.in-Ok.ensures.cases.0
    (subst (λ (font : List ℕ). lacks c.in-Ok.named.now font) c.in-Ok-from_utf8.ensures.cases.0 c.svg-answer.ensures.refused))
