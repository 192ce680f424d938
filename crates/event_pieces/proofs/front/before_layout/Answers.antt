-- The lowest bit of the mask is the first layout control.
use Rattle.std.proofs.Common.{◌≡◌, ◌≤◌, length, take, get_or, ap, sym, ◌∙◌, subst, arith}
use Rattle.std.specs.Prelude.{not, IsTrue}
use Rattle.std.proofs.lemmas.List.{take-take, get_or-take}
use Rattle.anstyle_parse.specs.Stream.Items.{EachIs}
use Rattle.anstyle_parse.specs.Stream.Texts.{is_layout}
use Rattle.event_pieces.proofs.Fronts.{front-shown, front-ends}
use Rattle.event_pieces.proofs.front.before_layout.Goals as goal

pub returns-clause-shown : goal.returns-clause-shown
returns-clause-shown c =
    let text = c.args.text.now in
    let chunk = c.chunk.result.now in
    let n = c.min.result in
    let within : n ≤ length text = omega (arith, c.min.ensures, c.len.ensures.value) in
    let same : take n chunk ≡ take n text = sym (take-take n (length text) chunk within) ∙ ap (take n) c.chunk.ensures.text in
    subst (EachIs (λ b. not (is_layout b))) same
    (front-shown chunk c.len.result n c.chunk.ensures.sixteen c.len.ensures.within c.layouts-found.result c.layouts-found.ensures c.min.ensures)

pub returns-clause-ends : goal.returns-clause-ends
returns-clause-ends c within =
    let text = c.args.text.now in
    let chunk = c.chunk.result.now in
    let n = c.min.result in
    let same : get_or chunk n 0 ≡ get_or text n 0 = sym (get_or-take (length text) chunk n 0 within) ∙ ap (λ l. get_or l n 0) c.chunk.ensures.text in
    subst (λ b. IsTrue (is_layout b)) same
    (front-ends chunk c.len.result n c.chunk.ensures.sixteen c.len.ensures.within c.layouts-found.result c.layouts-found.ensures c.min.ensures
    (omega (arith, within, c.len.ensures.value)))
