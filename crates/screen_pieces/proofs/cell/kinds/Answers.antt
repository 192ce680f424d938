-- One cell more is plain, and at the end all of them are.
use Rattle.std.proofs.Common.{◌≡◌, ◌≤◌, List, take, sym, subst, arith}
use Rattle.std.proofs.lemmas.List.{take_all, take_more}
use Rattle.std.proofs.lemmas.List.Elements.{All-nil, All-push}
use Rattle.std.proofs.lemmas.Nat.{le_or_l, le_or_r}
use Rattle.std.specs.Int.Bits.{bit_or}
use Rattle.std.specs.List.{All}
use Rattle.ansi_screen.specs.declared.cell.Cell.{Cell}
use Rattle.screen_pieces.specs.Cells.{IsPlain}
use Rattle.screen_pieces.proofs.PlainLemmas.{plain-more, all-plain-more}
use Rattle.screen_pieces.proofs.cell.kinds.Goals as goal

pub loop-cell-init : goal.loop-cell-init
loop-cell-init c = λ none. All-nil (IsPlain 0)

pub loop-cell-preserved : goal.loop-cell-preserved
loop-cell-preserved c = λ none.
    let i = c.loop-cell.cell-index in let cells = c.args.cells.now in
    let others = c.loop-cell.others in let most = c.loop-cell.most in let kind = c.kind_number-most.result in
    let before : others ≡ 0 = omega (arith, none, le_or_l others c.beside-others.result) in
    let now : c.beside-others.result ≡ 0 = omega (arith, none, le_or_r others c.beside-others.result) in
    let least : most ≤ bit_or most kind = le_or_l most kind in
    subst (λ (cells : List Cell). All (IsPlain (bit_or most kind)) cells) (sym (take_more cells i _ c.loop-cell-test.true))
    (All-push (IsPlain (bit_or most kind)) (take i cells) _ (all-plain-more most (bit_or most kind) (take i cells) least (c.loop-cell.invariant before))
    (plain-more _ (bit_or most kind) _ (omega (arith, le_or_r most kind, c.kind_number-most.ensures.kind)) (c.beside-others.ensures now)))

pub returns : goal.returns
returns c = λ none.
    subst (λ (cells : List Cell). All (IsPlain c.loop-cell.most) cells)
    (take_all c.loop-cell.cell-index c.args.cells.now c.loop-cell-test.false) (c.loop-cell.invariant none)
