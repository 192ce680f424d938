-- The digits before the last are written first, if there are any.
use Rattle.std.proofs.Common.{◌≡◌, ◌+◌, ◌/◌, ◌%◌, [], ◌∷◌, decimal, arith, sym, ap, ◌∙◌, subst}
use Rattle.std.proofs.lemmas.Fmt.{decimal_step, decimal_digit}
use Rattle.terminal_keys.proofs.text.+put_number.Goals as goal
use Rattle.terminal_keys.proofs.text.+put_number.Goals.{then-number-ge10, else-number-ge10}

pub returns : goal.returns
returns g t c =
    let takes = g.T.TakeBytes.takes in
    let n = c.args.number in
    let digit = (48 + n % 10) ∷ [] in
    let between = c.if-number-ge10.to in
    let after = c.take.new.self in
    elim c.if-number-ge10.branch [
      | then-number-ge10 w ↦
          let before = subst (λ it. takes (decimal (n / 10)) c.args.to.now it) (sym w.to-is) w.put_number.ensures in
          subst (λ text. takes text c.args.to.now after) (sym (decimal_step n (omega (arith, w.if-number-ge10.true)) (omega (arith, c.ranges.number.fits))))
          (g.met.T.TakeBytes.joins.more (decimal (n / 10)) digit c.args.to.now between after before c.take.ensures)
      | else-number-ge10 w ↦
          let same : n % 10 ≡ n = omega (arith, w.if-number-ge10.false) in
          let one : digit ≡ decimal n = ap (λ k. (48 + k) ∷ []) same ∙ sym (decimal_digit n (omega (arith, w.if-number-ge10.false))) in
          subst (λ it. takes (decimal n) it after) w.to-is (subst (λ text. takes text between after) one c.take.ensures)
    ]
