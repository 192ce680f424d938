-- A write takes the front of the rest.
use Rattle.std.proofs.Common.{◌≡◌, ◌-◌, ◌≤◌, ◌++◌, List, ℕ, length, take, drop, take-append-drop, append_assoc, sym, ap, ◌∙◌, arith, length-drop, take_all}
use Rattle.std.proofs.KnownBytes.{Appends-trans}
use Rattle.anstyle_parse.proofs.io.output.Output.put_rest.Goals as goal

-- what is given and what is left, once the front of the rest is given too
split_rest : (given rest : List ℕ) (n : ℕ) → n ≤ length rest → given ++ rest ≡ (given ++ take n rest) ++ take (length rest - n) (drop n rest)
split_rest given rest n within =
    ap (λ l. given ++ l) (sym (take-append-drop n rest))
    ∙ sym (append_assoc given (take n rest) (drop n rest))
    ∙ ap (λ l. (given ++ take n rest) ++ l) (sym (take_all (length rest - n) (drop n rest) (omega (arith, length-drop n rest))))

pub loop-rest-preserved : goal.loop-rest-preserved
loop-rest-preserved g c =
    let before = c.loop-rest.invariant in
    record {
      given = before.given ++ take c.in-Some.count c.loop-rest.rest.now;
      joined = before.joined ∙ split_rest before.given c.loop-rest.rest.now c.in-Some.count c.in-Some.ensures.within;
      written = Appends-trans _ _ _ _ _ before.written c.in-Some.ensures.passed;
      no_fault = before.no_fault;
      not_failed = c.in-Some.ensures.not_failed ∙ before.not_failed;
    }
