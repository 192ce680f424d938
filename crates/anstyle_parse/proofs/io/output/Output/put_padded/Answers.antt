-- What one write took of the text, and then the rest.
use Rattle.std.proofs.Common.{◌≡◌, ◌-◌, length, take, drop, sym, ap, ◌∙◌, subst, arith, take_all, length-drop}
use Rattle.anstyle_parse.specs.declared.io.output.Output.{Output as AnOutput}
use Rattle.anstyle_parse.specs.Io.Output.{fault_in, Adds}
use Rattle.anstyle_parse.proofs.Written.Output.{None-from_is_some, Adds-taken}
use Rattle.anstyle_parse.proofs.io.output.Output.put_padded.Goals as goal

pub returns-in-Some-2 : goal.returns-in-Some-2
returns-in-Some-2 g c =
    let old = c.args.self.now in
    let text = c.args.text.now in
    let all = c.as_bytes-all.result.now in
    let taken = c.in-Some.taken in
    let middle : AnOutput g.row.W.Denot = record { writer = c.write_padded.new.self; fault = fault_in old } in
    let none = None-from_is_some (fault_in old) (sym c.is_some.ensures ∙ c.if-is_some.false) in
    let rest : take (length all - taken) (drop taken all) ≡ drop taken text =
    take_all (length all - taken) (drop taken all) (omega (arith, length-drop taken all)) ∙ ap (drop taken) c.as_bytes-all.ensures in
    Adds-taken g.W.Sink text taken old middle c.put_rest.new.self none none c.in-Some.ensures.passed c.in-Some.ensures.not_failed
    (subst (λ t. Adds g.W.Sink t middle c.put_rest.new.self) rest c.put_rest.ensures)
