-- What one write took, and then the rest.
use Rattle.std.proofs.Common.{◌≡◌, ◌-◌, length, take, drop, sym, ◌∙◌, subst, arith, take_all, length-drop}
use Rattle.anstyle_parse.specs.declared.io.output.Output.{Output as AnOutput}
use Rattle.anstyle_parse.specs.Io.Output.{fault_in, Adds}
use Rattle.anstyle_parse.proofs.Written.Output.{None-from_is_some, Adds-taken}
use Rattle.anstyle_parse.proofs.io.output.Output.put.Goals as goal

pub returns-in-Some-2 : goal.returns-in-Some-2
returns-in-Some-2 g c =
    let bytes = c.args.bytes.now in
    let old = c.args.self.now in
    let count = c.in-Some.count in
    let middle : AnOutput g.row.W.Denot = record { writer = c.write.new.self; fault = fault_in old } in
    let none = None-from_is_some (fault_in old) (sym c.is_some.ensures ∙ c.if-is_some.false) in
    let rest : take (length bytes - count) (drop count bytes) ≡ drop count bytes = take_all (length bytes - count) (drop count bytes) (omega (arith, length-drop count bytes)) in
    Adds-taken g.W.Sink bytes count old middle c.put_rest.new.self none none c.in-Some.ensures.passed c.in-Some.ensures.not_failed
    (subst (λ t. Adds g.W.Sink t middle c.put_rest.new.self) rest c.put_rest.ensures)
