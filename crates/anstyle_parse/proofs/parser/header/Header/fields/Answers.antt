use Rattle.std.proofs.Common.{arith, ap, length, sym, subst, ◌∙◌}
use Rattle.std.proofs.lemmas.Bool.{both_ways}
use Rattle.std.specs.Prelude.{⊤}
use Rattle.anstyle_parse.specs.Machine.Step.{Machine}
use Rattle.anstyle_parse.specs.Views.Header.{heading_of}
use Rattle.anstyle_parse.specs.Views.Fields.{TakesFields}
use Rattle.anstyle_parse.proofs.Arguments.Taken.{TakesDigits-length, TakesFields-none, TakesFields-byte, TakesFields-digits}
use Rattle.anstyle_parse.proofs.parser.header.Header.fields.Goals as goal

pub fields-init : goal.fields-init
fields-init c = λ new left takes. takes

pub fields-smaller : goal.fields-smaller
fields-smaller c =
    let shorter = TakesDigits-length c.fields.self.number c.digits-number.result.0 c.fields.rest.now c.digits-number.result.1.now c.digits-number.ensures in
    omega (arith, shorter, ap length c.in-Some.ensures.cases.0)

pub fields-preserved : goal.fields-preserved
fields-preserved c = λ new left takes.
    let m = heading_of c.fields.self in
    let number = c.digits-number.result.0 in
    let read : Machine ⊤ = record m { number = number } in
    let next = c.in-Some.next.now in
    let further = c.in-Some.further.now in
    c.fields.invariant new left
    (TakesFields-digits m new c.fields.rest.now c.digits-number.result.1.now left number
    (λ full. both_ways c.is_full.result c.fields-test.true (c.is_full.ensures.full.1 full)) c.digits-number.ensures
    (subst (λ l. TakesFields read l new left) (sym c.in-Some.ensures.cases.0)
    (TakesFields-byte read new next further left (sym c.is_parameter.ensures ∙ c.if-not-is_parameter.false)
    (subst (λ x. TakesFields x further new left) c.param.ensures takes))))

pub returns-in_default : goal.returns-in_default
returns-in_default c =
    let m = heading_of c.fields.self in
    let behind = c.digits-number.result.1.now in
    c.fields.invariant _ behind
    (TakesFields-digits m _ c.fields.rest.now behind behind c.digits-number.result.0
    (λ full. both_ways c.is_full.result c.fields-test.true (c.is_full.ensures.full.1 full)) c.digits-number.ensures (TakesFields-none _ behind))

pub returns-then-not-is_parameter : goal.returns-then-not-is_parameter
returns-then-not-is_parameter c =
    let m = heading_of c.fields.self in
    let behind = c.digits-number.result.1.now in
    c.fields.invariant _ behind
    (TakesFields-digits m _ c.fields.rest.now behind behind c.digits-number.result.0
    (λ full. both_ways c.is_full.result c.fields-test.true (c.is_full.ensures.full.1 full)) c.digits-number.ensures (TakesFields-none _ behind))

pub returns : goal.returns
returns c = c.fields.invariant (heading_of c.fields.self) c.fields.rest.now (TakesFields-none (heading_of c.fields.self) c.fields.rest.now)
