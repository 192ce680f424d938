use Rattle.std.proofs.Common.{arith, sym, subst, ◌∙◌}
use Rattle.anstyle_parse.specs.Views.Fields.{TakesDigits}
use Rattle.anstyle_parse.proofs.Arguments.Taken.{TakesDigits-none, TakesDigits-digit}
use Rattle.anstyle_parse.proofs.parser.header.many_digits.Goals as goal

pub digits-init : goal.digits-init
digits-init c = record {
  fits = omega (arith, c.from-value.ensures);
  taken = λ new left takes. subst (λ n. TakesDigits n c.args.bytes.now new left) c.from-value.ensures takes;
}

pub digits-preserved : goal.digits-preserved
digits-preserved c = record {
  fits = omega (arith, c.with_digit-value.ensures);
  taken = λ new left takes.
      c.digits.invariant.taken new left
      (subst (λ l. TakesDigits c.digits.value l new left) (sym c.in-Some.ensures.cases.0)
      (TakesDigits-digit c.digits.value c.in-Some.digit.now new c.in-Some.behind.now left (sym c.is_digit.ensures ∙ c.if-not-is_digit.false)
      (subst (λ n. TakesDigits n c.in-Some.behind.now new left) c.with_digit-value.ensures takes)));
}

pub returns : goal.returns
returns c = c.digits.invariant.taken c.digits.value c.digits.rest.now (TakesDigits-none c.digits.value c.digits.rest.now)
