use Rattle.std.proofs.Common.{◌∙◌, sym, ap, subst, arith, IsTrue}
use Rattle.std.specs.Prelude.{slice_index}
use Rattle.ansi_html.specs.declared.contrast.TheConstants.{LINEAR}
use Rattle.ansi_html.specs.Contrast.{is_made_linear}
use Rattle.ansi_html.proofs.ContrastLemmas.{linear-byte, made_linear, linear-most}
use Rattle.ansi_html.proofs.contrast.linear.Goals as goal

pub returns-clause-value : goal.returns-clause-value
returns-clause-value c = ap (slice_index LINEAR) c.from.ensures ∙ sym (linear-byte c.args.value (omega arith))

pub returns-clause-made_linear : goal.returns-clause-made_linear
returns-clause-made_linear c = subst (λ n. IsTrue (is_made_linear c.args.value n)) (sym (returns-clause-value c)) (made_linear c.args.value (omega arith))

pub returns-clause-most : goal.returns-clause-most
returns-clause-most c = omega (arith, returns-clause-value c, linear-most c.args.value)
