use Rattle.std.proofs.Common.{◌≡◌, IsTrue, sym, ap, ◌∙◌, subst}
use Rattle.anstyle_parse.specs.declared.accumulator.Utf8Parser.{Utf8Parser}
use Rattle.anstyle_parse.specs.declared.parser.Parser.{Parser}
use Rattle.anstyle_parse.specs.Views.Parser.{accumulator_of, given}
use Rattle.anstyle_parse.proofs.Machine.Equal.{same_fields, same_fields-equivalence}
use Rattle.anstyle_parse.proofs.laws.clones.Goals as goal

-- a clone, with the accumulator's clone in it, is the parser
clone_same : (parser clone : Parser Utf8Parser) → (accumulator_of clone).decoder ≡ (accumulator_of parser).decoder → clone ≡ given parser (accumulator_of clone) → clone ≡ parser
clone_same parser clone decoder same = same ∙ ap (λ d. given parser (record { decoder = d })) decoder

pub returns-clause-parsers : goal.returns-clause-parsers
returns-clause-parsers c = λ parser clone is. clone_same parser clone is.0 is.1

pub returns-clause-equal : goal.returns-clause-equal
returns-clause-equal c = λ parser clone is.
    subst (λ p. IsTrue (same_fields parser p)) (sym (clone_same parser clone is.0 is.1)) (same_fields-equivalence.refl parser)
