use Rattle.anstyle_parse.proofs.Arguments.Taken.{TakesDigits-few}
use Rattle.anstyle_parse.proofs.parser.header.few_digits.Goals as goal

pub returns : goal.returns
returns c = λ left.
    TakesDigits-few c.args.first c.args.second c.args.third left c.digit_value.result c.digit_value-2.result c.digit_value-3.result c.in_places.result
    c.digit_value.ensures.digit c.digit_value-2.ensures.digit c.digit_value-3.ensures.digit
    c.args.count c.requires.few c.requires.digits c.in_places.ensures.none c.in_places.ensures.one c.in_places.ensures.two c.in_places.ensures.three
