use Rattle.std.proofs.Common.{sym, ap}
use Rattle.std.specs.Fmt.{digits}
use Rattle.ansi_style.specs.Codes.{underline_codes, more_text}
use Rattle.ansi_answers.proofs.rendition.underline_text.Goals as goal

pub returns-in-Single : goal.returns-in-Single
unfolding digits
returns-in-Single c = ap (λ kind. more_text (underline_codes kind)) (sym c.in-Single.is)

pub returns-in-Double : goal.returns-in-Double
unfolding digits
returns-in-Double c = ap (λ kind. more_text (underline_codes kind)) (sym c.in-Double.is)

pub returns-in-Curly : goal.returns-in-Curly
unfolding digits
returns-in-Curly c = ap (λ kind. more_text (underline_codes kind)) (sym c.in-Curly.is)

pub returns-in-Dotted : goal.returns-in-Dotted
unfolding digits
returns-in-Dotted c = ap (λ kind. more_text (underline_codes kind)) (sym c.in-Dotted.is)

pub returns-in-Dashed : goal.returns-in-Dashed
unfolding digits
returns-in-Dashed c = ap (λ kind. more_text (underline_codes kind)) (sym c.in-Dashed.is)
