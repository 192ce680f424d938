-- A row of a table has the digits that its hue's shades have.
use Rattle.std.proofs.Common.{Bool, sym, ap₂, ◌∙◌}
use Rattle.ansi_style.specs.declared.style.Color.{Color}
use Rattle.ansi_html.specs.Palette.{shades_of}
use Rattle.ansi_html.specs.Css.{light_text, dark_text}
use Rattle.ansi_html.specs.Tags.{digits}
use Rattle.ansi_html.proofs.DigitLemmas.{named-light, named-dark, bright-light, bright-dark}
use Rattle.ansi_html.proofs.digits.page_digits.Goals as goal

pub returns-in-Named-clause-light : goal.returns-in-Named-clause-light
returns-in-Named-clause-light c =
    c.digits_at.ensures.light ∙ named-light c.in-Named.hue
    ∙ sym (ap₂ (λ (d : Bool) (t : Color). digits (light_text d (shades_of t))) c.if-not-dim.true c.in-Named.is)

pub returns-in-Named-clause-dark : goal.returns-in-Named-clause-dark
returns-in-Named-clause-dark c =
    c.digits_at.ensures.dark ∙ named-dark c.in-Named.hue
    ∙ sym (ap₂ (λ (d : Bool) (t : Color). digits (dark_text d (shades_of t))) c.if-not-dim.true c.in-Named.is)

pub returns-in-Bright-clause-light : goal.returns-in-Bright-clause-light
returns-in-Bright-clause-light c =
    c.digits_at-in-Bright.ensures.light ∙ bright-light c.in-Bright.hue
    ∙ sym (ap₂ (λ (d : Bool) (t : Color). digits (light_text d (shades_of t))) c.if-not-dim-2.true c.in-Bright.is)

pub returns-in-Bright-clause-dark : goal.returns-in-Bright-clause-dark
returns-in-Bright-clause-dark c =
    c.digits_at-in-Bright.ensures.dark ∙ bright-dark c.in-Bright.hue
    ∙ sym (ap₂ (λ (d : Bool) (t : Color). digits (dark_text d (shades_of t))) c.if-not-dim-2.true c.in-Bright.is)
