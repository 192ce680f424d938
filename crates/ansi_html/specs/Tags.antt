-- Parts of the tags of spans.
use Rattle.std.specs.Prelude.{ℕ, List, ◌++◌, codes}
use Rattle.ansi_html.specs.declared.contrast.Rgb.{Rgb}
use Rattle.ansi_style.specs.declared.style.Style.{Style}
use Rattle.ansi_html.specs.Palette.{hex_byte}
use Rattle.ansi_html.specs.Css.{text_if, is_underlined, lines_css, underline_css}

-- the six digits of a colour, as they stand after `#`
abbrev pub digits : Rgb → List ℕ
digits color = hex_byte color.red ++ (hex_byte color.green ++ hex_byte color.blue)

-- what is no colour, but for a bold one: italics, lines and what is hidden
abbrev pub rare_css : Style → List ℕ
rare_css style =
    text_if style.italic (codes "font-style:italic;")
    ++ (lines_css (is_underlined style.underline) style.overlined style.struck_out style.blink
    ++ (underline_css style.underline ++ text_if style.hidden (codes "visibility:hidden;")))
