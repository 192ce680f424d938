-- xterm's 256 colours by their red, green and blue.
use Rattle.std.specs.Prelude.{ℕ}
use Rattle.ansi_html.specs.declared.contrast.Rgb.{Rgb}
use Rattle.ansi_html.specs.Palette.{rgb_of}
use Rattle.xterm_palette.specs.Palette.{indexed}

-- As xterm shows them where it is told nothing else.
abbrev pub rgb_numbered : ℕ → Rgb
rgb_numbered n = rgb_of (indexed n)
