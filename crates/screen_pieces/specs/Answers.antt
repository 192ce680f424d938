-- The terminal's own colours in plain bytes.
use Rattle.std.specs.Prelude.{ℕ, ◌==◌, Option, None, Some, map, if◌then◌else◌}
use Rattle.ansi_modes.specs.declared.colors.Rgb.{Rgb}
use Rattle.ansi_answers.specs.declared.color.Theme.{Theme}
use Rattle.screen_pieces.specs.declared.answers.RgbBytes.{RgbBytes}
use Rattle.screen_pieces.specs.declared.answers.ThemeBytes.{ThemeBytes}

-- 0 tells none
abbrev pub color_told : RgbBytes → Option Rgb
color_told bytes =
    if bytes.is_told == 0 then None else Some (record { red = bytes.red; green = bytes.green; blue = bytes.blue })

abbrev pub theme_told : ThemeBytes → Theme
theme_told bytes = record {
  foreground = color_told bytes.foreground;
  background = color_told bytes.background;
  cursor = color_told bytes.cursor;
  palette = map color_told bytes.palette;
}
