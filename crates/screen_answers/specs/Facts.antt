-- What is read of a screen to answer, with rows and columns from 1 on.
use Rattle.std.specs.Prelude.{◌+◌, min}
use Rattle.ansi_screen.specs.After.{State}
use Rattle.ansi_answers.specs.declared.facts.Facts.{Facts}

-- where a wrap is pending, the cursor is in the last column
abbrev pub facts_of : State → Facts
facts_of s = record {
  rows = s.display.height;
  columns = s.display.width;
  row = s.display.cursor.row + 1;
  column = min (s.display.cursor.column + 1) s.display.width;
  top = s.display.top + 1;
  bottom = s.display.bottom;
  is_relative = s.display.cursor.is_relative;
  wraps = s.display.wraps;
  inserts = s.display.inserts;
  is_visible = s.display.is_visible;
  style = s.display.cursor.style;
}
