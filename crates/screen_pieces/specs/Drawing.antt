-- The bytes of a drawing, and of an update, as `screen_draw` has them.
use Rattle.std.specs.Prelude.{ℕ, List}
use Rattle.anstyle_parse.specs.Stream.Canon.{canon}
use Rattle.ansi_screen.specs.Display.{Display}
use Rattle.screen_draw.specs.Draw.{drawn_calls}
use Rattle.screen_draw.specs.Update.{update_calls}

abbrev pub drawing_of : Display → List ℕ
drawing_of d = canon (drawn_calls d)

abbrev pub update_of : (shown wanted : Display) → List ℕ
update_of shown wanted = canon (update_calls shown wanted)
