-- The text that is held back.
use Rattle.std.specs.Prelude.{ℕ, List, take}
use Rattle.html_urls.specs.declared.held.Held.{Held}

abbrev pub held_in : Held → List ℕ
held_in held = take held.count held.room
