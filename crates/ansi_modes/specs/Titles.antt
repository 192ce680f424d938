-- The titles of a window and of its icon, and the stack of them.
--
-- Sources: xterm's ctlseqs, "Functions using CSI", XTWINOPS 22 and 23. What is saved of the title that is not asked for,
-- and that 23 takes a pair off whatever it restores: xterm 379, by what it reports after 20 and 21. ctlseqs says of no
-- depth; kitty keeps ten.
use Rattle.std.specs.Prelude.{ℕ, ◌-◌, Bool, ◌||◌, ◌==◌, Option, None, Some, List, [], ◌∷◌, ◌++◌, length, take, drop, slice_get, if◌then◌else◌}
use Rattle.std.specs.Option.{unwrap_or}
use Rattle.ansi_modes.specs.declared.titles.Titles.{Titles}

abbrev pub no_titles : Titles
no_titles = record { window = []; icon = [] }

-- both are this one
abbrev pub both_titles : List ℕ → Titles
both_titles text = record { window = text; icon = text }

abbrev pub max_saved : ℕ
max_saved = 10

-- which titles are meant: 0 both, 1 that of the icon, 2 that of the window
abbrev pub is_of_window : ℕ → Bool
is_of_window kind = kind == 0 || kind == 2

abbrev pub is_of_icon : ℕ → Bool
is_of_icon kind = kind == 0 || kind == 1

-- those of `new` that are meant, and else those of `old`
unfoldable pub chosen : (kind : ℕ) (new old : Titles) → Titles
chosen kind new old = record {
  window = if is_of_window kind then new.window else old.window;
  icon = if is_of_icon kind then new.icon else old.icon;
}

-- the pair that was saved last
abbrev pub last_saved : List Titles → Option Titles
last_saved saved = slice_get saved (length saved - 1)

-- CSI 22 ; KIND t: a title that is not meant is saved as it was saved before; where ten are, the oldest go
unfoldable pub saving : (kind : ℕ) → Titles → List Titles → List Titles
saving kind titles saved =
    (if length saved == max_saved then drop 1 saved else saved)
    ++ chosen kind titles (unwrap_or (last_saved saved) titles) ∷ []

-- CSI 23 ; KIND t: the pair that was saved last leaves the stack, and what is meant of it comes back
abbrev pub unsaved : List Titles → List Titles
unsaved saved = take (length saved - 1) saved

abbrev pub with_pair : (kind : ℕ) → Option Titles → Titles → Titles
with_pair kind None titles = titles
with_pair kind (Some pair) titles = chosen kind pair titles

abbrev pub restored : (kind : ℕ) → Titles → List Titles → Titles
restored kind titles saved = with_pair kind (last_saved saved) titles
