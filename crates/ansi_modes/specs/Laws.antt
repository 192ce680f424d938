-- What laws speak of.
use Rattle.std.specs.Prelude.{◌≡◌, ℕ, false, List, [], ◌∷◌}
use Rattle.anstyle_parse.specs.Stream.Call.{Call, csi_dispatch, esc_dispatch}
use Rattle.anstyle_parse.specs.Stream.Calls.{AreCalls}
use Rattle.ansi_modes.specs.declared.asked.Asked.{Asked}
use Rattle.ansi_modes.specs.Asked.{asked_after_all}
use Rattle.ansi_modes.specs.Changes.{no_changes}

-- from what was asked for before, bytes lead by their calls to what is asked for then
abbrev pub Asks : Asked → List ℕ → Asked → Type 0
Asks old bytes new = (calls : List Call) × AreCalls bytes calls × (new ≡ asked_after_all calls old)

-- the same, of which nothing is told
abbrev pub untold : Asked → Asked
untold a = record a { changes = no_changes }

-- RIS, ESC c
abbrev pub reset : Call
reset = esc_dispatch [] false 0x63

-- DECSTR, CSI ! p
abbrev pub soft_reset : Call
soft_reset = csi_dispatch ((0 ∷ []) ∷ []) (0x21 ∷ []) false 0x70

-- what RIS leaves is the same of both
pub record IsLeft (a b : Asked) : Type 0 where
  pub titles : a.titles ≡ b.titles
  pub saved_titles : a.saved_titles ≡ b.saved_titles
  pub folder : a.folder ≡ b.folder
  pub bells : a.bells ≡ b.bells
  pub alternate_scroll : a.modes.alternate_scroll ≡ b.modes.alternate_scroll
  pub changes : a.changes ≡ b.changes
  pub foreground : a.colors.foreground ≡ b.colors.foreground
  pub background : a.colors.background ≡ b.colors.background
  pub cursor : a.colors.cursor ≡ b.colors.cursor
