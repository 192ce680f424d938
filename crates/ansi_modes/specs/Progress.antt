-- How far a program says that it is: OSC 9 ; 4 ; STATE ; PERCENT.
--
-- Source: the ConEmu documentation, "ANSI X3.64 and Xterm 256 colors", "ConEmu specific OSC", `ESC ] 9 ; 4 ; st ; pr ST`;
-- Microsoft's "Windows Terminal, progress bar sequences" has the same.
use Rattle.std.specs.Prelude.{ℕ, min, Option, None, Some, ◌==◌, List, [], ◌∷◌}
use Rattle.std.specs.Map.{lookup}
use Rattle.std.specs.Option.{unwrap_or}
use Rattle.ansi_modes.specs.declared.progress.ProgressState.{ProgressState}
use Rattle.ansi_modes.specs.declared.progress.ProgressState.TheVariants.{Hidden, Normal, Failed, Unknown, Paused}
use Rattle.ansi_modes.specs.declared.progress.Progress.{Progress}

abbrev pub no_progress : Progress
no_progress = record { state = Hidden; percent = 0 }

abbrev pub progress_states : List (ℕ × ProgressState)
progress_states = (0, Hidden) ∷ (1, Normal) ∷ (2, Failed) ∷ (3, Unknown) ∷ (4, Paused) ∷ []

unfoldable pub progress_state_of : ℕ → Option ProgressState
progress_state_of number = lookup (λ known. number == known) progress_states

-- The percentage in a state: none where nothing is shown; where the state needs none, the one before stays if none is
-- given. A number above 100 is 100.
unfoldable pub percent_in : ProgressState → (given : Option ℕ) → (old : ℕ) → ℕ
percent_in Hidden given old = 0
percent_in Normal given old = min 100 (unwrap_or given 0)
percent_in Failed given old = min 100 (unwrap_or given old)
percent_in Unknown given old = old
percent_in Paused given old = min 100 (unwrap_or given old)

abbrev pub in_state : ProgressState → (given : Option ℕ) → Progress → Progress
in_state state given p = record { state = state; percent = percent_in state given p.percent }

abbrev pub state_by : Option ℕ → Option ProgressState
state_by None = None
state_by (Some number) = progress_state_of number
