-- Which rows are kept of those that leave a screen: all, or none that ED and RIS take away with all of it.
--
-- Sources: xterm's manual page, `cdXtraScroll` (false: what ED erases is not saved); libvterm's `vterm.h`, `sb_pushline`,
-- which is called where lines scroll.
use Rattle.std.specs.Prelude.{Bool, false, not, ◌||◌, ◌&&◌, ◌==◌, List, [], ◌∷◌, ◌++◌, length, if◌then◌else◌}
use Rattle.anstyle_parse.specs.Stream.Call.{Call, csi_dispatch, esc_dispatch}
use Rattle.ansi_screen.specs.declared.cell.Cell.{Cell}
use Rattle.ansi_screen.specs.After.{State, after}
use Rattle.ansi_screen.specs.Leaving.{with_kept, rows_left}

-- ED and RIS, CSI J and ESC c: by them alone rows leave that do not scroll
abbrev pub is_erasing : Call → Bool
is_erasing (csi_dispatch groups marks ignore final) = length marks == 0 && final == 0x4A
is_erasing (esc_dispatch marks ignore final) = length marks == 0 && final == 0x63
is_erasing call = false

-- whether the rows that leave by a call are kept
abbrev pub is_kept : (keeps_erased : Bool) → Call → Bool
is_kept keeps_erased call = not (is_erasing call) || keeps_erased

-- the rows that leave and are kept, by a call, and by a list of calls, in order
abbrev pub rows_kept : (keeps_erased : Bool) → Call → State → List (List Cell)
rows_kept keeps_erased call s = if is_kept keeps_erased call then rows_left call s else []

abbrev pub all_kept : (keeps_erased : Bool) → List Call → State → List (List Cell)
all_kept keeps_erased [] s = []
all_kept keeps_erased (call ∷ calls) s = rows_kept keeps_erased call s ++ all_kept keeps_erased calls (after call s)

-- The screen after a call: where the rows that leave are not kept, what is kept stays.
abbrev pub screen_after : (keeps_erased : Bool) → Call → State → State
screen_after keeps_erased call s =
    if is_kept keeps_erased call then after call s else with_kept s.history (after call s)
