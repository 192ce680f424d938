-- What was shown of a screen, and what it keeps of rows that left, decide nothing of the links that begin.
use Rattle.std.proofs.Common.{◌≡◌, List, [], ◌∷◌, refl, ap, ◌∙◌}
use Rattle.std.specs.Prelude.{Option}
use Rattle.anstyle_parse.specs.Stream.Call.{Call, print, execute, hook, put, unhook, osc_dispatch, csi_dispatch, esc_dispatch}
use Rattle.ansi_screen.specs.Display.{Picture}
use Rattle.ansi_screen.specs.After.{State, after}
use Rattle.ansi_screen.specs.History.{Kept, with_left}
use Rattle.ansi_screen.specs.Leaving.{with_kept, rows_left}
use Rattle.screen_html.specs.Links.{Table}
use Rattle.screen_html.specs.Page.{links_by, all_links}

pub links_by-beside : (p : Picture) (history : Option Kept) (call : Call) (s : State) (links : Table)
    → links_by call (record s { shown = p; history = history }) links ≡ links_by call s links
links_by-beside p history (print c) s links = refl
links_by-beside p history (execute byte) s links = refl
links_by-beside p history (hook groups intermediates ignore final) s links = refl
links_by-beside p history (put byte) s links = refl
links_by-beside p history unhook s links = refl
links_by-beside p history (osc_dispatch parts bell) s links = refl
links_by-beside p history (csi_dispatch groups intermediates ignore final) s links = refl
links_by-beside p history (esc_dispatch intermediates ignore final) s links = refl

pub all_links-beside : (p : Picture) (history : Option Kept) (calls : List Call) (s : State) (links : Table)
    → all_links calls (record s { shown = p; history = history }) links ≡ all_links calls s links
all_links-beside p history [] s links = refl
all_links-beside p history (call ∷ calls) s links =
    let after_it : Option Kept = with_left (rows_left call s) history in
    all_links-beside p after_it calls (after call s) (links_by call (record (after call s) { shown = p; history = after_it }) links)
    ∙ ap (all_links calls (after call s)) (links_by-beside p after_it call (after call s) links)

-- Whatever is kept, the same links begin.
pub links_by-kept : (history : Option Kept) (call : Call) (s : State) (links : Table) → links_by call (with_kept history s) links ≡ links_by call s links
links_by-kept history call s links = links_by-beside s.shown history call s links

pub all_links-kept : (history : Option Kept) (calls : List Call) (s : State) (links : Table)
    → all_links calls (with_kept history s) links ≡ all_links calls s links
all_links-kept history calls s links = all_links-beside s.shown history calls s links
