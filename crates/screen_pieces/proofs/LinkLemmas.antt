-- Links that are kept after a piece more.
use Rattle.std.proofs.Common.{◌≡◌, ℕ, List, [], ◌∷◌, ◌++◌, refl, sym, ap, ◌∙◌}
use Rattle.anstyle_parse.specs.Stream.Call.{Call}
use Rattle.anstyle_parse.specs.Stream.Calls.{Continues}
use Rattle.anstyle_parse.proofs.Division.Only.{AreCalls-only}
use Rattle.ansi_screen.specs.Display.{Picture}
use Rattle.ansi_screen.specs.Laws.{with_shown}
use Rattle.ansi_screen.specs.Leaving.{unkept}
use Rattle.ansi_screen.specs.After.{State, Shows, after, after_all}
use Rattle.screen_html.specs.Links.{Table, no_links}
use Rattle.screen_html.specs.Page.{links_by, all_links}
use Rattle.screen_pieces.specs.Terminal.{KeepsLinks}
use Rattle.screen_pieces.proofs.CopyLemmas.{links-led}

all_links-append : (calls more : List Call) (s : State) (links : Table)
    → all_links (calls ++ more) s links ≡ all_links more (after_all calls s) (all_links calls s links)
all_links-append [] more s links = refl
all_links-append (call ∷ calls) more s links = all_links-append calls more (after call s) (links_by call (after call s) links)

pub links-more : (first screen : State) (since : Picture) (before more : List ℕ) (made : List Call) (old new : Table) → Continues before more made
    → Shows (with_shown since (unkept first)) before (unkept screen) → KeepsLinks first before old → new ≡ all_links made screen old
    → KeepsLinks first (before ++ more) new
links-more first screen since before more made old new continues shows kept led =
    let calls = kept.0 in
    let there : unkept screen ≡ after_all calls (with_shown since (unkept first)) =
    shows.2 ∙ ap (λ (l : List Call). after_all l (with_shown since (unkept first))) (AreCalls-only before shows.0 calls shows.1 kept.1) in (
      calls ++ made,
      continues calls kept.1,
      led ∙ (links-led since calls made first screen old there ∙ (ap (all_links made (after_all calls first)) kept.2 ∙ sym (all_links-append calls made first no_links))),
    )
