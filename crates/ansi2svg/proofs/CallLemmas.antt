-- A screen with its links goes by calls as each goes by itself.
use Rattle.std.proofs.Common.{◌≡◌, ℕ, Bool, true, false, ◌&&◌, ◌==◌, List, [], ◌∷◌, ◌++◌, refl, sym, ap, ◌∙◌}
use Rattle.std.specs.Prelude.{if◌then◌else◌}
use Rattle.anstyle_parse.specs.Stream.Call.{Call, print, execute, hook, put, unhook, osc_dispatch, csi_dispatch, esc_dispatch}
use Rattle.ansi_screen.specs.After.{State, after, after_all}
use Rattle.ansi_screen.specs.Laws.{carriage_return, line_feed}
use Rattle.ansi_screen.specs.TextsProof.{after_all-append}
use Rattle.screen_html.specs.Links.{Table}
use Rattle.screen_html.specs.Page.{links_by, all_links}
use Rattle.ansi2svg.specs.declared.picture.Linked.{Linked}
use Rattle.ansi2svg.specs.Picture.{given, given_all, linked_after}
use Rattle.ansi2svg.specs.PictureProof.{linked_after_all}

pub screen-led : (calls : List Call) (linked : Linked)
    → (linked_after_all calls linked).screen ≡ after_all (given_all linked.is_all calls) linked.screen
screen-led [] linked = refl
screen-led (call ∷ calls) linked =
    screen-led calls (linked_after call linked)
    ∙ sym (after_all-append (given linked.is_all call) (given_all linked.is_all calls) linked.screen)

-- of what is given of a call, a command alone begins links
links-given : (is_all : Bool) (call : Call) (s : State) (links : Table)
    → links_by call (after_all (given is_all call) s) links ≡ all_links (given is_all call) s links
links-given is_all (print c) s links = refl
links-given is_all (execute byte) s links = by_case (is_all && byte == 0x0A)
  where
    by_case : (feeds : Bool) → links ≡ all_links (if feeds then carriage_return ∷ line_feed ∷ [] else execute byte ∷ []) s links
    by_case true = refl
    by_case false = refl
links-given is_all (hook params intermediates ignore action) s links = refl
links-given is_all (put byte) s links = refl
links-given is_all unhook s links = refl
links-given is_all (osc_dispatch parts bell_terminated) s links = refl
links-given is_all (csi_dispatch params intermediates ignore action) s links = refl
links-given is_all (esc_dispatch intermediates ignore byte) s links = refl

all_links-append : (first second : List Call) (s : State) (links : Table)
    → all_links (first ++ second) s links ≡ all_links second (after_all first s) (all_links first s links)
all_links-append [] second s links = refl
all_links-append (call ∷ calls) second s links = all_links-append calls second (after call s) (links_by call (after call s) links)

pub links-led : (calls : List Call) (linked : Linked)
    → (linked_after_all calls linked).links ≡ all_links (given_all linked.is_all calls) linked.screen linked.links
links-led [] linked = refl
links-led (call ∷ calls) linked =
    let first = given linked.is_all call in
    let second = given_all linked.is_all calls in
    links-led calls (linked_after call linked)
    ∙ ap (λ (links : Table). all_links second (after_all first linked.screen) links) (links-given linked.is_all call linked.screen linked.links)
    ∙ sym (all_links-append first second linked.screen linked.links)

pub is_all-led : (calls : List Call) (linked : Linked) → (linked_after_all calls linked).is_all ≡ linked.is_all
is_all-led [] linked = refl
is_all-led (call ∷ calls) linked = is_all-led calls (linked_after call linked)
