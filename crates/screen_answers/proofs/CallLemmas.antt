-- It goes by calls to what the definition says of them.
use Rattle.std.proofs.Common.{◌≡◌, Bool, List, [], ◌∷◌, refl, ap, ◌∙◌}
use Rattle.std.specs.Prelude.{Option}
use Rattle.anstyle_parse.specs.Stream.Call.{Call, Goes}
use Rattle.ansi_screen.specs.After.{State, after}
use Rattle.ansi_screen.specs.History.{Kept, with_left}
use Rattle.ansi_screen.specs.Leaving.{with_kept}
use Rattle.screen_html.specs.Links.{Table}
use Rattle.screen_html.specs.Page.{links_by, all_links}
use Rattle.screen_answers.specs.declared.answering.Answering.{Answering}
use Rattle.screen_answers.specs.Answering.{answering_after, answering_after_all}
use Rattle.screen_answers.specs.Kept.{rows_kept, screen_after}
use Rattle.screen_answers.specs.Laws.{GoByThemselves}
use Rattle.screen_answers.proofs.KeptLemmas.{by-call, by-more}
use Rattle.screen_answers.proofs.LinkLemmas.{links_by-kept, all_links-kept}

pub after_all-goes : (calls : List Call) (old new : Answering) → Goes (λ (t : Answering) (call : Call) (u : Answering). u ≡ answering_after call t) old calls new
    → new ≡ answering_after_all calls old
after_all-goes [] old new same = same
after_all-goes (call ∷ calls) old new (mid, first, others) = after_all-goes calls mid new others ∙ ap (answering_after_all calls) first

-- each part goes by itself
links-more : (keeps : Bool) (call : Call) (calls : List Call) (s : State) (links : Table)
    → all_links calls (screen_after keeps call s) (links_by call (screen_after keeps call s) links) ≡ all_links (call ∷ calls) s links
links-more keeps call calls s links =
    let m : State = after call s in
    let h : Option Kept = with_left (rows_kept keeps call s) s.history in
    ap (λ (e : State). all_links calls e (links_by call e links)) (by-call keeps call s)
    ∙ (all_links-kept h calls m (links_by call (with_kept h m) links)
    ∙ ap (all_links calls m) (links_by-kept h call m links))

led : (calls : List Call) (t : Answering) → GoByThemselves calls t (answering_after_all calls t)
led [] t = record {
  screen = refl;
  links = refl;
  asked = refl;
  request = refl;
  theme = refl;
  keeps_erased = refl;
}
led (call ∷ calls) t =
    let then = led calls (answering_after call t) in record {
      screen = then.screen ∙ by-more t.keeps_erased call calls t.screen;
      links = then.links ∙ links-more t.keeps_erased call calls t.screen t.links;
      asked = then.asked;
      request = then.request;
      theme = then.theme;
      keeps_erased = then.keeps_erased;
    }

pub led-so : (calls : List Call) (old new : Answering) → new ≡ answering_after_all calls old → GoByThemselves calls old new
led-so calls old new is =
    let all = led calls old in record {
      screen = ap (λ (t : Answering). t.screen) is ∙ all.screen;
      links = ap (λ (t : Answering). t.links) is ∙ all.links;
      asked = ap (λ (t : Answering). t.asked) is ∙ all.asked;
      request = ap (λ (t : Answering). t.request) is ∙ all.request;
      theme = ap (λ (t : Answering). t.theme) is ∙ all.theme;
      keeps_erased = ap (λ (t : Answering). t.keeps_erased) is ∙ all.keeps_erased;
    }
