-- What is kept does not hang on the picture since which a screen notes what changes, nor on what was kept before; and a copy
-- stands where the screen stands.
use Rattle.std.proofs.Common.{◌≡◌, ℕ, Bool, List, refl, sym, ap, ◌∙◌, subst}
use Rattle.std.specs.Prelude.{Option, None}
use Rattle.anstyle_parse.specs.Stream.Call.{Call}
use Rattle.anstyle_parse.specs.Views.Accumulator.{front_of}
use Rattle.anstyle_parse.specs.Views.Parser.{IsAfter}
use Rattle.ansi_screen.specs.Display.{Picture}
use Rattle.ansi_screen.specs.After.{State, after_all}
use Rattle.ansi_screen.specs.Laws.{with_shown}
use Rattle.ansi_screen.specs.Leaving.{unkept}
use Rattle.ansi_screen.proofs.LeftLemmas.{same-after_all, unkept-after_all}
use Rattle.screen_html.specs.Links.{Table}
use Rattle.screen_html.specs.Page.{all_links}
use Rattle.screen_answers.specs.Kept.{all_kept}
use Rattle.screen_answers.proofs.KeptLemmas.{all_kept-with, all_kept-since}
use Rattle.screen_answers.proofs.LinkLemmas.{all_links-beside}
use Rattle.screen_pieces.specs.declared.terminal.Terminal.{Terminal}
use Rattle.screen_pieces.specs.History.{KeepsLeft}
use Rattle.screen_pieces.specs.Terminal.{screen_of, keeps_erased_of, KeepsLinks, HasAsked, HasRequest, StandsAfter, IsCopy}

-- The same rows are kept, and the same links begin, by calls after which a screen stands, whatever was shown and is kept.
pub kept-led : (keeps : Bool) (since : Picture) (calls made : List Call) (first screen : State) → unkept screen ≡ after_all calls (with_shown since (unkept first))
    → all_kept keeps made screen ≡ all_kept keeps made (after_all calls first)
kept-led keeps since calls made first screen led =
    sym (all_kept-with keeps None made screen)
    ∙ (ap (all_kept keeps made) (led ∙ (same-after_all since calls (unkept first) ∙ ap (with_shown since) (unkept-after_all calls first)))
    ∙ (all_kept-since keeps since made (unkept (after_all calls first)) ∙ all_kept-with keeps None made (after_all calls first)))

pub links-led : (since : Picture) (calls made : List Call) (first screen : State) (links : Table)
    → unkept screen ≡ after_all calls (with_shown since (unkept first))
    → all_links made screen links ≡ all_links made (after_all calls first) links
links-led since calls made first screen links led =
    sym (all_links-beside screen.shown None made screen links)
    ∙ (ap (λ (s : State). all_links made s links) (led ∙ (same-after_all since calls (unkept first) ∙ ap (with_shown since) (unkept-after_all calls first)))
    ∙ all_links-beside since None made (after_all calls first) links)

-- What it keeps are the same rows, where as much is kept.
pub kept-stands : (first : State) (bytes : List ℕ) (old new : Terminal) → keeps_erased_of new ≡ keeps_erased_of old
    → (screen_of new).history ≡ (screen_of old).history → KeepsLeft (keeps_erased_of old) first bytes (screen_of old).history
    → KeepsLeft (keeps_erased_of new) first bytes (screen_of new).history
kept-stands first bytes old new keeps history kept =
    subst (λ k. KeepsLeft k first bytes (screen_of new).history) (sym keeps) (subst (KeepsLeft (keeps_erased_of old) first bytes) (sym history) kept)

pub copy-stands : (first : State) (bytes : List ℕ) (terminal copy : Terminal) → IsCopy terminal copy → StandsAfter first bytes terminal
    → StandsAfter first bytes copy
copy-stands first bytes terminal copy is stands =
    let q : Picture = (screen_of copy).shown in
    let old : State = with_shown (screen_of terminal).shown (unkept first) in
    let same : unkept (screen_of copy) ≡ with_shown q (unkept (screen_of terminal)) =
    ap unkept is.screen ∙ ap (λ (s : State). with_shown s.shown (unkept (screen_of terminal))) (sym is.screen) in
    let (calls, are, led) = stands.shows in
    record {
      shows = (calls, are, same ∙ (ap (with_shown q) led ∙ sym (same-after_all q calls old)));
      parser = subst (λ p. IsAfter front_of p bytes) (sym is.parser) stands.parser;
      history = kept-stands first bytes terminal copy is.keeps_erased (ap (λ (s : State). s.history) is.screen) stands.history;
      links = subst (KeepsLinks first bytes) (sym is.links) stands.links;
      asked = subst (HasAsked bytes) (sym is.asked) stands.asked;
      request = subst (HasRequest bytes) (sym is.request) stands.request;
    }
