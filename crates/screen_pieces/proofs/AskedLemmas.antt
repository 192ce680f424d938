-- What is asked for goes on by a piece, and by what is told it stays.
use Rattle.std.proofs.Common.{◌≡◌, ℕ, List, [], ◌∷◌, ◌++◌, refl, sym, ap, ◌∙◌, subst}
use Rattle.anstyle_parse.specs.Stream.Call.{Call}
use Rattle.anstyle_parse.specs.Stream.Calls.{Continues}
use Rattle.anstyle_parse.specs.Views.Accumulator.{front_of}
use Rattle.anstyle_parse.specs.Views.Parser.{IsAfter}
use Rattle.ansi_modes.specs.declared.asked.Asked.{Asked}
use Rattle.ansi_modes.specs.Asked.{nothing_asked, asked_after_all}
use Rattle.ansi_modes.specs.AskedProof.{after_all-append}
use Rattle.ansi_modes.specs.Laws.{untold}
use Rattle.ansi_modes.proofs.ToldLemmas.{told-apart-all}
use Rattle.ansi_answers.specs.declared.color.Theme.{Theme}
use Rattle.ansi_answers.specs.declared.request.Request.{Request}
use Rattle.ansi_answers.specs.declared.request.Request.TheVariants.{Nothing}
use Rattle.ansi_answers.specs.Commands.{no_theme}
use Rattle.ansi_answers.specs.Laws.{request_after, request_after_all}
use Rattle.ansi_answers.specs.Waiting.{nothing_waits}
use Rattle.screen_answers.specs.declared.answering.Answering.{Answering}
use Rattle.ansi_screen.specs.After.{State, Shows}
use Rattle.ansi_screen.specs.Laws.{with_shown}
use Rattle.ansi_screen.specs.Leaving.{unkept}
use Rattle.screen_pieces.specs.declared.terminal.Terminal.{Terminal}
use Rattle.screen_pieces.specs.Terminal.{KeepsLinks, HasAsked, HasRequest, StandsAfter, Tells, TakesAnswers, HasTheme}
use Rattle.screen_pieces.proofs.CopyLemmas.{kept-stands}

pub asks-more : (before more : List ℕ) (made : List Call) (old new : Asked) → Continues before more made → new ≡ asked_after_all made old
    → HasAsked before old → HasAsked (before ++ more) new
asks-more before more made old new continues becomes (calls, are, has) = (
  calls ++ made,
  continues calls are,
  ap untold becomes
      ∙ (told-apart-all made old (asked_after_all calls nothing_asked) has ∙ ap untold (sym (after_all-append calls made nothing_asked))),
)

requests-append : (calls more : List Call) (r : Request) → request_after_all (calls ++ more) r ≡ request_after_all more (request_after_all calls r)
requests-append [] more r = refl
requests-append (call ∷ calls) more r = requests-append calls more (request_after call r)

pub requests-more : (before more : List ℕ) (made : List Call) (old new : Request) → Continues before more made → new ≡ request_after_all made old
    → HasRequest before old → HasRequest (before ++ more) new
requests-more before more made old new continues becomes (calls, are, has) =
    (calls ++ made, continues calls are, becomes ∙ ap (request_after_all made) has ∙ sym (requests-append calls made Nothing))

pub told-stands : (first : State) (bytes : List ℕ) (old new : Terminal) → Tells old new → StandsAfter first bytes old → StandsAfter first bytes new
told-stands first bytes old new tells stands = record {
  shows = subst (λ (s : State). Shows (with_shown s.shown (unkept first)) bytes (unkept s)) (sym tells.screen) stands.shows;
  parser = subst (λ p. IsAfter front_of p bytes) (sym tells.parser) stands.parser;
  history = kept-stands first bytes old new tells.keeps_erased (ap (λ (s : State). s.history) tells.screen) stands.history;
  links = subst (KeepsLinks first bytes) (sym tells.links) stands.links;
  asked = subst (HasAsked bytes) (sym tells.asked) stands.asked;
  request = subst (HasRequest bytes) (sym tells.request) stands.request;
}

-- So it does where answers that wait and the terminal's own colours alone may change.
abbrev stilled : Answering → Answering
stilled t = record t { waiting = nothing_waits; theme = no_theme }

still-stands : (first : State) (bytes : List ℕ) (old new : Terminal) → new.parser ≡ old.parser → stilled new.answering ≡ stilled old.answering
    → StandsAfter first bytes old → StandsAfter first bytes new
still-stands first bytes old new parser same stands = record {
  shows = subst (λ (s : State). Shows (with_shown s.shown (unkept first)) bytes (unkept s)) (sym (ap (λ (t : Answering). t.screen) same)) stands.shows;
  parser = subst (λ p. IsAfter front_of p bytes) (sym parser) stands.parser;
  history = kept-stands first bytes old new (ap (λ (t : Answering). t.keeps_erased) same) (ap (λ (t : Answering). t.screen.history) same) stands.history;
  links = subst (KeepsLinks first bytes) (sym (ap (λ (t : Answering). t.links) same)) stands.links;
  asked = subst (HasAsked bytes) (sym (ap (λ (t : Answering). t.asked) same)) stands.asked;
  request = subst (HasRequest bytes) (sym (ap (λ (t : Answering). t.request) same)) stands.request;
}

pub taken-stands : (first : State) (bytes : List ℕ) (old new : Terminal) → TakesAnswers old new → StandsAfter first bytes old
    → StandsAfter first bytes new
taken-stands first bytes old new takes stands = still-stands first bytes old new takes.parser (ap stilled takes.answering) stands

pub themed-stands : (first : State) (bytes : List ℕ) (theme : Theme) (old new : Terminal) → HasTheme theme old new → StandsAfter first bytes old
    → StandsAfter first bytes new
themed-stands first bytes theme old new has stands = still-stands first bytes old new has.parser (ap stilled has.answering) stands
