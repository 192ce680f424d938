-- What becomes of a log, where there was memory and where there was none.
use Rattle.std.proofs.Common.{◌≡◌, ◌++◌, ℕ, List, [], Bool, true, false, Option, None, Some, inl, inr, refl, sym, ap, ◌∙◌, subst, append-nil, append_assoc}
use Rattle.std.specs.Prelude.{◌⊎◌, IfSome, if◌then◌else◌}
use Rattle.std.specs.declared.alloc.Global.{Global}
use Rattle.std.specs.declared.vec.Vec.{Vec}
use Rattle.anstyle_parse.specs.declared.io.devices.Sink.{Ghosts as SinkOf}
use Rattle.screen_text.specs.declared.recording.ShownSize.{ShownSize}
use Rattle.ansi_screen.specs.After.{State}
use Rattle.screen_text.specs.Recording.{is_decided, screen_for}
use Rattle.shown_pieces.specs.declared.how.Form.{Form}
use Rattle.shown_pieces.specs.declared.how.How.{How}
use Rattle.shown_pieces.specs.declared.running.Running.{Running}
use Rattle.shown_pieces.specs.declared.stage.Stage.{Stage}
use Rattle.shown_pieces.specs.declared.stage.Stage.TheVariants.{Held, Showing, Ended, Failed}
use Rattle.shown_pieces.specs.Running.{Memory, IsShowing}
use Rattle.shown_pieces.specs.Shown.{converted, rows_as, goes_further, IsTextOf, IsShownByRows, IsShown}
use Rattle.shown_pieces.specs.Stages.{size_of_rows, showing_or_failed, ended_or_failed, text_at, has_text, is_over, HasComeAt}

-- What a screen showed, row by row or converted further, is what is written of the log.
rows-where : (size shown : ShownSize) (how : How) (bytes written : List ℕ) → (goes : Bool) → goes_further how ≡ goes → (if goes then None else Some size) ≡ Some shown
    → IsShownByRows shown how.form bytes written → IsShown (Some size) how bytes written
rows-where size shown how bytes written true goes is shows = absurd (let clash : None ≡ Some shown = is in cc)
rows-where size shown how bytes written false goes is (calls, are, whole) =
    let same : size ≡ shown = let e : Some size ≡ Some shown = is in cc in (
      calls,
      are,
      whole
          ∙ ap (λ (s : ShownSize). rows_as how.form (screen_for s bytes) calls) (sym same)
          ∙ ap (λ t. if t then converted how (Some (screen_for size bytes)) calls else rows_as how.form (screen_for size bytes) calls) (sym goes),
    )

pub rows-shown : (size : Option ShownSize) (shown : ShownSize) (how : How) (bytes written : List ℕ) → size_of_rows size how ≡ Some shown
    → IsShownByRows shown how.form bytes written → IsShown size how bytes written
rows-shown None shown how bytes written is shows = absurd (let clash : None ≡ Some shown = is in cc)
rows-shown (Some size) shown how bytes written is shows = rows-where size shown how bytes written (goes_further how) refl is shows

pub further-shown : (size : ShownSize) (how : How) (bytes written : List ℕ) → goes_further how ≡ true
    → IsTextOf (converted how (Some (screen_for size bytes))) bytes written → IsShown (Some size) how bytes written
further-shown size how bytes written goes (calls, are, whole) = (
  calls,
  are,
  whole ∙ ap (λ t. if t then converted how (Some (screen_for size bytes)) calls else rows_as how.form (screen_for size bytes) calls) (sym goes),
)

module _ (sink : SinkOf Memory) (size : Option ShownSize) (how : How) where
  -- the next bytes of a log that a screen follows, and of one of which bytes are held
  pub showing-on : (piece : List ℕ) (old : Stage) (running : Running) (after : Option Running) (stage : Stage) → old ≡ Showing running → stage ≡ showing_or_failed after
      → IfSome after (λ next. (its_size : ShownSize) (its_form : Form) (whole before : List ℕ) → IsShowing sink its_size its_form whole before running
      → IsShowing sink its_size its_form whole (before ++ piece) next)
      → is_over stage ≡ false → (before : List ℕ) → HasComeAt sink size how before old → HasComeAt sink size how (before ++ piece) stage
  showing-on piece old running None stage was is takes going before come = absurd (let clash : true ≡ false = sym (ap is_over is) ∙ going in cc)
  showing-on piece old running (Some next) stage was is takes going before come =
      let it = subst (λ (s : Stage). HasComeAt sink size how before s) was come in
      subst (λ (s : Stage). HasComeAt sink size how (before ++ piece) s) (sym is) (λ rest.
      let (shown, rows, showing) = it (piece ++ rest) in (
        shown,
        rows,
        subst (λ whole. IsShowing sink shown how.form whole (before ++ piece) next) (sym (append_assoc before piece rest))
            (takes shown how.form (before ++ (piece ++ rest)) before showing),
      ))

  pub held-on : (piece : List ℕ) (old : Stage) (front : Vec ℕ Global) (stage : Stage) → old ≡ Held front
      → (is_over stage ≡ false → HasComeAt sink size how (front.items ++ piece) stage)
      → is_over stage ≡ false → (before : List ℕ) → HasComeAt sink size how before old → HasComeAt sink size how (before ++ piece) stage
  held-on piece old front stage was comes going before come =
      let it = subst (λ (s : Stage). HasComeAt sink size how before s) was come in
      subst (λ bytes. HasComeAt sink size how (bytes ++ piece) stage) (it []) (comes going)

  -- a screen that has taken the bytes by which its size was decided
  pub begun-on : (bytes front : List ℕ) (shown : ShownSize) (after : Option Running) (stage : Stage) → stage ≡ showing_or_failed after → front ≡ bytes
      → size_of_rows size how ≡ Some shown → is_decided shown front ≡ true
      → IfSome after (λ running. (rest : List ℕ) → (is_decided shown front ≡ true) ⊎ (rest ≡ []) → IsShowing sink shown how.form (front ++ rest) front running)
      → is_over stage ≡ false → HasComeAt sink size how bytes stage
  begun-on bytes front shown None stage is same rows decided begins going = absurd (let clash : true ≡ false = sym (ap is_over is) ∙ going in cc)
  begun-on bytes front shown (Some running) stage is same rows decided begins going =
      subst (λ (s : Stage). HasComeAt sink size how bytes s) (sym is) (λ rest. (
        shown,
        rows,
        subst (λ l. IsShowing sink shown how.form (l ++ rest) l running) same (begins rest (inl decided)),
      ))

  -- the end of the one, and of the other
  pub showing-ended : (bytes : List ℕ) (old : Stage) (running : Running) (found : Option (Vec ℕ Global)) (stage : Stage) → old ≡ Showing running → stage ≡ ended_or_failed found
      → IfSome found (λ text. (its_size : ShownSize) (its_form : Form) (all : List ℕ) → IsShowing sink its_size its_form all all running
      → IsShownByRows its_size its_form all text.items)
      → has_text stage ≡ true → HasComeAt sink size how bytes old → IsShown size how bytes (text_at stage)
  showing-ended bytes old running None stage was is shows has come = absurd (let clash : false ≡ true = sym (ap has_text is) ∙ has in cc)
  showing-ended bytes old running (Some text) stage was is shows has come =
      let (shown, rows, showing) = subst (λ (s : Stage). HasComeAt sink size how bytes s) was come [] in
      subst (λ (s : Stage). IsShown size how bytes (text_at s)) (sym is)
      (rows-shown size shown how bytes text.items rows
      (shows shown how.form bytes (subst (λ whole. IsShowing sink shown how.form whole bytes running) (append-nil bytes) showing)))

  pub held-ended : (bytes front : List ℕ) (old : Stage) (held : Vec ℕ Global) (found : Option (Vec ℕ Global)) (stage : Stage)
      → old ≡ Held held → front ≡ held.items → stage ≡ ended_or_failed found → IfSome found (λ written. IsShown size how front written.items)
      → has_text stage ≡ true → HasComeAt sink size how bytes old → IsShown size how bytes (text_at stage)
  held-ended bytes front old held None stage was same is shows has come = absurd (let clash : false ≡ true = sym (ap has_text is) ∙ has in cc)
  held-ended bytes front old held (Some written) stage was same is shows has come =
      let it = subst (λ (s : Stage). HasComeAt sink size how bytes s) was come in
      subst (λ (s : Stage). IsShown size how bytes (text_at s)) (sym is)
      (subst (λ all. IsShown size how all written.items) (same ∙ it []) shows)

-- what a screen showed that has taken all of a log
pub rows-whole : (sink : SinkOf Memory) (size : ShownSize) (form : Form) (log : List ℕ) (running : Running) (found : Option (Vec ℕ Global))
    → ((rest : List ℕ) → (is_decided size log ≡ true) ⊎ (rest ≡ []) → IsShowing sink size form (log ++ rest) log running)
    → IfSome found (λ text. (its_size : ShownSize) (its_form : Form) (all : List ℕ) → IsShowing sink its_size its_form all all running
    → IsShownByRows its_size its_form all text.items)
    → IfSome found (λ text. IsShownByRows size form log text.items)
rows-whole sink size form log running None begins shows = tt
rows-whole sink size form log running (Some text) begins shows =
    shows size form log (subst (λ whole. IsShowing sink size form whole log running) (append-nil log) (begins [] (inr refl)))

-- where bytes come after those that are held
pub extended-come : (sink : SinkOf Memory) (size : Option ShownSize) (how : How) (bytes both : List ℕ) (stage : Stage) → both ≡ bytes
    → (is_over stage ≡ false → HasComeAt sink size how both stage) → is_over stage ≡ false → HasComeAt sink size how bytes stage
extended-come sink size how bytes both stage same come going = subst (λ l. HasComeAt sink size how l stage) same (come going)
