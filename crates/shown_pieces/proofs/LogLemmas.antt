-- What a call does that goes well.
use Rattle.std.proofs.Common.{◌≡◌, ◌++◌, ℕ, Bool, true, false, not, List, refl, sym, subst}
use Rattle.std.specs.Bool.{OnTrue}
use Rattle.anstyle_parse.specs.declared.io.devices.Sink.{Ghosts as SinkOf}
use Rattle.shown_pieces.specs.declared.log.ShownLog.{ShownLog}
use Rattle.shown_pieces.specs.declared.stage.Stage.{Stage}
use Rattle.shown_pieces.specs.Log.{text_of, IsOver, IsAlike, Feeds, Ends}
use Rattle.shown_pieces.specs.Running.{Memory}
use Rattle.shown_pieces.specs.Shown.{IsShown}
use Rattle.shown_pieces.specs.Stages.{HasComeAt}

pub fed-by : (sink : SinkOf Memory) (piece : List ℕ) (old new : ShownLog) (taken : Stage) (is_over : Bool) → taken ≡ old.stage → IsAlike old new
    → (is_over ≡ false → (before : List ℕ) → HasComeAt sink old.size old.how before taken → HasComeAt sink old.size old.how (before ++ piece) new.stage)
    → new.size ≡ old.size → new.how ≡ old.how → OnTrue (not is_over) (Feeds sink piece old new)
fed-by sink piece old new taken true same alike come size how = tt
fed-by sink piece old new taken false same alike come size how = record {
  come = λ before had.
      subst (λ s. HasComeAt sink s new.how (before ++ piece) new.stage) (sym size)
      (subst (λ f. HasComeAt sink old.size f (before ++ piece) new.stage) (sym how)
      (come refl before (subst (λ (stage : Stage). HasComeAt sink old.size old.how before stage) (sym same) had)));
  alike = alike;
}

pub ended-by : (sink : SinkOf Memory) (old new : ShownLog) (taken : Stage) (has_ended : Bool) → taken ≡ old.stage → IsAlike old new → IsOver new
    → (has_ended ≡ true → (bytes : List ℕ) → HasComeAt sink old.size old.how bytes taken → IsShown old.size old.how bytes (text_of new))
    → OnTrue has_ended (Ends sink old new)
ended-by sink old new taken true same alike over shown = record {
  shown = λ bytes had. shown refl bytes (subst (λ (stage : Stage). HasComeAt sink old.size old.how bytes stage) (sym same) had);
  over = over;
  alike = alike;
}
ended-by sink old new taken false same alike over shown = tt
