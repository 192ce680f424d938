-- A parser that took what the state holds stands where the stream does.
use Rattle.std.proofs.Common.{◌≡◌, ℕ, List, [], length, take, min, refl, sym, ap, ◌∙◌, subst, arith}
use Rattle.std.proofs.lemmas.List.{take_min}
use Rattle.anstyle_parse.specs.Views.Accumulator.{front_of}
use Rattle.anstyle_parse.specs.Views.Parser.{IsAfter}
use Rattle.anstyle_parse.specs.Laws.Checkpoint.{max_checkpoint}
use Rattle.stream_state.specs.State.{pending_of}
use Rattle.stream_state.proofs.state.StreamState.resume_in.Goals as goal

pub returns : goal.returns
returns c = λ before new stands.
    let state = c.args.self.now in
    let took : IsAfter front_of c.advance_all.new.self (take c.min-length.result state.pending) = c.advance_all.ensures.stands [] refl new in
    let held : IsAfter front_of c.advance_all.new.self (pending_of state) =
    let all : length state.pending ≡ max_checkpoint = omega arith in
    subst (λ (l : List ℕ). IsAfter front_of c.advance_all.new.self l)
    (ap (λ n. take n state.pending) c.min-length.ensures ∙ ap (λ n. take (min state.length n) state.pending) (sym all) ∙ take_min state.length state.pending) took in
    held ∙ stands
