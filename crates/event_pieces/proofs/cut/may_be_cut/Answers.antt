-- By the parts that the record shows.
use Rattle.std.proofs.Common.{◌≡◌, ◌≤◌, ◌<◌, ◌⊎◌, ℕ, List, length, ap, subst, arith}
use Rattle.std.specs.List.{concat}
use Rattle.anstyle_parse.specs.Stream.Arguments.{max_osc_parts, max_osc_bytes}
use Rattle.event_pieces.specs.Cut.{shown_parts}
use Rattle.event_pieces.specs.Event.{parts_in}
use Rattle.event_pieces.proofs.CutLemmas.{whole-shown, cut-shown}
use Rattle.event_pieces.proofs.cut.may_be_cut.Goals as goal

pub returns-then-event-eq-OSC : goal.returns-then-event-eq-OSC
returns-then-event-eq-OSC c =
    let parts = shown_parts c.args.room.now c.args.event.now in
    let same : parts_in c.shown.result.now ≡ parts = ap parts_in c.shown.ensures in
    record {
      whole = λ e kind text is.
          let few = c.has_most.ensures.few e in
          whole-shown parts text (subst (λ (ps : List (List ℕ)). length ps < max_osc_parts) same few.0)
          (subst (λ (ps : List (List ℕ)). length (concat ps) < max_osc_bytes) same few.1) is;
      may = λ e are.
          cut-shown parts are (subst (λ (ps : List (List ℕ)). (max_osc_parts ≤ length ps) ⊎ (max_osc_bytes ≤ length (concat ps))) same (c.has_most.ensures.many e));
      command = λ e. omega (arith, c.if-event-eq-OSC.true);
    }
