-- Ends never go down, lie within the bytes, and no others are.
use Rattle.std.proofs.Common.{◌≡◌, ◌≤◌, ◌<◌, ◌+◌, ◌-◌, ℕ, suc, List, [], ◌++◌, length, take, drop, get_or, sym, ap, ◌∙◌, subst, append_assoc, take-append-drop, take_all, arith}
use Rattle.std.proofs.Math.Seq.{take-add}
use Rattle.std.proofs.lemmas.Grind.{flat_map-append}
use Rattle.std.proofs.lemmas.List.{ext_get_or}
use Rattle.anstyle_parse.specs.Machine.Decoder.{decoded}
use Rattle.anstyle_parse.specs.Machine.Step.{new_machine, machine_after, machine_calls}
use Rattle.anstyle_parse.specs.Stream.Call.{Call}
use Rattle.anstyle_parse.specs.Stream.Calls.{Continues}
use Rattle.anstyle_parse.proofs.Agreement.Whole.{StandsAfter-new, StandsAfter-machine, Continues-machine}
use Rattle.event_pieces.specs.declared.event.Event.{Event}
use Rattle.event_pieces.specs.Event.{read_event, read_events}
use Rattle.event_pieces.specs.Feed.{AreEventsOf}
use Rattle.event_pieces.specs.Ends.{BeginWith, AreEnds}

-- the first records say the first calls
read-fewer : (room : List ℕ) (events : List Event) (few more : ℕ) → few ≤ more
    → (rest : List Call) × (read_events room (take more events) ≡ read_events room (take few events) ++ rest)
read-fewer room events few more le =
    let at : more ≡ few + (more - few) = omega (arith, le) in (
      read_events room (take (more - few) (drop few events)),
      ap (λ n. read_events room (take n events)) at ∙ ap (read_events room) (take-add few (more - few) events) ∙ flat_map-append (read_event room) (take few events) (take (more - few) (drop few events)),
    )

begin-fewer : (front more calls rest : List Call) → more ≡ front ++ rest → BeginWith more calls → BeginWith front calls
begin-fewer front more calls rest is (tail, same) = (rest ++ tail, same ∙ ap (λ l. l ++ tail) is ∙ append_assoc front rest tail)

module _ (before bytes room : List ℕ) (events : List Event) (are : AreEventsOf before bytes room events) where
  -- some calls continue those of the bytes before
  calls-some : (some : List ℕ) → (calls : List Call) × Continues before some calls
  calls-some some =
      let machine = machine_after decoded before (new_machine []) in
      (machine_calls decoded some machine, Continues-machine machine before some (StandsAfter-machine (new_machine []) [] before StandsAfter-new))

  all-begin : (place : ℕ) → BeginWith (read_events room (take (suc place) events)) are.0
  all-begin place = (
    read_events room (drop (suc place) events),
    sym are.2.reads.same ∙ ap (read_events room) (sym (take-append-drop (suc place) events)) ∙ flat_map-append (read_event room) (take (suc place) events) (drop (suc place) events),
  )

  module _ (ends : List ℕ) (exact : AreEnds before bytes room events ends) where
    pub ends-within : (place : ℕ) → place < length ends → get_or ends place 0 ≤ length bytes
    ends-within place here =
        (exact place here (length bytes) are.0 (omega arith) (subst (λ l. Continues before l are.0) (sym (take_all (length bytes) bytes (omega arith))) are.1)).1
        (all-begin place)

    pub ends-ordered : (place other : ℕ) → place ≤ other → other < length ends → get_or ends place 0 ≤ get_or ends other 0
    ends-ordered place other le here =
        let end = get_or ends other 0 in
        let some = calls-some (take end bytes) in
        let fits = ends-within other here in
        let begun = (exact other here end some.0 fits some.1).0 (omega arith) in
        let fewer = read-fewer room events (suc place) (suc other) (omega (arith, le)) in
        (exact place (omega (arith, le, here)) end some.0 fits some.1).1
        (begin-fewer (read_events room (take (suc place) events)) (read_events room (take (suc other) events)) some.0 fewer.0 fewer.1 begun)

  -- an end is no more than another
  ends-least : (ends others : List ℕ) → AreEnds before bytes room events ends → AreEnds before bytes room events others
      → (place : ℕ) → place < length ends → place < length others → get_or ends place 0 ≤ get_or others place 0
  ends-least ends others exact also place here there =
      let end = get_or others place 0 in
      let some = calls-some (take end bytes) in
      let fits = ends-within others also place there in
      (exact place here end some.0 fits some.1).1 ((also place there end some.0 fits some.1).0 (omega arith))

  pub ends-only : (ends others : List ℕ) → AreEnds before bytes room events ends → AreEnds before bytes room events others → length others ≡ length ends → others ≡ ends
  ends-only ends others exact also long =
      ext_get_or 0 others ends long
      (λ place there. omega (arith, ends-least ends others exact also place (omega (arith, there, long)) there, ends-least others ends also exact place there (omega (arith, there, long))))
