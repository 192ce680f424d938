-- One byte more is given, and its calls are noted.
use Rattle.std.proofs.Common.{◌≡◌, ◌+◌, List, ℕ, [], ◌∷◌, length, take, get_or, refl, sym, ap, ◌∙◌, subst, arith, length-take}
use Rattle.std.proofs.lemmas.List.{take_more}
use Rattle.anstyle_parse.specs.declared.accumulator.Utf8Parser.{Utf8Parser}
use Rattle.anstyle_parse.specs.Stream.Call.{Goes}
use Rattle.anstyle_parse.specs.Views.Accumulator.{parser_after}
use Rattle.anstyle_parse.specs.Views.Parser.{machine_of}
use Rattle.anstyle_parse.specs.Machine.Step.{Machine, step, step_calls, machine_after}
use Rattle.anstyle_parse.proofs.Agreement.Whole.{machine_after-append}
use Rattle.event_pieces.specs.EndWriter.{Placed, HasEnds, Notes, Gives}
use Rattle.event_pieces.proofs.EndLemmas.{Gives-none, Gives-more, same_reference, HasEnds-given}
use Rattle.event_pieces.proofs.ends.give.Goals as goal

pub loop-place-init : goal.loop-place-init
loop-place-init c = record { same_ends = refl; stands = refl; gives = Gives-none (machine_of c.args.parser.now) c.args.writer.now }

pub loop-place-preserved : goal.loop-place-preserved
loop-place-preserved c =
    let bytes = c.args.bytes.now in
    let place = c.loop-place.place in
    let byte = get_or bytes place 0 in
    let machine = machine_of c.args.parser.now in
    let old = c.loop-place.writer in
    let ready = c.set_given.new.self in
    let set = c.set_given.ensures in
    let new = c.advance.new.performer in
    let so_far = c.loop-place.invariant in
    let more = take_more bytes place 0 c.loop-place-test.true in
    let given = length-take place bytes in
    let goes : Goes (λ old call new. Notes call old new) ready (step_calls parser_after byte (machine_after parser_after (take place bytes) machine)) new =
    subst (λ (m : Machine Utf8Parser). Goes (λ old call new. Notes call old new) ready (step_calls parser_after byte m) new) so_far.stands c.advance.ensures.calls in
    let known : ready.given ≡ length (take place bytes) + 1 = omega (arith, given, set.given, c.loop-place-test.true) in
    let same : (calls : List Placed) (places : List ℕ) → HasEnds calls places old → HasEnds calls places ready = λ calls places has. HasEnds-given calls places old ready set.same_written set.same_ends set.same_text has in
    record {
      same_ends = same_reference machine (take place bytes) byte c.args.writer.now old ready new so_far.gives known same goes ∙ ap (λ ends. ends.ghost_name) set.same_ends ∙ so_far.same_ends;
      stands = c.advance.ensures.machine
          ∙ ap (step parser_after byte) so_far.stands
          ∙ sym (ap (λ l. machine_after parser_after l machine) more ∙ machine_after-append parser_after (take place bytes) (byte ∷ []) machine);
      gives = subst (λ (l : List ℕ). Gives machine l c.args.writer.now new) (sym more)
          (Gives-more machine (take place bytes) byte c.args.writer.now old ready new so_far.gives known same goes);
    }
