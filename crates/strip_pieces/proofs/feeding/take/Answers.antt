-- The next bytes continue the calls, and their inert text fits.
use Rattle.std.proofs.Common.{◌≡◌, ◌+◌, ◌-◌, ℕ, List, [], ◌++◌, length, take, drop, refl, sym, ap, ◌∙◌, subst, arith, lit≤, inl, inr, ⊎_elim, append-nil, append_assoc, length-append, length-take}
use Rattle.std.proofs.Math.Seq.{take-add}
use Rattle.anstyle_parse.specs.Views.Accumulator.{front_of, parser_after}
use Rattle.anstyle_parse.specs.Stream.Call.{Call}
use Rattle.anstyle_parse.specs.Machine.AsRead.{as_read}
use Rattle.anstyle_parse.specs.Machine.Step.{machine_calls}
use Rattle.anstyle_parse.specs.Views.AsRead.{read_by}
use Rattle.anstyle_parse.specs.Views.Parser.{IsAfter, machine_of}
use Rattle.anstyle_parse.proofs.Streams.{bytes_below}
use Rattle.ansi_strip.specs.Inert.{inert_text}
use Rattle.ansi_strip.proofs.InertLemmas.{inert_text-append}
use Rattle.stream_state.specs.Log.{ContinuesLog}
use Rattle.strip_pieces.specs.SliceWriter.{Puts}
use Rattle.strip_pieces.specs.PuttingProof.{Puts-nil, Puts-append}
use Rattle.strip_pieces.proofs.SliceWriterLemmas.{Puts-length}
use Rattle.strip_pieces.proofs.FeedLemmas.{length-continued, below-part}
use Rattle.stream_state.proofs.LogLemmas.{ContinuesLog-calls, ContinuesLog-append, ContinuesLog-nil}
use Rattle.strip_pieces.proofs.feeding.take.Goals as goal

pub loop-taken-init : goal.loop-taken-init
loop-taken-init c = (
  record {
    calls = [];
    taken_fits = omega arith;
    stands = λ before is. subst (λ (l : List ℕ). IsAfter front_of c.args.parser.now (as_read l)) (sym (append-nil before)) is;
    continues = λ before is. ContinuesLog-nil before;
    puts = Puts-nil c.args.room.now;
    fits = omega (arith, c.requires.room);
    bounded = lit≤ tt;
    nothing = λ e. refl;
  },
  λ fits. inl refl,
)

pub loop-taken-preserved : goal.loop-taken-preserved
loop-taken-preserved c =
    let so_far = c.loop-taken.invariant.0 in
    let before = c.requires.stands.0 in
    let is = c.requires.stands.1 in
    let piece = c.args.piece.now in
    let count = c.loop-taken.taken + c.min-count.result - c.loop-taken.taken in
    let bytes = take count (drop c.loop-taken.taken piece) in
    let more = machine_calls parser_after (read_by c.loop-taken.parser bytes) (machine_of c.loop-taken.parser) in
    let goes_on : (first : List ℕ) → IsAfter front_of c.loop-taken.parser (as_read first) → ContinuesLog first bytes more =
    ContinuesLog-calls c.loop-taken.parser bytes (below-part c.loop-taken.taken count piece (bytes_below piece (λ i. omega (arith, c.type_inv.piece i)))) in
    let same : count ≡ c.min-count.result = omega arith in
    let grown = take-add c.loop-taken.taken c.min-count.result piece ∙ ap (λ n. take c.loop-taken.taken piece ++ take n (drop c.loop-taken.taken piece)) (sym same) in
    let counted = length-take count (drop c.loop-taken.taken piece) in
    let few = length-continued (before ++ take c.loop-taken.taken piece) bytes more
    (goes_on (before ++ take c.loop-taken.taken piece) (so_far.stands before is)) in
    let all_few = length-continued before (take c.loop-taken.taken piece ++ bytes) (so_far.calls ++ more)
    (ContinuesLog-append before (take c.loop-taken.taken piece) bytes so_far.calls more (so_far.continues before is)
    (goes_on (before ++ take c.loop-taken.taken piece) (so_far.stands before is))) in
    let front = length-append (take c.loop-taken.taken piece) bytes in
    let begun = length-take c.loop-taken.taken piece in
    let text = inert_text-append so_far.calls more in
    let long = ap length text ∙ length-append (inert_text so_far.calls) (inert_text more) in
    let kept = Puts-length (inert_text so_far.calls) c.args.room.now c.loop-taken.room so_far.fits so_far.puts in (
      record {
        calls = so_far.calls ++ more;
        taken_fits = omega (arith, c.min-count.ensures);
        stands = λ before is.
            subst (λ (l : List ℕ). IsAfter front_of c.advance_log.new.self (as_read l)) (append_assoc before (take c.loop-taken.taken piece) bytes ∙ ap (λ l. before ++ l) (sym grown))
            (c.advance_log.ensures.stands (before ++ take c.loop-taken.taken piece) (so_far.stands before is));
        continues = λ before is.
            subst (λ (l : List ℕ). ContinuesLog before l (so_far.calls ++ more)) (sym grown)
            (ContinuesLog-append before (take c.loop-taken.taken piece) bytes so_far.calls more (so_far.continues before is)
            (goes_on (before ++ take c.loop-taken.taken piece) (so_far.stands before is)));
        puts = subst (λ (t : List ℕ). Puts t c.args.room.now c.advance_log.new.performer) (sym text)
            (Puts-append (inert_text so_far.calls) (inert_text more) c.args.room.now c.loop-taken.room c.advance_log.new.performer so_far.puts c.advance_log.ensures.calls);
        fits = omega (arith, long, few, counted, kept, so_far.fits, so_far.puts.written so_far.fits, c.min-count.ensures, c.left-in-loop-taken.ensures);
        bounded = omega (arith, all_few, front, begun, counted, so_far.taken_fits, c.min-count.ensures);
        nothing = λ e. absurd (omega (arith, c.min-count.ensures, c.left-in-loop-taken.ensures));
      },
      λ fits. inr (⊎_elim
          (λ (none : c.loop-taken.taken ≡ 0). omega (arith, fits, ap (λ (l : List Call). length (inert_text l)) (so_far.nothing none), kept, so_far.fits, so_far.puts.written so_far.fits, c.min-count.ensures, c.left-in-loop-taken.ensures))
          (λ (all : c.loop-taken.taken ≡ length piece). absurd (omega (arith, all)))
          (c.loop-taken.invariant.1 fits)),
    )
