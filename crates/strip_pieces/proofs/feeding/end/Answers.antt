-- The end leads to U+FFFD where a character is begun, and to nothing elsewhere.
use Rattle.std.proofs.Common.{[], ◌∷◌, refl, arith, lit≤}
use Rattle.anstyle_parse.specs.Machine.AsRead.{as_read}
use Rattle.anstyle_parse.specs.Stream.Call.{print}
use Rattle.anstyle_parse.specs.Stream.Characters.{replacement}
use Rattle.strip_pieces.proofs.FeedLemmas.{Ends-of, inert_text-replacement}
use Rattle.stream_state.proofs.LogLemmas.{EndsLog-in, EndsLog-out}
use Rattle.strip_pieces.proofs.feeding.end.Goals as goal

pub returns-then-is_begun-clause-ended : goal.returns-then-is_begun-clause-ended
returns-then-is_begun-clause-ended c =
    Ends-of c.args.state.now c.new.result c.args.room.now c.put_at_start.new.room (0xEF ∷ 0xBF ∷ 0xBD ∷ []) c.put_at_start.result (print replacement ∷ [])
    (omega arith) (lit≤ tt) c.put_at_start.ensures.length c.put_at_start.ensures.written inert_text-replacement
    (λ before stands. EndsLog-in before ((c.is_in_char-is_begun.ensures.stream (as_read before) stands).0 c.if-is_begun.true)) c.new.ensures.begins_log

pub returns-else-is_begun-clause-ended : goal.returns-else-is_begun-clause-ended
returns-else-is_begun-clause-ended c =
    Ends-of c.args.state.now c.new.result c.args.room.now c.args.room.now [] 0 [] (omega arith) (omega arith) refl refl refl
    (λ before stands. EndsLog-out before (λ ends. absurd (cc ((c.is_in_char-is_begun.ensures.stream (as_read before) stands).1 ends, c.if-is_begun.false))))
    c.new.ensures.begins_log
