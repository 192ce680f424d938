-- The parser stands after the pieces so far, whose calls the performer has received.
use Rattle.std.proofs.Common.{List, ℕ, take}
use Rattle.std.specs.List.{flat_map}
use Rattle.anstyle_parse.specs.Views.Accumulator.{front_of}
use Rattle.anstyle_parse.specs.Stream.Calls.{HasReceived}
use Rattle.anstyle_parse.specs.Views.Parser.{IsAfter}
use Rattle.anstyle_parse.proofs.laws.headline.Given as goal

abbrev pub invariant-loop-piece : goal.invariant-loop-piece
invariant-loop-piece g l =
    let so_far : List ℕ = flat_map (λ piece. piece.now) (take l.piece-index l.pieces) in
    record {
      stands : IsAfter front_of l.parser so_far;
      received : HasReceived g.P.Perform.means l.fn.performer so_far l.performer;
    }
