use Rattle.std.proofs.Common.{List, ℕ, ◌≡◌, ◌++◌, [], ◌∷◌, ◌+◌, ◌<◌, length, take, get_or, sym, ap, ◌∙◌, subst, append-nil, Bor}
use Rattle.std.specs.List.{flat_map}
use Rattle.std.proofs.lemmas.List.{take_more, take_all}
use Rattle.std.proofs.lemmas.Grind.{flat_map-append}
use Rattle.anstyle_parse.specs.Views.Accumulator.{front_of}
use Rattle.anstyle_parse.specs.Stream.Calls.{HasReceived}
use Rattle.anstyle_parse.specs.Views.Parser.{IsAfter}
use Rattle.anstyle_parse.proofs.Canonical.Replay.{replay}
use Rattle.anstyle_parse.proofs.Division.Grow.{nothing, divide}
use Rattle.anstyle_parse.proofs.Division.Exists.{IsDivision-divide}
use Rattle.anstyle_parse.proofs.Division.Only.{IsDivision-only}
use Rattle.anstyle_parse.proofs.Lawful.Calls.{lawful}
use Rattle.anstyle_parse.proofs.Headline.{HasReceived-none, AreCalls-forgotten}
use Rattle.anstyle_parse.proofs.laws.headline.Goals as goal

-- one piece more
piece_more : (pieces : List (Bor (List ℕ))) (i : ℕ) (none : Bor (List ℕ)) → i < length pieces
    → flat_map (λ (piece : Bor (List ℕ)). piece.now) (take i pieces) ++ (get_or pieces i none).now ≡ flat_map (λ (piece : Bor (List ℕ)). piece.now) (take (i + 1) pieces)
piece_more pieces i none lt =
    let now : Bor (List ℕ) → List ℕ = λ piece. piece.now in
    ap (λ l. flat_map now (take i pieces) ++ l) (sym (append-nil (get_or pieces i none).now))
    ∙ sym (flat_map-append now (take i pieces) (get_or pieces i none ∷ []))
    ∙ ap (flat_map now) (sym (take_more pieces i none lt))

pub loop-piece-init : goal.loop-piece-init
loop-piece-init g c = record { stands = c.new-parser.ensures.stands; received = HasReceived-none g.P.Perform.means c.args.performer.now }

pub loop-piece-preserved : goal.loop-piece-preserved
loop-piece-preserved g c =
    let i = c.loop-piece.piece-index in
    let before = flat_map (λ (piece : Bor (List ℕ)). piece.now) (take i c.args.pieces.now) in
    let more = piece_more c.args.pieces.now i (record { ref_ptr = (0, 0); now = [] }) c.loop-piece-test.true in
    record {
      stands = subst (λ l. IsAfter front_of c.take_piece.new.parser l) more (c.take_piece.ensures.stands before c.loop-piece.invariant.stands);
      received = subst (λ l. HasReceived g.P.Perform.means c.args.performer.now l c.take_piece.new.performer) more
          (c.take_piece.ensures.received c.args.performer.now before c.loop-piece.invariant.stands c.loop-piece.invariant.received);
    }

pub returns-clause-received : goal.returns-clause-received
returns-clause-received g c =
    subst (λ l. HasReceived g.P.Perform.means c.args.performer.now (flat_map (λ (piece : Bor (List ℕ)). piece.now) l) c.loop-piece.performer)
    (take_all c.loop-piece.piece-index c.args.pieces.now c.loop-piece-test.false) c.loop-piece.invariant.received

pub returns-clause-one_division : goal.returns-clause-one_division
returns-clause-one_division g c = λ bytes. (divide nothing bytes, IsDivision-divide bytes, λ others. IsDivision-only others bytes)

pub returns-clause-again : goal.returns-clause-again
returns-clause-again g c = λ bytes calls are. replay calls (lawful bytes calls are)

pub returns-clause-forgotten : goal.returns-clause-forgotten
returns-clause-forgotten g c = AreCalls-forgotten
