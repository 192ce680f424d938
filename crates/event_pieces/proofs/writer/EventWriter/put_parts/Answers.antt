-- One part more is done, with the separator before it.
use Rattle.std.proofs.Common.{◌++◌, ◌+◌, List, ℕ, [], ◌∷◌, get_or, drop, map, refl, Bor}
use Rattle.std.specs.Prelude.{if◌then◌else◌}
use Rattle.std.specs.List.{join_with_byte}
use Rattle.std.proofs.lemmas.List.{at_drop_more}
use Rattle.anstyle_parse.specs.Stream.Bytes.{semicolon}
use Rattle.anstyle_parse.proofs.Lists.Joins.{joined_rest-more}
use Rattle.event_pieces.proofs.RoomLemmas.{Puts-nil, Puts-append}
use Rattle.event_pieces.proofs.writer.EventWriter.put_parts.Goals as goal

pub loop-part-init : goal.loop-part-init
loop-part-init c = record { done = []; whole = refl; puts = Puts-nil c.args.self.now }

pub loop-part-preserved : goal.loop-part-preserved
loop-part-preserved c =
    let parts = c.args.parts.now in
    let i = c.loop-part.part-index in
    let none : Bor (List ℕ) = record { ref_ptr = (0, 0); now = [] } in
    let contents_of : List (Bor (List ℕ)) → List (List ℕ) = λ ps. map (λ (part : Bor (List ℕ)). part.now) ps in
    let before = c.loop-part.invariant in
    let is_first = c.loop-part.is_first in
    let separator = if is_first then [] else semicolon ∷ [] in
    let text = (get_or parts i none).now in
    record {
      done = (before.done ++ separator) ++ text;
      whole = joined_rest-more before.done (join_with_byte semicolon (contents_of parts)) is_first semicolon text (contents_of (drop i parts)) (contents_of (drop (i + 1) parts))
          (at_drop_more contents_of parts i none c.loop-part-test.true) before.whole;
      puts = Puts-append (before.done ++ separator) text c.args.self.now c.put_separator.new.self c.put_bytes.new.self
          (Puts-append before.done separator c.args.self.now c.loop-part.self c.put_separator.new.self before.puts c.put_separator.ensures) c.put_bytes.ensures;
    }
