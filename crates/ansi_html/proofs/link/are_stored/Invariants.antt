-- The room that is left is less than at first by the bytes that were counted.
use Rattle.std.proofs.Common.{◌≡◌, ◌<◌, ◌+◌, length, map, drop}
use Rattle.std.specs.List.{concat}
use Rattle.ansi_html.proofs.link.are_stored.Given as goal

abbrev pub invariant-loop-part : goal.invariant-loop-part
invariant-loop-part l = (0 < l.room) × (length (concat (map (λ part. part.now) l.parts)) + l.room
    ≡ 1024 + length (concat (map (λ part. part.now) (drop l.part-index l.parts))))
