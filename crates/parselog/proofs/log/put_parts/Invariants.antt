-- The parts so far, and those that are left, are all parts.
use Rattle.std.proofs.Common.{◌≡◌, ◌++◌, List, ℕ, drop, map}
use Rattle.anstyle_parse.specs.Io.Output.{Adds}
use Rattle.parselog.specs.Lines.{parts_text}
use Rattle.parselog.proofs.log.put_parts.Given as goal

abbrev pub invariant-loop-part : goal.invariant-loop-part
invariant-loop-part g l = record {
  done : List ℕ;
  whole : done ++ parts_text (map (λ part. part.now) (drop l.part-index l.parts)) ≡ parts_text (map (λ part. part.now) l.parts);
  added : Adds g.W.Sink done l.initial.output l.output;
}
