-- The text so far, and that of the parts that are left, are the whole text.
use Rattle.std.proofs.Common.{◌≡◌, ◌≤◌, ◌++◌, List, ℕ, length, drop}
use Rattle.anstyle_parse.specs.Laws.Checkpoint.{command_text}
use Rattle.anstyle_parse.specs.Stream.Groups.{total, cut}
use Rattle.anstyle_parse.specs.Io.Output.{Adds}
use Rattle.anstyle_parse.proofs.canon.checkpoints.put_command.Given as goal

abbrev pub invariant-loop-length : goal.invariant-loop-length
invariant-loop-length g l = record {
  done : List ℕ;
  whole : done ++ command_text (cut (drop l.length-index l.lengths) l.rest) (drop (total (drop l.length-index l.lengths)) l.rest)
      ≡ command_text (cut l.lengths l.text) (drop (total l.lengths) l.text);
  within : total (drop l.length-index l.lengths) ≤ length l.rest;
  added : Adds g.W.Sink done l.initial.output l.output;
}
