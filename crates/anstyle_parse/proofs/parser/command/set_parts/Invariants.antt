-- the parts so far, then those of the rest, are all parts
use Rattle.std.proofs.Common.{◌≡◌, ◌≤◌, ◌++◌, length, take, drop, map}
use Rattle.anstyle_parse.specs.Stream.Groups.{total, cut}
use Rattle.anstyle_parse.proofs.parser.command.set_parts.Given as goal

abbrev pub invariant-loop-i : goal.invariant-loop-i
invariant-loop-i l = record {
  room : length l.parts ≡ length l.fn.parts;
  within : total (drop l.i l.lengths) ≤ length l.rest;
  joined : map (λ part. part.now) (take l.i l.parts) ++ cut (drop l.i l.lengths) l.rest ≡ cut l.lengths l.text;
}
