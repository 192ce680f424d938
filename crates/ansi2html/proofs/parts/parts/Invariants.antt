-- What stands around the files so far, with what stands around the others, is what stands around all.
use Rattle.std.proofs.Common.{◌≡◌, ◌++◌, length, map, string_bytes, drop}
use Rattle.ansi2html.specs.Page.{around_from}
use Rattle.ansi2html.specs.Parts.{around}
use Rattle.ansi2html.proofs.parts.parts.Given as goal

abbrev pub invariant-loop-name : goal.invariant-loop-name
invariant-loop-name l = record {
  count : length l.parts.items ≡ l.name-index;
  so_far : map around l.parts.items
      ++ around_from l.frame.styling l.frame.scheme l.frame.said (length l.names) l.name-index (map string_bytes (drop l.name-index l.names))
      ≡ around_from l.frame.styling l.frame.scheme l.frame.said (length l.names) 0 (map string_bytes l.names);
}
