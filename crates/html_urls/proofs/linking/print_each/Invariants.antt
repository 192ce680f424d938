-- The characters so far are printed.
use Rattle.std.proofs.Common.{take}
use Rattle.html_urls.specs.Linked.{prints}
use Rattle.html_urls.proofs.linking.print_each.Given as goal

abbrev pub invariant-loop-c : goal.invariant-loop-c
invariant-loop-c g l = g.P.PerformText.receives l.initial.performer (prints (take l.c-index l.text)) l.performer
