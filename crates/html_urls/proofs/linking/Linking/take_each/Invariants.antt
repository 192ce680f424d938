-- The characters so far are taken.
use Rattle.html_urls.specs.Linked.{prints}
use Rattle.html_urls.specs.Linker.{Takes}
use Rattle.html_urls.proofs.linking.Linking.take_each.Given as goal

abbrev pub invariant-loop-c : goal.invariant-loop-c
invariant-loop-c g l = Takes g.P.PerformText.receives l.initial.self (prints l.yielded) l.self
