-- What was written so far, with what is written of the others, is all.
use Rattle.std.proofs.Common.{◌≡◌, ◌≤◌, ◌++◌, length, drop}
use Rattle.ansi2html.proofs.PartLemmas.{Continues}
use Rattle.ansi2html.proofs.parts.write_parts.Given as goal

abbrev pub invariant-loop-part : goal.invariant-loop-part
invariant-loop-part g l = record {
  within : l.part-index ≤ length l.initial.parts;
  same : drop l.part-index l.parts ≡ drop l.part-index l.initial.parts;
  continues : Continues g.R.Source g.W.Sink (λ given. g.B.Begin.text l.begin given ++ g.B.Begin.ending l.begin given) l.initial.parts l.parts l.initial.writer l.writer l.part-index;
}
