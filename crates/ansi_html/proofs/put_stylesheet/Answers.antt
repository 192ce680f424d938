use Rattle.ansi_html.proofs.ClassLemmas.{AreKnown-style}
use Rattle.ansi_html.proofs.NameLemmas.{name-own}
use Rattle.ansi_html.proofs.CascadeLemmas.{applied-snapped}
use Rattle.ansi_html.proofs.put_stylesheet.Goals as goal

pub returns-clause-rules : goal.returns-clause-rules
returns-clause-rules g c = AreKnown-style

pub returns-clause-names : goal.returns-clause-names
returns-clause-names g c = name-own

pub returns-clause-cascade : goal.returns-clause-cascade
returns-clause-cascade g c = applied-snapped c.args.scheme
