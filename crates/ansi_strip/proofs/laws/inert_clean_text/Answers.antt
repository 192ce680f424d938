-- Such text is the canonical text of calls of which all is left.
use Rattle.ansi_strip.proofs.InertLemmas.{inert_text-clean}
use Rattle.ansi_strip.proofs.laws.inert_clean_text.Goals as goal

pub returns : goal.returns
returns c = inert_text-clean
