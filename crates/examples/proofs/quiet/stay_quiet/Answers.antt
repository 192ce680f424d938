use Rattle.examples.proofs.QuietLemmas.{Goes-same}
use Rattle.examples.proofs.quiet.stay_quiet.Goals as goal

pub returns : goal.returns
returns c = Goes-same c.args.quiet.now _ c.advance_all.new.performer c.advance_all.ensures.calls
