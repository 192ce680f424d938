use Rattle.std.proofs.Common.{[], refl, sym, ◌∙◌}
use Rattle.anstyle_parse.specs.Views.Runs.{is_of_run}
use Rattle.anstyle_parse.proofs.Machine.AsReadTo.{PassBytes-more}
use Rattle.anstyle_parse.proofs.parser.log.after_few.Goals as goal

pub bytes-init : goal.bytes-init
bytes-init c = record { passed = []; each = tt; joined = refl }

pub bytes-preserved : goal.bytes-preserved
bytes-preserved c =
    PassBytes-more (λ b. is_of_run c.args.run b) c.args.bytes.now c.bytes.rest.now c.in-Some.first.now c.in-Some.behind.now
    (sym c.has.ensures ∙ c.if-not-has.false) c.in-Some.ensures.cases.0 c.bytes.invariant
