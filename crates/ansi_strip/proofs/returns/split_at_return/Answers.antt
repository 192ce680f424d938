use Rattle.std.proofs.Common.{[], ◌∷◌, ap}
use Rattle.std.specs.Prelude.{not}
use Rattle.std.proofs.lemmas.Bool.{ne_eqb}
use Rattle.ansi_strip.specs.LineFeeds.{is_of_line}
use Rattle.ansi_strip.proofs.PassLemmas.{PassTo_more}
use Rattle.ansi_strip.proofs.returns.split_at_return.Goals as goal

pub bytes-preserved : goal.bytes-preserved
bytes-preserved c =
    let first = c.in-Some.first.now in
    PassTo_more is_of_line c.args.bytes.now c.bytes.rest.now (first ∷ []) c.in-Some.behind.now c.bytes.invariant c.in-Some.ensures.cases.0
    (ap not (ne_eqb first 0x0D c.if-first-eq-RETURN.false), tt)
