use Rattle.std.proofs.Common.{[], ◌∷◌, sym, ap, ◌∙◌}
use Rattle.std.specs.Prelude.{not}
use Rattle.ansi_strip.specs.Driving.{is_clear}
use Rattle.ansi_strip.proofs.PassLemmas.{PassTo_none, PassTo_more}
use Rattle.ansi_strip.proofs.driving.after_bytes.Goals as goal

pub bytes-init : goal.bytes-init
bytes-init c = PassTo_none is_clear c.args.bytes.now

pub bytes-preserved : goal.bytes-preserved
bytes-preserved c =
    PassTo_more is_clear c.args.bytes.now c.bytes.rest.now (c.in-Some.first.now ∷ []) c.in-Some.behind.now c.bytes.invariant c.in-Some.ensures.cases.0
    (ap not (sym c.may_begin_driving.ensures ∙ c.if-may_begin_driving.false), tt)
