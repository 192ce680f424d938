use Rattle.std.proofs.Common.{[], ◌∷◌, sym, ◌∙◌}
use Rattle.ansi_html.proofs.HtmlLemmas.{BeginWithClear-none, BeginWithClear-more}
use Rattle.ansi_html.proofs.performer.after_few_clear.Goals as goal

pub bytes-init : goal.bytes-init
bytes-init c = BeginWithClear-none c.args.bytes.now

pub bytes-preserved : goal.bytes-preserved
bytes-preserved c =
    BeginWithClear-more c.args.bytes.now c.bytes.rest.now (c.in-Some.first.now ∷ []) c.in-Some.behind.now
    (sym c.is_special.ensures ∙ c.if-is_special.false, tt) c.in-Some.ensures.cases.0 c.bytes.invariant
