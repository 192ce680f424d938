use Rattle.std.proofs.Common.{inl, refl}
use Rattle.anstyle_parse.proofs.Machine.Passing.{LeadsInEffectTo-text, LeadsInEffectTo-trans, LeadsInEffectTo-sequence}
use Rattle.anstyle_parse.proofs.Machine.Texts.{LeadsByTextTo-run}
use Rattle.anstyle_parse.proofs.parser.passing.Parser+Utf8Parser.take_or_pass.Goals as goal

pub returns-in-Some-clause-leads : goal.returns-in-Some-clause-leads
returns-in-Some-clause-leads g c =
    let n = g.P.PerformText in
    let m = g.met.P.PerformText in
    let further = c.take_text-further.result.now in
    LeadsInEffectTo-trans n.receives m.follows.more
    (LeadsInEffectTo-text n.receives c.take_text-further.ensures.leads)
    (LeadsInEffectTo-sequence n.receives c.args.self.now c.take_text-further.new.performer further c.in-Some.behind.now
    c.requires c.in-Some.ensures.sequence c.in-Some.ensures.passes)

pub take_unprinted-requires-clause-can : goal.take_unprinted-requires-clause-can
take_unprinted-requires-clause-can g c = inl (λ _ _ _. tt)

pub returns-in-None-clause-leads : goal.returns-in-None-clause-leads
returns-in-None-clause-leads g c =
    let n = g.P.PerformText in
    let m = g.met.P.PerformText in
    LeadsInEffectTo-text n.receives
    (LeadsByTextTo-run g.P.Perform.means n.receives m.follows refl
    c.take_text-further.ensures.leads c.take_unprinted.ensures.leads)
