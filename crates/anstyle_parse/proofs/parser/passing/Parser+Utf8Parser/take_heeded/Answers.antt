use Rattle.std.proofs.Common.{inl, refl}
use Rattle.anstyle_parse.proofs.Machine.Passing.{LeadsInEffectTo-text, LeadsInEffectTo-trans}
use Rattle.anstyle_parse.proofs.Machine.Texts.{LeadsByTextTo-none, LeadsByTextTo-run}
use Rattle.anstyle_parse.proofs.parser.passing.Parser+Utf8Parser.take_heeded.Goals as goal

pub take_first-rest-requires : goal.take_first-rest-requires
take_first-rest-requires g c = inl (λ _ _ _. tt)

pub rest-preserved-in-Ground : goal.rest-preserved-in-Ground
rest-preserved-in-Ground g c =
    let n = g.P.PerformText in
    let m = g.met.P.PerformText in
    LeadsInEffectTo-trans n.receives m.follows.more c.rest.invariant c.take_or_pass-rest.ensures.leads

pub rest-preserved : goal.rest-preserved
rest-preserved g c =
    let n = g.P.PerformText in
    let m = g.met.P.PerformText in
    LeadsInEffectTo-trans n.receives m.follows.more c.rest.invariant
    (LeadsInEffectTo-text n.receives
    (LeadsByTextTo-run g.P.Perform.means n.receives m.follows refl
    (LeadsByTextTo-none g.P.Perform.means n.receives m.follows c.rest.self c.rest.performer c.rest.rest.now)
    c.take_first-rest.ensures.leads))
