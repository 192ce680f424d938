use Rattle.std.proofs.Common.{inl, refl}
use Rattle.anstyle_parse.proofs.Machine.Texts.{LeadsByTextTo-trans, LeadsByTextTo-run}
use Rattle.anstyle_parse.proofs.parser.texts.Parser+Utf8Parser.take_texts.Goals as goal

pub take_unprinted-rest-requires-clause-can : goal.take_unprinted-rest-requires-clause-can
take_unprinted-rest-requires-clause-can g c = inl (λ _ _ _. tt)

pub take_first-rest-requires : goal.take_first-rest-requires
take_first-rest-requires g c = inl (λ _ _ _. tt)

pub rest-preserved-in-Ground : goal.rest-preserved-in-Ground
rest-preserved-in-Ground g c =
    let n = g.P.PerformText in
    let m = g.met.P.PerformText in
    LeadsByTextTo-run g.P.Perform.means n.receives m.follows refl
    (LeadsByTextTo-trans g.P.Perform.means n.receives m.follows c.rest.invariant c.take_text-further.ensures.leads) c.take_unprinted-rest.ensures.leads

pub rest-preserved : goal.rest-preserved
rest-preserved g c =
    let n = g.P.PerformText in
    let m = g.met.P.PerformText in
    LeadsByTextTo-run g.P.Perform.means n.receives m.follows refl c.rest.invariant c.take_first-rest.ensures.leads
