-- The text is cut before ASCII, or at its end.
use Rattle.lanes.proofs.TextLemmas.{cut-before}
use Rattle.lanes.proofs.text.split_others.Goals as goal

pub range-requires-clause-end_boundary : goal.range-requires-clause-end_boundary
range-requires-clause-end_boundary g c =
    cut-before g.K.Kind.holds g.met.K.AsciiKind.is_ascii c.args.text.now c.as_bytes-bytes.result.now c.from_first-rest.result.now
    c.as_bytes-bytes.ensures.value c.split_at.result.1.now c.requires c.split_at.ensures.back c.from_first-rest.ensures

pub range_from-requires : goal.range_from-requires
range_from-requires g c = λ _.
    cut-before g.K.Kind.holds g.met.K.AsciiKind.is_ascii c.args.text.now c.as_bytes-bytes.result.now c.from_first-rest.result.now
    c.as_bytes-bytes.ensures.value c.split_at.result.1.now c.requires c.split_at.ensures.back c.from_first-rest.ensures
