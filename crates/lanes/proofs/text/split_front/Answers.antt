-- The text is cut after ASCII.
use Rattle.lanes.proofs.TextLemmas.{cut-after, each-before}
use Rattle.lanes.proofs.text.split_front.Goals as goal

pub range_from-requires : goal.range_from-requires
range_from-requires g c = λ _.
    cut-after g.K.Kind.holds g.met.K.AsciiKind.is_ascii c.args.text.now c.as_bytes-bytes.result.now c.after_front-rest.result.now
    c.as_bytes-bytes.ensures.value c.utf8.text c.after_front-rest.ensures

pub returns-clause-each : goal.returns-clause-each
returns-clause-each g c =
    each-before g.K.Kind.holds g.met.K.AsciiKind.is_ascii c.args.text.now c.as_bytes-bytes.result.now c.after_front-rest.result.now
    c.as_bytes-bytes.ensures.value c.after_front-rest.ensures
